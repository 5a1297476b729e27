-- What comes of jobs that end and start at the end of an event.
use Rattle.std.proofs.Common.{◌≡◌, ℕ, List, [], ◌∷◌, ◌++◌, map, Option, Some, None, Result, Ok, Err, refl, sym, ap, ◌∙◌, subst, arith}
use Rattle.std.specs.Prelude.{IfOk, OnOk, OnErr}
use Rattle.std.specs.declared.alloc.Global.{Global}
use Rattle.std.specs.declared.vec.Vec.{Vec}
use Rattle.blob_pool.specs.Slots.{Slots, text_at}
use Rattle.blob_pool.specs.Moves.{Moves, no_holders}
use Rattle.blob_pool.proofs.Moves.{moves_none, moves_trans}
use Rattle.job_queue.specs.Jobs.{Jobs, running_job}
use Rattle.execution.specs.declared.orders.Order.{Order}
use Rattle.execution.specs.Job.{JobValue}
use Rattle.execution.specs.Orders.{orders_of}
use Rattle.execution.specs.Steps.{StepValue, ending_of, jobs_after_steps, timings_out}
use Rattle.execution.specs.Taking.{CanTake, steps_shown}
use Rattle.execution.proofs.Timings.{nothing-ends, outcome-ends, tick-ends}
use Rattle.execution.proofs.Turns.{turn-can}
use Rattle.run_calls.specs.Outcomes.{OutcomeValue}
use Rattle.grpc_sending.proofs.Histories.{append-nil}
use Rattle.instance_core.specs.declared.event.Reply.{Reply}
use Rattle.instance_core.specs.Answer.{Answer, answer, ending_at, ending_changes, ending_steps, orders_at, state_after, steps_at, turn_answer}
use Rattle.instance_core.specs.Apart.{replies_on}
use Rattle.instance_core.specs.Calls.{CallEventValue, start_jobs, end_late_jobs, end_job, tick as time_passes}
use Rattle.instance_core.specs.Changes.{InstanceChange, MadeInPart, Settles, state_after_change, state_after_changes}
use Rattle.instance_core.specs.InstanceViewShown.{ViewValue, visible_in}
use Rattle.instance_core.specs.Replies.{ReplyValue}
use Rattle.instance_core.specs.Shown.{reply_shown}
use Rattle.instance_core.specs.Slots.{InstanceSlots, IsInstanceInPool, state_in, state_beside, holders_of_instance}
use Rattle.instance_core.specs.State.{InstanceState, IsInstanceWithin, seeing}
use Rattle.instance_core.specs.declared.turns.Turn.{Turn}
use Rattle.instance_core.specs.Turns.{AreOrders, IsReady}
use Rattle.instance_core.specs.Visible.{Blob}
use Rattle.instance_core.proofs.EndingJobs.{ending_keeps_jobs}
use Rattle.instance_core.proofs.EventLimits.{after_keeps}
use Rattle.instance_core.proofs.Sees.{after_seeing, parent_same}
use Rattle.server_events.specs.Events.{received, tick, ended}
use Rattle.served_instance.specs.declared.open_connection.OpenConnection.{OpenConnection}
use Rattle.served_instance.specs.Acts.{ActsIn, FindAlike, IsDone, LentStands, StandsBy}
use Rattle.served_instance.specs.Connections.{LoneConnection, open_ones}
use Rattle.served_instance.specs.Cuts.{IsCut, KeepsApart}
use Rattle.served_instance.specs.Events.{bytes_events}
use Rattle.served_instance.specs.Lent.{LentValue, GoesOn, IsKept, IsLent, lent_slots, lent_state}
use Rattle.served_instance.specs.Lone.{LoneInstance, after_bytes_on, after_call_event}
use Rattle.served_instance.specs.OwedReplies.{reply_by}
use Rattle.served_instance.specs.Short.{IsCutShort}
use Rattle.served_instance.specs.Shown.{connection_shown}
use Rattle.served_instance.specs.Slots.{holders_of}
use Rattle.served_instance.specs.Turns.{TakesTurn}
use Rattle.served_instance.specs.StandsFor.{AreServed}
use Rattle.served_instance.proofs.Closes.{tick_acts}
use Rattle.served_instance.proofs.Commutes.{given}
use Rattle.served_instance.proofs.Frames.{happened_is}
use Rattle.served_instance.proofs.Gives.{AreGiven}
use Rattle.served_instance.proofs.Happens.{asked_finds, refused_goes, replied_at, replies_same}
use Rattle.served_instance.proofs.Kept.{moment_keeps}
use Rattle.served_instance.proofs.Lends.{still_lent}
use Rattle.served_instance.proofs.Ranges.{served_agreed}
use Rattle.served_instance.proofs.Watches.{all_done, told_alone}

-- ---- the cases of a result

pub ok_map : {T E A B : Type 0} (r : Result T E) → (A → B) → OnOk r A → OnOk r B
ok_map (Ok x) f a = f a
ok_map (Err x) f a = tt

pub within_turn : {T E : Type 0} (r : Result T E) (s t u : InstanceState) → OnOk r (u ≡ t) → OnErr r (u ≡ s) → IsInstanceWithin s →
    IsInstanceWithin t → IsInstanceWithin u
within_turn (Ok x) s t u done short w v = subst IsInstanceWithin (sym done) v
within_turn (Err x) s t u done short w v = subst IsInstanceWithin (sym short) w

-- ---- beside its parent

within_seeing : (a : LentValue) → IsLent a → IsInstanceWithin (lent_state a)
within_seeing a h =
    let w = h.kept.within.instance in
    record {
      quota = w.quota;
      limits = w.limits;
      texts = w.texts;
      uploads = w.uploads;
      results = w.results;
      slots = w.slots;
      jobs = w.jobs;
      running = w.running;
      whole = w.whole;
      told = w.told;
      calls = w.calls;
      messages = w.messages;
      parent = h.beside.named;
    }

-- the instance came to this
beside_at : (a b : LentValue) (s : InstanceState) → b.parent ≡ a.parent →
    Moves a.pool b.pool (holders_of (lent_slots a)) (holders_of (lent_slots b)) → IsLent a → state_in b.pool b.instance ≡ s →
    lent_state b ≡ seeing (visible_in a.pool a.parent) s
beside_at a b s same m h e =
    let t = state_in b.pool b.instance in
    ap (λ (v : ViewValue). seeing (visible_in b.pool v) t) same
    ∙ ap (λ (bs : List Blob). seeing bs t)
    (parent_same a.pool b.pool a.parent (holders_of (lent_slots a)) (holders_of (lent_slots b)) m h.beside.counted)
    ∙ ap (seeing (visible_in a.pool a.parent)) e

seeing_after : (bs : List Blob) (s : InstanceState) (what : CallEventValue) →
    (answer (seeing bs s) what).changes ≡ (answer s what).changes → seeing bs (state_after s what) ≡ state_after (seeing bs s) what
seeing_after bs s what same =
    sym (after_seeing bs (answer s what).changes s) ∙ ap (λ (cs : List InstanceChange). state_after_changes cs (seeing bs s)) (sym same)

-- ---- steps can be taken

pub starts_can : (s : InstanceState) (ss : List StepValue) → IsInstanceWithin s → ss ≡ steps_at s start_jobs → CanTake ss s.jobs
starts_can s ss w is =
    subst (λ (xs : List StepValue). CanTake xs s.jobs) (sym is) (turn-can s.slots s.moment [] s.jobs w.slots (nothing-ends s.jobs w.jobs))

pub late_ends_can : (s : InstanceState) (ss : List StepValue) → IsInstanceWithin s → ss ≡ steps_at s end_late_jobs → CanTake ss s.jobs
late_ends_can s ss w is =
    subst (λ (xs : List StepValue). CanTake xs s.jobs) (sym is)
    (turn-can s.slots s.moment (timings_out s.moment s.jobs.running) s.jobs w.slots (tick-ends s.moment s.jobs w.jobs))

ending_can : (s : InstanceState) (n : ℕ) (outcome : OutcomeValue) (o : Option JobValue) → IsInstanceWithin s →
    CanTake (ending_steps s n outcome o) s.jobs
ending_can s n outcome None w = tt
ending_can s n outcome (Some job) w =
    let e = (ending_at s outcome job).end_is in
    turn-can s.slots s.moment (ending_of n e (running_job n s.jobs)) s.jobs w.slots (outcome-ends n e s.jobs w.jobs)

-- ---- what the end of a job changes besides

-- these changes were made
abbrev pub IsAdmitted : InstanceState → ℕ → OutcomeValue → InstanceState → Type 0
IsAdmitted s n outcome t = t ≡ state_after_changes (ending_changes s outcome (running_job n s.jobs)) s

same_jobs : (s t : InstanceState) (n : ℕ) (outcome : OutcomeValue) → IsAdmitted s n outcome t → t.jobs ≡ s.jobs
same_jobs s t n outcome e = ap (λ (u : InstanceState). u.jobs) e ∙ ending_keeps_jobs s s outcome (running_job n s.jobs)

pub end_can : (s t : InstanceState) (n : ℕ) (outcome : OutcomeValue) (ss : List StepValue) → IsInstanceWithin s → IsAdmitted s n outcome t →
    ss ≡ steps_at s (end_job n outcome) → CanTake ss t.jobs
end_can s t n outcome ss w e is =
    let can : CanTake ss s.jobs = subst (λ (xs : List StepValue). CanTake xs s.jobs) (sym is)
    (ending_can s n outcome (running_job n s.jobs) w) in
    subst (λ (js : Jobs JobValue). CanTake ss js) (sym (same_jobs s t n outcome e)) can

after_then : (cs : List InstanceChange) (c : InstanceChange) (s : InstanceState) →
    state_after_changes (cs ++ c ∷ []) s ≡ state_after_change c (state_after_changes cs s)
after_then [] c s = refl
after_then (d ∷ cs) c s = after_then cs c (state_after_change d s)

pub after_ending : (s t u : InstanceState) (n : ℕ) (outcome : OutcomeValue) (ss : List StepValue) → IsAdmitted s n outcome t →
    ss ≡ steps_at s (end_job n outcome) → u ≡ state_after_change (Settles ss) t → u ≡ state_after s (end_job n outcome)
after_ending s t u n outcome ss e is done =
    let steps = steps_at s (end_job n outcome) in
    done ∙ ap (λ (xs : List StepValue). state_after_change (Settles xs) t) is ∙ ap (state_after_change (Settles steps)) e
    ∙ sym (after_then (ending_changes s outcome (running_job n s.jobs)) (Settles steps) s)

-- ---- what is ordered

pub orders_are : (s : InstanceState) (what : CallEventValue) (ss : List StepValue) (after : Jobs JobValue)
    (made orders : Vec Order Global) → orders ≡ made → AreOrders (jobs_after_steps (steps_at s what) s.jobs) made.items (orders_at s what) →
    ss ≡ steps_at s what → after ≡ jobs_after_steps ss s.jobs → AreOrders after orders.items (orders_at s what)
orders_are s what ss after made orders same h is done =
    let jobs : after ≡ jobs_after_steps (steps_at s what) s.jobs = done ∙ ap (λ (xs : List StepValue). jobs_after_steps xs s.jobs) is in
    subst (λ (o : Vec Order Global). AreOrders after o.items (orders_at s what)) (sym same)
    (subst (λ (js : Jobs JobValue). AreOrders js made.items (orders_at s what)) (sym jobs) h)

-- ---- what an event leaves

pub turns : (what : CallEventValue) (parent : ViewValue) (p q : Slots) (j : InstanceSlots) (os ns : List OpenConnection) (rs : List Reply)
    (m : LoneInstance) → AreServed (text_at p) (map connection_shown os) (open_ones m.connections) → AreGiven rs os ns → FindAlike p q ns →
    map (reply_shown p) rs ≡ (answer m.state what).replies → state_beside q parent j ≡ state_after m.state what →
    StandsBy (text_at q) (state_beside q parent j) ns (after_call_event what m)
turns what parent p q j os ns rs m served gives find replies after =
    let ws = map connection_shown ns in
    let told = (answer m.state what).replies in
    let same : given (map (reply_by (text_at p)) rs) m.connections ≡ given told m.connections =
    ap (λ (ys : List ReplyValue). given ys m.connections) (replies_same p rs ∙ replies) in
    let taken : AreServed (text_at p) ws (open_ones (given told m.connections)) =
    subst (λ (ks : List LoneConnection). AreServed (text_at p) ws (open_ones ks)) (replied_at (map (reply_by (text_at p)) rs) m ∙ same)
    (gives (text_at p) m served) in
    let k : LoneInstance = record m { state = state_after m.state what; connections = given told m.connections } in
    let now : StandsBy (text_at q) (state_beside q parent j) ns k = record {
      state = after;
      connections = served_agreed (text_at p) (text_at q) ws (open_ones k.connections) find taken;
    } in
    subst (λ (x : LoneInstance). StandsBy (text_at q) (state_beside q parent j) ns x) (sym (happened_is what m)) now

-- ---- by a result

pub turn_goes : (turn : Turn) (a b : LentValue) → TakesTurn turn a b → IsInstanceWithin (state_in b.pool b.instance) → GoesOn a b
turn_goes turn a b t within = record { parent = t.parent; moves = t.moves; kept = t.kept within }

-- the instance alone is another, in another pool
abbrev pub with_instance : LentValue → Slots → InstanceSlots → LentValue
with_instance a q j = record a { pool = q; instance = j }

-- ---- received bytes, and then jobs start

-- behind the bytes
pub record HaveCome (c : ℕ) (bytes : List ℕ) (a b : LentValue) : Type 0 where
  pub lent : IsLent a
  pub goes : GoesOn a b
  pub acts : ActsIn a b (after_bytes_on c bytes)

pub starts_done : {E : Type 0} (x : Result (Vec Order Global) E) (c : ℕ) (bytes : List ℕ) (a b d : LentValue) (turn : Turn) →
    HaveCome c bytes a b → (let s = state_in b.pool b.instance in
    IsReady b.pool s start_jobs (replies_on c (answer s start_jobs).replies) turn) → TakesTurn turn b d →
    OnOk x (AreGiven turn.replies.items b.connections d.connections) →
    OnOk x (state_in d.pool d.instance ≡ state_after_change (Settles (steps_shown turn.steps.items)) (state_in b.pool b.instance)) →
    IfOk x (λ orders. orders ≡ turn.orders) → IfOk x (IsDone (received c bytes) a d)
starts_done (Err e) c bytes a b d turn h ready t gives done same = tt
starts_done (Ok orders) c bytes a b d turn h ready t gives done same =
    let s = state_in b.pool b.instance in
    let ss = steps_shown turn.steps.items in
    record {
      acts = λ l rest st.
          let m = after_bytes_on c bytes l in
          let came : LentStands b m = h.acts l st in
          let first : IsInstanceWithin l.state = subst IsInstanceWithin st.state (within_seeing a h.lent) in
          let all : map (reply_shown b.pool) turn.replies.items ≡ (answer m.state start_jobs).replies =
          ready.replies ∙ ap (λ (t : InstanceState). replies_on c (answer t start_jobs).replies) came.state
          ∙ told_alone c bytes l first.jobs rest in
          let own : state_in d.pool d.instance ≡ state_after s start_jobs =
          done ∙ ap (λ (ys : List StepValue). state_after_change (Settles ys) s) ready.steps in
          let after : lent_state d ≡ state_after m.state start_jobs =
          beside_at b d (state_after s start_jobs) t.parent t.moves (still_lent a b h.lent h.goes) own
          ∙ seeing_after (visible_in b.pool b.parent) s start_jobs refl
          ∙ ap (λ (t : InstanceState). state_after t start_jobs) came.state in
          turns start_jobs d.parent b.pool d.pool d.instance b.connections d.connections turn.replies.items m came.connections gives
          t.texts all after;
      orders = λ l st.
          let came = h.acts l st in
          orders_are s start_jobs ss (state_in d.pool d.instance).jobs turn.orders orders same ready.orders ready.steps
          (ap (λ (t : InstanceState). t.jobs) done)
          ∙ ap (λ (t : InstanceState). map Some (orders_at t start_jobs)) came.state;
    }

pub starts_cut : (c : ℕ) (bytes : List ℕ) (a b d : LentValue) → HaveCome c bytes a b → GoesOn b d → KeepsApart c a d →
    state_in d.pool d.instance ≡ state_in b.pool b.instance → IsCut (received c bytes) a d
starts_cut c bytes a b d h goes apart same = record {
  acts = λ l st.
      let came = h.acts l st in
      let still : lent_state d ≡ (after_bytes_on c bytes l).state =
      beside_at b d (state_in b.pool b.instance) goes.parent goes.moves (still_lent a b h.lent h.goes) same ∙ came.state in
      subst (λ (s : InstanceState). IsCutShort (bytes_events c bytes l) l.state s) (sym still) (all_done c bytes l);
  others = apart.others;
  finds = apart.finds;
}

pub starts_within : {T E : Type 0} (x : Result T E) (s t : InstanceState) (ss : List StepValue) → IsInstanceWithin s →
    ss ≡ steps_at s start_jobs → OnOk x (t ≡ state_after_change (Settles ss) s) → OnErr x (t ≡ s) → IsInstanceWithin t
starts_within x s t ss w is done short =
    within_turn x s (state_after s start_jobs) t (ok_map x
    (λ e. e ∙ ap (λ (ys : List StepValue). state_after_change (Settles ys) s) is) done) short w (after_keeps s start_jobs tt w)

-- ---- time passes, and then jobs end and start

abbrev pub IsTicked : Slots → InstanceSlots → InstanceSlots → Type 0
IsTicked p i j = (parent : List Blob) → seeing parent (state_in p j) ≡ state_after (seeing parent (state_in p i)) time_passes

pub ticked_goes : (a : LentValue) (j : InstanceSlots) → ((k : ℕ) → holders_of_instance j k ≡ holders_of_instance a.instance k) →
    IsInstanceInPool a.pool j → IsKept a → GoesOn a (with_instance a a.pool j)
ticked_goes a j same own kept = record {
  parent = refl;
  moves = moves_none a.pool (holders_of (lent_slots a)) (holders_of (lent_slots (with_instance a a.pool j)))
      (λ n. omega (arith, same n));
  kept = moment_keeps a.pool a.instance j (map connection_shown a.connections) kept same own;
}

-- what stood before
pub record HasTicked (a : LentValue) (j : InstanceSlots) : Type 0 where
  pub lent : IsLent a
  pub goes : GoesOn a (with_instance a a.pool j)
  pub ticked : IsTicked a.pool a.instance j

pub late_ends_done : {E : Type 0} (x : Result (Vec Order Global) E) (a d : LentValue) (j : InstanceSlots) (turn : Turn) →
    HasTicked a j → (let s = state_in a.pool j in IsReady a.pool s end_late_jobs (answer s end_late_jobs).replies turn) →
    TakesTurn turn (with_instance a a.pool j) d → OnOk x (AreGiven turn.replies.items a.connections d.connections) →
    OnOk x (state_in d.pool d.instance ≡ state_after_change (Settles (steps_shown turn.steps.items)) (state_in a.pool j)) →
    IfOk x (λ orders. orders ≡ turn.orders) → IfOk x (IsDone tick a d)
late_ends_done (Err e) a d j turn h ready t gives done same = tt
late_ends_done (Ok orders) a d j turn h ready t gives done same =
    let b = with_instance a a.pool j in
    let s = state_in a.pool j in
    let ss = steps_shown turn.steps.items in
    let seen = visible_in a.pool a.parent in
    record {
      acts = λ l rest st.
          let m = after_call_event time_passes l in
          let came : LentStands b m = tick_acts (lent_state a) (lent_state b) a.connections (h.ticked seen) (text_at a.pool) l st in
          let all : map (reply_shown a.pool) turn.replies.items ≡ (answer m.state end_late_jobs).replies =
          ready.replies ∙ ap (λ (t : InstanceState). (answer t end_late_jobs).replies) came.state in
          let own : state_in d.pool d.instance ≡ state_after s end_late_jobs =
          done ∙ ap (λ (ys : List StepValue). state_after_change (Settles ys) s) ready.steps in
          let after : lent_state d ≡ state_after m.state end_late_jobs =
          beside_at b d (state_after s end_late_jobs) t.parent t.moves (still_lent a b h.lent h.goes) own
          ∙ seeing_after seen s end_late_jobs refl
          ∙ ap (λ (t : InstanceState). state_after t end_late_jobs) came.state in
          turns end_late_jobs d.parent a.pool d.pool d.instance a.connections d.connections turn.replies.items m came.connections gives
          t.texts all after;
      orders = λ l st.
          let came : lent_state b ≡ state_after l.state time_passes =
          h.ticked seen ∙ ap (λ (t : InstanceState). state_after t time_passes) st.state in
          orders_are s end_late_jobs ss (state_in d.pool d.instance).jobs turn.orders orders same ready.orders ready.steps
          (ap (λ (t : InstanceState). t.jobs) done)
          ∙ ap (λ (t : InstanceState). map Some (orders_at t end_late_jobs)) came;
    }

pub late_ends_cut : (a d : LentValue) (j : InstanceSlots) → HasTicked a j → GoesOn (with_instance a a.pool j) d →
    state_in d.pool d.instance ≡ state_in a.pool j → IsCut tick a d
late_ends_cut a d j h goes same =
    let b = with_instance a a.pool j in
    record {
      acts = beside_at b d (state_in a.pool j) goes.parent goes.moves (still_lent a b h.lent h.goes) same
          ∙ h.ticked (visible_in a.pool a.parent);
      others = refl;
      finds = λ k some. absurd (omega (arith, some));
    }

pub late_ends_within : {T E : Type 0} (x : Result T E) (s t : InstanceState) (ss : List StepValue) → IsInstanceWithin s →
    ss ≡ steps_at s end_late_jobs → OnOk x (t ≡ state_after_change (Settles ss) s) → OnErr x (t ≡ s) → IsInstanceWithin t
late_ends_within x s t ss w is done short =
    within_turn x s (state_after s end_late_jobs) t
    (ok_map x (λ e. e ∙ ap (λ (ys : List StepValue). state_after_change (Settles ys) s) is) done) short w
    (after_keeps s end_late_jobs tt w)

-- ---- what the run of a job left is admitted, and then it ends

pub admitted_goes : (a : LentValue) (q : Slots) (j : InstanceSlots) → IsKept a →
    Moves a.pool q (holders_of_instance a.instance) (holders_of_instance j) → IsInstanceWithin (state_in q j) →
    GoesOn a (with_instance a q j)
admitted_goes a q j kept m within =
    refused_goes a q j kept (record { counts = λ k. omega (arith, m.counts k); texts = m.texts }) within

pub admitted_finds : (a : LentValue) (q : Slots) (j : InstanceSlots) → IsKept a →
    Moves a.pool q (holders_of_instance a.instance) (holders_of_instance j) → FindAlike a.pool q a.connections
admitted_finds a q j kept m =
    asked_finds no_holders a.pool q a.instance j (map connection_shown a.connections) kept
    (record { counts = λ k. omega (arith, m.counts k); texts = m.texts })

-- nothing of it reads what the parent has
changes_seeing : (bs : List Blob) (s : InstanceState) (outcome : OutcomeValue) (o : Option JobValue) →
    ending_changes (seeing bs s) outcome o ≡ ending_changes s outcome o
changes_seeing bs s outcome None = refl
changes_seeing bs s outcome (Some job) = refl

steps_seeing : (bs : List Blob) (s : InstanceState) (n : ℕ) (outcome : OutcomeValue) (o : Option JobValue) →
    ending_steps (seeing bs s) n outcome o ≡ ending_steps s n outcome o
steps_seeing bs s n outcome None = refl
steps_seeing bs s n outcome (Some job) = refl

answer_seeing : (bs : List Blob) (s : InstanceState) (n : ℕ) (outcome : OutcomeValue) →
    answer (seeing bs s) (end_job n outcome) ≡ answer s (end_job n outcome)
answer_seeing bs s n outcome =
    let what = end_job n outcome in
    let o = running_job n s.jobs in
    ap (λ (cs : List InstanceChange). turn_answer s cs (steps_at (seeing bs s) what)) (changes_seeing bs s outcome o)
    ∙ ap (turn_answer s (ending_changes s outcome o)) (steps_seeing bs s n outcome o)

orders_seeing : (bs : List Blob) (s : InstanceState) (n : ℕ) (outcome : OutcomeValue) →
    orders_at (seeing bs s) (end_job n outcome) ≡ orders_at s (end_job n outcome)
orders_seeing bs s n outcome = ap (λ (xs : List StepValue). orders_of xs s.jobs) (steps_seeing bs s n outcome (running_job n s.jobs))

-- what stood before
pub record HasAdmitted (n : ℕ) (outcome : OutcomeValue) (a : LentValue) (q : Slots) (j : InstanceSlots) : Type 0 where
  pub lent : IsLent a
  pub goes : GoesOn a (with_instance a q j)
  pub finds : FindAlike a.pool q a.connections
  pub after : IsAdmitted (state_in a.pool a.instance) n outcome (state_in q j)

pub end_done : {E : Type 0} (x : Result (Vec Order Global) E) (n : ℕ) (outcome : OutcomeValue) (a d : LentValue) (q : Slots)
    (j : InstanceSlots) (turn : Turn) → HasAdmitted n outcome a q j → (let s = state_in a.pool a.instance in
    IsReady q s (end_job n outcome) (answer s (end_job n outcome)).replies turn) → TakesTurn turn (with_instance a q j) d →
    OnOk x (AreGiven turn.replies.items a.connections d.connections) →
    OnOk x (state_in d.pool d.instance ≡ state_after_change (Settles (steps_shown turn.steps.items)) (state_in q j)) →
    IfOk x (λ orders. orders ≡ turn.orders) → IfOk x (IsDone (ended n outcome) a d)
end_done (Err e) n outcome a d q j turn h ready t gives done same = tt
end_done (Ok orders) n outcome a d q j turn h ready t gives done same =
    let what = end_job n outcome in
    let s = state_in a.pool a.instance in
    let ss = steps_shown turn.steps.items in
    let seen = visible_in a.pool a.parent in
    let b = with_instance a q j in
    let moves = moves_trans a.pool q d.pool (holders_of (lent_slots a)) (holders_of (lent_slots b)) (holders_of (lent_slots d))
    h.goes.moves t.moves in
    record {
      acts = λ l rest st.
          let own : state_in d.pool d.instance ≡ state_after s what =
          after_ending s (state_in q j) (state_in d.pool d.instance) n outcome ss h.after ready.steps done in
          let after : lent_state d ≡ state_after l.state what =
          beside_at a d (state_after s what) t.parent moves h.lent own
          ∙ seeing_after seen s what (ap (λ (x : Answer). x.changes) (answer_seeing seen s n outcome))
          ∙ ap (λ (t : InstanceState). state_after t what) st.state in
          let all : map (reply_shown q) turn.replies.items ≡ (answer l.state what).replies =
          ready.replies ∙ sym (ap (λ (x : Answer). x.replies) (answer_seeing seen s n outcome))
          ∙ ap (λ (t : InstanceState). (answer t what).replies) st.state in
          let served = served_agreed (text_at a.pool) (text_at q) (map connection_shown a.connections) (open_ones l.connections)
          h.finds st.connections in
          turns what d.parent q d.pool d.instance a.connections d.connections turn.replies.items l served gives t.texts all after;
      orders = λ l st.
          let after : (state_in d.pool d.instance).jobs ≡ jobs_after_steps ss s.jobs =
          ap (λ (t : InstanceState). t.jobs) done ∙ ap (jobs_after_steps ss) (same_jobs s (state_in q j) n outcome h.after) in
          orders_are s what ss (state_in d.pool d.instance).jobs turn.orders orders same ready.orders ready.steps after
          ∙ ap (map Some) (sym (orders_seeing seen s n outcome))
          ∙ ap (λ (t : InstanceState). map Some (orders_at t what)) st.state;
    }

-- a front was made, and what the parent has stays
pub end_cut : (n : ℕ) (outcome : OutcomeValue) (a d : LentValue) → IsLent a → GoesOn a d → (let s = state_in a.pool a.instance in
    MadeInPart (ending_changes s outcome (running_job n s.jobs)) s (state_in d.pool d.instance)) → IsCut (ended n outcome) a d
end_cut n outcome a d lent goes part =
    let s = state_in a.pool a.instance in
    let seen = visible_in a.pool a.parent in
    record {
      acts = record {
        made = part.made;
        left = part.left;
        front = changes_seeing seen s outcome (running_job n s.jobs) ∙ part.front;
        so_far = beside_at a d (state_after_changes part.made s) goes.parent goes.moves lent part.so_far
            ∙ sym (after_seeing seen part.made s);
      };
      others = refl;
      finds = λ k some. absurd (omega (arith, some));
    }

pub all_made : (s t u : InstanceState) (n : ℕ) (outcome : OutcomeValue) → IsAdmitted s n outcome t → u ≡ t →
    MadeInPart (ending_changes s outcome (running_job n s.jobs)) s u
all_made s t u n outcome e same =
    let changes = ending_changes s outcome (running_job n s.jobs) in
    record { made = changes; left = []; front = sym (append-nil changes); so_far = same ∙ e }

pub end_within : {T E : Type 0} (x : Result T E) (s t u : InstanceState) (n : ℕ) (outcome : OutcomeValue) (ss : List StepValue) →
    IsInstanceWithin (state_after s (end_job n outcome)) → IsInstanceWithin t → IsAdmitted s n outcome t →
    ss ≡ steps_at s (end_job n outcome) →
    OnOk x (u ≡ state_after_change (Settles ss) t) → OnErr x (u ≡ t) → IsInstanceWithin u
end_within x s t u n outcome ss after v e is done short =
    within_turn x t (state_after s (end_job n outcome)) u (ok_map x (λ d. after_ending s t u n outcome ss e is d) done) short v after
