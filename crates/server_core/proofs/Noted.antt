-- What is noted of an event keeps standing for the run.
use Rattle.std.proofs.Common.{◌≡◌, ◌≢◌, ℕ, suc, ◌+◌, List, [], ◌∷◌, ◌++◌, length, refl, ap, ◌∙◌, sym, subst}
use Rattle.std.specs.Prelude.{Bool, true, false, cond, map, Option, Some, None, Err, nat_lt}
use Rattle.std.specs.Option.{option_map_or, is_some}
use Rattle.std.proofs.lemmas.Bool.{true≢false, ltb-false}
use Rattle.served_instance.specs.Bytes.{untaken_count}
use Rattle.served_instance.proofs.Histories.{append-nil}
use Rattle.served_instance.specs.Past.{Past}
use Rattle.instance_core.specs.Visible.{Blob}
use Rattle.server_events.specs.Events.{LoneEvent, WhatValue, opened, received, took, closed, tick, ended}
use Rattle.served_instance.specs.declared.refusal.EventRefusal.{EventRefusal}
use Rattle.served_instance.specs.declared.refusal.EventRefusal.TheVariants.{NoSuchInstance, NoSuchConnection, ConnectionExists, TooManyConnections, NoSuchJob, TimeWentBack, TookTooMuch, NoMemory}
use Rattle.served_instance.specs.Connections.{LoneConnection, AreApart, open_at}
use Rattle.served_instance.specs.Lone.{LoneInstance, sent_bytes_on, after_event}
use Rattle.served_instance.specs.Refusals.{refusal_of, refusal_of_what, after_event_unless, lone_step, orders_unless, lone_orders, IsRefusalOutcome}
use Rattle.execution.specs.Orders.{OrderValue}
use Rattle.server_core.specs.Runs.{Run, orders_at, refusals_at, run_step}
use Rattle.server_core.specs.declared.record.OpenRecord.{OpenRecord}
use Rattle.server_core.specs.Records.{RecordValue, IsRecord}
use Rattle.server_core.specs.Notes.{open_records_after, sent_bytes_after, sent_bytes_with_all, record_after_noting}
use Rattle.served_instance.proofs.Growth.{AreGrown, connections_after, accepted_more}
use Rattle.server_core.proofs.Changes.{known_from, known_after, known_grown}
use Rattle.server_core.proofs.Fronts.{AreFronts, May, all_within, fronts_after, fronts_grown, fronts_taken, apart_after, apart_grown, all_gathered, all_counted}

-- ---- what an event may do that is not refused

some_none : {A : Type 0} (x : A) → Some x ≡ None → ⊥
some_none x h = true≢false (ap is_some h)

pub record Passes {A : Type 0} (b : Bool) (o : Option A) : Type 0 where
  pub off : b ≡ false
  pub later : o ≡ None

passes : {A : Type 0} (b : Bool) (x : A) (o : Option A) → cond b (Some x) o ≡ None → Passes b o
passes true x o h = absurd (some_none x h)
passes false x o h = record { off = refl; later = h }

none_of : {A : Type 0} (o : Option A) → is_some o ≡ false → o ≡ None
none_of None h = refl
none_of (Some x) h = absurd (true≢false h)

may_what : (what : WhatValue) (l : LoneInstance) → refusal_of_what what l ≡ None → May what l.connections
may_what (opened c) l h = none_of (open_at c l.connections) (passes (is_some (open_at c l.connections)) ConnectionExists _ h).off
may_what (received c bytes) l h = tt
may_what (took c n) l h = λ p is.
    let answer : Option Past → Option EventRefusal =
    λ o. option_map_or (λ (q : Past). cond (nat_lt (untaken_count q.history) n) (Some TookTooMuch) None) o (Some NoSuchConnection) in
    ltb-false (untaken_count p.history) n (passes (nat_lt (untaken_count p.history) n) TookTooMuch None (sym (ap answer is) ∙ h)).off
may_what (closed c) l h = tt
may_what tick l h = tt
may_what (ended job outcome) l h = tt

may : (e : LoneEvent) (l : LoneInstance) → refusal_of e l ≡ None → May e.what l.connections
may e l h = may_what e.what l (passes (nat_lt e.moment l.state.moment) TimeWentBack (refusal_of_what e.what l) h).later

-- ---- an event that is taken

length_sent : (ks : List LoneConnection) → length (map sent_bytes_on ks) ≡ length ks
length_sent [] = refl
length_sent (k ∷ ks) = ap suc (length_sent ks)

pub noted_apart : (v : RecordValue) (r : Run) (bs : List Blob) (e : LoneEvent) → IsRecord v r → refusal_of e r.lone ≡ None →
    AreApart (lone_step bs e r.lone).connections
noted_apart v r bs e st none =
    let ks = r.lone.connections in
    let window = r.lone.state.limits.window in
    let k1 = connections_after window e.what ks in
    let m : LoneInstance = lone_step bs e r.lone in
    let step : m ≡ after_event bs e r.lone = ap (after_event_unless bs e r.lone) none in
    let grown : AreGrown k1 m.connections = subst (λ (n : LoneInstance). AreGrown k1 n.connections) (sym step)
    (accepted_more bs e r.lone) in
    apart_grown k1 m.connections grown (apart_after window e.what ks (may e r.lone none) st.apart)

pub noted : (v : RecordValue) (r : Run) (bs : List Blob) (e : LoneEvent) (given : List OrderValue) (ordered : List (ℕ × OrderValue))
    (ss : List (ℕ × List ℕ)) (os : List OpenRecord) → IsRecord v r → refusal_of e r.lone ≡ None → given ≡ lone_orders bs e r.lone →
    ordered ≡ v.orders ++ orders_at (v.count + 1) given →
    ss ≡ sent_bytes_with_all (lone_step bs e r.lone) (open_records_after e.what (length v.sent) v.live) (sent_bytes_after e.what v.sent) →
    os ≡ map (record_after_noting (lone_step bs e r.lone)) (open_records_after e.what (length v.sent) v.live) →
    IsRecord (record { count = v.count + 1; orders = ordered; refusals = v.refusals; sent = ss; live = os }) (run_step bs r e)
noted v r bs e given ordered ss os st none gave ordered_is ss_is os_is =
    let ks = r.lone.connections in
    let m : LoneInstance = lone_step bs e r.lone in
    let s1 = sent_bytes_after e.what (map sent_bytes_on ks) in
    let window = r.lone.state.limits.window in
    let k1 = connections_after window e.what ks in
    let step : m ≡ after_event bs e r.lone = ap (after_event_unless bs e r.lone) none in
    let grown : AreGrown k1 m.connections = subst (λ (n : LoneInstance). AreGrown k1 n.connections) (sym step)
    (accepted_more bs e r.lone) in
    let can : May e.what ks = may e r.lone none in
    let fronts : AreFronts s1 m.connections = fronts_grown s1 k1 m.connections
    (fronts_after window e.what ks (all_within ks st.taken) can) grown in
    let apart : AreApart m.connections = noted_apart v r bs e st none in
    let sent : sent_bytes_after e.what v.sent ≡ s1 = ap (sent_bytes_after e.what) st.sent in
    let size : length v.sent ≡ length ks = ap length st.sent ∙ length_sent ks in
    let known : open_records_after e.what (length v.sent) v.live ≡ known_from 0 s1 m.connections =
    ap (λ (n : ℕ). open_records_after e.what n v.live) size ∙ ap (open_records_after e.what (length ks)) st.live
    ∙ known_after window e.what ks st.apart ∙ known_grown 0 s1 k1 m.connections grown in
    record {
      count = ap (λ n. n + 1) st.count;
      orders = ordered_is
          ∙ ap (λ (xs : List (ℕ × OrderValue)). xs ++ orders_at (v.count + 1) given) st.orders
          ∙ ap (λ (n : ℕ). r.orders ++ orders_at (n + 1) given) st.count
          ∙ ap (λ (os : List OrderValue). r.orders ++ orders_at (r.count + 1) os) gave;
      refusals = st.refusals ∙ sym (append-nil r.refusals)
          ∙ ap (λ (o : Option EventRefusal). r.refusals ++ refusals_at (r.count + 1) o) (sym none);
      sent = ss_is ∙ ap (λ (qs : List OpenRecord). sent_bytes_with_all m qs (sent_bytes_after e.what v.sent)) known
          ∙ ap (sent_bytes_with_all m (known_from 0 s1 m.connections)) sent
          ∙ all_gathered m 0 [] s1 m.connections refl fronts apart (λ c p h. h);
      live = os_is ∙ ap (map (record_after_noting m)) known ∙ all_counted m 0 s1 m.connections fronts apart (λ c p h. h);
      taken = fronts_taken s1 m.connections fronts;
      apart = apart;
    }

-- ---- an event that is refused

-- the step of a run, by the reason to refuse the event
abbrev step_by : List Blob → Run → LoneEvent → Option EventRefusal → Run
step_by bs r e o = record {
  lone = after_event_unless bs e r.lone o;
  count = r.count + 1;
  orders = r.orders ++ orders_at (r.count + 1) (orders_unless bs e r.lone o);
  refusals = r.refusals ++ refusals_at (r.count + 1) o;
}

refused_for : (A : Type 0) (refusal : EventRefusal) (reason : Option EventRefusal) → refusal ≢ NoMemory →
    IsRefusalOutcome {A = A} (Err refusal) reason → reason ≡ Some refusal
refused_for A NoMemory reason ne h = absurd (ne refl)
refused_for A NoSuchInstance reason ne h = h
refused_for A NoSuchConnection reason ne h = h
refused_for A ConnectionExists reason ne h = h
refused_for A TooManyConnections reason ne h = h
refused_for A NoSuchJob reason ne h = h
refused_for A TimeWentBack reason ne h = h
refused_for A TookTooMuch reason ne h = h

-- nothing is put and nothing is ordered
pub refused_noted : (A : Type 0) (v : RecordValue) (r : Run) (bs : List Blob) (e : LoneEvent) (refusal : EventRefusal)
    (told : List (ℕ × EventRefusal)) → IsRecord v r → refusal ≢ NoMemory → IsRefusalOutcome {A = A} (Err refusal) (refusal_of e r.lone) →
    told ≡ v.refusals ++ (v.count + 1, refusal) ∷ [] →
    IsRecord (record { count = v.count + 1; orders = v.orders; refusals = told; sent = v.sent; live = v.live }) (run_step bs r e)
refused_noted A v r bs e refusal told st ne gave told_is =
    let w : RecordValue = record { count = v.count + 1; orders = v.orders; refusals = told; sent = v.sent; live = v.live } in
    let stepped : IsRecord w (step_by bs r e (Some refusal)) = record {
      count = ap (λ n. n + 1) st.count;
      orders = st.orders ∙ sym (append-nil r.orders);
      refusals = told_is
          ∙ ap (λ (xs : List (ℕ × EventRefusal)). xs ++ (v.count + 1, refusal) ∷ []) st.refusals
          ∙ ap (λ (n : ℕ). r.refusals ++ (n + 1, refusal) ∷ []) st.count;
      sent = st.sent;
      live = st.live;
      taken = st.taken;
      apart = st.apart;
    } in
    subst (λ (o : Option EventRefusal). IsRecord w (step_by bs r e o)) (sym (refused_for A refusal (refusal_of e r.lone) ne gave)) stepped
