-- What is refused by what is kept is refused by all that happened.
use Rattle.std.proofs.Common.{◌≡◌, ◌<◌, ◌≤◌, refl, sym, ap, ◌∙◌, subst, get_or}
use Rattle.std.proofs.lemmas.Bool.{le-ltb, lt-ltb}
use Rattle.std.specs.Prelude.{ℕ, nat_le, nat_lt, ◌&&◌, if◌then◌else◌, Bool, true, false, not, List, [], length, map, count_by, position, Option, Some, None, Err}
use Rattle.std.specs.List.{list_any}
use Rattle.std.specs.Option.{is_some, option_map, option_map_or}
use Rattle.conn_core.specs.History.{has_failed}
use Rattle.grpc_sending.specs.Bytes.{pending_bytes, untaken_count}
use Rattle.grpc_sending.specs.StoredSending.{SourceTexts}
use Rattle.blob_pool.specs.Slots.{Slots, text_at}
use Rattle.conn_core.specs.CallsInCourse.{has_calls, half_calls, is_kept_half}
use Rattle.conn_core.proofs.CallsInCourse.{is_whole, same_calls, same_half_calls}
use Rattle.conn_core.specs.Past.{Past}
use Rattle.conn_core.specs.StandsFor.{ConnectionValue}
use Rattle.job_queue.specs.Jobs.{Jobs, running_job}
use Rattle.execution.specs.Job.{JobValue}
use Rattle.execution.specs.declared.job.Job.{Job}
use Rattle.execution.specs.InPool.{jobs_in, job_in}
use Rattle.execution.proofs.Taken.{shown-running}
use Rattle.server_events.specs.Events.{LoneEvent, WhatValue, opened, received, took, closed, tick, ended}
use Rattle.served_instance.specs.declared.refusal.EventRefusal.{EventRefusal}
use Rattle.served_instance.specs.declared.refusal.EventRefusal.TheVariants.{NoSuchInstance, TimeWentBack, ConnectionExists, TooManyConnections, NoSuchConnection, NoSuchJob, TookTooMuch, NoMemory}
use Rattle.served_instance.specs.Connections.{open_ones, open_at}
use Rattle.instance_core.specs.Visible.{Blob}
use Rattle.instance_core.specs.State.{seeing, InstanceState, at_moment}
use Rattle.served_instance.specs.Lone.{LoneInstance, lone_at_moment, after_event, orders_of_what}
use Rattle.execution.specs.declared.orders.Order.{Order}
use Rattle.instance_core.specs.Turns.{AreOrders}
use Rattle.served_instance.specs.declared.instance.TheConstants.{CONNECTION_LIMIT}
use Rattle.served_instance.specs.Refusals.{refusal_of, refusal_of_what, after_event_unless, lone_step, orders_unless, lone_orders, IsRefusalOutcome}
use Rattle.served_instance.specs.StandsFor.{ServedConnection, ServedState, IsServedInstance, AreSettled}
use Rattle.served_instance.specs.Places.{connection_at}
use Rattle.served_instance.specs.declared.open_connection.OpenConnection.{OpenConnection}
use Rattle.served_instance.specs.Slots.{ServedSlots, served_state_in}
use Rattle.served_instance.specs.Acts.{StandsBy, slots_of}
use Rattle.instance_core.specs.Slots.{InstanceSlots}
use Rattle.served_instance.specs.Ranges.{RangesEndWithin}
use Rattle.served_instance.proofs.Ranges.{plain_served}
use Rattle.served_instance.specs.Present.{is_numbered, refusal_by, refusal_by_what, refusal_to_take, unless_more, unless_present, unless_running}
use Rattle.served_instance.specs.Shown.{connection_shown}
use Rattle.served_instance.proofs.Places.{place_none, place_some, place_there}
use Rattle.served_instance.proofs.Serves.{SameAt, same_at, same_length}

same_presence : (texts : SourceTexts) (a : Option ConnectionValue) (b : Option Past) → SameAt texts a b → is_some a ≡ is_some b
same_presence texts None None s = refl
same_presence texts (Some v) (Some p) s = refl
same_presence texts None (Some p) s = absurd s
same_presence texts (Some v) None s = absurd s

same_unless : (texts : SourceTexts) (a : Option ConnectionValue) (b : Option Past) (r : Option EventRefusal) → SameAt texts a b →
    option_map_or (λ v. None) a r ≡ option_map_or (λ p. None) b r
same_unless texts None None r s = refl
same_unless texts (Some v) (Some p) r s = refl
same_unless texts None (Some p) r s = absurd s
same_unless texts (Some v) None r s = absurd s

abbrev unless_untaken : ℕ → Past → Option EventRefusal
unless_untaken n p = if nat_lt (untaken_count p.history) n then Some TookTooMuch else None

same_take : (texts : SourceTexts) (n : ℕ) (a : Option ConnectionValue) (b : Option Past) (r : Option EventRefusal) → SameAt texts a b →
    option_map_or (unless_more n) a r ≡ option_map_or (unless_untaken n) b r
same_take texts n None None r s = refl
same_take texts n (Some v) (Some p) r s = ap (λ (bytes : List ℕ). if nat_lt (length bytes) n then Some TookTooMuch else None)
    s.sending.pending
same_take texts n None (Some p) r s = absurd s
same_take texts n (Some v) None r s = absurd s

pub same_pending : (texts : SourceTexts) (a : Option ConnectionValue) (b : Option Past) → SameAt texts a b →
    option_map (λ (v : ConnectionValue). v.sending.pending) a ≡ option_map (λ (p : Past). pending_bytes p.history) b
same_pending texts None None s = refl
same_pending texts (Some v) (Some p) s = ap Some s.sending.pending
same_pending texts None (Some p) s = absurd s
same_pending texts (Some v) None s = absurd s

abbrev pub calls_kept : ConnectionValue → Bool
calls_kept v = not v.ended && list_any is_whole v.streams.live

pub same_presence_of_calls : (texts : SourceTexts) (a : Option ConnectionValue) (b : Option Past) → SameAt texts a b →
    option_map calls_kept a ≡ option_map (λ (p : Past). has_calls p.history) b
same_presence_of_calls texts None None s = refl
same_presence_of_calls texts (Some v) (Some p) s = ap Some (same_calls texts v p s)
same_presence_of_calls texts None (Some p) s = absurd s
same_presence_of_calls texts (Some v) None s = absurd s

abbrev pub half_kept : ConnectionValue → ℕ
half_kept v = if v.ended then 0 else count_by (is_kept_half v.calls) v.streams.live

pub same_number_of_half_calls : (texts : SourceTexts) (a : Option ConnectionValue) (b : Option Past) → SameAt texts a b →
    option_map half_kept a ≡ option_map (λ (p : Past). half_calls p.history) b
same_number_of_half_calls texts None None s = refl
same_number_of_half_calls texts (Some v) (Some p) s = ap Some (same_half_calls texts v p s)
same_number_of_half_calls texts None (Some p) s = absurd s
same_number_of_half_calls texts (Some v) None s = absurd s

pub same_ended : (texts : SourceTexts) (a : Option ConnectionValue) (b : Option Past) → SameAt texts a b →
    option_map (λ (v : ConnectionValue). v.ended) a ≡ option_map (λ (p : Past). has_failed p.history) b
same_ended texts None None s = refl
same_ended texts (Some v) (Some p) s = ap Some s.ended
same_ended texts None (Some p) s = absurd s
same_ended texts (Some v) None s = absurd s

abbrev to_open : Bool → ℕ → Option EventRefusal
to_open there n = if there then Some ConnectionExists else if nat_le CONNECTION_LIMIT n then Some TooManyConnections else None

-- a job that is kept runs where the job runs that it stands for
there_as : {A B : Type 0} (f : A → B) (o : Option A) → is_some o ≡ is_some (option_map f o)
there_as f None = refl
there_as f (Some x) = refl

abbrev pub unless_there : Bool → Option EventRefusal
unless_there there = if there then None else Some NoSuchJob

same_running : (p : Slots) (n : ℕ) (jobs : Jobs Job) (s : InstanceState) → jobs_in p jobs ≡ s.jobs →
    unless_running n jobs ≡ unless_there (is_some (running_job n s.jobs))
same_running p n jobs s e =
    ap unless_there (there_as (job_in p) (running_job n jobs) ∙ ap is_some (sym (shown-running p n jobs))
    ∙ ap (λ (js : Jobs JobValue). is_some (running_job n js)) e)

same_by_what : (p : Slots) (w : WhatValue) (jobs : Jobs Job) (vs : List ServedConnection) (l : LoneInstance) →
    jobs_in p jobs ≡ l.state.jobs → ((c : ℕ) → SameAt (text_at p) (connection_at c vs) (open_at c l.connections)) →
    length vs ≡ length (open_ones l.connections) → refusal_by_what w jobs vs ≡ refusal_of_what w l
same_by_what p (opened c) jobs vs l e s n =
    ap (λ (b : Bool). to_open b (length vs)) (same_presence (text_at p) _ _ (s c))
    ∙ ap (λ (m : ℕ). to_open (is_some (open_at c l.connections)) m) n
same_by_what p (received c bytes) jobs vs l e s n = same_unless (text_at p) _ _ (Some NoSuchConnection) (s c)
same_by_what p (took c count) jobs vs l e s n = same_take (text_at p) count _ _ (Some NoSuchConnection) (s c)
same_by_what p (closed c) jobs vs l e s n = same_unless (text_at p) _ _ (Some NoSuchConnection) (s c)
same_by_what p tick jobs vs l e s n = refl
same_by_what p (ended job outcome) jobs vs l e s n = same_running p job jobs l.state e

pub same_refusal : (p : Slots) (e : LoneEvent) (v : ServedSlots) (l : LoneInstance) → RangesEndWithin (text_at p) v.connections →
    IsServedInstance (served_state_in p v) l → refusal_by e v ≡ refusal_of e l
same_refusal p e v l fit s =
    let texts = text_at p in
    let vs = v.connections in
    let stand = plain_served texts vs (open_ones l.connections) fit s.connections in
    let jobs : jobs_in p v.instance.jobs ≡ l.state.jobs = ap (λ (x : InstanceState). x.jobs) s.state in
    ap (λ (x : InstanceState). if nat_lt e.moment x.moment then Some TimeWentBack else refusal_by_what e.what v.instance.jobs vs) s.state
    ∙ ap (λ (r : Option EventRefusal). if nat_lt e.moment l.state.moment then Some TimeWentBack else r)
    (same_by_what p e.what v.instance.jobs vs l jobs (λ c. same_at texts c vs l.connections stand)
    (same_length texts vs (open_ones l.connections) stand))

-- ---- by where its connection stands

abbrev unless_by : Option ConnectionValue → Option EventRefusal
unless_by o = option_map_or (λ v. None) o (Some NoSuchConnection)

found_unless : (o : Option ConnectionValue) → (o ≡ None → ⊥) → None ≡ unless_by o
found_unless None h = absurd (h refl)
found_unless (Some v) h = refl

pub place_present : (c k : ℕ) (os : List OpenConnection) → position (is_numbered c) os ≡ Some k →
    None ≡ unless_present c (map connection_shown os)
place_present c k os h = found_unless (connection_at c (map connection_shown os)) (place_there c k os h)

pub place_absent : (c : ℕ) (os : List OpenConnection) → position (is_numbered c) os ≡ None →
    Some NoSuchConnection ≡ unless_present c (map connection_shown os)
place_absent c os h = ap unless_by (place_none c os h)

abbrev take_by : ℕ → Option ConnectionValue → Option EventRefusal
take_by n o = option_map_or (unless_more n) o (Some NoSuchConnection)

pub take_absent : (c n : ℕ) (os : List OpenConnection) → position (is_numbered c) os ≡ None →
    Some NoSuchConnection ≡ refusal_to_take c n (map connection_shown os)
take_absent c n os h = ap (take_by n) (place_none c os h)

pub take_present : (c n k : ℕ) (os : List OpenConnection) (d : OpenConnection) → position (is_numbered c) os ≡ Some k →
    unless_more n (get_or os k d).connection ≡ refusal_to_take c n (map connection_shown os)
take_present c n k os d h = ap (take_by n) (place_some c os k d h)

more_by : (b : Bool) → b ≡ true → Some TookTooMuch ≡ (if b then Some TookTooMuch else None)
more_by true e = refl
more_by false e = cc

none_by : (b : Bool) → b ≡ false → None ≡ (if b then Some TookTooMuch else None)
none_by true e = cc
none_by false e = refl

pub too_much : (n : ℕ) (v : ConnectionValue) → length v.sending.pending < n → Some TookTooMuch ≡ unless_more n v
too_much n v h = more_by (nat_lt (length v.sending.pending) n) (lt-ltb (length v.sending.pending) n h)

pub enough_waits : (n : ℕ) (v : ConnectionValue) → n ≤ length v.sending.pending → None ≡ unless_more n v
enough_waits n v h = none_by (nat_lt (length v.sending.pending) n) (le-ltb (length v.sending.pending) n h)

-- by connections that were seen through a slice
pub seen_refusal : (e : LoneEvent) (i : InstanceSlots) (xs os : List OpenConnection) (v : ServedSlots) (r : Option EventRefusal) → xs ≡ os →
    slots_of i os ≡ v → r ≡ refusal_by e (slots_of i xs) → r ≡ refusal_by e v
seen_refusal e i xs os v r seen is h = h ∙ ap (λ (ys : List OpenConnection). refusal_by e (slots_of i ys)) seen ∙ ap (refusal_by e) is

-- ---- what comes of an event

-- a reason is never want of memory, nor that another instance was meant
abbrev IsReason : Option EventRefusal → Type 0
IsReason (Some NoSuchInstance) = ⊥
IsReason (Some NoMemory) = ⊥
IsReason r = Unit {0}

reason_if : (b : Bool) (r : EventRefusal) (rest : Option EventRefusal) → IsReason (Some r) → IsReason rest →
    IsReason (if b then Some r else rest)
reason_if true r rest h k = h
reason_if false r rest h k = k

reason_at : (v : Option ConnectionValue) (f : ConnectionValue → Option EventRefusal) → ((x : ConnectionValue) → IsReason (f x)) →
    IsReason (option_map_or f v (Some NoSuchConnection))
reason_at None f h = tt
reason_at (Some x) f h = h x

reason_by_what : (w : WhatValue) (jobs : Jobs Job) (vs : List ServedConnection) → IsReason (refusal_by_what w jobs vs)
reason_by_what (opened c) jobs vs = reason_if (is_some (connection_at c vs)) ConnectionExists _ tt
    (reason_if (nat_le CONNECTION_LIMIT (length vs)) TooManyConnections None tt tt)
reason_by_what (received c bytes) jobs vs = reason_at (connection_at c vs) (λ x. None) (λ x. tt)
reason_by_what (took c n) jobs vs = reason_at (connection_at c vs) (unless_more n)
    (λ x. reason_if (nat_lt (length x.sending.pending) n) TookTooMuch None tt tt)
reason_by_what (closed c) jobs vs = reason_at (connection_at c vs) (λ x. None) (λ x. tt)
reason_by_what tick jobs vs = tt
reason_by_what (ended job outcome) jobs vs = go (is_some (running_job job jobs)) where
  go : (b : Bool) → IsReason (if b then None else Some NoSuchJob)
  go true = tt
  go false = tt

is_reason : (e : LoneEvent) (v : ServedSlots) → IsReason (refusal_by e v)
is_reason e v = reason_if (nat_lt e.moment v.instance.moment) TimeWentBack (refusal_by_what e.what v.instance.jobs v.connections) tt
    (reason_by_what e.what v.instance.jobs v.connections)

outcome_of : (A : Type 0) (r : EventRefusal) (reason : Option EventRefusal) → IsReason (Some r) → reason ≡ Some r →
    IsRefusalOutcome {A = A} (Err r) reason
outcome_of A NoSuchInstance reason h e = e
outcome_of A NoSuchConnection reason h e = e
outcome_of A ConnectionExists reason h e = e
outcome_of A TooManyConnections reason h e = e
outcome_of A NoSuchJob reason h e = e
outcome_of A TimeWentBack reason h e = e
outcome_of A TookTooMuch reason h e = e
outcome_of A NoMemory reason h e = absurd h

pub no_reason : (p : Slots) (e : LoneEvent) (v : ServedSlots) (l : LoneInstance) → None ≡ refusal_by e v →
    RangesEndWithin (text_at p) v.connections → IsServedInstance (served_state_in p v) l → refusal_of e l ≡ None
no_reason p e v l h fit s = sym (same_refusal p e v l fit s) ∙ sym h

reason : (p : Slots) (e : LoneEvent) (v : ServedSlots) (l : LoneInstance) (r : EventRefusal) → Some r ≡ refusal_by e v →
    RangesEndWithin (text_at p) v.connections → IsServedInstance (served_state_in p v) l → refusal_of e l ≡ Some r
reason p e v l r h fit s = sym (same_refusal p e v l fit s) ∙ sym h

pub refused_outcome : (p : Slots) (A : Type 0) (e : LoneEvent) (v : ServedSlots) (l : LoneInstance) (r : EventRefusal) →
    Some r ≡ refusal_by e v → RangesEndWithin (text_at p) v.connections → IsServedInstance (served_state_in p v) l →
    IsRefusalOutcome {A = A} (Err r) (refusal_of e l)
refused_outcome p A e v l r h fit s = outcome_of A r (refusal_of e l) (subst IsReason (sym h) (is_reason e v)) (reason p e v l r h fit s)

pub kept_at_refusal : (parent : List Blob) (p : Slots) (e : LoneEvent) (v : ServedSlots) (l : LoneInstance) (r : EventRefusal) →
    Some r ≡ refusal_by e v → RangesEndWithin (text_at p) v.connections → IsServedInstance (served_state_in p v) l →
    IsServedInstance (served_state_in p v) (lone_step parent e l)
kept_at_refusal parent p e v l r h fit s =
    let P : Option EventRefusal → Type 0 = λ o. IsServedInstance (served_state_in p v) (after_event_unless parent e l o) in
    subst P (sym (reason p e v l r h fit s)) s

pub stands_accepted : (parent : List Blob) (p : Slots) (e : LoneEvent) (v : ServedSlots) (w : ServedState) (l : LoneInstance) →
    None ≡ refusal_by e v → RangesEndWithin (text_at p) v.connections → IsServedInstance (served_state_in p v) l →
    IsServedInstance w (after_event parent e l) → IsServedInstance w (lone_step parent e l)
stands_accepted parent p e v w l h fit s a =
    let P : Option EventRefusal → Type 0 = λ o. IsServedInstance w (after_event_unless parent e l o) in
    subst P (sym (no_reason p e v l h fit s)) a

pub settled_accepted : (parent : List Blob) (p : Slots) (e : LoneEvent) (v : ServedSlots) (l : LoneInstance) → None ≡ refusal_by e v →
    RangesEndWithin (text_at p) v.connections → IsServedInstance (served_state_in p v) l → AreSettled (after_event parent e l) →
    AreSettled (lone_step parent e l)
settled_accepted parent p e v l h fit s a =
    let P : Option EventRefusal → Type 0 = λ o. AreSettled (after_event_unless parent e l o) in
    subst P (sym (no_reason p e v l h fit s)) a

pub orders_accepted : (parent : List Blob) (p : Slots) (e : LoneEvent) (v : ServedSlots) (l : LoneInstance) (after : Jobs JobValue)
    (orders : List Order) → None ≡ refusal_by e v → RangesEndWithin (text_at p) v.connections → IsServedInstance (served_state_in p v) l →
    AreOrders after orders (orders_of_what e.what (lone_at_moment e.moment parent l)) → AreOrders after orders (lone_orders parent e l)
orders_accepted parent p e v l after orders h fit s are =
    let P : Option EventRefusal → Type 0 = λ o. AreOrders after orders (orders_unless parent e l o) in
    subst P (sym (no_reason p e v l h fit s)) are

-- an event comes
pub came_stands : (parent : List Blob) (texts : SourceTexts) (m : ℕ) (s t : InstanceState) (os : List OpenConnection) (l : LoneInstance) →
    t ≡ at_moment m s → StandsBy texts s os l → StandsBy texts (seeing parent t) os (lone_at_moment m parent l)
came_stands parent texts m s t os l e st = record
    { state = ap (seeing parent) (e ∙ ap (at_moment m) st.state); connections = st.connections }

pub not_elsewhere : (e : LoneEvent) (v : ServedSlots) (r : EventRefusal) → Some r ≡ refusal_by e v → r ≡ NoSuchInstance → ⊥
not_elsewhere e v r h x =
    let P : EventRefusal → Type 0 = λ y. IsReason (Some y) in
    subst P x (subst IsReason (sym h) (is_reason e v))

pub not_for_memory : (e : LoneEvent) (v : ServedSlots) (r : EventRefusal) → Some r ≡ refusal_by e v → r ≡ NoMemory → ⊥
not_for_memory e v r h x =
    let P : EventRefusal → Type 0 = λ y. IsReason (Some y) in
    subst P x (subst IsReason (sym h) (is_reason e v))

what_by : (b : Bool) (r : Option EventRefusal) → (if b then Some TimeWentBack else r) ≡ None → r ≡ None
what_by true r h = cc
what_by false r h = h

pub accepted_what : (e : LoneEvent) (v : ServedSlots) → refusal_by e v ≡ None → refusal_by_what e.what v.instance.jobs v.connections ≡ None
accepted_what e v h = what_by (nat_lt e.moment v.instance.moment) (refusal_by_what e.what v.instance.jobs v.connections) h

-- whatever the pool is
pub runs_or_not : (n : ℕ) (jobs : Jobs Job) (there : Bool) → ((p : Slots) → there ≡ is_some (running_job n (jobs_in p jobs))) →
    unless_running n jobs ≡ unless_there there
runs_or_not n jobs there e =
    ap unless_there (there_as (job_in []) (running_job n jobs) ∙ ap is_some (sym (shown-running [] n jobs)) ∙ sym (e []))

pub same_what : (w : WhatValue) (jobs others : Jobs Job) (vs : List ServedConnection) → ((p : Slots) → jobs_in p others ≡ jobs_in p jobs) →
    refusal_by_what w others vs ≡ refusal_by_what w jobs vs
same_what (opened c) jobs others vs same = refl
same_what (received c bytes) jobs others vs same = refl
same_what (took c n) jobs others vs same = refl
same_what (closed c) jobs others vs same = refl
same_what tick jobs others vs same = refl
same_what (ended job outcome) jobs others vs same =
    let there : Bool = is_some (running_job job jobs) in
    runs_or_not job others there (λ p. there_as (job_in p) (running_job job jobs) ∙ ap is_some (sym (shown-running p job jobs))
    ∙ sym (ap (λ (js : Jobs JobValue). is_some (running_job job js)) (same p)))
