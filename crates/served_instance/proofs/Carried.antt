-- What comes of an event for which no reason to refuse it stands: it is carried out and all is put,
-- or want of memory breaks something off.
use Rattle.std.proofs.Common.{◌≡◌, ℕ, List, map, refl, sym, ap, ◌∙◌, subst, arith}
use Rattle.std.specs.Prelude.{None}
use Rattle.std.specs.declared.alloc.Global.{Global}
use Rattle.std.specs.declared.vec.Vec.{Vec}
use Rattle.blob_pool.specs.Slots.{Slots, text_at}
use Rattle.execution.specs.declared.orders.Order.{Order}
use Rattle.execution.specs.Job.{JobValue}
use Rattle.job_queue.specs.Jobs.{Jobs}
use Rattle.job_queue.specs.Order.{AreJobs}
use Rattle.instance_core.specs.InstanceViewShown.{ViewValue, visible_in}
use Rattle.instance_core.specs.Slots.{InstanceSlots, IsInstanceInPool, holders_of_instance, state_in}
use Rattle.instance_core.specs.State.{InstanceState, at_moment}
use Rattle.instance_core.specs.Turns.{AreOrders}
use Rattle.instance_core.specs.Watching.{WatchAtRest}
use Rattle.server_events.specs.Events.{LoneEvent}
use Rattle.served_instance.specs.declared.open_connection.OpenConnection.{OpenConnection}
use Rattle.served_instance.specs.Acts.{IsDone, LentStands, slots_of}
use Rattle.served_instance.specs.Lent.{LentValue, IsLent, lent_slots}
use Rattle.served_instance.specs.Lone.{LoneInstance, after_pump, effect_of, lone_at_moment, lone_at_rest, orders_of_what}
use Rattle.served_instance.specs.Present.{refusal_by, refusal_by_what}
use Rattle.served_instance.specs.Ranges.{AreTidy, RangesEndWithin}
use Rattle.served_instance.specs.Refusals.{NeedsNoMemory, lone_orders, lone_step}
use Rattle.served_instance.specs.Short.{IsServedShort}
use Rattle.served_instance.specs.Shown.{connection_shown}
use Rattle.served_instance.specs.Slots.{ServedSlots, StandsIn, IsServedBeside, IsServedInPool, served_state_in}
use Rattle.served_instance.specs.StandsFor.{AreSettled, IsServedInstance}
use Rattle.served_instance.proofs.BrokenOff.{IsBroken, is_left}
use Rattle.served_instance.proofs.Kept.{instance_kept, moment_keeps}
use Rattle.served_instance.proofs.Refuses.{accepted_what, orders_accepted, same_what, seen_refusal, settled_accepted, stands_accepted}
use Rattle.served_instance.proofs.Serves.{pump_settles}
use Rattle.served_instance.proofs.Stands.{at_rest, came_by, served_by}
use Rattle.served_instance.proofs.Watches.{accepted_watched, short_watched}

abbrev pub lends : ViewValue → Slots → InstanceSlots → List OpenConnection → LentValue
lends parent p i os = record { parent = parent; pool = p; instance = i; connections = os }

-- what was kept as v has the moment of the event now, and is lent; i is the instance of before
pub record IsTaken (e : LoneEvent) (v : ServedSlots) (i : InstanceSlots) (a : LentValue) : Type 0 where
  pub seen : slots_of i a.connections ≡ v
  pub accepted : None ≡ refusal_by e v
  pub changed : (p : Slots) → state_in p a.instance ≡ at_moment e.moment (state_in p i)
  pub kept : IsServedInPool a.pool v

-- the connections were seen through a slice
pub is_taken : (e : LoneEvent) (v : ServedSlots) (i : InstanceSlots) (a : LentValue) (xs : List OpenConnection) → xs ≡ a.connections →
    slots_of i a.connections ≡ v → None ≡ refusal_by e (slots_of i xs) →
    ((p : Slots) → state_in p a.instance ≡ at_moment e.moment (state_in p i)) → IsServedInPool a.pool v → IsTaken e v i a
is_taken e v i a xs by_slice seen none changed kept = record {
  seen = seen;
  accepted = seen_refusal e i xs a.connections v None by_slice seen none;
  changed = changed;
  kept = kept;
}

-- ---- before it is carried out

pub moment_lent : (v : ServedSlots) (i : InstanceSlots) (a : LentValue) → slots_of i a.connections ≡ v → IsServedInPool a.pool v →
    IsServedBeside a.pool a.parent v → ((k : ℕ) → holders_of_instance a.instance k ≡ holders_of_instance i k) →
    (IsInstanceInPool a.pool i → IsInstanceInPool a.pool a.instance) → IsLent a
moment_lent v i a seen kept beside same own =
    let at = slots_of i a.connections in
    let here : IsServedInPool a.pool at = subst (λ (x : ServedSlots). IsServedInPool a.pool x) (sym seen) kept in
    let by : IsServedBeside a.pool a.parent at = subst (λ (x : ServedSlots). IsServedBeside a.pool a.parent x) (sym seen) beside in
    record {
      kept = moment_keeps a.pool i a.instance (map connection_shown a.connections) here same (own (instance_kept a.pool at at refl here));
      beside = record { counted = λ k. omega (arith, by.counted k, same k); named = by.named };
    }

pub still_accepted : (e : LoneEvent) (v : ServedSlots) (i : InstanceSlots) (a : LentValue) → IsTaken e v i a →
    refusal_by_what e.what a.instance.jobs (map connection_shown a.connections) ≡ None
still_accepted e v i a t =
    same_what e.what i.jobs a.instance.jobs (map connection_shown a.connections) (λ p. ap (λ (s : InstanceState). s.jobs) (t.changed p))
    ∙ accepted_what e (slots_of i a.connections) (subst (λ (x : ServedSlots). refusal_by e x ≡ None) (sym t.seen) (sym t.accepted))

came : (e : LoneEvent) (v : ServedSlots) (i : InstanceSlots) (a : LentValue) (l : LoneInstance) → IsTaken e v i a →
    IsServedInstance (served_state_in a.pool v) l → LentStands a (lone_at_moment e.moment (visible_in a.pool a.parent) l)
came e v i a l t s =
    came_by a.parent a.pool i a.instance a.connections v e.moment l t.seen (t.changed a.pool) t.kept.fit s

had_jobs : (e : LoneEvent) (v : ServedSlots) (i : InstanceSlots) (a : LentValue) (l : LoneInstance) → IsTaken e v i a →
    IsServedInstance (served_state_in a.pool v) l → AreJobs l.state.jobs
had_jobs e v i a l t s = subst (λ (x : InstanceState). AreJobs x.jobs) s.state t.kept.within.instance.jobs

-- ---- it is carried out

acted : (e : LoneEvent) (v : ServedSlots) (i : InstanceSlots) (a b : LentValue) (orders : Vec Order Global) (l : LoneInstance) →
    IsTaken e v i a → IsDone e.what a b orders → IsServedInstance (served_state_in a.pool v) l →
    LentStands b (effect_of e.what (lone_at_moment e.moment (visible_in a.pool a.parent) l))
acted e v i a b orders l t done s =
    let m = lone_at_moment e.moment (visible_in a.pool a.parent) l in
    let rest : WatchAtRest m.state = record { given = s.watched.given; busy = s.watched.busy } in
    done.acts m rest (came e v i a l t s)

rested : (e : LoneEvent) (v : ServedSlots) (i : InstanceSlots) (a b : LentValue) (orders : Vec Order Global) (l : LoneInstance) →
    IsTaken e v i a → IsDone e.what a b orders → IsServedInstance (served_state_in a.pool v) l →
    StandsIn b.pool (lent_slots b) (lone_at_rest (effect_of e.what (lone_at_moment e.moment (visible_in a.pool a.parent) l)))
rested e v i a b orders l t done s =
    let m = effect_of e.what (lone_at_moment e.moment (visible_in a.pool a.parent) l) in
    let st = at_rest b.parent b.pool b.instance b.connections m (acted e v i a b orders l t done s) in
    record { state = st.state; connections = st.connections }

-- and then all was put
abbrev pub Pumps : Slots → ServedSlots → Slots → ServedSlots → Type 0
Pumps p v q w = (l : LoneInstance) → StandsIn p v l → StandsIn q w (after_pump l)

pub record IsPumped (p : Slots) (v : ServedSlots) (q : Slots) (w : ServedSlots) : Type 0 where
  pub stands : Pumps p v q w
  pub tidy : AreTidy w.connections
  pub fit : RangesEndWithin (text_at q) w.connections

pub done_stands : (e : LoneEvent) (v : ServedSlots) (i : InstanceSlots) (a b : LentValue) (orders : Vec Order Global) (q : Slots)
    (w : ServedSlots) (l : LoneInstance) → IsTaken e v i a → IsDone e.what a b orders → IsPumped b.pool (lent_slots b) q w →
    IsServedInstance (served_state_in a.pool v) l → IsServedInstance (served_state_in q w) (lone_step (visible_in a.pool a.parent) e l)
done_stands e v i a b orders q w l t done pumped s =
    let seen = visible_in a.pool a.parent in
    let k = lone_at_rest (effect_of e.what (lone_at_moment e.moment seen l)) in
    let here = served_by q w (after_pump k) (accepted_watched seen e l (had_jobs e v i a l t s) s.watched) pumped.tidy pumped.fit
    (pumped.stands k (rested e v i a b orders l t done s)) in
    stands_accepted seen a.pool e v (served_state_in q w) l t.accepted t.kept.fit s here

pub done_settled : (e : LoneEvent) (v : ServedSlots) (i : InstanceSlots) (a b : LentValue) (orders : Vec Order Global) (l : LoneInstance) →
    IsTaken e v i a → IsDone e.what a b orders → IsServedInstance (served_state_in a.pool v) l →
    AreSettled (lone_step (visible_in a.pool a.parent) e l)
done_settled e v i a b orders l t done s =
    let seen = visible_in a.pool a.parent in
    settled_accepted seen a.pool e v l t.accepted t.kept.fit s
    (pump_settles (text_at b.pool) (map connection_shown b.connections) (effect_of e.what (lone_at_moment e.moment seen l)).connections
    (acted e v i a b orders l t done s).connections)

-- to put is nothing to the jobs
pub done_orders : (e : LoneEvent) (v : ServedSlots) (i : InstanceSlots) (a b : LentValue) (orders : Vec Order Global) (q : Slots)
    (w : ServedSlots) (l : LoneInstance) → IsTaken e v i a → IsDone e.what a b orders → IsPumped b.pool (lent_slots b) q w →
    IsServedInstance (served_state_in a.pool v) l →
    AreOrders (state_in q w.instance).jobs orders.items (lone_orders (visible_in a.pool a.parent) e l)
done_orders e v i a b orders q w l t done pumped s =
    let seen = visible_in a.pool a.parent in
    let m = lone_at_moment e.moment seen l in
    let here = rested e v i a b orders l t done s in
    let after = pumped.stands (lone_at_rest (effect_of e.what m)) here in
    let same : (state_in q w.instance).jobs ≡ (state_in b.pool b.instance).jobs =
    ap (λ (x : InstanceState). x.jobs) after.state ∙ sym (ap (λ (x : InstanceState). x.jobs) here.state) in
    orders_accepted seen a.pool e v l (state_in q w.instance).jobs orders.items t.accepted t.kept.fit s
    (subst (λ (js : Jobs JobValue). AreOrders js orders.items (orders_of_what e.what m)) (sym same)
    (done.orders m (came e v i a l t s)))

-- ---- memory is refused

pub broken_short : (e : LoneEvent) (v : ServedSlots) (i : InstanceSlots) (a b d : LentValue) (l : LoneInstance) → IsTaken e v i a →
    (NeedsNoMemory e.what → ⊥) → IsBroken e.what a b d → IsServedInstance (served_state_in a.pool v) l →
    IsServedShort (visible_in a.pool a.parent) e l (served_state_in d.pool (lent_slots d))
broken_short e v i a b d l t need broken s =
    let seen = visible_in a.pool a.parent in
    let left = is_left e.what a b d (lone_at_moment e.moment seen l) need
    (λ n cut. short_watched seen e l n cut (had_jobs e v i a l t s) s.watched) broken (came e v i a l t s) in
    record { left = left.0; short = left.1; stands = left.2 }
