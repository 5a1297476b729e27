-- One event: its instance and the others.
use Rattle.std.proofs.Common.{◌≡◌, ◌≢◌, ℕ, List, [], ◌∷◌, length, get_or, refl, ◌∙◌, sym, subst, arith, inl, inr}
use Rattle.std.specs.Prelude.{Bool, true, false, cond, nat_lt, ◌==◌, if◌then◌else◌, Some, None, Result, Ok, Err, IfOk}
use Rattle.std.specs.declared.alloc.Global.{Global}
use Rattle.std.specs.declared.vec.Vec.{Vec}
use Rattle.std.specs.List.{slice_get}
use Rattle.std.proofs.Math.ListN.{set}
use Rattle.std.proofs.lemmas.Bool.{cases_eq, eq-eqb, ne_eqb, lt-ltb, le-ltb, cond-true, cond-false}
use Rattle.std.proofs.lemmas.Option.{slice_get_within, get_or_from_slice_get, none-some, same_Some}
use Rattle.execution.specs.declared.orders.Order.{Order}
use Rattle.instance_core.specs.Slots.{state_in}
use Rattle.instance_core.specs.Turns.{AreOrders}
use Rattle.instance_core.specs.Visible.{Blob}
use Rattle.server_events.specs.Events.{EventValue, LoneEvent}
use Rattle.served_instance.specs.declared.refusal.EventRefusal.{EventRefusal}
use Rattle.served_instance.specs.Lone.{LoneInstance}
use Rattle.served_instance.specs.Refusals.{refusal_of, lone_step, lone_orders, IsRefusalOutcome}
use Rattle.served_instance.specs.StandsFor.{ServedState, IsServedInstance}
use Rattle.served_instance.specs.Slots.{ServedSlots, served_state_in, HasConnections}
use Rattle.blob_pool.specs.Slots.{Slots, text_at}
use Rattle.served_instance.specs.Ranges.{RangesEndWithin}
use Rattle.server_core.specs.Runs.{Run, run_step}
use Rattle.server_core.specs.Records.{RecordValue, IsRecord}
use Rattle.server_core.specs.LoneOutput.{stray_at}
use Rattle.server_core.specs.RunTo.{IsNotedAt, HasRun}
use Rattle.server_core.specs.StandsFor.{OrdersStand, StandsAt, instance_at}
use Rattle.server_core.proofs.Lists.{get-set_same, get-set_other, length-none}
use Rattle.server_core.proofs.Others.{connections_of}

-- while the parent of the event's instance has these texts
abbrev pub Own : List Blob → EventValue → List ServedState → List ServedState → Type 0
Own bs e vs ws = (l : LoneInstance) → StandsAt e.instance vs l → StandsAt e.instance ws (lone_step bs e.lone l)

abbrev pub Others : EventValue → List ServedState → List ServedState → Type 0
Others e vs ws = (j : ℕ) → j ≢ e.instance → instance_at j ws ≡ instance_at j vs

-- a run of another instance stands as it stood
other_run : (bs : List Blob) (e : EventValue) (vs ws : List ServedState) (records more : List RecordValue) (i : ℕ) (r : Run) →
    Others e vs ws → slice_get more i ≡ slice_get records i → i ≢ e.instance → HasRun i vs records r →
    HasRun i ws more (if e.instance == i then run_step bs r e.lone else r)
other_run bs e vs ws records more i r others same ne h =
    let b : (e.instance == i) ≡ false = ne_eqb e.instance i (λ is. ne (sym is)) in
    let it : HasRun i ws more r = record {
      stands = (h.stands.0, others i ne ∙ h.stands.1, h.stands.2);
      noted = (h.noted.0, same ∙ h.noted.1, h.noted.2);
    } in
    subst (λ (x : Bool). HasRun i ws more (cond x (run_step bs r e.lone) r)) (sym b) it

-- an event that names no instance
pub stray_runs : (bs : List Blob) (e : EventValue) (vs ws : List ServedState) (records : List RecordValue) → Own bs e vs ws →
    Others e vs ws → instance_at e.instance ws ≡ None → (i : ℕ) (r : Run) → HasRun i vs records r →
    HasRun i ws records (if e.instance == i then run_step bs r e.lone else r)
stray_runs bs e vs ws records own others none i r h =
    elim (cases_eq i e.instance) [
      | inl same ↦
          let s : StandsAt e.instance vs r.lone = subst (λ (n : ℕ). StandsAt n vs r.lone) same h.stands in
          let t = own r.lone s in
          absurd (none-some t.0 (sym none ∙ t.1))
      | inr ne ↦ other_run bs e vs ws records records i r others refl ne h
    ]

-- the orders that an event gave are those of its instance
abbrev pub OrdersGiven : List Blob → Result (Vec Order Global) EventRefusal → EventValue → List ServedState → List ServedState → Type 0
OrdersGiven bs outcome e vs ws =
    IfOk outcome (λ orders. (l : LoneInstance) → StandsAt e.instance vs l → OrdersStand e.instance ws orders (lone_orders bs e.lone l))

-- with what its jobs have in a pool
abbrev pub OrdersAre : List Blob → Result (Vec Order Global) EventRefusal → LoneEvent → Slots → ServedSlots → LoneInstance → Type 0
OrdersAre bs outcome e p served l = IfOk outcome (λ orders. AreOrders (state_in p served.instance).jobs orders.items (lone_orders bs e l))

pub orders_noted : (bs : List Blob) (outcome : Result (Vec Order Global) EventRefusal) (e : EventValue) (vs ws : List ServedState)
    (p : Slots) (served : ServedSlots) (l : LoneInstance) → instance_at e.instance ws ≡ Some (served_state_in p served) →
    OrdersGiven bs outcome e vs ws → StandsAt e.instance vs l → OrdersAre bs outcome e.lone p served l
orders_noted bs (Ok orders) e vs ws p served l here given s = given l s (served_state_in p served) here
orders_noted bs (Err refusal) e vs ws p served l here given s = tt

abbrev pub Notes : List Blob → LoneEvent → Result (Vec Order Global) EventRefusal → Slots → ServedSlots → RecordValue → RecordValue → Type 0
Notes bs e outcome p served old new =
    (r : Run) → IsRecord old r → IsRefusalOutcome outcome (refusal_of e r.lone) → HasConnections served (lone_step bs e r.lone) →
    OrdersAre bs outcome e p served r.lone → IsRecord new (run_step bs r e)

-- an event of an instance, that its record notes
pub noted_runs : (bs : List Blob) (outcome : Result (Vec Order Global) EventRefusal) (e : EventValue) (vs ws : List ServedState)
    (records : List RecordValue) (p : Slots) (served : ServedSlots) (d new : RecordValue) → Own bs e vs ws → Others e vs ws →
    ((l : LoneInstance) → StandsAt e.instance vs l → IsRefusalOutcome outcome (refusal_of e.lone l)) →
    instance_at e.instance ws ≡ Some (served_state_in p served) → RangesEndWithin (text_at p) served.connections →
    OrdersGiven bs outcome e vs ws → Notes bs e.lone outcome p served (get_or records e.instance d) new → (i : ℕ) (r : Run) →
    HasRun i vs records r → HasRun i ws (set records e.instance new) (if e.instance == i then run_step bs r e.lone else r)
noted_runs bs outcome e vs ws records p served d new own others gave here fit ordered notes i r h =
    elim (cases_eq i e.instance) [
      | inl same ↦
          let n : ℕ = e.instance in
          let s : StandsAt n vs r.lone = subst (λ (k : ℕ). StandsAt k vs r.lone) same h.stands in
          let k : IsNotedAt n records r = subst (λ (k : ℕ). IsNotedAt k records r) same h.noted in
          let t = own r.lone s in
          let is : t.0 ≡ served_state_in p served = same_Some t.0 (served_state_in p served) (sym t.1 ∙ here) in
          let old : k.0 ≡ get_or records n d = sym (get_or_from_slice_get records n k.0 d k.1) in
          let new_record : IsRecord new (run_step bs r e.lone) =
          notes r (subst (λ (v : RecordValue). IsRecord v r) old k.2) (gave r.lone s)
          (connections_of p served (lone_step bs e.lone r.lone) fit
          (subst (λ (v : ServedState). IsServedInstance v (lone_step bs e.lone r.lone)) is t.2))
          (orders_noted bs outcome e vs ws p served r.lone here ordered s) in
          let b : (e.instance == i) ≡ true = eq-eqb e.instance i (sym same) in
          let it : HasRun n ws (set records n new) (run_step bs r e.lone) = record {
            stands = t;
            noted = (new, get-set_same records n new (slice_get_within records n k.0 k.1), new_record);
          } in
          subst (λ (x : Bool). HasRun i ws (set records n new) (cond x (run_step bs r e.lone) r)) (sym b)
          (subst (λ (m : ℕ). HasRun m ws (set records n new) (run_step bs r e.lone)) (sym same) it)
      | inr ne ↦ other_run bs e vs ws records (set records e.instance new) i r others (get-set_other records e.instance i new ne) ne h
    ]

-- what is noted of an event that names no instance, and of one that names one
pub stray_told : (ws : List ServedState) (e : EventValue) (place count : ℕ) → instance_at e.instance ws ≡ None → length ws ≡ count →
    stray_at place count e ≡ place ∷ []
stray_told ws e place count none same =
    let le = length-none ws e.instance none in
    cond-false (nat_lt e.instance count) [] (place ∷ []) (le-ltb e.instance count (omega arith))

pub none_told : (ws : List ServedState) (served : ServedState) (e : EventValue) (place count : ℕ) →
    instance_at e.instance ws ≡ Some served → length ws ≡ count → stray_at place count e ≡ []
none_told ws served e place count here same =
    let lt = slice_get_within ws e.instance served here in
    cond-true (nat_lt e.instance count) [] (place ∷ []) (lt-ltb e.instance count (omega arith))
