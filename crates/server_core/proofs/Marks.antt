-- Runs of marked events, one event more.
use Rattle.std.proofs.Common.{◌≡◌, ◌≢◌, ℕ, ◌+◌, List, [], ◌∷◌, ◌++◌, length, map, get_or, refl, ap, ◌∙◌, sym, subst, arith, append-nil, inl, inr}
use Rattle.std.specs.Prelude.{IfSome, Result, Bool, true, false, cond, not, filter, ◌==◌, ◌&&◌, Option, Some, None, fold}
use Rattle.std.specs.Option.{option_map}
use Rattle.std.specs.List.{slice_get, AllByRecursion}
use Rattle.std.proofs.Math.ListN.{set}
use Rattle.std.proofs.lemmas.Bool.{true≢false}
use Rattle.std.proofs.lemmas.List.{length_push, map_push}
use Rattle.std.proofs.lemmas.Option.{slice_get_within, get_or_from_slice_get}
use Rattle.std.specs.declared.alloc.Global.{Global}
use Rattle.std.specs.declared.vec.Vec.{Vec}
use Rattle.execution.specs.declared.orders.Order.{Order}
use Rattle.server_events.specs.Configs.{ConfigValue, parent_of}
use Rattle.server_events.specs.Faults.{AreParents}
use Rattle.instance_core.specs.Visible.{Blob}
use Rattle.server_events.specs.Events.{EventValue, LoneEvent, WhatValue, opened, received, took, closed, tick, ended}
use Rattle.served_instance.specs.declared.refusal.EventRefusal.{EventRefusal}
use Rattle.served_instance.specs.declared.refusal.EventRefusal.TheVariants.{NoMemory}
use Rattle.served_instance.specs.Connections.{LoneConnection, AreApart, open_ones, with_closed, all_closed}
use Rattle.served_instance.specs.declared.broken.Broken.{Broken}
use Rattle.served_instance.specs.declared.broken.Broken.TheVariants as Off
use Rattle.served_instance.specs.Cuts.{broken_by}
use Rattle.served_instance.specs.Lone.{LoneInstance, lone_at_moment, sent_bytes_on}
use Rattle.served_instance.specs.Refusals.{refusal_of, lone_step, IsRefusalOutcome}
use Rattle.served_instance.specs.Slots.{ServedSlots, served_state_in}
use Rattle.served_instance.specs.StandsFor.{IsServedInstance}
use Rattle.blob_pool.specs.Slots.{Slots, text_at}
use Rattle.served_instance.specs.Ranges.{RangesEndWithin}
use Rattle.served_instance.specs.Short.{IsCutEffect}
use Rattle.served_instance.specs.StandsFor.{ServedState}
use Rattle.server_core.specs.declared.record.OpenRecord.{OpenRecord}
use Rattle.server_core.specs.LoneOutput.{stray_at, strays, lone_output}
use Rattle.server_core.specs.Marked.{MarkedEvent, event_of, IsShortStep, IsRunStep, IsParentStep, IsFamilyStep, IsRun, StandsShortAt, IsRunOutput, IsNotForMemory}
use Rattle.server_core.specs.Notes.{open_records_left}
use Rattle.server_core.specs.Outputs.{InstanceOutputValue}
use Rattle.server_core.specs.Records.{RecordValue, IsRecord, IsTakenFrom, open_from}
use Rattle.server_core.specs.Families.{Family, FamilyEvent, own_event, parent_event, family_in, family_event, family_events}
use Rattle.server_core.specs.Parents.{parent_texts}
use Rattle.server_core.specs.Runs.{Run, FamilyRun, refusals_at, run_step, new_family_run, texts_of_parent, family_step, run_of_family, output_of_run}
use Rattle.server_core.specs.RunSoFar.{RunValue, HasTaken, HasCome, HasPassed}
use Rattle.server_core.specs.RunTo.{IsNotedAt, HasRun, HasParentRun, HasFamilyRun, HasGoneOn}
use Rattle.server_core.specs.StandsFor.{StandsAt, instance_at}
use Rattle.server_core.proofs.Changes.{known_from, known_closed, known_same}
use Rattle.server_core.proofs.Fronts.{apart_after, all_within, fronts_closed, fronts_taken}
use Rattle.server_core.proofs.Lists.{get-set_same, get-set_other, length-none}
use Rattle.server_core.proofs.Families.{whose, events_more, parent_there, parent_apart, parents_read, own_read}
use Rattle.server_core.proofs.Runs.{strays_more}
use Rattle.server_core.proofs.Steps.{Own, Others, Notes, OrdersGiven, orders_noted}
use Rattle.server_core.proofs.Others.{connections_of}
use Rattle.std.proofs.lemmas.Option.{same_Some}

-- ---- a run

pub run_push : (es : List MarkedEvent) (f g n : FamilyRun) (e : MarkedEvent) → IsRun f es g → IsFamilyStep g e n → IsRun f (es ++ e ∷ []) n
run_push [] f g n e h step = (n, subst (λ (k : FamilyRun). IsFamilyStep k e n) h step, refl)
run_push (x ∷ es) f g n e h step = (h.0, h.1, run_push es h.0 g n e h.2 step)

-- what the event makes of each instance and its record, also where memory was refused
abbrev pub Gone : List Blob → EventValue → List ServedState → List RecordValue → List ServedState → List RecordValue → Type 0
Gone bs e vs records ws more = (j : ℕ) (r : Run) → HasRun j vs records r → HasGoneOn bs e r j ws more

-- a parent whose event it is not
beside_past : (bs : List Blob) (e : EventValue) (vs ws : List ServedState) (records more : List RecordValue) (parent : Option ℕ)
    (r : Option Run) → Gone bs e vs records ws more → ((p : ℕ) → parent ≡ Some p → e.instance ≢ p) → HasParentRun parent vs records r →
    HasParentRun parent ws more r
beside_past bs e vs ws records more None r runs ne h = h
beside_past bs e vs ws records more (Some p) None runs ne h = h
beside_past bs e vs ws records more (Some p) (Some r) runs ne h = (runs p r h).other (ne p refl)

-- what a parent whose event it is came to
record IsBesideStep (p : ℕ) (e : EventValue) (r : Option Run) (ws : List ServedState) (more : List RecordValue) : Type 0 where
  marked : Bool
  run : Option Run
  step : IsParentStep r e.lone marked run
  there : HasParentRun (Some p) ws more run

beside_step : (bs : List Blob) (e : EventValue) (vs ws : List ServedState) (records more : List RecordValue) (p : ℕ) (r : Option Run) →
    Gone bs e vs records ws more → bs ≡ [] → e.instance ≡ p → HasParentRun (Some p) vs records r → IsBesideStep p e r ws more
beside_step bs e vs ws records more p None runs none at h = absurd h
beside_step bs e vs ws records more p (Some r) runs none at h =
    let did = (runs p r h).own at in
    record {
      marked = did.marked;
      run = Some did.run;
      step =
          subst (λ (ts : List Blob). IsRunStep ts r e.lone did.marked did.run) none did.step;
      there = did.there;
    }

come_on : (family : Family) (i : ℕ) (parent : Option ℕ) (events : List EventValue) (e : EventValue) (v w : RunValue) →
    HasCome family (family_events i parent events) i parent v → AreParents v.server.parents → slice_get v.server.parents i ≡ Some parent →
    Gone (parent_texts e.instance v.server) e v.server.instances v.records w.server.instances w.records
    → HasCome family (family_events i parent (events ++ e ∷ [])) i parent w
come_on family i parent events e v w h good there runs = elim (whose i parent e) [
  | inl own ↦
      let did = (runs i h.came.run.own h.there.own).own own.at in
      let read : (parent_texts e.instance v.server) ≡ texts_of_parent h.came.run.parent =
      ap (λ (k : ℕ). parent_texts k v.server) own.at ∙ own_read v.server i parent v.records h.came.run.parent there h.there.beside in
      let g : FamilyRun = record h.came.run { own = did.run } in
      more (own_event e.lone) did.marked g own.is
      (subst (λ (ts : List Blob). IsRunStep ts h.came.run.own e.lone did.marked did.run) read did.step, refl)
      (record {
        own = did.there;
        beside = beside_past
            (parent_texts e.instance v.server) e v.server.instances w.server.instances v.records w.records parent h.came.run.parent runs
            (λ p is at. parent_apart v.server.parents i p parent good there is (sym at ∙ own.at)) h.there.beside;
      })
  | inr (inl parents) ↦
      let p = parents.number in
      let none : (parent_texts e.instance v.server) ≡ [] =
      ap (λ (k : ℕ). parent_texts k v.server) parents.at ∙ parents_read v.server i p parent good there parents.there in
      let before : HasParentRun (Some p) v.server.instances v.records h.came.run.parent =
      subst (λ (o : Option ℕ). HasParentRun o v.server.instances v.records h.came.run.parent) parents.there h.there.beside in
      let did = beside_step (parent_texts e.instance v.server) e v.server.instances w.server.instances v.records w.records p
      h.came.run.parent runs none parents.at before in
      let g : FamilyRun = record h.came.run { parent = did.run } in
      more (parent_event e.lone) did.marked g parents.is (refl, did.step)
      (record {
        own = (runs i h.came.run.own h.there.own).other parents.other;
        beside =
            subst (λ (o : Option ℕ). HasParentRun o w.server.instances w.records did.run) (sym parents.there) did.there;
      })
  | inr (inr strange) ↦
      let same : map event_of h.came.marked ≡ family_events i parent (events ++ e ∷ []) =
      h.came.same ∙ sym (events_more i parent events e ∙ ap (λ (es : List FamilyEvent). family_events i parent events ++ es) strange.is
      ∙ append-nil (family_events i parent events)) in
      record {
        came = record { marked = h.came.marked; run = h.came.run; same = same; steps = h.came.steps };
        there = record {
          own = (runs i h.came.run.own h.there.own).other strange.other;
          beside =
              beside_past (parent_texts e.instance v.server) e v.server.instances w.server.instances v.records w.records parent
              h.came.run.parent runs strange.others h.there.beside;
        };
      }
]
  where
    more : (x : FamilyEvent) (marked : Bool) (g : FamilyRun) → family_event i parent e ≡ x ∷ [] → IsFamilyStep h.came.run (x, marked) g →
        HasFamilyRun i parent w.server.instances w.records g → HasCome family (family_events i parent (events ++ e ∷ [])) i parent w
    more x marked g is step came = record {
      came = record {
        marked = h.came.marked ++ (x, marked) ∷ [];
        run = g;
        same = map_push event_of h.came.marked (x, marked)
            ∙ ap (λ (es : List FamilyEvent). es ++ x ∷ []) h.came.same
            ∙ sym (events_more i parent events e ∙ ap (λ (es : List FamilyEvent). family_events i parent events ++ es) is);
        steps = run_push h.came.marked (new_family_run family) h.came.run g (x, marked) h.came.steps step;
      };
      there = came;
    }

-- a run after one more event
pub passed_more : (configs : List ConfigValue) (events : List EventValue) (e : EventValue) (v w : RunValue) → HasPassed configs events v
    → w.count ≡ v.count + 1 → length w.server.instances ≡ length v.server.instances
    → w.server.parents ≡ v.server.parents → AreParents v.server.parents
    → Gone (parent_texts e.instance v.server) e v.server.instances v.records w.server.instances w.records
    → w.strays ≡ v.strays ++ stray_at w.count (length v.server.instances) e
    → HasPassed configs (events ++ e ∷ []) w
passed_more configs events e v w h count many stay good runs strayed = record {
  many = many ∙ h.many;
  count = count ∙ ap (λ n. n + 1) h.count ∙ sym (length_push events e);
  parents = stay ∙ h.parents;
  own = λ i config is. come_on (family_in configs config) i (parent_of configs config) events e v w (h.own i config is) good
      (parent_there configs v.server.parents i config h.parents is) runs;
  strays = strayed
      ∙ ap (λ ps. ps ++ stray_at w.count (length v.server.instances) e) h.strays
      ∙ ap (λ n. strays configs events ++ stray_at w.count n e) h.many
      ∙ sym (strays_more configs events e w.count (count ∙ ap (λ n. n + 1) h.count));
}

-- nothing has happened yet
pub passed_begun : (configs : List ConfigValue) (v : RunValue) → HasTaken configs [] v → HasPassed configs [] v
passed_begun configs v h = record {
  many = h.many;
  count = h.count;
  parents = h.parents;
  own = λ i config is. record {
    came = record { marked = []; run = new_family_run (family_in configs config); same = refl; steps = refl };
    there = h.alone i config is;
  };
  strays = h.strays;
}

-- ---- one event: its instance and the others

other_on : (e : EventValue) (vs ws : List ServedState) (records more : List RecordValue) (i : ℕ) (r : Run) → Others e vs ws →
    slice_get more i ≡ slice_get records i → e.instance ≢ i → HasRun i vs records r → HasRun i ws more r
other_on e vs ws records more i r others same ne h = record {
  stands = (h.stands.0, others i (λ is. ne (sym is)) ∙ h.stands.1, h.stands.2);
  noted = (h.noted.0, same ∙ h.noted.1, h.noted.2);
}

-- an event that names no instance
pub stray_on : (bs : List Blob) (e : EventValue) (vs ws : List ServedState) (records : List RecordValue) → length ws ≡ length vs →
    Others e vs ws → instance_at e.instance ws ≡ None → (i : ℕ) (r : Run) → HasRun i vs records r → HasGoneOn bs e r i ws records
stray_on bs e vs ws records many others none i r h = record {
  own = λ same.
      let lt = slice_get_within vs i h.stands.0 h.stands.1 in
      let le = length-none ws e.instance none in
      absurd (omega (arith, lt, le, many, same));
  other = λ ne. other_on e vs ws records records i r others refl ne h;
}

-- what the instance of the event and its record came to
pub record IsOwnStep (bs : List Blob) (e : EventValue) (r : Run) (ws : List ServedState) (new : RecordValue) : Type 0 where
  pub marked : Bool
  pub run : Run
  pub step : IsRunStep bs r e.lone marked run
  pub stands : StandsAt e.instance ws run.lone
  pub noted : IsRecord new run

pub gone_on : (bs : List Blob) (e : EventValue) (vs ws : List ServedState) (records : List RecordValue) (d new : RecordValue) →
    Others e vs ws → ((r : Run) → StandsAt e.instance vs r.lone → IsRecord (get_or records e.instance d) r → IsOwnStep bs e r ws new) →
    (i : ℕ) (r : Run) → HasRun i vs records r → HasGoneOn bs e r i ws (set records e.instance new)
gone_on bs e vs ws records d new others own i r h = record {
  own = λ same.
      let n : ℕ = e.instance in
      let s : StandsAt n vs r.lone = subst (λ (k : ℕ). StandsAt k vs r.lone) (sym same) h.stands in
      let k : IsNotedAt n records r = subst (λ (k : ℕ). IsNotedAt k records r) (sym same) h.noted in
      let old : k.0 ≡ get_or records n d = sym (get_or_from_slice_get records n k.0 d k.1) in
      let did = own r s (subst (λ (v : RecordValue). IsRecord v r) old k.2) in
      let there : HasRun n ws (set records n new) did.run = record {
        stands = did.stands;
        noted = (new, get-set_same records n new (slice_get_within records n k.0 k.1), did.noted);
      } in
      record {
        marked = did.marked;
        run = did.run;
        step = did.step;
        there = subst (λ (m : ℕ). HasRun m ws (set records n new) did.run) same there;
      };
  other = λ ne. other_on e vs ws records (set records e.instance new) i r others
      (get-set_other records e.instance i new (λ is. ne (sym is))) ne h;
}

-- an event that was not refused for want of memory, which its record notes
pub noted_on : (bs : List Blob) (outcome : Result (Vec Order Global) EventRefusal) (e : EventValue) (vs ws : List ServedState)
    (records : List RecordValue) (p : Slots) (served : ServedSlots) (d new : RecordValue) → Own bs e vs ws → Others e vs ws →
    ((l : LoneInstance) → StandsAt e.instance vs l → IsRefusalOutcome outcome (refusal_of e.lone l)) →
    instance_at e.instance ws ≡ Some (served_state_in p served) → RangesEndWithin (text_at p) served.connections →
    OrdersGiven bs outcome e vs ws → Notes bs e.lone outcome p served (get_or records e.instance d) new →
    (i : ℕ) (r : Run) → HasRun i vs records r → HasGoneOn bs e r i ws (set records e.instance new)
noted_on bs outcome e vs ws records p served d new own others gave here fit ordered notes =
    gone_on bs e vs ws records d new others (λ r s old.
    let t = own r.lone s in
    let is : t.0 ≡ served_state_in p served = same_Some t.0 (served_state_in p served) (sym t.1 ∙ here) in
    record {
      marked = false;
      run = run_step bs r e.lone;
      step = refl;
      stands = t;
      noted = notes r old (gave r.lone s) (connections_of p served (lone_step bs e.lone r.lone) fit
          (subst (λ (v : ServedState). IsServedInstance v (lone_step bs e.lone r.lone)) is t.2))
          (orders_noted bs outcome e vs ws p served r.lone here ordered s);
    })

-- the run after an event that was done in part
abbrev short_run : Run → LoneInstance → Run
short_run r m = record { lone = m; count = r.count + 1; orders = r.orders; refusals = r.refusals ++ (r.count + 1, NoMemory) ∷ [] }

-- an event that was refused for want of memory, which its record notes so
pub short_on : (bs : List Blob) (e : EventValue) (vs ws : List ServedState) (records : List RecordValue) (d new : RecordValue) →
    ((l : LoneInstance) → StandsAt e.instance vs l → StandsShortAt e.instance bs e.lone l ws) → Others e vs ws →
    ((l : LoneInstance) → StandsAt e.instance vs l → refusal_of e.lone l ≡ None) →
    ((r q : Run) → IsRecord (get_or records e.instance d) r → IsShortStep bs r e.lone q → IsRecord new q) → (i : ℕ) (r : Run) →
    HasRun i vs records r → HasGoneOn bs e r i ws (set records e.instance new)
short_on bs e vs ws records d new short others gave notes =
    gone_on bs e vs ws records d new others (λ r s old.
    let t = short r.lone s in
    let step : IsShortStep bs r e.lone (short_run r t.left) =
    record { accepted = gave r.lone s; lone = t.short; count = refl; orders = refl; refusals = refl } in
    record {
      marked = true;
      run = short_run r t.left;
      step = step;
      stands = t.stands;
      noted = notes r (short_run r t.left) old step;
    })

-- ---- the record of an event that was done in part

abbrev connections_left : Broken → List LoneConnection → List LoneConnection
connections_left Off.Nothing ks = ks
connections_left (Off.One c) ks = with_closed c ks
connections_left Off.All ks = all_closed ks
connections_left (Off.AllAndJob n) ks = all_closed ks

left_by : (what : WhatValue) (l m : LoneInstance) → IsCutEffect what l m → m.connections ≡ connections_left (broken_by what) l.connections
left_by (opened c) l m h = ap (λ (k : LoneInstance). k.connections) h
left_by (received c bytes) l m h = ap (λ (k : LoneInstance). k.connections) h.gone
left_by (took c n) l m h = absurd h
left_by (closed c) l m h = absurd h
left_by tick l m h = ap (λ (k : LoneInstance). k.connections) h
left_by (ended job outcome) l m h = ap (λ (k : LoneInstance). k.connections) h.gone

sent_by : (b : Bool) (k : LoneConnection) (ks xs : List LoneConnection) → map sent_bytes_on xs ≡ map sent_bytes_on ks →
    map sent_bytes_on (cond b (record k { is_open = false } ∷ ks) (k ∷ xs)) ≡ map sent_bytes_on (k ∷ ks)
sent_by true k ks xs h = refl
sent_by false k ks xs h = ap (λ (ss : List (ℕ × List ℕ)). sent_bytes_on k ∷ ss) h

sent_closed : (c : ℕ) (ks : List LoneConnection) → map sent_bytes_on (with_closed c ks) ≡ map sent_bytes_on ks
sent_closed c [] = refl
sent_closed c (k ∷ ks) = sent_by (k.is_open && (k.number == c)) k ks (with_closed c ks) (sent_closed c ks)

-- where all are closed
sent_all_closed : (ks : List LoneConnection) → map sent_bytes_on (all_closed ks) ≡ map sent_bytes_on ks
sent_all_closed [] = refl
sent_all_closed (k ∷ ks) = ap (λ (ss : List (ℕ × List ℕ)). sent_bytes_on k ∷ ss) (sent_all_closed ks)

none_live : (place : ℕ) (ks : List LoneConnection) → open_from place (all_closed ks) ≡ []
none_live place [] = refl
none_live place (k ∷ ks) = none_live (place + 1) ks

none_open : (ks : List LoneConnection) → open_ones (all_closed ks) ≡ []
none_open [] = refl
none_open (k ∷ ks) = none_open ks

closed_apart : (ks : List LoneConnection) → AreApart (all_closed ks)
closed_apart [] = tt
closed_apart (k ∷ ks) = (λ is. absurd (true≢false (sym is)), closed_apart ks)

record AreLeft (o : Broken) (live : List OpenRecord) (ks : List LoneConnection) : Type 0 where
  pub sent : map sent_bytes_on (connections_left o ks) ≡ map sent_bytes_on ks
  pub live_is : open_records_left o live ≡ open_from 0 (connections_left o ks)
  pub taken : AllByRecursion IsTakenFrom (open_ones (connections_left o ks))
  pub apart : AreApart (connections_left o ks)

all_left : (live : List OpenRecord) (ks : List LoneConnection) → AreLeft Off.All live ks
all_left live ks = record {
  sent = sent_all_closed ks;
  live_is = sym (none_live 0 ks);
  taken = subst (AllByRecursion IsTakenFrom) (sym (none_open ks)) tt;
  apart = closed_apart ks;
}

are_left : (o : Broken) (live : List OpenRecord) (ks : List LoneConnection) → live ≡ open_from 0 ks →
    AllByRecursion IsTakenFrom (open_ones ks) → AreApart ks → AreLeft o live ks
are_left Off.Nothing live ks is taken apart = record { sent = refl; live_is = is; taken = taken; apart = apart }
are_left (Off.One c) live ks is taken apart = record {
  sent = sent_closed c ks;
  live_is = ap (filter (λ (o : OpenRecord). not (o.number == c))) is
      ∙ sym (known_closed c 0 ks apart)
      ∙ ap (λ (ss : List (ℕ × List ℕ)). known_from 0 ss (with_closed c ks)) (sym (sent_closed c ks))
      ∙ known_same 0 (with_closed c ks);
  taken = fronts_taken (map sent_bytes_on ks) (with_closed c ks) (fronts_closed c ks (all_within ks taken));
  apart = apart_after 0 (closed c) ks tt apart;
}
are_left Off.All live ks is taken apart = all_left live ks
are_left (Off.AllAndJob n) live ks is taken apart =
    let a = all_left live ks in
    record { sent = a.sent; live_is = a.live_is; taken = a.taken; apart = a.apart }

pub short_noted : (v : RecordValue) (r q : Run) (bs : List Blob) (e : LoneEvent) (o : Broken) → o ≡ broken_by e.what → IsRecord v r →
    IsShortStep bs r e q →
    IsRecord (record {
      count = v.count + 1;
      orders = v.orders;
      refusals = v.refusals ++ (v.count + 1, NoMemory) ∷ [];
      sent = v.sent;
      live =
          open_records_left o v.live;
    }) q
short_noted v r q bs e o is st step =
    let ks = r.lone.connections in
    let left : q.lone.connections ≡ connections_left o ks =
    left_by e.what (lone_at_moment e.moment bs r.lone) q.lone step.lone ∙ ap (λ (x : Broken). connections_left x ks) (sym is) in
    let a = are_left o v.live ks st.live st.taken st.apart in
    record {
      count = ap (λ n. n + 1) st.count ∙ sym step.count;
      orders = st.orders ∙ sym step.orders;
      refusals = ap (λ (xs : List (ℕ × EventRefusal)). xs ++ (v.count + 1, NoMemory) ∷ []) st.refusals
          ∙ ap (λ (n : ℕ). r.refusals ++ (n + 1, NoMemory) ∷ []) st.count
          ∙ sym step.refusals;
      sent = st.sent ∙ sym a.sent ∙ ap (map sent_bytes_on) (sym left);
      live = a.live_is ∙ ap (open_from 0) (sym left);
      taken = subst (λ (xs : List LoneConnection). AllByRecursion IsTakenFrom (open_ones xs)) (sym left) a.taken;
      apart = subst AreApart (sym left) a.apart;
    }

-- ---- where none was refused for want of memory

push_refused : (xs ys : List (ℕ × EventRefusal)) → AllByRecursion IsNotForMemory (xs ++ ys) →
    AllByRecursion IsNotForMemory xs × AllByRecursion IsNotForMemory ys
push_refused [] ys h = (tt, h)
push_refused (x ∷ xs) ys h = let later = push_refused xs ys h.1 in ((h.0, later.0), later.1)

-- refusals that are recorded stay
step_keeps : (bs : List Blob) (r q : Run) (e : LoneEvent) (marked : Bool) → IsRunStep bs r e marked q →
    (more : List (ℕ × EventRefusal)) × (q.refusals ≡ r.refusals ++ more)
step_keeps bs r q e false h = (refusals_at (r.count + 1) (refusal_of e r.lone), ap (λ (k : Run). k.refusals) h)
step_keeps bs r q e true h = ((r.count + 1, NoMemory) ∷ [], h.refusals)

none_before : (bs : List Blob) (r q : Run) (e : LoneEvent) (marked : Bool) → IsRunStep bs r e marked q →
    AllByRecursion IsNotForMemory q.refusals → AllByRecursion IsNotForMemory r.refusals
none_before bs r q e marked h none =
    let more = step_keeps bs r q e marked h in
    (push_refused r.refusals more.0 (subst (AllByRecursion IsNotForMemory) more.1 none)).0

step_alone : (bs : List Blob) (r q : Run) (e : LoneEvent) (marked : Bool) → IsRunStep bs r e marked q →
    AllByRecursion IsNotForMemory q.refusals → q ≡ run_step bs r e
step_alone bs r q e false h none = h
step_alone bs r q e true h none =
    absurd ((push_refused r.refusals ((r.count + 1, NoMemory) ∷ []) (subst (AllByRecursion IsNotForMemory) h.refusals none)).1.0 refl)

-- no event of the instance and none of its parent was refused for want of memory
abbrev NoneOf : Option Run → Type 0
NoneOf r = IfSome r (λ k. AllByRecursion IsNotForMemory k.refusals)

record NoneRefused (f : FamilyRun) : Type 0 where
  own : AllByRecursion IsNotForMemory f.own.refusals
  beside : NoneOf f.parent

parent_before : (r q : Option Run) (e : LoneEvent) (marked : Bool) → IsParentStep r e marked q → NoneOf q → NoneOf r
parent_before None q e marked h none = tt
parent_before (Some r) None e marked h none = absurd h
parent_before (Some r) (Some q) e marked h none = none_before [] r q e marked h none

parent_alone : (r q : Option Run) (e : LoneEvent) (marked : Bool) → IsParentStep r e marked q → NoneOf q →
    q ≡ option_map (λ k. run_step [] k e) r
parent_alone None q e marked h none = h
parent_alone (Some r) None e marked h none = absurd h
parent_alone (Some r) (Some q) e marked h none = ap Some (step_alone [] r q e marked h none)

family_before : (f g : FamilyRun) (e : MarkedEvent) → IsFamilyStep f e g → NoneRefused g → NoneRefused f
family_before f g (own_event e, marked) h none = record {
  own = none_before (texts_of_parent f.parent) f.own g.own e marked h.0 none.own;
  beside = subst NoneOf h.1 none.beside;
}
family_before f g (parent_event e, marked) h none = record {
  own = subst (λ (k : Run). AllByRecursion IsNotForMemory k.refusals) h.0 none.own;
  beside = parent_before f.parent g.parent e marked h.1 none.beside;
}

abbrev made : Run → Option Run → FamilyRun
made r p = record { own = r; parent = p }

both_are : (f g : FamilyRun) → f.own ≡ g.own → f.parent ≡ g.parent → f ≡ g
both_are f g own beside = ap (λ (r : Run). made r f.parent) own ∙ ap (made g.own) beside

family_alone : (f g : FamilyRun) (e : MarkedEvent) → IsFamilyStep f e g → NoneRefused g → g ≡ family_step f e.0
family_alone f g (own_event e, marked) h none =
    both_are g (family_step f (own_event e)) (step_alone (texts_of_parent f.parent) f.own g.own e marked h.0 none.own) h.1
family_alone f g (parent_event e, marked) h none =
    both_are g (family_step f (parent_event e)) h.0 (parent_alone f.parent g.parent e marked h.1 none.beside)

run_before : (es : List MarkedEvent) (f g : FamilyRun) → IsRun f es g → NoneRefused g → NoneRefused f
run_before [] f g h none = subst NoneRefused h none
run_before (e ∷ es) f g h none = family_before f h.0 e h.1 (run_before es h.0 g h.2 none)

run_alone : (es : List MarkedEvent) (f g : FamilyRun) → IsRun f es g → NoneRefused g → g ≡ fold family_step f (map event_of es)
run_alone [] f g h none = h
run_alone (e ∷ es) f g h none =
    let here = family_alone f h.0 e h.1 (run_before es h.0 g h.2 none) in
    run_alone es h.0 g h.2 none ∙ ap (λ (k : FamilyRun). fold family_step k (map event_of es)) here

none_given : (r : Option Run) (o : Option InstanceOutputValue) → o ≡ option_map output_of_run r →
    IfSome o (λ p. AllByRecursion IsNotForMemory p.refusals) → NoneOf r
none_given None o is none = tt
none_given (Some r) o is none = subst (λ (x : Option InstanceOutputValue). IfSome x (λ p. AllByRecursion IsNotForMemory p.refusals)) is none

pub alone_without : (family : Family) (events : List FamilyEvent) (output : InstanceOutputValue) (parent : Option InstanceOutputValue) →
    IsRunOutput family events output parent → AllByRecursion IsNotForMemory output.refusals →
    IfSome parent (λ p. AllByRecursion IsNotForMemory p.refusals) → output ≡ lone_output family events
alone_without family events output parent h none beside =
    let f = h.came.run in
    let kept : NoneRefused f = record {
      own = subst (λ (o : InstanceOutputValue). AllByRecursion IsNotForMemory o.refusals) h.gives none;
      beside = none_given f.parent parent h.parent_gives beside;
    } in
    h.gives
    ∙ ap (λ (g : FamilyRun). output_of_run g.own) (run_alone h.came.marked (new_family_run family) f h.came.steps kept)
    ∙ ap (λ (es : List FamilyEvent). output_of_run (run_of_family family es).own) h.came.same
