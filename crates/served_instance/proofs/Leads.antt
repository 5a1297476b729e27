-- An instance and its connections through the steps of the code.
use Rattle.std.proofs.Common.{◌≡◌, refl, sym, ap, ◌∙◌, subst, inl, inr, arith, ◌<◌}
use Rattle.std.specs.Prelude.{ℕ, true, false, List, map, Option, Some, None, ◌⊎◌}
use Rattle.std.specs.Option.{option_map_or}
use Rattle.conn_core.specs.declared.event.CallEvent.{CallEvent}
use Rattle.conn_core.specs.History.{has_failed}
use Rattle.grpc_sending.specs.StoredSending.{SourceTexts}
use Rattle.conn_core.specs.Past.{Past, with_frame, with_fault}
use Rattle.conn_core.specs.StandsFor.{ConnectionValue, IsConnection, StandsAfterNext, HasNoFrameLeft, unread_length}
use Rattle.instance_core.specs.Calls.{CallEventValue}
use Rattle.instance_core.specs.State.{InstanceState}
use Rattle.served_instance.specs.declared.open_connection.OpenConnection.{OpenConnection}
use Rattle.served_instance.specs.Connections.{LoneConnection, open_ones, open_at, at_open}
use Rattle.served_instance.specs.Calls.{call_event_on}
use Rattle.served_instance.specs.Lone.{LoneInstance, after_call_event, after_due_on}
use Rattle.served_instance.specs.StandsFor.{AreServed}
use Rattle.served_instance.specs.Shown.{connection_shown}
use Rattle.served_instance.specs.Acts.{present_at, with_present, BecomesAt, TakesStep, Pops, ReadsFrame, Acts, ActsBy, LeadsBy, LeadsOn, StandsBy, after_rest_on, unread_at}
use Rattle.served_instance.proofs.Changes.{kept_or_not, changed_there, changed_nowhere, served_at, changed_serves, changed_fewer, changed_keeps, or_of, open_past, no_past}
use Rattle.served_instance.proofs.Commutes.{idle}
use Rattle.served_instance.proofs.Frames.{with_due, next_due, nothing_due, none_due_there, frame_leads, fault_leads, over_rest, read_rest, nothing_there}

-- ---- one after another

pub leads_acts_by : (texts others more : SourceTexts) (s t u : InstanceState) (os ns xs : List OpenConnection)
    (before after : LoneInstance → LoneInstance) → LeadsBy texts s os others t ns before after → ActsBy others t ns more u xs after →
    ActsBy texts s os more u xs before
leads_acts_by texts others more s t u os ns xs before after h act = λ l st.
    let a = h l st in
    subst (λ (k : LoneInstance). StandsBy more u xs k) a.2 (act a.0 a.1)

pub leads_acts : (s t u : InstanceState) (os ns xs : List OpenConnection) (before after : LoneInstance → LoneInstance) →
    LeadsOn s os t ns before after → Acts t ns u xs after → Acts s os u xs before
leads_acts s t u os ns xs before after h act = λ texts. leads_acts_by texts texts texts s t u os ns xs before after (h texts) (act texts)

pub leads_trans : (texts others more : SourceTexts) (s t u : InstanceState) (os ns xs : List OpenConnection)
    (f g h : LoneInstance → LoneInstance) → LeadsBy texts s os others t ns f g → LeadsBy others t ns more u xs g h →
    LeadsBy texts s os more u xs f h
leads_trans texts others more s t u os ns xs f g h x y = λ l st.
    let a = x l st in
    let b = y a.0 a.1 in
    (b.0, b.1, b.2 ∙ a.2)

pub leads_here : (s : InstanceState) (os : List OpenConnection) (f : LoneInstance → LoneInstance) → LeadsOn s os s os f f
leads_here s os f = λ texts l st. (l, st, refl)

-- ---- a step of one connection

pub step_acts : (c : ℕ) (s : InstanceState) (os ns : List OpenConnection) (f : Past → Past) → BecomesAt c os ns (TakesStep f) →
    Acts s os s ns (λ l. record l { connections = at_open c f l.connections })
step_acts c s os ns f d = λ texts l st. record {
  state = st.state;
  connections = changed_serves texts c os ns (TakesStep f) f l.connections d st.connections (λ v w p r e h. r texts p h);
}

-- the connection is another, which stands for the same
still_served : (texts : SourceTexts) (c : ℕ) (os ns : List OpenConnection) (v w : ConnectionValue) (ks : List LoneConnection) (p : Past) →
    present_at c os ≡ Some v → ns ≡ with_present c w os → open_at c ks ≡ Some p → IsConnection texts w p →
    AreServed texts (map connection_shown os) (open_ones ks) → AreServed texts (map connection_shown ns) (open_ones ks)
still_served texts c os ns v w ks p h e o r s =
    let P : List LoneConnection → Type 0 = λ xs. AreServed texts (map connection_shown ns) (open_ones xs) in
    subst P (idle c ks) (served_at texts c os ns v w (λ q. q) ks h e s
    (λ q k x. let same : p ≡ q = cc in subst (λ (y : Past). IsConnection texts w y) same r))

pub stepped_served : (texts : SourceTexts) (c : ℕ) (os ns : List OpenConnection) (v w : ConnectionValue) (f : Past → Past)
    (ks : List LoneConnection) (p : Past) → present_at c os ≡ Some v → ns ≡ with_present c w os → open_at c ks ≡ Some p →
    IsConnection texts w (f p) → AreServed texts (map connection_shown os) (open_ones ks) →
    AreServed texts (map connection_shown ns) (open_ones (at_open c f ks))
stepped_served texts c os ns v w f ks p h e o r s =
    served_at texts c os ns v w f ks h e s (λ q k x. let same : p ≡ q = cc in subst (λ (y : Past). IsConnection texts w (f y)) same r)

pub unchanged_stands : (texts : SourceTexts) (s : InstanceState) (os ns : List OpenConnection) (l k : LoneInstance) → ns ≡ os → k ≡ l →
    StandsBy texts s os l → StandsBy texts s ns k
unchanged_stands texts s os ns l k e f st =
    subst (λ (x : LoneInstance). StandsBy texts s ns x) (sym f) (subst (λ (xs : List OpenConnection). StandsBy texts s xs l) (sym e) st)

-- a step that the past of its connection does not show
pub keeps_still : (texts : SourceTexts) (c : ℕ) (s : InstanceState) (os ns : List OpenConnection)
    (R : ConnectionValue → ConnectionValue → Type 0) (l k : LoneInstance) → BecomesAt c os ns R → (open_at c l.connections ≡ None → k ≡ l) →
    ((v w : ConnectionValue) (p : Past) → open_at c l.connections ≡ Some p → R v w → IsConnection texts v p →
    IsConnection texts w p × (k ≡ l)) → StandsBy texts s os l → StandsBy texts s ns k
keeps_still texts c s os ns R l k d none there st = elim (kept_or_not (present_at c os)) [
  | inl gone ↦ unchanged_stands texts s os ns l k (changed_nowhere c os ns R gone d)
      (none (no_past texts c os l.connections gone st.connections)) st
  | inr some ↦
      let t = changed_there c os ns R some.0 some.1 d in
      let past = open_past texts c os l.connections some.0 some.1 st.connections in
      let now = there some.0 t.0 past.0 past.1 t.2 past.2 in
      let still : StandsBy texts s ns l = record {
        state = st.state;
        connections = still_served texts c os ns some.0 t.0 l.connections past.0 some.1 t.1 past.1 now.0 st.connections;
      } in
      subst (λ (x : LoneInstance). StandsBy texts s ns x) (sym now.1) still
]

-- ---- what is due

pub popped_all : (c : ℕ) (s : InstanceState) (os ns : List OpenConnection) → BecomesAt c os ns (Pops None) → Acts s os s ns (after_due_on c)
popped_all c s os ns d = λ texts l st.
    keeps_still texts c s os ns (Pops None) l (after_due_on c l) d (none_due_there c l)
    (λ v w p found pops stands. let popped = pops.event texts p stands in (popped.1, nothing_due c l p found popped.0)) st

popped_next : (texts : SourceTexts) (c : ℕ) (s : InstanceState) (os ns : List OpenConnection) (event : CallEvent) →
    BecomesAt c os ns (Pops (Some event)) → (present_at c os ≡ None → ⊥) → (l : LoneInstance) → StandsBy texts s os l →
    (k : LoneInstance) × StandsBy texts s ns k × (after_due_on c (after_call_event (call_event_on c event) k) ≡ after_due_on c l)
popped_next texts c s os ns event d there l st = elim (kept_or_not (present_at c os)) [
  | inl none ↦ absurd (there none)
  | inr some ↦
      let t = changed_there c os ns (Pops (Some event)) some.0 some.1 d in
      let past = open_past texts c os l.connections some.0 some.1 st.connections in
      let popped = t.2.event texts past.0 past.2 in
      let k : LoneInstance = record l { connections = at_open c (with_due popped.0) l.connections } in
      let now : StandsBy texts s ns k = record {
        state = st.state;
        connections = stepped_served texts c os ns some.0 t.0
            (with_due popped.0) l.connections past.0 some.1 t.1 past.1 popped.2 st.connections;
      } in
      (k, now, next_due c event popped.0 l past.0 past.1 popped.1)
]

pub due_leads : (texts others more : SourceTexts) (c : ℕ) (s0 s t : InstanceState) (os0 os ns xs : List OpenConnection) (event : CallEvent)
    (what : CallEventValue) → LeadsBy texts s0 os0 others s os (after_due_on c) (after_due_on c) → BecomesAt c os ns (Pops (Some event)) →
    (present_at c os ≡ None → ⊥) →
    what ≡ call_event_on c event → ActsBy others s ns more t xs (after_call_event what) →
    LeadsBy texts s0 os0 more t xs (after_due_on c) (after_due_on c)
due_leads texts others more c s0 s t os0 os ns xs event what h d there e act = λ l st.
    let a = h l st in
    let b = popped_next others c s os ns event d there a.0 a.1 in
    (after_call_event what b.0, act b.0 b.1, ap (λ (x : CallEventValue). after_due_on c (after_call_event x b.0)) e ∙ b.2 ∙ a.2)

-- ---- frames

taken_next : (texts : SourceTexts) (c : ℕ) (s : InstanceState) (os ns : List OpenConnection) (v w : ConnectionValue) (l : LoneInstance)
    (p : Past) → present_at c os ≡ Some v → ns ≡ with_present c w os → open_at c l.connections ≡ Some p → has_failed p.history ≡ false →
    StandsAfterNext texts w p → StandsBy texts s os l →
    (k : LoneInstance) × StandsBy texts s ns k × (after_rest_on c (after_due_on c k) ≡ after_rest_on c l)
taken_next texts c s os ns v w l p h e o alive (inl t) st =
    let k : LoneInstance = record l { connections = at_open c (λ q. with_frame q t.0) l.connections } in
    let now : StandsBy texts s ns k = record {
      state = st.state;
      connections = stepped_served texts c os ns v w (λ q. with_frame q t.0) l.connections p h e o t.2 st.connections;
    } in
    (k, now, frame_leads c t.0 t.1.0 l p o alive t.1.1)
taken_next texts c s os ns v w l p h e o alive (inr t) st =
    let k : LoneInstance = record l { connections = at_open c (λ q. with_fault q t.0 t.1) l.connections } in
    let now : StandsBy texts s ns k = record {
      state = st.state;
      connections = stepped_served texts c os ns v w (λ q. with_fault q t.0 t.1) l.connections p h e o t.3 st.connections;
    } in
    (k, now, fault_leads c t.0 t.1 l p o alive t.2)

pub read_leads : (texts others : SourceTexts) (c : ℕ) (s t : InstanceState) (os ns xs : List OpenConnection) →
    BecomesAt c os ns (ReadsFrame true) → (present_at c os ≡ None → ⊥) → ActsBy texts s ns others t xs (after_due_on c) →
    LeadsBy texts s os others t xs (after_rest_on c) (after_rest_on c)
read_leads texts others c s t os ns xs d there act = λ l st. elim (kept_or_not (present_at c os)) [
  | inl none ↦ absurd (there none)
  | inr some ↦
      let x = changed_there c os ns (ReadsFrame true) some.0 some.1 d in
      let past = open_past texts c os l.connections some.0 some.1 st.connections in
      let frame = x.2.frame texts past.0 past.2 in
      let b = taken_next texts c s os ns some.0 x.0 l past.0 some.1 x.1 past.1 frame.0 frame.1 st in
      (after_due_on c b.0, act b.0 b.1, b.2)
]

ended : (c : ℕ) (l : LoneInstance) (p : Past) → open_at c l.connections ≡ Some p → (has_failed p.history ≡ true) ⊎ HasNoFrameLeft p →
    after_rest_on c l ≡ l
ended c l p o (inl failed) = over_rest c l p o failed
ended c l p o (inr read) = read_rest c l p o read

pub read_done : (c : ℕ) (s : InstanceState) (os ns : List OpenConnection) → BecomesAt c os ns (ReadsFrame false) →
    Acts s os s ns (after_rest_on c)
read_done c s os ns d = λ texts l st.
    keeps_still texts c s os ns (ReadsFrame false) l (after_rest_on c l) d (nothing_there c l)
    (λ v w p found reads stands. let frame = reads.frame texts p stands in (frame.1, ended c l p found frame.0)) st

pub done_leads : (c : ℕ) (s : InstanceState) (os ns : List OpenConnection) → BecomesAt c os ns (ReadsFrame false) →
    LeadsOn s os s ns (after_rest_on c) (after_rest_on c)
done_leads c s os ns d = λ texts l st. (
  l,
  keeps_still texts c s os ns (ReadsFrame false) l l d (λ none. refl)
      (λ v w p found reads stands. ((reads.frame texts p stands).1, refl)) st,
  refl,
)

pub read_fewer : (c : ℕ) (os ns xs : List OpenConnection) → BecomesAt c os ns (ReadsFrame true) → (present_at c os ≡ None → ⊥) →
    unread_at c xs ≡ unread_at c ns → unread_at c xs < unread_at c os
read_fewer c os ns xs d there e = let lt = changed_fewer unread_length c os ns (ReadsFrame true) there d (λ v w r. r.fewer refl) in
    omega arith

pub popped_unread : (c : ℕ) (os ns : List OpenConnection) (event : Option CallEvent) → BecomesAt c os ns (Pops event) →
    unread_at c ns ≡ unread_at c os
popped_unread c os ns event d =
    or_of unread_length 0 (present_at c ns)
    ∙ ap (λ (o : Option ℕ). option_map_or (λ x. x) o 0)
    (changed_keeps unread_length c c os ns (Pops event) d (λ v w r. ap unread_length r.rest))
    ∙ sym (or_of unread_length 0 (present_at c os))
