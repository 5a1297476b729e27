-- A connection comes, or goes with its calls.
use Rattle.std.proofs.Common.{◌≡◌, refl, sym, ap, ◌∙◌, subst, zero, suc, arith, get_or, take, drop, ◌≤◌, ◌+◌, length, add-one}
use Rattle.std.proofs.Math.ListN.{drop_of_length-le}
use Rattle.std.proofs.lemmas.List.{take_all}
use Rattle.grpc_sending.proofs.Histories.{append-nil}
use Rattle.grpc_sending.specs.StoredSending.{SourceTexts}
use Rattle.std.specs.Prelude.{ℕ, ◌==◌, if◌then◌else◌, Bool, true, false, List, [], ◌∷◌, ◌++◌, map, Option, Some, None, position, nat_lt}
use Rattle.std.specs.Option.{option_map_or}
use Rattle.std.proofs.lemmas.List.Elements.{filter-append}
use Rattle.conn_core.specs.declared.event.CallEvent.{CallEvent}
use Rattle.conn_core.specs.declared.event.CallEvent.TheVariants.{Cancel}
use Rattle.conn_core.specs.Calls.{cancels}
use Rattle.conn_core.specs.Past.{Past, new_past}
use Rattle.conn_core.specs.StandsFor.{ConnectionValue, IsConnection, live_calls}
use Rattle.instance_core.specs.declared.event.CallId.{CallId}
use Rattle.instance_core.specs.Calls.{cancel, tick as time_passes}
use Rattle.instance_core.specs.State.{InstanceState}
use Rattle.instance_core.specs.Answer.{state_after}
use Rattle.served_instance.specs.declared.open_connection.OpenConnection.{OpenConnection}
use Rattle.served_instance.specs.Connections.{LoneConnection, is_open, open_ones, open_at, with_closed}
use Rattle.served_instance.specs.Calls.{call_event_on}
use Rattle.served_instance.specs.Lone.{LoneInstance, after_call_event, after_call_events, after_opening, after_closing}
use Rattle.served_instance.specs.Present.{is_numbered, unless_more}
use Rattle.std.proofs.lemmas.Bool.{cond-false, cond-true, ltb-false}
use Rattle.served_instance.specs.declared.refusal.EventRefusal.TheVariants.{NoSuchConnection, TookTooMuch}
use Rattle.served_instance.specs.StandsFor.{ServedConnection, AreServed}
use Rattle.served_instance.specs.Shown.{connection_shown}
use Rattle.served_instance.specs.Acts.{Acts, LeadsOn, StandsBy, cancels_of}
use Rattle.served_instance.proofs.Opens.{without_at, closed_at_is}
use Rattle.served_instance.proofs.Places.{IsPlace, is_place, place_some}
use Rattle.served_instance.proofs.Changes.{open_past}
use Rattle.served_instance.proofs.Leads.{leads_acts}
use Rattle.conn_core.proofs.Left.{left_calls, left_cancels}

-- ---- one comes

served_push : (texts : SourceTexts) (vs : List ServedConnection) (ls : List LoneConnection) (v : ServedConnection) (l : LoneConnection) →
    AreServed texts vs ls → v.number ≡ l.number → IsConnection texts v.connection l.past → AreServed texts (vs ++ v ∷ []) (ls ++ l ∷ [])
served_push texts [] [] v l s e h = (e, h, tt)
served_push texts [] (k ∷ ls) v l s e h = absurd s
served_push texts (x ∷ vs) [] v l s e h = absurd s
served_push texts (x ∷ vs) (k ∷ ls) v l s e h = (s.0, s.1, served_push texts vs ls v l s.2 e h)

map_push : (os : List OpenConnection) (o : OpenConnection) →
    map connection_shown (os ++ o ∷ []) ≡ map connection_shown os ++ connection_shown o ∷ []
map_push [] o = refl
map_push (x ∷ os) o = ap (λ (vs : List ServedConnection). connection_shown x ∷ vs) (map_push os o)

pub opens : (window c : ℕ) (v : ConnectionValue) (s : InstanceState) (os : List OpenConnection) → s.limits.window ≡ window →
    ((texts : SourceTexts) → IsConnection texts v (new_past window)) →
    Acts s os s (os ++ record { number = c; connection = v } ∷ []) (after_opening c)
opens window c v s os is h = λ texts l st.
    let o : OpenConnection = record { number = c; connection = v } in
    let k : LoneConnection = record { number = c; past = new_past l.state.limits.window; is_open = true } in
    let same : window ≡ l.state.limits.window = sym is ∙ ap (λ (t : InstanceState). t.limits.window) st.state in
    let stands : IsConnection texts v (new_past l.state.limits.window) =
    subst (λ (n : ℕ). IsConnection texts v (new_past n)) same (h texts) in
    let pushed = served_push texts (map connection_shown os) (open_ones l.connections) (connection_shown o) k st.connections refl stands in
    let P : List ServedConnection → Type 0 = λ vs. AreServed texts vs (open_ones l.connections ++ k ∷ []) in
    let Q : List LoneConnection → Type 0 = λ ls. AreServed texts (map connection_shown (os ++ o ∷ [])) ls in
    record {
      state = st.state;
      connections = subst Q (sym (filter-append is_open l.connections (k ∷ []))) (subst P (sym (map_push os o)) pushed);
    }

-- ---- one goes

removed_serves : (texts : SourceTexts) (c : ℕ) (os : List OpenConnection) (ls : List LoneConnection) (k : ℕ) → IsPlace c os k →
    AreServed texts (map connection_shown os) ls → AreServed texts (map connection_shown (take k os ++ drop (suc k) os)) (without_at c ls)
removed_serves texts c [] ls k h s = absurd h
removed_serves texts c (o ∷ os) [] k h s = absurd s
removed_serves texts c (o ∷ os) (l ∷ ls) zero h s =
    let here : (l.number == c) ≡ true = ap (λ (n : ℕ). n == c) (sym s.0) ∙ h in
    subst (λ (xs : List LoneConnection). AreServed texts (map connection_shown os) xs)
    (sym (cond-true (l.number == c) ls (l ∷ without_at c ls) here)) s.2
removed_serves texts c (o ∷ os) (l ∷ ls) (suc k) h s =
    let there : (l.number == c) ≡ false = ap (λ (n : ℕ). n == c) (sym s.0) ∙ h.0 in
    subst (λ (xs : List LoneConnection). AreServed texts (map connection_shown (o ∷ (take k os ++ drop (suc k) os))) xs)
    (sym (cond-false (l.number == c) ls (l ∷ without_at c ls) there)) (s.0, s.1, removed_serves texts c os ls k h.1 s.2)

pub closes : (c : ℕ) (s t : InstanceState) (os ns : List OpenConnection) (k : ℕ) (d : OpenConnection) →
    position (is_numbered c) os ≡ Some k → Acts s (take k os ++ drop (suc k) os) t ns
    (after_call_events c (cancels_of (get_or os k d).connection)) → Acts s os t ns (after_closing c)
closes c s t os ns k d h act = λ texts l st.
    let v = (get_or os k d).connection in
    let past = open_past texts c os l.connections v (sym (place_some c os k d h)) st.connections in
    let left : LoneInstance = record l { connections = with_closed c l.connections } in
    let gone : StandsBy texts s (take k os ++ drop (suc k) os) left = record {
      state = st.state;
      connections = subst (λ (xs : List LoneConnection). AreServed texts (map connection_shown (take k os ++ drop (suc k) os)) xs)
          (sym (closed_at_is c l.connections)) (removed_serves texts c os (open_ones l.connections) k (is_place c os k h) st.connections);
    } in
    let same : cancels_of v ≡ option_map_or (λ (p : Past). cancels p.history) (open_at c l.connections) [] =
    ap (map Cancel) (left_calls texts v past.0 past.2) ∙ sym (left_cancels past.0.history)
    ∙ sym (ap (λ (o : Option Past). option_map_or (λ (p : Past). cancels p.history) o []) past.1) in
    subst (λ (es : List CallEvent). StandsBy texts t ns (after_call_events c es left)) same (act texts left gone)

-- ---- its calls

-- a call is given up, which owes nothing to any connection
pub cancel_acts : (s t : InstanceState) (id : CallId) (os : List OpenConnection) → t ≡ state_after s (cancel id) →
    Acts s os t os (after_call_event (cancel id))
cancel_acts s t id os e = λ texts l st. record {
  state = e ∙ ap (λ (x : InstanceState). state_after x (cancel id)) st.state;
  connections = st.connections;
}

-- time passes, which owes nothing either
pub tick_acts : (s t : InstanceState) (os : List OpenConnection) → t ≡ state_after s time_passes →
    Acts s os t os (after_call_event time_passes)
tick_acts s t os e = λ texts l st. record {
  state = e ∙ ap (λ (x : InstanceState). state_after x time_passes) st.state;
  connections = st.connections;
}

first_of : (xs ys : List ℕ) (x : ℕ) → x ∷ [] ≡ take 1 xs → ys ≡ drop 1 xs → xs ≡ x ∷ ys
first_of [] ys x h e = cc
first_of (y ∷ xs) ys x h e = cc

pub cancel_leads : (c stream : ℕ) (s0 s t : InstanceState) (os0 os ns : List OpenConnection) (v w : ConnectionValue)
    (before : LoneInstance → LoneInstance) → LeadsOn s0 os0 s os before (after_call_events c (cancels_of v)) →
    stream ∷ [] ≡ take 1 (live_calls v) → live_calls w ≡ drop 1 (live_calls v) →
    Acts s os t ns (after_call_event (call_event_on c (Cancel stream))) →
    LeadsOn s0 os0 t ns before (after_call_events c (cancels_of w))
cancel_leads c stream s0 s t os0 os ns v w before h first rest act = λ texts l st.
    let a = h texts l st in
    let calls = first_of (live_calls v) (live_calls w) stream first rest in (
      after_call_event (call_event_on c (Cancel stream)) a.0,
      act texts a.0 a.1,
      sym
          (ap (λ (xs : List ℕ). after_call_events c (map Cancel xs) a.0) calls) ∙ a.2,
    )

none_of : (xs : List ℕ) → [] ≡ take 1 xs → xs ≡ []
none_of [] h = refl
none_of (x ∷ xs) h = cc

pub cancel_done : (c : ℕ) (s0 s : InstanceState) (os0 os : List OpenConnection) (v : ConnectionValue)
    (before : LoneInstance → LoneInstance) → LeadsOn s0 os0 s os before (after_call_events c (cancels_of v)) → [] ≡ take 1 (live_calls v) →
    Acts s0 os0 s os before
cancel_done c s0 s os0 os v before h none =
    leads_acts s0 s s os0 os os before (after_call_events c (cancels_of v)) h
    (λ texts l st. subst (λ (xs : List ℕ). StandsBy texts s os (after_call_events c (map Cancel xs) l))
    (sym (none_of (live_calls v) none)) st)

-- ---- what an event asks for

untaken_by : (n : ℕ) (v : ConnectionValue) (b : Bool) → nat_lt (length v.sending.pending) n ≡ b →
    (if b then Some TookTooMuch else None) ≡ None → n ≤ length v.sending.pending
untaken_by n v true e h = cc
untaken_by n v false e h = omega (arith, ltb-false (length v.sending.pending) n e)

pub can_take : (n : ℕ) (o : Option ConnectionValue) (v : ConnectionValue) → Some v ≡ o →
    option_map_or (unless_more n) o (Some NoSuchConnection) ≡ None → n ≤ length v.sending.pending
can_take n None v e h = cc
can_take n (Some u) v e h =
    let same : v ≡ u = cc in
    subst (λ (x : ConnectionValue). n ≤ length x.sending.pending) (sym same) (untaken_by n u (nat_lt (length u.sending.pending) n) refl h)

-- ---- through slices

-- a slice of a whole vector was written
pub written_back : (n : ℕ) (xs ys : List OpenConnection) → length xs ≡ length ys → n ≡ length ys → take n (xs ++ drop (length xs) ys) ≡ xs
written_back n xs ys e f =
    let le : length ys ≤ length xs = omega arith in
    let whole : length xs ≤ n = omega arith in
    ap (λ (zs : List OpenConnection). take n (xs ++ zs)) (drop_of_length-le ys le) ∙ ap (take n) (append-nil xs) ∙ take_all n xs whole

pub closes_by : (c : ℕ) (s t : InstanceState) (os xs : List OpenConnection) (k : ℕ) (o : OpenConnection) →
    position (is_numbered c) os ≡ Some k → o ≡ get_or os k o → xs ≡ take k os ++ drop (k + 1) os →
    Acts s xs t xs (after_call_events c (cancels_of o.connection)) → Acts s os t xs (after_closing c)
closes_by c s t os xs k o h here e act =
    let left : xs ≡ take k os ++ drop (suc k) os = e ∙ ap (λ (n : ℕ). take k os ++ drop n os) (add-one k) in
    let given : Acts s (take k os ++ drop (suc k) os) t xs (after_call_events c (cancels_of (get_or os k o).connection)) =
    subst (λ (y : OpenConnection). Acts s (take k os ++ drop (suc k) os) t xs (after_call_events c (cancels_of y.connection))) here
    (subst (λ (ys : List OpenConnection). Acts s ys t xs (after_call_events c (cancels_of o.connection))) left act) in
    closes c s t os xs k o h given
