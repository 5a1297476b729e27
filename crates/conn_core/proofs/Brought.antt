-- What a frame brings to the calls, by the history before it and the one behind it.
use Rattle.std.proofs.Common.{◌≡◌, ℕ, List, [], ◌∷◌, ◌++◌, refl, ap, ◌∙◌, sym, subst, inl, inr}
use Rattle.std.specs.Prelude.{Bool, true, false, ◌==◌, ◌||◌, cond, not, map, filter, Option, Some, None, Result}
use Rattle.std.specs.List.{list_any, flat_map}
use Rattle.std.specs.Option.{is_some}
use Rattle.std.proofs.lemmas.Bool.{cases_Bool, eqb-true}
use Rattle.std.proofs.lemmas.List.Folds.{list_any-append}
use Rattle.std.proofs.lemmas.Grind.{flat_map-append}
use Rattle.http2_streams.specs.declared.event.Event.{Event}
use Rattle.http2_streams.specs.declared.event.Event.TheVariants.{Nothing, Cancel}
use Rattle.http2_streams.specs.History.{Entry, live_streams, is_not_closed}
use Rattle.http2_streams.specs.LiveStreams.{other_streams}
use Rattle.grpc_messages.specs.declared.error.MessagesError.{MessagesError}
use Rattle.grpc_sending.proofs.Histories.{append-nil}
use Rattle.conn_core.specs.declared.call.Call.{Call}
use Rattle.conn_core.specs.declared.event.CallEvent.{CallEvent}
use Rattle.conn_core.specs.Calls.{events, is_call, stream_text, begins_call, content_on, messages_of, events_of_content}
use Rattle.conn_core.specs.StandsFor.{IsRestOfCall, call_on, call_stream, members_of}
use Rattle.conn_core.specs.CallSteps.{TakesOn, without_call}
use Rattle.conn_core.proofs.Numbers.{or_none, filter_less, sifted, in_others}
use Rattle.conn_core.proofs.Places.{kept_on, kept_streams}

abbrev Kept : Type 0
Kept = Option (Result (List ℕ) MessagesError)

-- ---- the history

abbrev pub Brings : List Entry → List Entry → Event → Type 0
Brings d e event = events e ≡ events d ++ event ∷ []

pub call_frame : (d e : List Entry) (event : Event) (s : ℕ) → Brings d e event → is_call e s ≡ (is_call d s || begins_call s event)
call_frame d e event s h = ap (list_any (begins_call s)) h ∙ list_any-append (begins_call s) (events d) (event ∷ [])
    ∙ ap (λ b. is_call d s || b) (or_none (begins_call s event))

pub text_frame : (d e : List Entry) (event : Event) (s : ℕ) → Brings d e event → stream_text e s ≡ stream_text d s ++ content_on s event
text_frame d e event s h = ap (flat_map (content_on s)) h ∙ flat_map-append (content_on s) (events d) (event ∷ [])
    ∙ ap (λ (xs : List ℕ). stream_text d s ++ xs) (append-nil (content_on s event))

-- ---- the calls behind it

pub record After (e : List Entry) (cs : List Call) : Type 0 where
  pub calls : (s : ℕ) → is_not_closed e s ≡ true → IsRestOfCall e s (call_on s cs)
  pub order : members_of (live_streams e) (map call_stream cs) ≡ filter (is_call e) (live_streams e)

abbrev pub Holds : List Entry → List Call → Type 0
Holds d cs = (s : ℕ) → is_not_closed d s ≡ true → IsRestOfCall d s (call_on s cs)

abbrev pub IsOrdered : List Entry → List ℕ → Type 0
IsOrdered d xs = members_of (live_streams d) xs ≡ filter (is_call d) (live_streams d)

abbrev pub Falls : List Entry → List Entry → Type 0
Falls d e = (s : ℕ) → is_not_closed e s ≡ true → is_not_closed d s ≡ true

pub call_same : (d e : List Entry) (s : ℕ) (o : Kept) → is_call e s ≡ is_call d s → stream_text e s ≡ stream_text d s → IsRestOfCall d s o →
    IsRestOfCall e s o
call_same d e s None c t h = c ∙ h
call_same d e s (Some m) c t h = (c ∙ h.0, h.1 ∙ ap (λ (x : List ℕ). (messages_of x).end) (sym t))

pub called : (d : List Entry) (s : ℕ) (o : Kept) → IsRestOfCall d s o → is_call d s ≡ is_some o
called d s None h = h
called d s (Some m) h = h.0

pub not_called : (d : List Entry) (s : ℕ) (o : Kept) → IsRestOfCall d s o → is_call d s ≡ false → o ≡ None
not_called d s None h none = refl
not_called d s (Some m) h none = let k : true ≡ false = sym h.0 ∙ none in absurd cc

-- the live streams are some of those before
abbrev pub IsSieved : List Entry → List Entry → Type 0
IsSieved d e = (q : ℕ → Bool) × (live_streams e ≡ filter q (live_streams d))

filter_all : (xs : List ℕ) → filter (λ t. true) xs ≡ xs
filter_all [] = refl
filter_all (x ∷ xs) = ap (λ (ys : List ℕ). x ∷ ys) (filter_all xs)

pub sieve_none : (d e : List Entry) → live_streams e ≡ live_streams d → IsSieved d e
sieve_none d e h = ((λ t. true), h ∙ sym (filter_all (live_streams d)))

pub sieve_if : (d e : List Entry) (b : Bool) (s : ℕ) → live_streams e ≡ cond b (other_streams s (live_streams d)) (live_streams d) →
    IsSieved d e
sieve_if d e true s h = ((λ t. not (t == s)), h)
sieve_if d e false s h = sieve_none d e h

pub ordered : (d e : List Entry) (xs : List ℕ) → IsSieved d e → ((t : ℕ) → is_call e t ≡ is_call d t) → IsOrdered d xs → IsOrdered e xs
ordered d e xs sieve same order =
    ap (λ (ss : List ℕ). members_of ss xs) sieve.1
    ∙ sifted sieve.0 (is_call d) (is_call e) (live_streams d) xs order same
    ∙ ap (λ (ss : List ℕ). filter (is_call e) ss) (sym sieve.1)

-- ---- an event of no call

pub after_nothing : (d e : List Entry) (cs : List Call) → Brings d e Nothing → IsSieved d e → Falls d e → Holds d cs →
    IsOrdered d (map call_stream cs) → After e cs
after_nothing d e cs brings sieve falls holds order =
    let same : (t : ℕ) → is_call e t ≡ is_call d t = λ t. call_frame d e Nothing t brings ∙ or_none (is_call d t) in
    record {
      calls = λ s lives. call_same d e s (call_on s cs) (same s) (text_frame d e Nothing s brings ∙ append-nil (stream_text d s))
          (holds s (falls s lives));
      order = ordered d e (map call_stream cs) sieve same order;
    }

-- ---- more of the text of a stream

pub record AfterText (d e : List Entry) (s : ℕ) (content : List ℕ) (end_stream : Bool) (cs : List Call)
    (before after : List CallEvent) : Type 0 where
  pub holds : After e cs
  pub events : after ≡ before ++ cond (is_call d s) (events_of_content s (stream_text d s) content end_stream) []

text_calls : (d e : List Entry) (s : ℕ) (content : List ℕ) (end_stream : Bool) (cs new : List Call) (before after : List CallEvent)
    (o : Kept) → TakesOn s content end_stream cs new before after → is_call e s ≡ is_call d s →
    stream_text e s ≡ stream_text d s ++ content → call_on s cs ≡ o → IsRestOfCall d s o → IsRestOfCall e s (call_on s new)
text_calls d e s content end_stream cs new before after None takes same longer at call =
    subst (λ (x : Kept). IsRestOfCall e s x) (sym (takes.no_call at).0) (same ∙ call)
text_calls d e s content end_stream cs new before after (Some m) takes same longer at call =
    let first : call_on s cs ≡ Some (messages_of (stream_text d s)).end = at ∙ ap (λ (x : Result (List ℕ) MessagesError). Some x) call.1 in
    subst (λ (x : Kept). IsRestOfCall e s x) (sym (takes.call (stream_text d s) first).0)
    (same ∙ call.0, ap (λ (x : List ℕ). (messages_of x).end) (sym longer))

text_events : (d : List Entry) (s : ℕ) (content : List ℕ) (end_stream : Bool) (cs new : List Call) (before after : List CallEvent)
    (o : Kept) → TakesOn s content end_stream cs new before after → call_on s cs ≡ o → IsRestOfCall d s o →
    after ≡ before ++ cond (is_call d s) (events_of_content s (stream_text d s) content end_stream) []
text_events d s content end_stream cs new before after None takes at call =
    (takes.no_call at).1 ∙ sym (append-nil before)
    ∙ ap (λ (b : Bool). before ++ cond b (events_of_content s (stream_text d s) content end_stream) []) (sym call)
text_events d s content end_stream cs new before after (Some m) takes at call =
    let first : call_on s cs ≡ Some (messages_of (stream_text d s)).end = at ∙ ap (λ (x : Result (List ℕ) MessagesError). Some x) call.1 in
    (takes.call (stream_text d s) first).1 ∙ ap (λ (b : Bool). before
    ++ cond b (events_of_content s (stream_text d s) content end_stream) []) (sym call.0)

pub after_text : (d e : List Entry) (s : ℕ) (content : List ℕ) (end_stream : Bool) (cs new : List Call) (before after : List CallEvent) →
    ((t : ℕ) → is_call e t ≡ is_call d t) → ((t : ℕ) → (s == t) ≡ false → stream_text e t ≡ stream_text d t) →
    stream_text e s ≡ stream_text d s ++ content → IsSieved d e → Falls d e → is_not_closed d s ≡ true → Holds d cs →
    IsOrdered d (map call_stream cs) → TakesOn s content end_stream cs new before after →
    AfterText d e s content end_stream new before after
after_text d e s content end_stream cs new before after same texts longer sieve falls lives holds order takes = record {
  holds = record {
    calls = λ t lives'. elim (cases_Bool (s == t)) [
      | inl at ↦
          let is : s ≡ t = eqb-true s t at in
          subst (λ (n : ℕ). IsRestOfCall e n (call_on n new)) is
          (text_calls d e s content end_stream cs new before after (call_on s cs) takes (same s) longer refl (holds s lives))
      | inr other ↦ subst (λ (x : Kept). IsRestOfCall e t x) (sym (takes.others t other))
          (call_same d e t (call_on t cs) (same t) (texts t other) (holds t (falls t lives')))
    ];
    order = ordered d e (map call_stream new) sieve same (ap (λ (ns : List ℕ). members_of (live_streams d) ns) takes.streams ∙ order);
  };
  events = text_events d s content end_stream cs new before after (call_on s cs) takes refl (holds s lives);
}

-- ---- a stream that was reset

pub after_cancel : (d e : List Entry) (s : ℕ) (cs : List Call) → Brings d e (Cancel s) → live_streams e ≡ other_streams s (live_streams d) →
    is_not_closed e s ≡ false → Falls d e → Holds d cs → IsOrdered d (map call_stream cs) → After e (without_call s cs)
after_cancel d e s cs brings lives gone falls holds order =
    let same : (t : ℕ) → is_call e t ≡ is_call d t = λ t. call_frame d e (Cancel s) t brings ∙ or_none (is_call d t) in
    let q : ℕ → Bool = λ t. not (t == s) in
    record {
      calls = λ t lives'. elim (cases_Bool (t == s)) [
        | inl at ↦
            let is : t ≡ s = eqb-true t s at in
            let no : true ≡ false = sym lives' ∙ ap (λ (n : ℕ). is_not_closed e n) is ∙ gone in
            absurd (let z : ⊥ = cc in z)
        | inr other ↦
            let stays : not (t == s) ≡ true = ap not other in
            subst (λ (x : Kept). IsRestOfCall e t x) (sym (kept_on (λ n. not (n == s)) t cs stays))
            (call_same d e t (call_on t cs) (same t) (text_frame d e (Cancel s) t brings ∙ append-nil (stream_text d t))
            (holds t (falls t lives')))
      ];
      order =
          let xs : List ℕ = map call_stream cs in
          let short : members_of (live_streams e) (map call_stream (without_call s cs)) ≡ members_of (live_streams e) xs =
          ap (λ (ns : List ℕ). members_of (live_streams e) ns) (kept_streams (λ n. not (n == s)) cs)
          ∙ filter_less (λ t. list_any (λ u. u == t) (live_streams e)) (λ n. not (n == s)) (map call_stream cs)
          (λ t h. in_others s t (live_streams d) (sym (ap (list_any (λ u. u == t)) lives) ∙ h)) in
          short ∙ ordered d e (map call_stream cs) ((λ t. not (t == s)), lives) same order;
    }
