-- What events name was opened.
use Rattle.std.proofs.Common.{◌≡◌, ℕ, ◌<◌, ◌≤◌, List, [], ◌∷◌, ◌++◌, refl, ap, ◌∙◌, sym, subst, append_assoc, arith, inl, inr}
use Rattle.std.specs.Prelude.{Bool, true, false, ◌==◌, ◌||◌, Result, Ok, Err}
use Rattle.std.specs.List.{list_any, flat_map}
use Rattle.std.specs.Result.{is_ok}
use Rattle.std.proofs.lemmas.Bool.{and_parts, cases_Bool, eqb-true}
use Rattle.std.proofs.lemmas.List.Folds.{list_any-append}
use Rattle.http2_frames.specs.declared.codes.ErrorCode.{ErrorCode}
use Rattle.http2_frames.specs.declared.frame.RawFrame.{RawFrame}
use Rattle.http2_streams.specs.declared.event.Event.{Event}
use Rattle.http2_streams.specs.declared.event.Event.TheVariants.{Nothing, Request, Content, Trailers, Cancel}
use Rattle.http2_streams.specs.declared.event.StreamEvent.{StreamEvent}
use Rattle.http2_streams.specs.History.{Entry, In, Unreadable, Out, Took, opened_streams, highest_stream, live_streams, is_not_closed}
use Rattle.http2_streams.specs.Rules.{answer_after}
use Rattle.grpc_calls.specs.Requests.{head_of}
use Rattle.grpc_sending.specs.Bytes.{untaken_count}
use Rattle.conn_core.specs.Floods.{is_flood}
use Rattle.conn_core.specs.Received.{fits, outcome, outcome_of}
use Rattle.conn_core.specs.Calls.{events_of_entry, events_of_entries, events, begins_call, content_on, is_call, stream_text}
use Rattle.http2_streams.specs.LiveStreams.{IsOnItsStream}
use Rattle.http2_streams.proofs.EventLaw.{event_on_stream}
use Rattle.conn_core.proofs.Numbers.{any_first}
use Rattle.conn_core.proofs.StreamsLaws.{request_opened, opened_more, opened_low, in_live}

-- the event is of stream s
abbrev pub names : ℕ → Event → Bool
names s Nothing = false
names s (Request t fields end_stream) = t == s
names s (Content t content end_stream) = t == s
names s (Trailers t) = t == s
names s (Cancel t) = t == s

abbrev pub IsOpened : List Entry → ℕ → Type 0
IsOpened d s = list_any (λ t. t == s) (opened_streams d) ≡ true

pub opened_still : (d es : List Entry) (s : ℕ) → IsOpened d s → IsOpened (d ++ es) s
opened_still d es s h =
    let m = opened_more d es in
    ap (list_any (λ t. t == s)) m.1 ∙ list_any-append (λ t. t == s) (opened_streams d) m.0
    ∙ any_first (list_any (λ t. t == s) (opened_streams d)) (list_any (λ t. t == s) m.0) h

-- ---- of one frame

live_opened : (d : List Entry) (f : RawFrame) (s t : ℕ) → list_any (λ u. u == t) (live_streams d) ≡ true → (t == s) ≡ true →
    IsOpened (d ++ In f ∷ []) s
live_opened d f s t h same =
    let o : IsOpened d t = (and_parts (list_any (λ u. u == t) (opened_streams d)) (is_not_closed d t) (sym (in_live d t) ∙ h)).0 in
    opened_still d (In f ∷ []) s (subst (λ (n : ℕ). IsOpened d n) (eqb-true t s same) o)

event_opened : (d : List Entry) (f : RawFrame) (s : ℕ) (a : StreamEvent) (e : Event) → answer_after d f ≡ Ok a → a.event ≡ e →
    IsOnItsStream d e → names s e ≡ true → IsOpened (d ++ In f ∷ []) s
event_opened d f s a Nothing h is on named = absurd (let no : false ≡ true = named in let z : ⊥ = cc in z)
event_opened d f s a (Request t fields end_stream) h is on named =
    subst (λ (n : ℕ). IsOpened (d ++ In f ∷ []) n) (eqb-true t s named) (request_opened d f a t fields end_stream h is)
event_opened d f s a (Content t content end_stream) h is on named = live_opened d f s t on named
event_opened d f s a (Trailers t) h is on named = live_opened d f s t on named
event_opened d f s a (Cancel t) h is on named = live_opened d f s t on named

named_of : (d : List Entry) (f : RawFrame) (flood : Bool) (s n h k : ℕ) (r : Result StreamEvent ErrorCode) → answer_after d f ≡ r →
    names s (outcome_of flood n h k r).event ≡ true → IsOpened (d ++ In f ∷ []) s
named_of d f flood s n h k (Err code) is named = let no : false ≡ true = named in absurd (let z : ⊥ = cc in z)
named_of d f flood s n h k (Ok a) is named = elim (cases_Bool (fits flood n a)) [
  | inl fit ↦ let named' : names s a.event ≡ true = rw fit at named in
      event_opened d f s a a.event is refl (event_on_stream d f a is) named'
  | inr short ↦ let no : false ≡ true = rw short at named in absurd (let z : ⊥ = cc in z)
]

-- ---- of all

both_lists : (a b : Bool) (P : Type 0) → (a || b) ≡ true → (a ≡ true → P) → (b ≡ true → P) → P
both_lists true b P h l r = l refl
both_lists false b P h l r = r h

brought_opened : (before : List Entry) (e : Entry) (s : ℕ) → list_any (names s) (events_of_entry before e) ≡ true →
    IsOpened (before ++ e ∷ []) s
brought_opened before (In f) s h =
    let h' : names s (outcome before f).event ≡ true =
    both_lists (names s (outcome before f).event) false (names s (outcome before f).event ≡ true) h (λ x. x)
    (λ no. absurd (let z : ⊥ = cc in z)) in
    named_of before f (is_flood before f) s (untaken_count before) (highest_stream before) (highest_stream (before ++ In f ∷ []))
    (answer_after before f) refl h'
brought_opened before (Unreadable x) s h = absurd (let z : ⊥ = cc in z)
brought_opened before (Out g) s h = absurd (let z : ⊥ = cc in z)
brought_opened before (Took n) s h = absurd (let z : ⊥ = cc in z)

named_opened : (before es : List Entry) (s : ℕ) → list_any (names s) (events_of_entries before es) ≡ true → IsOpened (before ++ es) s
named_opened before [] s h = absurd (let z : ⊥ = cc in z)
named_opened before (e ∷ es) s h =
    let e' : (before ++ e ∷ []) ++ es ≡ before ++ e ∷ es = append_assoc before (e ∷ []) es in
    let h' : (list_any (names s) (events_of_entry before e) || list_any (names s) (events_of_entries (before ++ e ∷ []) es)) ≡ true =
    sym (list_any-append (names s) (events_of_entry before e) (events_of_entries (before ++ e ∷ []) es)) ∙ h in
    subst (λ (d : List Entry). IsOpened d s) e' (both_lists (list_any (names s) (events_of_entry before e))
    (list_any (names s) (events_of_entries (before ++ e ∷ []) es)) (IsOpened ((before ++ e ∷ []) ++ es) s) h'
    (λ here. opened_still (before ++ e ∷ []) es s (brought_opened before e s here))
    (λ later. named_opened (before ++ e ∷ []) es s later))

begins_names : (s : ℕ) (e : Event) → begins_call s e ≡ true → names s e ≡ true
begins_names s Nothing h = h
begins_names s (Request t fields end_stream) h = (and_parts (t == s) (is_ok (head_of fields)) h).0
begins_names s (Content t content end_stream) h = absurd (let z : ⊥ = cc in z)
begins_names s (Trailers t) h = absurd (let z : ⊥ = cc in z)
begins_names s (Cancel t) h = absurd (let z : ⊥ = cc in z)

any_names : (s : ℕ) (es : List Event) → list_any (begins_call s) es ≡ true → list_any (names s) es ≡ true
any_names s [] h = h
any_names s (e ∷ es) h = both_lists (begins_call s e) (list_any (begins_call s) es) ((names s e || list_any (names s) es) ≡ true) h
    (λ here. ap (λ b. b || list_any (names s) es) (begins_names s e here))
    (λ later. let k = any_names s es later in elim (cases_Bool (names s e)) [
      | inl a ↦ rw a refl
      | inr a ↦ rw a k
    ])

-- a call began on a stream that was opened
pub call_opened : (d : List Entry) (s : ℕ) → is_call d s ≡ true → IsOpened d s
call_opened d s h = named_opened [] d s (any_names s (events d) h)

no_content : (s : ℕ) (e : Event) → names s e ≡ false → content_on s e ≡ []
no_content s Nothing h = refl
no_content s (Request t fields end_stream) h = refl
no_content s (Content t content end_stream) h = rw h refl
no_content s (Trailers t) h = refl
no_content s (Cancel t) h = refl

or_parts : (a b : Bool) → (a || b) ≡ false → (a ≡ false) × (b ≡ false)
or_parts true b h = cc
or_parts false b h = (refl, h)

no_text : (s : ℕ) (es : List Event) → list_any (names s) es ≡ false → flat_map (content_on s) es ≡ []
no_text s [] h = refl
no_text s (e ∷ es) h =
    let p = or_parts (names s e) (list_any (names s) es) h in
    ap (λ (xs : List ℕ). xs ++ flat_map (content_on s) es) (no_content s e p.0) ∙ no_text s es p.1

not_true : (b : Bool) → (b ≡ true → ⊥) → b ≡ false
not_true true h = absurd (h refl)
not_true false h = refl

-- nothing was received on a stream above all that were opened
pub idle : (d : List Entry) (s : ℕ) → highest_stream d < s → (is_call d s ≡ false) × (stream_text d s ≡ [])
idle d s above =
    let none : IsOpened d s → ⊥ = λ o. let low : s ≤ highest_stream d = opened_low d s o in omega (arith, low, above) in (
      not_true (is_call d s) (λ h. none (call_opened d s h)),
      no_text s (events d) (not_true (list_any (names s) (events d)) (λ h. none (named_opened [] d s h))),
    )
