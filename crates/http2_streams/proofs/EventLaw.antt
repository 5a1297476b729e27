-- What a frame's event says of the streams before and after it.
use Rattle.std.proofs.Common.{◌≡◌, ℕ, ◌≤◌, List, [], ◌∷◌, ◌++◌, refl, ap, ◌∙◌, sym, subst, arith, length, inl, inr}
use Rattle.std.specs.Prelude.{map, filter, cond, Bool, true, false, not, ◌&&◌, ◌||◌, ◌==◌, Option, Some, Result, Ok, Err}
use Rattle.std.specs.List.{AllByRecursion, filter_map, list_any}
use Rattle.std.specs.Option.{unwrap_or}
use Rattle.std.proofs.lemmas.Bool.{cases_Bool, eqb-true}
use Rattle.std.proofs.lemmas.List.Elements.{filter_agree, filter_map-append}
use Rattle.hpack.specs.Header.{Header}
use Rattle.http2_frames.specs.declared.codes.ErrorCode.{ErrorCode}
use Rattle.http2_frames.specs.declared.codes.ErrorCode.TheVariants.{ProtocolError}
use Rattle.http2_frames.specs.declared.frame.RawFrame.{RawFrame}
use Rattle.http2_frames.specs.declared.frame.Frame.{Frame}
use Rattle.http2_frames.specs.declared.frame.Frame.TheVariants.{Data, Headers, Priority, RstStream, Settings, PushPromise, Ping, GoAway, WindowUpdate, Continuation, Unknown}
use Rattle.http2_frames.specs.Frames.{frame_of}
use Rattle.http2_streams.specs.declared.stream.Stream.{Stream}
use Rattle.http2_streams.specs.declared.event.Event.{Event}
use Rattle.http2_streams.specs.declared.event.Event.TheVariants.{Nothing, Request, Content, Trailers, Cancel}
use Rattle.http2_streams.specs.declared.event.StreamEvent.{StreamEvent}
use Rattle.http2_streams.specs.History.{Entry, In, Out, frame_in, is_goaway, received_frames, sent_frames, has_failed, highest_stream, live_streams, is_ended_by_server}
use Rattle.http2_streams.specs.Standing.{Standing, standing, stream_at}
use Rattle.http2_streams.specs.Rules.{number_is, no_effect, on_content, on_frame_of, is_in_turn, on_raw_frame, answer_after}
use Rattle.http2_streams.specs.Entries.{control_frames, frames_put, entries_of}
use Rattle.http2_streams.specs.Step.{after_content, step_by, after_frame_in}
use Rattle.http2_streams.specs.StandsFor.{AreStreams}
use Rattle.http2_streams.specs.LiveStreams.{stream_of_event, has_stream, IsOnItsStream, other_streams, live_after_end, live_after}
use Rattle.http2_streams.proofs.Lists.{filter-map}
use Rattle.http2_streams.proofs.Sides.{top}
use Rattle.http2_streams.proofs.Law.{OkThen, at_law, cond_is_true, cond_is_false, has_failed-append, all_sent}
use Rattle.http2_streams.proofs.LiveLaw.{listed_is_live, highest_rises}
use Rattle.http2_streams.specs.ControlAnswers.{IsControlAnswer}
use Rattle.http2_streams.proofs.ControlLaw.{answers_are_control}
use Rattle.http2_streams.proofs.Events.{numbers_of, numbers_after, unclosed, IsOnAt, Told, content_told}

-- ---- the kept streams and the list

at_numbers : (d : List Entry) (ts : List ℕ) → numbers_of (map (stream_at d) ts) ≡ ts
at_numbers d [] = refl
at_numbers d (t ∷ ts) = ap (λ us. t ∷ us) (at_numbers d ts)

at_listed : (d : List Entry) (s : ℕ) (ts : List ℕ) → list_any (number_is s) (map (stream_at d) ts) ≡ has_stream ts s
at_listed d s [] = refl
at_listed d s (t ∷ ts) = ap (λ b. t == s || b) (at_listed d s ts)

kept_numbers : (d : List Entry) (k : Stream → Bool) (ts : List ℕ) →
    numbers_of (filter k (map (stream_at d) ts)) ≡ filter (λ t. k (stream_at d t)) ts
kept_numbers d k ts = ap numbers_of (filter-map k (stream_at d) ts) ∙ at_numbers d (filter (λ t. k (stream_at d t)) ts)

filter_all : (p : ℕ → Bool) → ((t : ℕ) → p t ≡ true) → (ts : List ℕ) → filter p ts ≡ ts
filter_all p all [] = refl
filter_all p all (t ∷ ts) = rw (all t) (ap (λ us. t ∷ us) (filter_all p all ts))

-- what a test says of each number, by what it says of s
unclosed_by : (p : ℕ → Bool) (s : ℕ) (b : Bool) (ts : List ℕ) → p s ≡ b →
    filter (λ t. not (t == s && p t)) ts ≡ cond b (other_streams s ts) ts
unclosed_by p s true ts is = filter_agree _ _ (λ t. elim (cases_Bool (t == s)) [
  | inl same ↦ let e : p t ≡ true = ap p (eqb-true t s same) ∙ is in rw (same, e) refl
  | inr other ↦ rw other refl
]) ts
unclosed_by p s false ts is = filter_all _ (λ t. elim (cases_Bool (t == s)) [
  | inl same ↦ let e : p t ≡ false = ap p (eqb-true t s same) ∙ is in rw (same, e) refl
  | inr other ↦ rw other refl
]) ts

end_after : (d : List Entry) (s : ℕ) → numbers_of (unclosed s (standing d).live) ≡ live_after_end d s
end_after d s = kept_numbers d (λ x. not (x.number == s && x.ended_by_server)) (live_streams d)
    ∙ unclosed_by (is_ended_by_server d) s (is_ended_by_server d s) (live_streams d) refl

numbers_are : (d : List Entry) (e : Event) → numbers_after (standing d) e ≡ live_after d e
numbers_are d Nothing = at_numbers d (live_streams d)
numbers_are d (Request s fields end_stream) = ap (λ ts. ts ++ s ∷ []) (at_numbers d (live_streams d))
numbers_are d (Content s content true) = end_after d s
numbers_are d (Content s content false) = at_numbers d (live_streams d)
numbers_are d (Trailers s) = end_after d s
numbers_are d (Cancel s) = kept_numbers d (λ x. not (x.number == s)) (live_streams d)

-- ---- a frame

received_with : (d : List Entry) (f : RawFrame) (g : Frame) → frame_of f ≡ Ok g →
    received_frames (d ++ In f ∷ []) ≡ received_frames d ++ g ∷ []
received_with d f g says =
    let one : filter_map frame_in (In f ∷ []) ≡ g ∷ [] = rw says refl in
    filter_map-append frame_in d (In f ∷ []) ∙ ap (λ xs. received_frames d ++ xs) one

-- where the event's stream stands, and the live streams after the frame and what is put for it
abbrev ToldOf : List Entry → RawFrame → StreamEvent → Type 0
ToldOf d f a = IsOnAt (standing d) (highest_stream (d ++ In f ∷ [])) a.event
    × (numbers_of (after_content (standing d) a (frame_of f)).live ≡ numbers_after (standing d) a.event)

frame_told : (d : List Entry) (f : RawFrame) (g : Frame) (a : StreamEvent) → frame_of f ≡ Ok g →
    on_content (standing d) (length f.payload) g ≡ Ok a → ToldOf d f a
frame_told d f g a says is =
    let v = standing d in
    let t : Told v (top (received_frames d ++ g ∷ [])) (after_frame_in v g) a =
    subst (OkThen (Told v (top (received_frames d ++ g ∷ [])) (after_frame_in v g))) is
    (content_told (received_frames d) (sent_frames d) (length f.payload) g) in (
      subst (λ (rs : List Frame). IsOnAt v (top rs) a.event) (sym (received_with d f g says)) t.stream,
      ap (λ (r : Result Frame ErrorCode). numbers_of (after_content v a r).live) says ∙ t.live,
    )

-- after the tests before the content
read_told : (d : List Entry) (f : RawFrame) (r : Result Frame ErrorCode) (a : StreamEvent) → frame_of f ≡ r →
    on_frame_of (standing d) (length f.payload) r ≡ Ok a → ToldOf d f a
read_told d f (Ok g) a says is = frame_told d f g a says is
read_told d f (Err code) a says is = cc

turn_told : (d : List Entry) (f : RawFrame) (b : Bool) (a : StreamEvent) →
    cond b (on_frame_of (standing d) (length f.payload) (frame_of f)) (Err ProtocolError) ≡ Ok a → ToldOf d f a
turn_told d f true a is = read_told d f (frame_of f) a refl is
turn_told d f false a is = cc

told : (d : List Entry) (f : RawFrame) (a : StreamEvent) → has_failed d ≡ false → answer_after d f ≡ Ok a → ToldOf d f a
told d f a fine is = turn_told d f (is_in_turn (standing d) f) a
    (sym (cond_is_false (has_failed d) (Ok no_effect) (on_raw_frame (standing d) f) fine) ∙ is)

-- an event after a connection error is none
failed_is_nothing : (P : Event → Type 0) (d : List Entry) (f : RawFrame) (a : StreamEvent) → P Nothing → has_failed d ≡ true →
    answer_after d f ≡ Ok a → P a.event
failed_is_nothing P d f a h bad is = subst (OkThen (λ (x : StreamEvent). P x.event))
    (sym (cond_is_true (has_failed d) (Ok no_effect) (on_raw_frame (standing d) f) bad) ∙ is) h

-- ---- the stream of an event

on_stream : (d : List Entry) (h : ℕ) (e : Event) → IsOnAt (standing d) h e → IsOnItsStream d e
on_stream d h Nothing is = tt
on_stream d h (Request s fields end_stream) is = is.0
on_stream d h (Content s content end_stream) is = sym (at_listed d s (live_streams d)) ∙ is
on_stream d h (Trailers s) is = sym (at_listed d s (live_streams d)) ∙ is
on_stream d h (Cancel s) is = sym (at_listed d s (live_streams d)) ∙ is

pub event_on_stream : (d : List Entry) (f : RawFrame) (a : StreamEvent) → answer_after d f ≡ Ok a → IsOnItsStream d a.event
event_on_stream d f a is = elim (cases_Bool (has_failed d)) [
  | inl bad ↦ failed_is_nothing (IsOnItsStream d) d f a tt bad is
  | inr fine ↦ on_stream d (highest_stream (d ++ In f ∷ [])) a.event (told d f a fine is).0
]

low : (d : List Entry) (f : RawFrame) (s t : ℕ) → has_stream (live_streams d) t ≡ true → Some t ≡ Some s →
    s ≤ highest_stream (d ++ In f ∷ [])
low d f s t lives names =
    let same : t ≡ s = ap (λ (o : Option ℕ). unwrap_or o 0) names in
    omega (arith, (listed_is_live d t lives).1, highest_rises d (In f ∷ []), same)

named_low : (d : List Entry) (f : RawFrame) (s : ℕ) (e : Event) → IsOnAt (standing d) (highest_stream (d ++ In f ∷ [])) e →
    stream_of_event e ≡ Some s → s ≤ highest_stream (d ++ In f ∷ [])
named_low d f s Nothing is names = cc
named_low d f s (Request t fields end_stream) is names = let same : t ≡ s = ap (λ (o : Option ℕ). unwrap_or o 0) names in
    omega (arith, is.1, same)
named_low d f s (Content t content end_stream) is names = low d f s t (sym (at_listed d t (live_streams d)) ∙ is) names
named_low d f s (Trailers t) is names = low d f s t (sym (at_listed d t (live_streams d)) ∙ is) names
named_low d f s (Cancel t) is names = low d f s t (sym (at_listed d t (live_streams d)) ∙ is) names

pub named_is_opened : (d : List Entry) (f : RawFrame) (a : StreamEvent) (s : ℕ) → answer_after d f ≡ Ok a →
    stream_of_event a.event ≡ Some s → s ≤ highest_stream (d ++ In f ∷ [])
named_is_opened d f a s is = elim (cases_Bool (has_failed d)) [
  | inl bad ↦ failed_is_nothing (λ (e : Event). stream_of_event e ≡ Some s → s ≤ highest_stream (d ++ In f ∷ [])) d f a (λ names. cc) bad is
  | inr fine ↦ named_low d f s a.event (told d f a fine is).0
]

-- a request is on the highest stream that is opened with it
pub request_is_highest : (d : List Entry) (f : RawFrame) (a : StreamEvent) (s : ℕ) (fields : List Header) (end_stream : Bool) →
    answer_after d f ≡ Ok a → a.event ≡ Request s fields end_stream → highest_stream (d ++ In f ∷ []) ≡ s
request_is_highest d f a s fields end_stream is = elim (cases_Bool (has_failed d)) [
  | inl bad ↦ failed_is_nothing (λ (e : Event). e ≡ Request s fields end_stream → highest_stream (d ++ In f ∷ []) ≡ s) d f a
      (λ names. cc) bad is
  | inr fine ↦ λ names. (subst (λ (e : Event). IsOnAt (standing d) (highest_stream (d ++ In f ∷ [])) e) names (told d f a fine is).0).1
]

-- ---- the live streams

no_goaway : (fs : List Frame) → AllByRecursion IsControlAnswer fs → list_any is_goaway fs ≡ false
no_goaway [] h = refl
no_goaway (Settings a ss ∷ fs) h = no_goaway fs h.1
no_goaway (Ping a o ∷ fs) h = no_goaway fs h.1
no_goaway (WindowUpdate s n ∷ fs) h = no_goaway fs h.1
no_goaway (RstStream s c ∷ fs) h = no_goaway fs h.1
no_goaway (Data s e b ∷ fs) h = absurd h.0
no_goaway (Headers s e x b ∷ fs) h = absurd h.0
no_goaway (Priority s p ∷ fs) h = absurd h.0
no_goaway (PushPromise f s p ∷ fs) h = absurd h.0
no_goaway (GoAway s c b ∷ fs) h = absurd h.0
no_goaway (Continuation s x b ∷ fs) h = absurd h.0
no_goaway (Unknown k f s p ∷ fs) h = absurd h.0

-- no connection error comes of it
pub stays_whole : (d : List Entry) (f : RawFrame) (a : StreamEvent) → has_failed d ≡ false → answer_after d f ≡ Ok a →
    has_failed (d ++ entries_of d f) ≡ false
stays_whole d f a fine is =
    let none : list_any is_goaway (control_frames a) ≡ false = no_goaway (control_frames a) (answers_are_control (standing d) f a is) in
    has_failed-append d (entries_of d f)
    ∙ ap (λ b. b || has_failed (entries_of d f)) fine
    ∙ ap (λ (r : Result StreamEvent ErrorCode). has_failed (In f ∷ map Out (frames_put (standing d) r))) is
    ∙ ap (list_any is_goaway) (all_sent (control_frames a))
    ∙ none

pub live_after_frame : (v : Standing) (d : List Entry) (f : RawFrame) (a : StreamEvent) → AreStreams v d → has_failed d ≡ false →
    answer_after d f ≡ Ok a → live_streams (d ++ entries_of d f) ≡ live_after d a.event
live_after_frame v d f a h fine is =
    let e = d ++ entries_of d f in
    let there : AreStreams (step_by (standing d) f a) e = at_law d f a fine (h.state fine).idle is in
    let same : step_by (standing d) f a ≡ standing e = (there.state (stays_whole d f a fine is)).is in
    let step : step_by (standing d) f a ≡ after_content (standing d) a (frame_of f) =
    cond_is_false (has_failed d) (standing d) (after_content (standing d) a (frame_of f)) fine in
    sym (at_numbers e (live_streams e))
    ∙ ap (λ (w : Standing). numbers_of w.live) (sym same ∙ step)
    ∙ (told d f a fine is).1
    ∙ numbers_are d a.event
