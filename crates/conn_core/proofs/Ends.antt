-- What an error of the connection leaves.
use Rattle.std.proofs.Common.{◌≡◌, ℕ, List, [], ◌∷◌, ◌++◌, refl, ap, ◌∙◌, sym, subst, append_assoc, arith, inl, inr}
use Rattle.std.specs.Prelude.{Bool, true, false, map, filter, fold, max, cond, not, ◌==◌, ◌&&◌, ◌||◌, Option, Some, None, Result, Err}
use Rattle.std.specs.List.{list_any}
use Rattle.std.proofs.lemmas.Bool.{cases_Bool, eqb-true}
use Rattle.std.proofs.lemmas.Bool.Decides.{nat_tests}
use Rattle.std.proofs.lemmas.List.{map-append}
use Rattle.std.proofs.lemmas.List.Folds.{list_any-append}
use Rattle.http2_frames.specs.declared.codes.ErrorCode.{ErrorCode}
use Rattle.http2_frames.specs.declared.codes.ErrorCode.TheVariants.{EnhanceYourCalm}
use Rattle.http2_frames.specs.declared.error.FrameError.{FrameError}
use Rattle.http2_frames.specs.declared.frame.RawFrame.{RawFrame}
use Rattle.http2_frames.specs.declared.frame.Frame.{Frame}
use Rattle.http2_streams.specs.declared.event.Event.{Event}
use Rattle.http2_streams.specs.declared.event.Event.TheVariants.{Nothing, Request, Content, Trailers, Cancel}
use Rattle.http2_streams.specs.declared.event.StreamEvent.{StreamEvent}
use Rattle.http2_streams.specs.declared.stream.Stream.{Stream}
use Rattle.http2_streams.specs.History.{Entry, In, Unreadable, Out, sent_frames, has_failed, is_goaway, live_streams, highest_stream, is_ended_by_server, blocks_after, no_blocks, stream_of}
use Rattle.http2_streams.specs.Standing.{Standing}
use Rattle.http2_streams.specs.StandsFor.{AreStreams}
use Rattle.http2_streams.specs.Rules.{number_is, answer_after}
use Rattle.http2_streams.specs.Entries.{control_frames, entries_of, goaway_frame}
use Rattle.grpc_sending.specs.Bytes.{untaken_count}
use Rattle.grpc_sending.specs.StoredSending.{SourceTexts, sending_in, IsStoredSending}
use Rattle.grpc_sending.proofs.Histories.{received_more, sent_more}
use Rattle.grpc_sending.proofs.Received.{frame_heard, fault_heard}
use Rattle.grpc_sending.proofs.Takes.{live_is}
use Rattle.grpc_messages.specs.declared.error.MessagesError.{MessagesError}
use Rattle.conn_core.specs.declared.call.Call.{Call}
use Rattle.conn_core.specs.declared.event.CallEvent.{CallEvent}
use Rattle.conn_core.specs.declared.event.CallEvent.TheVariants.{Cancel as CallCancel}
use Rattle.conn_core.specs.Received.{fits, Outcome, outcome, fault_outcome, frames_to_put, fault_frames, fault_entries}
use Rattle.conn_core.specs.Calls.{is_call, cancels, call_events_of, items_at_once}
use Rattle.conn_core.specs.Past.{Past, owed_with_items, with_frame, with_fault}
use Rattle.conn_core.specs.StandsFor.{ConnectionValue, IsConnection, IsRestOfCall, call_on, members_of, call_stream}
use Rattle.conn_core.specs.Step.{AreCalls, IsTaking}
use Rattle.http2_streams.specs.LiveStreams.{IsOnItsStream, live_after, other_streams, stream_of_event}
use Rattle.conn_core.specs.Putting.{Puts, Fails, AwaitsItsAnswer, is_that, is_ending, ended_calls}
use Rattle.conn_core.proofs.Numbers.{any_kept}
use Rattle.http2_streams.proofs.EventLaw.{live_after_frame, event_on_stream}
use Rattle.http2_streams.proofs.LiveLaw.{idle_is_live}
use Rattle.conn_core.proofs.StreamsLaws.{answers_are}
use Rattle.conn_core.proofs.Opened.{idle}
use Rattle.conn_core.proofs.Answered.{outcome_cut, outcome_fault, in_front, answers_quiet, failed_after, entries_caused, put_behind}

-- ---- the calls that end

filter_same : (p q : ℕ → Bool) (xs : List ℕ) → ((s : ℕ) → list_any (λ t. t == s) xs ≡ true → p s ≡ q s) → filter p xs ≡ filter q xs
filter_same p q [] h = refl
filter_same p q (x ∷ xs) h =
    let self : (x == x) ≡ true = grind (arith, nat_tests) in
    let here : p x ≡ q x = h x (rw self refl) in
    let rest = filter_same p q xs (λ s k. h s (elim (cases_Bool (x == s)) [
      | inl a ↦ rw a refl
      | inr a ↦ rw a k
    ])) in
    elim (cases_Bool (q x)) [
      | inl keeps ↦ let k : p x ≡ true = here ∙ keeps in rw (keeps, k) (ap (λ (ys : List ℕ). x ∷ ys) rest)
      | inr drops ↦ let k : p x ≡ false = here ∙ drops in rw (drops, k) rest
    ]

cancels_are : (d : List Entry) (xs : List ℕ) (streams : List Stream) (reset : Option ℕ) → has_failed d ≡ false →
    members_of (live_streams d) xs ≡ filter (is_call d) (live_streams d) →
    ((s : ℕ) → list_any (λ t. t == s) xs ≡ true → is_ending streams reset s ≡ list_any (λ t. t == s) (live_streams d)) →
    ended_calls streams reset xs ≡ cancels d
cancels_are d xs streams reset fine order same =
    ap (λ (ss : List ℕ). map CallCancel ss) (filter_same (is_ending streams reset) (λ s. list_any (λ t. t == s) (live_streams d)) xs same
    ∙ order)
    ∙ ap (λ b. cond b [] (map CallCancel (filter (is_call d) (live_streams d)))) (sym fine)

or_none : (b : Bool) → (b || false) ≡ b
or_none true = refl
or_none false = refl

or_all : (b : Bool) → (b || true) ≡ true
or_all true = refl
or_all false = refl

and_all : (b : Bool) → (b && true) ≡ b
and_all true = refl
and_all false = refl

-- all calls on live streams
pub all_end : (u : Standing) (streams : List Stream) (d : List Entry) (v : ConnectionValue) → AreStreams u d → has_failed d ≡ false →
    streams ≡ u.live → AreCalls v d → ended_calls streams None (map call_stream v.calls) ≡ cancels d
all_end u streams d v at fine same calls = cancels_are d (map call_stream v.calls) streams None fine calls.order (λ s h.
    or_none (list_any (number_is s) streams) ∙ ap (list_any (number_is s)) same ∙ live_is u d s at (at.fault ∙ fine))

-- ---- of a frame whose answer does not fit, the stream of its event ends, too

with_that : (ss : List ℕ) (s t : ℕ) (b : Bool) → list_any (λ u. u == t) ss ≡ true →
    (list_any (λ u. u == s) (cond b (other_streams t ss) ss) || (t == s)) ≡ list_any (λ u. u == s) ss
with_that ss s t b h = elim (cases_Bool (t == s)) [
  | inl same ↦
      let e : t ≡ s = eqb-true t s same in
      let h' : list_any (λ u. u == s) ss ≡ true = subst (λ (n : ℕ). list_any (λ u. u == n) ss ≡ true) e h in
      ap (λ c. list_any (λ u. u == s) (cond b (other_streams t ss) ss) || c) same
      ∙ or_all (list_any (λ u. u == s) (cond b (other_streams t ss) ss)) ∙ sym h'
  | inr other ↦
      let other' : (s == t) ≡ false = grind (arith, nat_tests) in
      ap (λ c. list_any (λ u. u == s) (cond b (other_streams t ss) ss) || c) other
      ∙ or_none (list_any (λ u. u == s) (cond b (other_streams t ss) ss)) ∙ elim (cases_Bool b) [
        | inl leaves ↦ rw leaves (any_kept (λ u. not (u == t)) s ss ∙ ap (λ c. list_any (λ u. u == s) ss && not c) other'
            ∙ and_all (list_any (λ u. u == s) ss))
        | inr stays ↦ rw stays refl
      ]
]

abbrev IsOther : Event → ℕ → Type 0
IsOther (Request t fields end_stream) s = (t == s) ≡ false
IsOther _ s = Unit {0}

ends_with : (d : List Entry) (event : Event) (s : ℕ) → IsOnItsStream d event → IsOther event s →
    (list_any (λ t. t == s) (live_after d event) || is_that (stream_of_event event) s) ≡ list_any (λ t. t == s) (live_streams d)
ends_with d Nothing s h k = or_none (list_any (λ t. t == s) (live_streams d))
ends_with d (Request t fields end_stream) s h k =
    ap (λ b. list_any (λ u. u == s) (live_streams d ++ t ∷ []) || b) k ∙ or_none (list_any (λ u. u == s) (live_streams d ++ t ∷ []))
    ∙ list_any-append (λ u. u == s) (live_streams d) (t ∷ []) ∙ ap (λ b. list_any (λ u. u == s) (live_streams d) || (b || false)) k
    ∙ or_none (list_any (λ u. u == s) (live_streams d))
ends_with d (Content t content true) s h k = with_that (live_streams d) s t (is_ended_by_server d t) h
ends_with d (Content t content false) s h k = with_that (live_streams d) s t false h
ends_with d (Trailers t) s h k = with_that (live_streams d) s t (is_ended_by_server d t) h
ends_with d (Cancel t) s h k = with_that (live_streams d) s t true h

no_call : (d : List Entry) (s : ℕ) (o : Option (Result (List ℕ) MessagesError)) → IsRestOfCall d s o → is_call d s ≡ false → o ≡ None
no_call d s None h k = refl
no_call d s (Some m) h k = let no : true ≡ false = sym h.0 ∙ k in absurd (let z : ⊥ = cc in z)

not_among : (s : ℕ) (cs : List Call) → call_on s cs ≡ None → list_any (λ t. t == s) (map call_stream cs) ≡ false
not_among s [] h = refl
not_among s (c ∷ cs) h = elim (cases_Bool (c.stream == s)) [
  | inl same ↦ let no : Some c.messages ≡ None = rw same at h in cc
  | inr other ↦ let h' : call_on s cs ≡ None = rw other at h in rw other (not_among s cs h')
]

other_than : (u : Standing) (d : List Entry) (v : ConnectionValue) (event : Event) (s : ℕ) → AreStreams u d → has_failed d ≡ false →
    AreCalls v d → IsOnItsStream d event → list_any (λ t. t == s) (map call_stream v.calls) ≡ true → IsOther event s
other_than u d v Nothing s at fine calls h member = tt
other_than u d v (Content t content end_stream) s at fine calls h member = tt
other_than u d v (Trailers t) s at fine calls h member = tt
other_than u d v (Cancel t) s at fine calls h member = tt
other_than u d v (Request t fields end_stream) s at fine calls h member = elim (cases_Bool (t == s)) [
  | inl same ↦
      let e : t ≡ s = eqb-true t s same in
      let none : call_on t v.calls ≡ None = no_call d t (call_on t v.calls) (calls.calls t (idle_is_live u d t at fine h)) (idle d t h).0 in
      let no : true ≡ false = sym member ∙ ap (λ (n : ℕ). list_any (λ u. u == n) (map call_stream v.calls)) (sym e)
      ∙ not_among t v.calls none in
      absurd (let z : ⊥ = cc in z)
  | inr other ↦ other
]

failing_fine : (texts : SourceTexts) (v : ConnectionValue) (p : Past) (f : RawFrame) (a : StreamEvent) (flood : Bool) →
    AwaitsItsAnswer texts v p f a flood → has_failed (p.history ++ entries_of p.history f) ≡ false
failing_fine texts v p f a flood h = ap (λ (es : List Entry). has_failed (p.history ++ es)) (entries_caused p.history f a h.causes)
    ∙ failed_after p.history f (control_frames a) (answers_quiet (control_frames a) (answers_are p.history f a h.causes)) ∙ h.lives

cut_end : (texts : SourceTexts) (v : ConnectionValue) (p : Past) (f : RawFrame) (a : StreamEvent) (flood : Bool) →
    AwaitsItsAnswer texts v p f a flood → ended_calls v.streams.live (stream_of_event a.event) (map call_stream v.calls) ≡ cancels p.history
cut_end texts v p f a flood h =
    let fine : has_failed (p.history ++ entries_of p.history f) ≡ false = failing_fine texts v p f a flood h in
    let of : IsOnItsStream p.history a.event = event_on_stream p.history f a h.causes in
    cancels_are p.history (map call_stream v.calls) v.streams.live (stream_of_event a.event) h.lives h.calls.order (λ s member.
    ap (λ b. b || is_that (stream_of_event a.event) s)
    (live_is v.streams (p.history ++ entries_of p.history f) s h.streams (h.streams.fault ∙ fine)
    ∙ ap (list_any (λ t. t == s)) (live_after_frame h.before p.history f a h.stood h.lives h.causes))
    ∙ ends_with p.history a.event s of (other_than h.before p.history v a.event s h.stood h.lives h.calls of member))

-- ---- the highest number after a frame

abbrev top : List Frame → ℕ
top rs = fold max 0 (map stream_of (fold blocks_after no_blocks rs).finished)

highest_in : (d : List Entry) (f : RawFrame) (fs : List Frame) → highest_stream (d ++ In f ∷ map Out fs) ≡ highest_stream (d ++ In f ∷ [])
highest_in d f fs = ap highest_stream (in_front d f fs) ∙ ap top (received_more (d ++ In f ∷ []) fs)

highest_after : (texts : SourceTexts) (v : ConnectionValue) (p : Past) (f : RawFrame) (a : StreamEvent) (flood : Bool) →
    AwaitsItsAnswer texts v p f a flood → v.streams.highest ≡ highest_stream (p.history ++ In f ∷ [])
highest_after texts v p f a flood h =
    ap (λ (u : Standing). u.highest) (h.streams.state (failing_fine texts v p f a flood h)).is
    ∙ ap (λ (es : List Entry). highest_stream (p.history ++ es)) (entries_caused p.history f a h.causes)
    ∙ highest_in p.history f (control_frames a)

-- ---- a connection that ended

pub failed_with : (d : List Entry) (h : ℕ) (code : ErrorCode) → has_failed (d ++ Out (goaway_frame h code) ∷ []) ≡ true
failed_with d h code = ap (list_any is_goaway) (sent_more d (goaway_frame h code ∷ []))
    ∙ list_any-append is_goaway (sent_frames d) (goaway_frame h code ∷ []) ∙ or_all (list_any is_goaway (sent_frames d))

ended_stands : (texts : SourceTexts) (v x : ConnectionValue) (code : ErrorCode) (reset : Option ℕ) (d : List Entry) (q : Past) →
    Fails v code reset x → q.history ≡ d ++ Out (goaway_frame v.streams.highest code) ∷ [] → IsStoredSending texts v.sending d q.owed →
    q.due ≡ v.due ++ ended_calls v.streams.live reset (map call_stream v.calls) → IsConnection texts x q
ended_stands texts v x code reset d q h is sending due =
    let failed : has_failed q.history ≡ true = ap has_failed is ∙ failed_with d v.streams.highest code in
    record {
      ended = h.ended ∙ sym failed;
      streams = h.streams q.history failed;
      sending = subst (λ (es : List Entry). IsStoredSending texts x.sending es q.owed) (sym is) (h.sending texts d q.owed sending);
      due = h.due ∙ sym due;
      over = λ yes' s. h.none s;
      alive = λ alive. let no : true ≡ false = sym failed ∙ alive in absurd (let z : ⊥ = cc in z);
    }

abbrev frame_by : Past → RawFrame → Outcome → Past
frame_by p f o = record p {
  history = p.history ++ In f ∷ map Out o.put;
  owed = owed_with_items (p.history ++ In f ∷ map Out o.put) p.owed (items_at_once o.event);
  due = p.due ++ cond o.fails (cancels p.history) (call_events_of p.history o.event);
}

fails_frame : (texts : SourceTexts) (v x : ConnectionValue) (p : Past) (f : RawFrame) (fs : List Frame) (n : ℕ) (code : ErrorCode)
    (reset : Option ℕ) → outcome p.history f ≡ fault_outcome fs n code → v.streams.highest ≡ n →
    IsStoredSending texts v.sending (p.history ++ In f ∷ map Out fs) p.owed → v.due ≡ p.due →
    ended_calls v.streams.live reset (map call_stream v.calls) ≡ cancels p.history → Fails v code reset x →
    IsConnection texts x (with_frame p f)
fails_frame texts v x p f fs n code reset o top-is sending due ended h =
    let history : p.history ++ In f ∷ map Out (fs ++ goaway_frame n code ∷ []) ≡ (p.history ++ In f ∷ map Out fs)
    ++ Out (goaway_frame v.streams.highest code) ∷ [] =
    ap (λ (es : List Entry). p.history ++ In f ∷ es) (map-append Out fs (goaway_frame n code ∷ []))
    ∙ sym (append_assoc p.history (In f ∷ map Out fs) (Out (goaway_frame n code) ∷ []))
    ∙ ap (λ (m : ℕ). (p.history ++ In f ∷ map Out fs) ++ Out (goaway_frame m code) ∷ []) (sym top-is) in
    let q : Past = frame_by p f (fault_outcome fs n code) in
    subst (λ (y : Outcome). IsConnection texts x (frame_by p f y)) (sym o)
    (ended_stands texts v x code reset (p.history ++ In f ∷ map Out fs) (frame_by p f (fault_outcome fs n code)) h history sending
    (ap (λ (es : List CallEvent). es ++ cancels p.history) (sym due) ∙ ap (λ (es : List CallEvent). v.due ++ es) (sym ended)))

-- the answer of a frame does not fit
pub answered_cut : (texts : SourceTexts) (v w x : ConnectionValue) (p : Past) (f : RawFrame) (a : StreamEvent) (flood : Bool) →
    AwaitsItsAnswer texts v p f a flood → (b : Bool) → Puts v (control_frames a) b w → fits flood (untaken_count p.history) a ≡ false →
    Fails w EnhanceYourCalm (stream_of_event a.event) x → IsConnection texts x (with_frame p f)
answered_cut texts v w x p f a flood h b puts short fails =
    let o = outcome_cut p.history f a h.causes (ap (λ y. fits y (untaken_count p.history) a) (sym h.floods) ∙ short) in
    let streams : w.streams ≡ v.streams = ap (λ (y : ConnectionValue). y.streams) puts.rest in
    let calls : w.calls ≡ v.calls = ap (λ (y : ConnectionValue). y.calls) puts.rest in
    let due : w.due ≡ p.due = ap (λ (y : ConnectionValue). y.due) puts.rest ∙ h.due in
    let ended : ended_calls w.streams.live (stream_of_event a.event) (map call_stream w.calls) ≡ cancels p.history =
    ap (λ (u : Standing). ended_calls u.live (stream_of_event a.event) (map call_stream w.calls)) streams
    ∙ ap (λ (cs : List Call). ended_calls v.streams.live (stream_of_event a.event) (map call_stream cs)) calls
    ∙ cut_end texts v p f a flood h in
    fails_frame texts w x p f (frames_to_put (untaken_count p.history) (control_frames a))
    (highest_stream (p.history ++ In f ∷ [])) EnhanceYourCalm (stream_of_event a.event) o
    (ap (λ (u : Standing). u.highest) streams ∙ highest_after texts v p f a flood h)
    (put_behind texts v p f a flood w b h puts) due ended fails

-- a frame is an error of the connection
pub taken_fault : (texts : SourceTexts) (v x : ConnectionValue) (u : Standing) (p : Past) (f : RawFrame) (code : ErrorCode) →
    IsTaking texts v p f → answer_after p.history f ≡ Err code → u.live ≡ v.streams.live → u.highest ≡ v.streams.highest →
    Fails (record v { streams = u }) code None x → IsConnection texts x (with_frame p f)
taken_fault texts v x u p f code h is same top-is fails =
    let high : u.highest ≡ highest_stream p.history = top-is ∙ ap (λ (s : Standing). s.highest) (h.streams.state h.lives).is in
    fails_frame texts (record v { streams = u }) x p f [] (highest_stream p.history) code None (outcome_fault p.history f code is) high
    (frame_heard (sending_in texts v.sending) p.history p.owed f h.sending) h.due
    (all_end v.streams u.live p.history v h.streams h.lives same h.calls) fails

-- bytes that are no frame
pub read_fault : (texts : SourceTexts) (v x : ConnectionValue) (p : Past) (e : FrameError) (code : ErrorCode) →
    has_failed p.history ≡ false → AreStreams v.streams p.history → IsStoredSending texts v.sending p.history p.owed → v.due ≡ p.due →
    AreCalls v p.history → Fails v code None x → IsConnection texts x (with_fault p e code)
read_fault texts v x p e code fine at sending due calls h =
    let high : v.streams.highest ≡ highest_stream p.history = ap (λ (s : Standing). s.highest) (at.state fine).is in
    let history : p.history ++ fault_entries p.history e code ≡ (p.history ++ Unreadable e ∷ [])
    ++ Out (goaway_frame v.streams.highest code) ∷ [] =
    ap (λ b. p.history ++ Unreadable e ∷ map Out (fault_frames b (highest_stream p.history) code)) fine
    ∙ ap (λ (m : ℕ). p.history ++ Unreadable e ∷ Out (goaway_frame m code) ∷ []) (sym high)
    ∙ sym (append_assoc p.history (Unreadable e ∷ []) (Out (goaway_frame v.streams.highest code) ∷ [])) in
    ended_stands texts v x code None (p.history ++ Unreadable e ∷ []) (with_fault p e code) h history
    (fault_heard (sending_in texts v.sending) p.history p.owed e sending)
    (ap (λ (es : List CallEvent). es ++ cancels p.history) (sym due)
    ∙ ap (λ (es : List CallEvent). v.due ++ es) (sym (all_end v.streams v.streams.live p.history v at fine refl calls)))
