-- What is put besides HEADERS and DATA is what was caused, in order.
use Rattle.std.proofs.Common.{◌≡◌, ℕ, ◌+◌, List, [], ◌∷◌, ◌++◌, refl, ap, ◌∙◌, sym, subst, append_assoc, length, inl, inr}
use Rattle.std.specs.Prelude.{Bool, true, false, not, ◌&&◌, map, filter, Some, Result, Ok, Err}
use Rattle.std.specs.List.{AllByRecursion}
use Rattle.std.specs.Option.{option_map_or}
use Rattle.std.proofs.lemmas.List.Elements.{filter-append, filter_map-append}
use Rattle.hpack.specs.Encoding.{block_text}
use Rattle.http2_frames.specs.declared.codes.ErrorCode.{ErrorCode}
use Rattle.http2_frames.specs.declared.codes.ErrorCode.TheVariants.{EnhanceYourCalm}
use Rattle.http2_frames.specs.declared.error.FrameError.{FrameError}
use Rattle.http2_frames.specs.declared.frame.RawFrame.{RawFrame}
use Rattle.http2_frames.specs.declared.frame.Frame.{Frame}
use Rattle.http2_frames.specs.declared.frame.Frame.TheVariants.{Data, Headers, Priority, RstStream, Settings, PushPromise, Ping, GoAway, WindowUpdate, Continuation, Unknown}
use Rattle.http2_frames.specs.Writing.{text_of}
use Rattle.http2_streams.specs.declared.event.StreamEvent.{StreamEvent}
use Rattle.http2_streams.specs.History.{Entry, In, Unreadable, Out, Took, sent_frames, frame_out, highest_stream, has_failed, is_ended_by_client}
use Rattle.http2_streams.specs.Standing.{standing}
use Rattle.http2_streams.specs.Rules.{reading_fault, answer_after}
use Rattle.http2_streams.specs.Entries.{control_frames, goaway_frame}
use Rattle.http2_streams.specs.ControlAnswers.{IsControlAnswer}
use Rattle.http2_streams.proofs.ControlLaw.{answers_are_control}
use Rattle.grpc_calls.specs.Responses.{fields_of, is_last}
use Rattle.grpc_sending.specs.Pieces.{Piece}
use Rattle.grpc_sending.specs.Bytes.{position, untaken_count}
use Rattle.grpc_sending.specs.Owed.{OwedItem, pieces_left_on}
use Rattle.grpc_sending.specs.Pump.{reset_after}
use Rattle.grpc_sending.proofs.Histories.{sent_more, append-nil}
use Rattle.conn_core.specs.Past.{Past, new_past, greeting}
use Rattle.conn_core.specs.Floods.{is_flood}
use Rattle.conn_core.specs.Received.{Outcome, outcome, outcome_of, may_put, frames_to_put, fits, fault_frames, frame_entries, fault_entries}
use Rattle.client_reading.specs.Changes.{PastChange, past_after_change, past_of, IsChange, BytesReceived, FrameRead, FaultMet, ItemGiven, BytesTaken, FramesPut, EventsGiven}
use Rattle.client_reading.specs.Reads.{is_control, frames_caused_by, frames_caused_from, ReadsControl}
use Rattle.client_reading.proofs.Choices.{choose, all_append, all_by, fold_keeps}
use Rattle.client_reading.proofs.Nexts.{Next, IsFront, pump_keeps}

abbrev pub IsControl : Frame → Type 0
IsControl f = is_control f ≡ true

-- ---- answers are control frames

answer_control : (g : Frame) → IsControlAnswer g → IsControl g
answer_control (Settings ack settings) h = refl
answer_control (Ping ack o) h = refl
answer_control (WindowUpdate s n) h = refl
answer_control (RstStream s code) h = refl
answer_control (Data s e b) h = absurd h
answer_control (Headers s e x b) h = absurd h
answer_control (Priority s p) h = refl
answer_control (PushPromise f s p) h = refl
answer_control (GoAway s c b) h = refl
answer_control (Continuation s x b) h = refl
answer_control (Unknown k f s p) h = refl

fitting_control : (n : ℕ) (fs : List Frame) → AllByRecursion IsControl fs → AllByRecursion IsControl (frames_to_put n fs)
fitting_control n [] h = tt
fitting_control n (f ∷ fs) h = choose (AllByRecursion IsControl) (may_put n f) (f ∷ frames_to_put (n + length (text_of f)) fs) []
    (λ _. (h.0, fitting_control (n + length (text_of f)) fs h.1)) (λ _. tt)

abbrev PutsControl : Outcome → Type 0
PutsControl o = AllByRecursion IsControl o.put

outcome_by : (flood : Bool) (n before after : ℕ) (r : Result StreamEvent ErrorCode) →
    ((a : StreamEvent) → r ≡ Ok a → AllByRecursion IsControl (control_frames a)) → PutsControl (outcome_of flood n before after r)
outcome_by flood n before after (Err code) h = (refl, tt)
outcome_by flood n before after (Ok a) h =
    choose PutsControl (fits flood n a) _ _ (λ _. h a refl)
    (λ _. all_append IsControl (frames_to_put n (control_frames a)) (goaway_frame after EnhanceYourCalm ∷ [])
    (fitting_control n (control_frames a) (h a refl)) (refl, tt))

pub outcome_control : (d : List Entry) (f : RawFrame) → AllByRecursion IsControl (outcome d f).put
outcome_control d f = outcome_by (is_flood d f) (untaken_count d) (highest_stream d) (highest_stream (d ++ In f ∷ [])) (answer_after d f)
    (λ a h. all_by IsControlAnswer IsControl (control_frames a) answer_control (answers_are_control (standing d) f a h))

pub fault_control : (failed : Bool) (last : ℕ) (code : ErrorCode) → AllByRecursion IsControl (fault_frames failed last code)
fault_control true last code = tt
fault_control false last code = (refl, tt)

pub reset_control : (s : ℕ) (b : Bool) → AllByRecursion IsControl (reset_after s b)
reset_control s true = (refl, tt)
reset_control s false = tt

-- ---- what causes what

pub out_sent : (fs : List Frame) → sent_frames (map Out fs) ≡ fs
out_sent fs = sent_more [] fs

all_control : (fs : List Frame) → AllByRecursion IsControl fs → filter is_control fs ≡ fs
all_control [] h = refl
all_control (f ∷ fs) h = let here : is_control f ≡ true = h.0 in rw here (ap (λ gs. f ∷ gs) (all_control fs h.1))

none_caused : (before : List Entry) (f : Frame) → IsControl f → frames_caused_by before (Out f) ≡ []
none_caused before (Data s e b) h = refl
none_caused before (Headers s e x b) h = cc
none_caused before _ h = refl

outs_cause_nothing : (before : List Entry) (fs : List Frame) → AllByRecursion IsControl fs → frames_caused_from before (map Out fs) ≡ []
outs_cause_nothing before [] h = refl
outs_cause_nothing before (f ∷ fs) h = ap (λ gs. gs ++ frames_caused_from (before ++ Out f ∷ []) (map Out fs)) (none_caused before f h.0)
    ∙ outs_cause_nothing (before ++ Out f ∷ []) fs h.1

caused_more : (before xs ys : List Entry) → frames_caused_from before (xs ++ ys) ≡ frames_caused_from before xs
    ++ frames_caused_from (before ++ xs) ys
caused_more before [] ys = ap (λ (b : List Entry). frames_caused_from b ys) (sym (append-nil before))
caused_more before (x ∷ xs) ys =
    ap (λ gs. frames_caused_by before x ++ gs) (caused_more (before ++ x ∷ []) xs ys)
    ∙ sym (append_assoc (frames_caused_by before x) (frames_caused_from (before ++ x ∷ []) xs)
    (frames_caused_from ((before ++ x ∷ []) ++ xs) ys))
    ∙ ap (λ (b : List Entry). (frames_caused_by before x ++ frames_caused_from (before ++ x ∷ []) xs) ++ frames_caused_from b ys)
    (append_assoc before (x ∷ []) xs)

-- ---- more entries

grows : (window : ℕ) (d es : List Entry) → filter is_control (sent_frames es) ≡ frames_caused_from d es → ReadsControl window d →
    ReadsControl window (d ++ es)
grows window d es h r =
    let first : List Entry = greeting window in
    let e : d ≡ first ++ r.0 = r.1 in (
      r.0 ++ es,
      ap (λ (x : List Entry). x ++ es) e ∙ append_assoc first r.0 es,
      ap (filter is_control) (filter_map-append frame_out r.0 es) ∙ filter-append is_control (sent_frames r.0) (sent_frames es)
          ∙ ap (λ gs. gs ++ filter is_control (sent_frames es)) r.2
          ∙ ap (λ gs. frames_caused_from (greeting window) r.0 ++ gs) (h ∙ ap (λ (b : List Entry). frames_caused_from b es) e)
          ∙ sym (caused_more (greeting window) r.0 es),
    )

caused_first : (d : List Entry) (e : Entry) (fs : List Frame) → sent_frames (e ∷ map Out fs) ≡ sent_frames (map Out fs) →
    frames_caused_by d e ≡ fs → AllByRecursion IsControl fs →
    filter is_control (sent_frames (e ∷ map Out fs)) ≡ frames_caused_from d (e ∷ map Out fs)
caused_first d e fs silent h all =
    ap (filter is_control) (silent ∙ out_sent fs) ∙ all_control fs all ∙ sym h ∙ sym (append-nil (frames_caused_by d e))
    ∙ ap (λ gs. frames_caused_by d e ++ gs) (sym (outs_cause_nothing (d ++ e ∷ []) fs all))

control_frame : (window : ℕ) (d : List Entry) (f : RawFrame) → ReadsControl window d → ReadsControl window (d ++ frame_entries d f)
control_frame window d f r = grows window d (frame_entries d f) (caused_first d (In f) (outcome d f).put refl refl (outcome_control d f)) r

control_fault : (window : ℕ) (d : List Entry) (e : FrameError) (code : ErrorCode) → reading_fault e ≡ Some code → ReadsControl window d →
    ReadsControl window (d ++ fault_entries d e code)
control_fault window d e code is r =
    grows window d (fault_entries d e code)
    (caused_first d (Unreadable e) (fault_frames (has_failed d) (highest_stream d) code) refl
    (ap (λ o. option_map_or (fault_frames (has_failed d) (highest_stream d)) o []) is)
    (fault_control (has_failed d) (highest_stream d) code)) r

-- ---- the pump

turn_block : (d : List Entry) (s : ℕ) (l c eh : Bool) (fragment : List ℕ) → is_ended_by_client d s ≡ c →
    filter is_control (sent_frames (map Out (Headers s l eh fragment ∷ reset_after s (l && not c))))
    ≡ frames_caused_from d (map Out (Headers s l eh fragment ∷ reset_after s (l && not c)))
turn_block d s true true eh fragment is = ap (λ b. reset_after s (not b) ++ []) (sym is)
turn_block d s true false eh fragment is = ap (λ b. reset_after s (not b) ++ []) (sym is)
turn_block d s false c eh fragment is = refl

front_caused : (d : List Entry) (s : ℕ) (ps : List Piece) (fs : List Frame) → IsFront d s ps fs →
    filter is_control (sent_frames (map Out fs)) ≡ frames_caused_from d (map Out fs)
front_caused d s ps fs (inl b) = subst (λ (gs : List Frame). filter is_control (sent_frames (map Out gs))
    ≡ frames_caused_from d (map Out gs)) (sym b.put)
    (turn_block d s (is_last b.block) (is_ended_by_client d s) true (block_text (position d) (fields_of b.block)) refl)
front_caused d s ps fs (inr p) = subst (λ (gs : List Frame). filter is_control (sent_frames (map Out gs))
    ≡ frames_caused_from d (map Out gs)) (sym p.put) refl

control_turn : (window : ℕ) (os : List OwedItem) (d : List Entry) (fs : List Frame) → Next d os fs → ReadsControl window d →
    ReadsControl window (d ++ map Out fs)
control_turn window os d fs n r = grows window d (map Out fs) (front_caused d n.stream (pieces_left_on d os n.stream) fs n.front) r

-- ---- every past

control_change : (window : ℕ) (p : Past) (c : PastChange) → IsChange c → ReadsControl window p.history →
    ReadsControl window (past_after_change p c).history
control_change window p (BytesReceived bytes) is r = r
control_change window p (FrameRead f) is r = control_frame window p.history f r
control_change window p (FaultMet e code) is r = control_fault window p.history e code is r
control_change window p (ItemGiven t item) is r = r
control_change window p (BytesTaken n) is r = grows window p.history (Took n ∷ []) refl r
control_change window p FramesPut is r = pump_keeps (ReadsControl window) p.owed (control_turn window p.owed) p.history r
control_change window p (EventsGiven left) is r = r

pub control_past : (window : ℕ) (cs : List PastChange) → AllByRecursion IsChange cs → ReadsControl window (past_of window cs).history
control_past window cs all =
    fold_keeps (λ (p : Past). ReadsControl window p.history) IsChange past_after_change (new_past window) cs (control_change window) all
    ([], sym (append-nil (greeting window)), refl)
