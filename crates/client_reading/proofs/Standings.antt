-- Nothing has passed on a stream above the highest that was opened, so that the laws of live streams hold of every past.
use Rattle.std.proofs.Common.{◌≡◌, ℕ, ◌-◌, ◌≤◌, List, [], ◌∷◌, ◌++◌, refl, ap, ◌∙◌, sym, subst, append_assoc, arith, length, inl, inr}
use Rattle.std.specs.Prelude.{Bool, true, false, not, ◌&&◌, ◌||◌, ◌==◌, map, take, Result, Ok, Err}
use Rattle.std.specs.List.{AllByRecursion, list_any}
use Rattle.std.proofs.lemmas.Bool.{cases_Bool, true≢false}
use Rattle.std.proofs.lemmas.List.Folds.{list_any-append}
use Rattle.hpack.specs.Encoding.{block_text}
use Rattle.http2_frames.specs.declared.codes.ErrorCode.{ErrorCode}
use Rattle.http2_frames.specs.declared.codes.ErrorCode.TheVariants.{NoError, EnhanceYourCalm}
use Rattle.http2_frames.specs.declared.error.FrameError.{FrameError}
use Rattle.http2_frames.specs.declared.frame.RawFrame.{RawFrame}
use Rattle.http2_frames.specs.declared.frame.Frame.{Frame}
use Rattle.http2_frames.specs.declared.frame.Frame.TheVariants.{Data, Headers, RstStream, Settings, WindowUpdate}
use Rattle.http2_frames.specs.Codes.{code_number}
use Rattle.http2_streams.specs.declared.event.StreamEvent.{StreamEvent}
use Rattle.http2_streams.specs.History.{Entry, In, Unreadable, Out, Took, live_streams, highest_stream, has_failed, is_goaway, is_ended_by_client}
use Rattle.http2_streams.specs.LiveStreams.{has_stream}
use Rattle.http2_streams.specs.Rules.{number_is, is_live_at, answer_after}
use Rattle.http2_streams.specs.Entries.{control_frames, entries_of, goaway_frame}
use Rattle.http2_streams.specs.Standing.{Standing, standing, stream_at}
use Rattle.http2_streams.specs.StandsFor.{AreStreams}
use Rattle.http2_streams.specs.Step.{after_reset, after_server_end, after_data}
use Rattle.http2_streams.proofs.Law.{IsIdle, at_law, has_failed-append}
use Rattle.http2_streams.proofs.LiveLaw.{listed_is_live, highest_rises}
use Rattle.http2_streams.proofs.PutLaw.{headers_put_law, data_put_law, reset_put_law, no_matter}
use Rattle.grpc_calls.specs.Responses.{fields_of, is_last}
use Rattle.grpc_sending.specs.Pieces.{Piece}
use Rattle.grpc_sending.specs.Bytes.{position, untaken_count}
use Rattle.grpc_sending.specs.Owed.{OwedItem, pieces_left_on}
use Rattle.grpc_sending.specs.Pump.{reset_after}
use Rattle.conn_core.specs.Past.{Past, new_past, initial_window, streams_setting, window_setting}
use Rattle.conn_core.proofs.Greeting.{greeted}
use Rattle.conn_core.specs.Floods.{is_flood}
use Rattle.conn_core.specs.Received.{Outcome, outcome, fault_outcome, frames_to_put, fits, fault_frames, frame_entries}
use Rattle.conn_core.proofs.Answered.{outcome_good, outcome_cut, outcome_fault, entries_caused}
use Rattle.client_reading.specs.Changes.{PastChange, past_after_change, past_of, IsChange, BytesReceived, FrameRead, FaultMet, ItemGiven, BytesTaken, FramesPut, EventsGiven}
use Rattle.client_reading.proofs.Choices.{or_none, fold_keeps}
use Rattle.client_reading.proofs.Controls.{out_sent}
use Rattle.client_reading.proofs.Nexts.{Next, IsFront, portion, pump_keeps}

abbrev pub Stands : List Entry → Type 0
Stands d = has_failed d ≡ false → IsIdle d

pub as_kept : (d : List Entry) → Stands d → AreStreams (standing d) d
as_kept d h = record { fault = refl; state = λ fine. record { is = refl; idle = h fine } }

of_kept : (v : Standing) (d : List Entry) → AreStreams v d → Stands d
of_kept v d h fine = (h.state fine).idle

-- ---- errors of the connection

pub over : (d : List Entry) → has_failed d ≡ true → Stands d
over d bad fine = absurd (true≢false (sym bad ∙ fine))

or_later : (b c : Bool) → c ≡ true → (b || c) ≡ true
or_later true c h = refl
or_later false c h = h

failed_later : (d es : List Entry) → has_failed es ≡ true → has_failed (d ++ es) ≡ true
failed_later d es h = has_failed-append d es ∙ or_later (has_failed d) (has_failed es) h

goaway_last : (fs : List Frame) (last : ℕ) (code : ErrorCode) → list_any is_goaway (fs ++ goaway_frame last code ∷ []) ≡ true
goaway_last fs last code = list_any-append is_goaway fs (goaway_frame last code ∷ []) ∙ or_later (list_any is_goaway fs) true refl

pub failed_by : (d : List Entry) (f : RawFrame) (fs : List Frame) (last : ℕ) (code : ErrorCode) → outcome d f ≡ fault_outcome fs last code →
    has_failed (d ++ frame_entries d f) ≡ true
failed_by d f fs last code is =
    let puts : (outcome d f).put ≡ fs ++ goaway_frame last code ∷ [] = ap (λ (o : Outcome). o.put) is in
    failed_later d (frame_entries d f) (ap (λ (gs : List Frame). list_any is_goaway gs) (out_sent (outcome d f).put ∙ puts)
    ∙ goaway_last fs last code)

-- ---- a received frame

pub entries_good : (d : List Entry) (f : RawFrame) (a : StreamEvent) → answer_after d f ≡ Ok a →
    fits (is_flood d f) (untaken_count d) a ≡ true → frame_entries d f ≡ entries_of d f
entries_good d f a is fit = ap (λ (o : Outcome). In f ∷ map Out o.put) (outcome_good d f a is fit) ∙ sym (entries_caused d f a is)

before_more : (d es : List Entry) → has_failed (d ++ es) ≡ false → has_failed d ≡ false
before_more d es fine = (or_none (has_failed d) (has_failed es) (sym (has_failed-append d es) ∙ fine)).0

stands_good : (d : List Entry) (f : RawFrame) (a : StreamEvent) → answer_after d f ≡ Ok a → fits (is_flood d f) (untaken_count d) a ≡ true →
    Stands d → Stands (d ++ frame_entries d f)
stands_good d f a is fit h fine =
    let before = before_more d (frame_entries d f) fine in
    let same : d ++ entries_of d f ≡ d ++ frame_entries d f = ap (λ (es : List Entry). d ++ es) (sym (entries_good d f a is fit)) in
    subst Stands same (of_kept _ (d ++ entries_of d f) (at_law d f a before (h before) is)) fine

frame_by : (d : List Entry) (f : RawFrame) (r : Result StreamEvent ErrorCode) → answer_after d f ≡ r → Stands d →
    Stands (d ++ frame_entries d f)
frame_by d f (Err code) is h = over (d ++ frame_entries d f) (failed_by d f [] (highest_stream d) code (outcome_fault d f code is))
frame_by d f (Ok a) is h = elim (cases_Bool (fits (is_flood d f) (untaken_count d) a)) [
  | inl fit ↦ stands_good d f a is fit h
  | inr cut ↦ over (d ++ frame_entries d f) (failed_by d f (frames_to_put (untaken_count d) (control_frames a))
      (highest_stream (d ++ In f ∷ [])) EnhanceYourCalm (outcome_cut d f a is cut))
]

pub stands_frame : (d : List Entry) (f : RawFrame) → Stands d → Stands (d ++ frame_entries d f)
stands_frame d f h = frame_by d f (answer_after d f) refl h

-- ---- other entries

stands_aside : (d : List Entry) (n : ℕ) → Stands d → Stands (d ++ Took n ∷ [])
stands_aside d n h = of_kept (standing d) (d ++ Took n ∷ []) (no_matter (standing d) d (Took n) tt (as_kept d h))

stands_fault : (d : List Entry) (e : FrameError) (code : ErrorCode) (failed : Bool) → has_failed d ≡ failed →
    Stands (d ++ Unreadable e ∷ map Out (fault_frames failed (highest_stream d) code))
stands_fault d e code true is = over (d ++ Unreadable e ∷ []) (has_failed-append d (Unreadable e ∷ []) ∙ ap (λ b. b || false) is)
stands_fault d e code false is = over (d ++ Unreadable e ∷ Out (goaway_frame (highest_stream d) code) ∷ [])
    (failed_later d (Unreadable e ∷ Out (goaway_frame (highest_stream d) code) ∷ []) refl)

-- ---- the pump

listed_at : (d : List Entry) (s : ℕ) (ts : List ℕ) → list_any (number_is s) (map (stream_at d) ts) ≡ has_stream ts s
listed_at d s [] = refl
listed_at d s (t ∷ ts) = ap (λ b. t == s || b) (listed_at d s ts)

lives_at : (d : List Entry) (s : ℕ) → has_stream (live_streams d) s ≡ true → is_live_at (standing d) s ≡ true
lives_at d s lives = listed_at d s (live_streams d) ∙ lives

stands_reset : (d : List Entry) (s : ℕ) (b : Bool) → s ≤ highest_stream d → Stands d → Stands (d ++ map Out (reset_after s b))
stands_reset d s true low h = of_kept _ (d ++ Out (RstStream s (code_number NoError)) ∷ [])
    (reset_put_law (standing d) (after_reset (standing d) s) d s (code_number NoError) low refl (as_kept d h))
stands_reset d s false low h = subst Stands (sym (append-none d)) h where
  append-none : (es : List Entry) → es ++ [] ≡ es
  append-none [] = refl
  append-none (e ∷ es) = ap (λ xs. e ∷ xs) (append-none es)

stands_block : (d : List Entry) (s : ℕ) (e x b : Bool) (fragment : List ℕ) → has_stream (live_streams d) s ≡ true → Stands d →
    Stands (d ++ map Out (Headers s e x fragment ∷ reset_after s b))
stands_block d s e x b fragment lives h =
    let block : List Entry = Out (Headers s e x fragment) ∷ [] in
    let put : Stands (d ++ block) = of_kept _ (d ++ block)
    (headers_put_law (standing d) (after_server_end (standing d) s e) d s e x fragment (lives_at d s lives) refl (as_kept d h)) in
    let low : s ≤ highest_stream (d ++ block) = omega (arith, (listed_is_live d s lives).1, highest_rises d block) in
    subst Stands (append_assoc d block (map Out (reset_after s b))) (stands_reset (d ++ block) s b low put)

stands_part : (d : List Entry) (s : ℕ) (bytes : List ℕ) → has_stream (live_streams d) s ≡ true → Stands d →
    Stands (d ++ Out (Data s false bytes) ∷ [])
stands_part d s bytes lives h = of_kept _ (d ++ Out (Data s false bytes) ∷ [])
    (data_put_law (standing d) (after_data (standing d) s (length bytes)) d s (length bytes) false bytes (lives_at d s lives) refl refl
    (as_kept d h))

stands_front : (d : List Entry) (s : ℕ) (ps : List Piece) (fs : List Frame) → has_stream (live_streams d) s ≡ true → IsFront d s ps fs →
    Stands d → Stands (d ++ map Out fs)
stands_front d s ps fs lives (inl b) h = subst (λ (gs : List Frame). Stands (d ++ map Out gs)) (sym b.put)
    (stands_block d s (is_last b.block) true (is_last b.block && not (is_ended_by_client d s))
    (block_text (position d) (fields_of b.block)) lives h)
stands_front d s ps fs lives (inr p) h = subst (λ (gs : List Frame). Stands (d ++ map Out gs)) (sym p.put)
    (stands_part d s (take (portion d s p.bytes) p.bytes) lives h)

stands_turn : (os : List OwedItem) (d : List Entry) (fs : List Frame) → Next d os fs → Stands d → Stands (d ++ map Out fs)
stands_turn os d fs n h = stands_front d n.stream (pieces_left_on d os n.stream) fs n.lives n.front h

-- ---- every past

stands_change : (p : Past) (c : PastChange) → IsChange c → Stands p.history → Stands (past_after_change p c).history
stands_change p (BytesReceived bytes) is h = h
stands_change p (FrameRead f) is h = stands_frame p.history f h
stands_change p (FaultMet e code) is h = stands_fault p.history e code (has_failed p.history) refl
stands_change p (ItemGiven t item) is h = h
stands_change p (BytesTaken n) is h = stands_aside p.history n h
stands_change p FramesPut is h = pump_keeps Stands p.owed (stands_turn p.owed) p.history h
stands_change p (EventsGiven left) is h = h

first_kept : AreStreams (standing []) []
first_kept = record {
  fault = refl;
  state = λ fine. record {
    is = refl;
    idle = λ s above. record {
      unreset = refl;
      unended_by_client = refl;
      unended_by_server = refl;
      granted = refl;
      spent =
          refl;
    };
  };
}

first_stands : (window : ℕ) → Stands (new_past window).history
first_stands window =
    let settings : Entry = Out (Settings false (streams_setting ∷ window_setting window ∷ [])) in
    let update : Entry = Out (WindowUpdate 0 (window - initial_window)) in
    let usual : Entry = Out (Settings false (streams_setting ∷ [])) in
    greeted Stands window
    (of_kept (standing []) (settings ∷ update ∷ [])
    (no_matter (standing []) (settings ∷ []) update tt (no_matter (standing []) [] settings tt first_kept)))
    (of_kept (standing []) (usual ∷ []) (no_matter (standing []) [] usual tt first_kept))

pub stands_past : (window : ℕ) (cs : List PastChange) → AllByRecursion IsChange cs → Stands (past_of window cs).history
stands_past window cs all = fold_keeps (λ (p : Past). Stands p.history) IsChange past_after_change (new_past window) cs stands_change all
    (first_stands window)
