-- Every frame that is put can be written, so that it is read again.
use Rattle.std.proofs.Common.{◌≡◌, ℕ, ◌<◌, ◌≤◌, ◌^◌, ◌+◌, List, [], ◌∷◌, ◌++◌, refl, ap, sym, subst, arith, length, inl, inr}
use Rattle.std.specs.Prelude.{Bool, true, false, not, ◌&&◌, map, take, min, Ok, Err}
use Rattle.std.specs.List.{AllByRecursion}
use Rattle.std.proofs.lemmas.List.{length-take}
use Rattle.std.proofs.lemmas.List.Elements.{filter_map-append}
use Rattle.http2_streams.specs.Credit.{window_left}
use Rattle.http2_frames.specs.declared.codes.ErrorCode.{ErrorCode}
use Rattle.http2_frames.specs.declared.codes.ErrorCode.TheVariants.{EnhanceYourCalm}
use Rattle.http2_frames.specs.declared.error.FrameError.{FrameError}
use Rattle.http2_frames.specs.declared.frame.RawFrame.{RawFrame}
use Rattle.http2_frames.specs.declared.frame.Frame.{Frame}
use Rattle.http2_frames.specs.declared.frame.Frame.TheVariants.{Data}
use Rattle.http2_frames.specs.Writing.{IsStream, IsWritable, text_of, raw_of}
use Rattle.http2_frames.specs.Frames.{frame_of}
use Rattle.http2_frames.proofs.Again.{again, texts_again}
use Rattle.http2_streams.specs.declared.event.StreamEvent.{StreamEvent}
use Rattle.http2_streams.specs.History.{Entry, In, Unreadable, Out, Took, sent_frames, frame_out, highest_stream, has_failed, window, connection_window, is_ended_by_client}
use Rattle.http2_streams.specs.Rules.{answer_after}
use Rattle.http2_streams.specs.Entries.{control_frames, goaway_frame}
use Rattle.grpc_calls.specs.Responses.{is_last}
use Rattle.grpc_calls.proofs.Blocks.{short}
use Rattle.grpc_sending.specs.Pieces.{Piece}
use Rattle.grpc_sending.specs.Bytes.{position, untaken_count}
use Rattle.grpc_sending.specs.Owed.{OwedItem, pieces_left_on}
use Rattle.grpc_sending.specs.Pump.{natural_part, block_frame, reset_after, history_after_pump}
use Rattle.grpc_sending.proofs.Histories.{sent_more}
use Rattle.conn_core.specs.Past.{Past, new_past}
use Rattle.conn_core.proofs.Greeting.{greeted}
use Rattle.conn_core.specs.Floods.{is_flood}
use Rattle.conn_core.specs.Received.{Outcome, outcome, outcome_of, may_put, frames_to_put, fits, fault_frames, frame_entries, fault_entries}
use Rattle.client_reading.specs.Changes.{PastChange, past_after_change, past_of, IsReceivable, IsChange, BytesReceived, FrameRead, FaultMet, ItemGiven, BytesTaken, FramesPut, EventsGiven}
use Rattle.client_reading.specs.Reads.{ReadsFrames}
use Rattle.client_reading.proofs.Choices.{choose, all_append, all_by, fold_keeps}
use Rattle.client_reading.proofs.Numbered.{IsFramed, highest_low, live_numbered}
use Rattle.client_reading.proofs.Answers.{code_low, answers_writable}
use Rattle.client_reading.proofs.Nexts.{Next, IsFront, portion, pump_keeps}

-- all frames that were received are frames, and all that were put can be written
pub record Sound (d : List Entry) : Type 0 where
  pub framed : AllByRecursion IsFramed d
  pub written : AllByRecursion IsWritable (sent_frames d)

outs_framed : (fs : List Frame) → AllByRecursion IsFramed (map Out fs)
outs_framed [] = tt
outs_framed (f ∷ fs) = (tt, outs_framed fs)

pub sound_put : (d : List Entry) (fs : List Frame) → AllByRecursion IsWritable fs → Sound d → Sound (d ++ map Out fs)
sound_put d fs h s = record {
  framed = all_append IsFramed d (map Out fs) s.framed (outs_framed fs);
  written = subst (λ (gs : List Frame). AllByRecursion IsWritable gs) (sym (sent_more d fs))
      (all_append IsWritable (sent_frames d) fs s.written h);
}

-- an entry that puts nothing
abbrev IsSilent : Entry → Type 0
IsSilent e = sent_frames (e ∷ []) ≡ []

sound_entry : (d : List Entry) (e : Entry) → IsSilent e → IsFramed e → Sound d → Sound (d ++ e ∷ [])
sound_entry d e silent framed s = record {
  framed = all_append IsFramed d (e ∷ []) s.framed (framed, tt);
  written = subst (λ (gs : List Frame). AllByRecursion IsWritable gs) (sym (filter_map-append frame_out d (e ∷ [])))
      (all_append IsWritable (sent_frames d) (sent_frames (e ∷ [])) s.written
      (subst (λ (gs : List Frame). AllByRecursion IsWritable gs) (sym silent) tt));
}

-- ---- what is put for a frame

goaway_writable : (last : ℕ) (code : ErrorCode) → last < 2 ^ 31 → IsWritable (goaway_frame last code)
goaway_writable last code low = (low, code_low code, omega arith)

fitting_writable : (n : ℕ) (fs : List Frame) → AllByRecursion IsWritable fs → AllByRecursion IsWritable (frames_to_put n fs)
fitting_writable n [] h = tt
fitting_writable n (f ∷ fs) h = choose (AllByRecursion IsWritable) (may_put n f) (f ∷ frames_to_put (n + length (text_of f)) fs) []
    (λ _. (h.0, fitting_writable (n + length (text_of f)) fs h.1)) (λ _. tt)

abbrev IsWrittenOutcome : Outcome → Type 0
IsWrittenOutcome o = AllByRecursion IsWritable o.put

outcome_by : (flood : Bool) (n before after : ℕ) (r : _) → before < 2 ^ 31 → after < 2 ^ 31 →
    ((a : StreamEvent) → r ≡ Ok a → AllByRecursion IsWritable (control_frames a)) → IsWrittenOutcome (outcome_of flood n before after r)
outcome_by flood n before after (Err code) low high h = (goaway_writable before code low, tt)
outcome_by flood n before after (Ok a) low high h =
    choose IsWrittenOutcome (fits flood n a) _ _ (λ _. h a refl)
    (λ _. all_append IsWritable (frames_to_put n (control_frames a)) (goaway_frame after EnhanceYourCalm ∷ [])
    (fitting_writable n (control_frames a) (h a refl)) (goaway_writable after EnhanceYourCalm high, tt))

outcome_writable : (d : List Entry) (f : RawFrame) → AllByRecursion IsFramed d → IsReceivable f →
    AllByRecursion IsWritable (outcome d f).put
outcome_writable d f framed is =
    outcome_by (is_flood d f) (untaken_count d) (highest_stream d) (highest_stream (d ++ In f ∷ [])) (answer_after d f)
    (highest_low d framed)
    (highest_low (d ++ In f ∷ []) (all_append IsFramed d (In f ∷ []) framed (is, tt))) (λ a h. answers_writable d f a framed is h)

two_steps : (d : List Entry) (e : Entry) (fs : List Frame) → (d ++ e ∷ []) ++ map Out fs ≡ d ++ e ∷ map Out fs
two_steps [] e fs = refl
two_steps (x ∷ d) e fs = ap (λ (es : List Entry). x ∷ es) (two_steps d e fs)

sound_frame : (d : List Entry) (f : RawFrame) → IsReceivable f → Sound d → Sound (d ++ frame_entries d f)
sound_frame d f is s = subst Sound (two_steps d (In f) (outcome d f).put)
    (sound_put (d ++ In f ∷ []) (outcome d f).put (outcome_writable d f s.framed is) (sound_entry d (In f) refl is s))

fault_writable : (failed : Bool) (last : ℕ) (code : ErrorCode) → last < 2 ^ 31 → AllByRecursion IsWritable (fault_frames failed last code)
fault_writable true last code low = tt
fault_writable false last code low = (goaway_writable last code low, tt)

sound_fault : (d : List Entry) (e : FrameError) (code : ErrorCode) → Sound d → Sound (d ++ fault_entries d e code)
sound_fault d e code s = subst Sound (two_steps d (Unreadable e) (fault_frames (has_failed d) (highest_stream d) code))
    (sound_put (d ++ Unreadable e ∷ []) (fault_frames (has_failed d) (highest_stream d) code)
    (fault_writable (has_failed d) (highest_stream d) code (highest_low d s.framed)) (sound_entry d (Unreadable e) refl tt s))

-- ---- what the pump puts

reset_writable : (s : ℕ) (b : Bool) → IsStream s → AllByRecursion IsWritable (reset_after s b)
reset_writable s true is = ((is, omega arith), tt)
reset_writable s false is = tt

part_low : (size a b : ℕ) → min (min 16384 size) (min a b) ≤ 16384
part_low size a b = omega arith

taken_low : (n : ℕ) (xs : List ℕ) → length (take n xs) ≤ n
taken_low n xs = omega (arith, length-take n xs)

front_writable : (d : List Entry) (s : ℕ) (ps : List Piece) (fs : List Frame) → IsStream s → IsFront d s ps fs →
    AllByRecursion IsWritable fs
front_writable d s ps fs is (inl b) =
    let short' = short (position d) b.block in
    let here : IsWritable (block_frame d s b.block) = (is, omega (arith, short')) in
    subst (λ (gs : List Frame). AllByRecursion IsWritable gs) (sym b.put)
    (here, reset_writable s (is_last b.block && not (is_ended_by_client d s)) is)
front_writable d s ps fs is (inr p) =
    let low = part_low (length p.bytes) (natural_part (window_left (window d s))) (natural_part (window_left (connection_window d))) in
    let less = taken_low (portion d s p.bytes) p.bytes in
    let here : IsWritable (Data s false (take (portion d s p.bytes) p.bytes)) = (is, omega (arith, low, less)) in
    subst (λ (gs : List Frame). AllByRecursion IsWritable gs) (sym p.put) (here, tt)

sound_turn : (os : List OwedItem) (d : List Entry) (fs : List Frame) → Next d os fs → Sound d → Sound (d ++ map Out fs)
sound_turn os d fs n s = sound_put d fs (front_writable d n.stream (pieces_left_on d os n.stream) fs
    (live_numbered d n.stream s.framed n.lives) n.front) s

pub sound_pumped : (d : List Entry) (os : List OwedItem) → Sound d → Sound (history_after_pump d os)
sound_pumped d os s = pump_keeps Sound os (sound_turn os) d s

-- ---- every past

pub sound_change : (p : Past) (c : PastChange) → IsChange c → Sound p.history → Sound (past_after_change p c).history
sound_change p (BytesReceived bytes) is s = s
sound_change p (FrameRead f) is s = sound_frame p.history f is s
sound_change p (FaultMet e code) is s = sound_fault p.history e code s
sound_change p (ItemGiven t item) is s = s
sound_change p (BytesTaken n) is s = sound_entry p.history (Took n) refl tt s
sound_change p FramesPut is s = sound_pumped p.history p.owed s
sound_change p (EventsGiven left) is s = s

sound_opening : (window : ℕ) → window < 2 ^ 31 → Sound (new_past window).history
sound_opening window most =
    greeted Sound window (record {
      framed = (tt, (tt, tt));
      written =
          ((((omega arith, omega arith), ((omega arith, omega arith), tt)), omega arith, λ h. cc), ((omega arith, omega arith), tt));
    })
    (record { framed = (tt, tt); written = ((((omega arith, omega arith), tt), omega arith, λ h. cc), tt) })

pub sound_past : (window : ℕ) (cs : List PastChange) → window < 2 ^ 31 → AllByRecursion IsChange cs → Sound (past_of window cs).history
sound_past window cs most all = fold_keeps (λ (p : Past). Sound p.history) IsChange past_after_change (new_past window) cs sound_change all
    (sound_opening window most)

pub sound_reads : (d : List Entry) → Sound d → ReadsFrames d
sound_reads d s = record {
  divided = texts_again [] (sent_frames d) s.written;
  understood =
      all_by IsWritable (λ f. frame_of (raw_of f) ≡ Ok f) (sent_frames d) again s.written;
}

pub frames_read : (window : ℕ) (cs : List PastChange) → window < 2 ^ 31 → AllByRecursion IsChange cs →
    ReadsFrames (past_of window cs).history
frames_read window cs most all = sound_reads (past_of window cs).history (sound_past window cs most all)
