-- What is received changes nothing of what is sent.
use Rattle.std.proofs.Common.{◌≡◌, ◌+◌, List, [], ◌∷◌, ◌++◌, length, drop, refl, ap, ◌∙◌, sym, arith}
use Rattle.std.specs.Prelude.{true, false, cond, sum_by, None}
use Rattle.std.specs.List.{flat_map, list_any, filter_map}
use Rattle.std.proofs.lemmas.List.Elements.{filter_map-append}
use Rattle.std.proofs.lemmas.List.Sums.{sum_by-append}
use Rattle.hpack.specs.declared.encoder.Position.TheVariants.{First, Later}
use Rattle.http2_frames.specs.declared.error.FrameError.{FrameError}
use Rattle.http2_frames.specs.declared.frame.RawFrame.{RawFrame}
use Rattle.http2_frames.specs.declared.frame.Frame.{Frame}
use Rattle.http2_frames.specs.Writing.{text_of}
use Rattle.http2_streams.specs.History.{Entry, In, Unreadable, sent_frames, frame_out, has_failed, is_goaway, is_not_closed}
use Rattle.http2_streams.proofs.LiveLaw.{live_falls}
use Rattle.grpc_sending.specs.Bytes.{bytes_put, count_taken, count_taken_by, is_headers}
use Rattle.grpc_sending.specs.Owed.{OwedItem, items_owed_on, pieces_of, pieces_after_frames}
use Rattle.grpc_sending.specs.StandsFor.{Sending, IsSending}
use Rattle.grpc_sending.proofs.Histories.{append-nil}

-- an entry that puts nothing and takes nothing
pub record IsHeard (e : Entry) : Type 0 where
  pub put : frame_out e ≡ None
  pub taken : count_taken_by e ≡ 0

heard_sent : (d : List Entry) (e : Entry) → IsHeard e → sent_frames (d ++ e ∷ []) ≡ sent_frames d
heard_sent d e h =
    let one : filter_map frame_out (e ∷ []) ≡ [] = rw h.put refl in
    filter_map-append frame_out d (e ∷ []) ∙ ap (λ (xs : List Frame). sent_frames d ++ xs) one ∙ append-nil (sent_frames d)

heard_taken : (d : List Entry) (e : Entry) → IsHeard e → count_taken (d ++ e ∷ []) ≡ count_taken d
heard_taken d e h =
    let one : sum_by count_taken_by (e ∷ []) ≡ 0 = ap (λ n. 0 + n) h.taken in
    omega (arith, sum_by-append count_taken_by d (e ∷ []), one)

pub stands_heard : (w : Sending) (d : List Entry) (os : List OwedItem) (e : Entry) → IsHeard e → IsSending w d os →
    IsSending w (d ++ e ∷ []) os
stands_heard w d os e h st =
    let same : sent_frames (d ++ e ∷ []) ≡ sent_frames d = heard_sent d e h in
    let bytes : bytes_put (d ++ e ∷ []) ≡ bytes_put d = ap (flat_map text_of) same in
    let count : count_taken (d ++ e ∷ []) ≡ count_taken d = heard_taken d e h in
    record {
      pending = st.pending ∙ ap (λ n. drop n (bytes_put d)) (sym count) ∙ ap (drop (count_taken (d ++ e ∷ []))) (sym bytes);
      taken = omega (arith, count, ap length bytes, st.taken);
      position = st.position ∙ ap (λ (fs : List Frame). cond (list_any is_headers fs) Later First) (sym same);
      queues = λ alive s lives more.
          let alive' : has_failed d ≡ false = ap (list_any is_goaway) (sym same) ∙ alive in
          let lives' : is_not_closed d s ≡ true = live_falls d (e ∷ []) s lives in
          ap (λ (fs : List Frame). pieces_after_frames fs s (flat_map pieces_of (items_owed_on s os) ++ more)) same
          ∙ st.queues alive' s lives' more;
    }

pub frame_heard : (w : Sending) (d : List Entry) (os : List OwedItem) (f : RawFrame) → IsSending w d os → IsSending w (d ++ In f ∷ []) os
frame_heard w d os f st = stands_heard w d os (In f) (record { put = refl; taken = refl }) st

pub fault_heard : (w : Sending) (d : List Entry) (os : List OwedItem) (e : FrameError) → IsSending w d os →
    IsSending w (d ++ Unreadable e ∷ []) os
fault_heard w d os e st = stands_heard w d os (Unreadable e) (record { put = refl; taken = refl }) st
