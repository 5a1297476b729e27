-- What frames that are put, and bytes that are taken, change of the notions of a history.
use Rattle.std.proofs.Common.{◌≡◌, ◌+◌, ◌<◌, ◌≤◌, List, [], ◌∷◌, ◌++◌, length, drop, refl, ap, ◌∙◌, arith, length-append}
use Rattle.std.specs.Prelude.{map, sum_by}
use Rattle.std.specs.List.{flat_map, filter_map}
use Rattle.std.proofs.lemmas.List.{drop-append-le}
use Rattle.std.proofs.lemmas.List.Elements.{filter_map-append}
use Rattle.std.proofs.lemmas.List.Sums.{sum_by-append}
use Rattle.std.proofs.lemmas.Grind.{flat_map-append}
use Rattle.http2_frames.specs.declared.frame.Frame.{Frame}
use Rattle.http2_frames.specs.declared.frame.RawFrame.{RawFrame}
use Rattle.http2_frames.specs.Writing.{text_of, frame_text, raw_of}
use Rattle.http2_streams.specs.History.{Entry, Out, sent_frames, received_frames, frame_in, frame_out}
use Rattle.grpc_sending.specs.Bytes.{bytes_put, count_taken, count_taken_by, pending_bytes, untaken_count}

out_sent : (fs : List Frame) → filter_map frame_out (map Out fs) ≡ fs
out_sent [] = refl
out_sent (f ∷ fs) = ap (λ gs. f ∷ gs) (out_sent fs)

pub sent_more : (d : List Entry) (fs : List Frame) → sent_frames (d ++ map Out fs) ≡ sent_frames d ++ fs
sent_more d fs = filter_map-append frame_out d (map Out fs) ∙ ap (λ gs. sent_frames d ++ gs) (out_sent fs)

out_received : (fs : List Frame) → filter_map frame_in (map Out fs) ≡ []
out_received [] = refl
out_received (f ∷ fs) = out_received fs

pub append-nil : {A : Type 0} (xs : List A) → xs ++ [] ≡ xs
append-nil [] = refl
append-nil (x ∷ xs) = ap (λ ys. x ∷ ys) (append-nil xs)

pub received_more : (d : List Entry) (fs : List Frame) → received_frames (d ++ map Out fs) ≡ received_frames d
received_more d fs = filter_map-append frame_in d (map Out fs) ∙ ap (λ gs. received_frames d ++ gs) (out_received fs)
    ∙ append-nil (received_frames d)

out_taken : (fs : List Frame) → sum_by count_taken_by (map Out fs) ≡ 0
out_taken [] = refl
out_taken (f ∷ fs) = out_taken fs

pub taken_more : (d : List Entry) (fs : List Frame) → count_taken (d ++ map Out fs) ≡ count_taken d
taken_more d fs = sum_by-append count_taken_by d (map Out fs) ∙ omega (arith, out_taken fs)

pub bytes_more : (d : List Entry) (fs : List Frame) → bytes_put (d ++ map Out fs) ≡ bytes_put d ++ flat_map text_of fs
bytes_more d fs = ap (flat_map text_of) (sent_more d fs) ∙ flat_map-append text_of (sent_frames d) fs

pub pending_more : (d : List Entry) (fs : List Frame) → count_taken d ≤ length (bytes_put d) →
    pending_bytes (d ++ map Out fs) ≡ pending_bytes d ++ flat_map text_of fs
pending_more d fs h = ap (λ n. drop n (bytes_put (d ++ map Out fs))) (taken_more d fs) ∙ ap (drop (count_taken d)) (bytes_more d fs)
    ∙ drop-append-le (count_taken d) (bytes_put d) (flat_map text_of fs) h

pub taken_within : (d : List Entry) (fs : List Frame) → count_taken d ≤ length (bytes_put d) →
    count_taken (d ++ map Out fs) ≤ length (bytes_put (d ++ map Out fs))
taken_within d fs h = omega (arith, taken_more d fs, ap length (bytes_more d fs), length-append (bytes_put d) (flat_map text_of fs))

pub untaken_more : (d : List Entry) (fs : List Frame) → count_taken d ≤ length (bytes_put d) →
    untaken_count (d ++ map Out fs) ≡ untaken_count d + length (flat_map text_of fs)
untaken_more d fs h = ap length (pending_more d fs h) ∙ length-append (pending_bytes d) (flat_map text_of fs)

pub text_some : (r : RawFrame) → 0 < length (frame_text r)
text_some r = simp length-append (omega arith)

pub texts_some : (f : Frame) (fs : List Frame) → 0 < length (flat_map text_of (f ∷ fs))
texts_some f fs = omega (arith, length-append (text_of f) (flat_map text_of fs), text_some (raw_of f))

pub text_length : (r : RawFrame) → length (frame_text r) ≡ 9 + length r.payload
text_length r = simp length-append (omega arith)
