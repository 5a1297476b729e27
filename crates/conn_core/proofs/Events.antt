-- What an entry adds to the notions of a history.
use Rattle.std.proofs.Common.{◌≡◌, ℕ, List, [], ◌∷◌, ◌++◌, refl, ap, ◌∙◌, sym, append_assoc}
use Rattle.std.specs.Prelude.{map}
use Rattle.std.specs.List.{filter_map}
use Rattle.std.proofs.lemmas.List.Elements.{filter_map-append}
use Rattle.http2_frames.specs.declared.frame.Frame.{Frame}
use Rattle.http2_frames.specs.declared.frame.RawFrame.{RawFrame}
use Rattle.http2_streams.specs.declared.event.Event.{Event}
use Rattle.http2_streams.specs.History.{Entry, In, Out, Took}
use Rattle.grpc_sending.proofs.Histories.{append-nil}
use Rattle.conn_core.specs.Received.{raw_in, received_raw_frames, outcome, frame_entries}
use Rattle.conn_core.specs.Calls.{events_of_entry, events_of_entries, events}

brought_more : (before es fs : List Entry) → events_of_entries before (es ++ fs) ≡ events_of_entries before es
    ++ events_of_entries (before ++ es) fs
brought_more before [] fs = ap (λ (d : List Entry). events_of_entries d fs) (sym (append-nil before))
brought_more before (e ∷ es) fs =
    ap (λ (xs : List Event). events_of_entry before e ++ xs)
    (brought_more (before ++ e ∷ []) es fs ∙ ap (λ (d : List Entry). events_of_entries (before ++ e ∷ []) es ++ events_of_entries d fs)
    (append_assoc before (e ∷ []) es))
    ∙ sym (append_assoc (events_of_entry before e) (events_of_entries (before ++ e ∷ []) es) (events_of_entries (before ++ e ∷ es) fs))

pub events_more : (d es : List Entry) → events (d ++ es) ≡ events d ++ events_of_entries d es
events_more d es = brought_more [] d es

out_brings : (d : List Entry) (fs : List Frame) → events_of_entries d (map Out fs) ≡ []
out_brings d [] = refl
out_brings d (f ∷ fs) = out_brings (d ++ Out f ∷ []) fs

pub events_out : (d : List Entry) (fs : List Frame) → events (d ++ map Out fs) ≡ events d
events_out d fs = events_more d (map Out fs) ∙ ap (λ (xs : List Event). events d ++ xs) (out_brings d fs) ∙ append-nil (events d)

-- a frame, and what is put for it
pub events_frame : (d : List Entry) (f : RawFrame) → events (d ++ frame_entries d f) ≡ events d ++ (outcome d f).event ∷ []
events_frame d f = events_more d (frame_entries d f)
    ∙ ap (λ (xs : List Event). events d ++ ((outcome d f).event ∷ xs)) (out_brings (d ++ In f ∷ []) (outcome d f).put)

pub events_took : (d : List Entry) (n : ℕ) → events (d ++ Took n ∷ []) ≡ events d
events_took d n = events_more d (Took n ∷ []) ∙ append-nil (events d)

out_raw : (fs : List Frame) → filter_map raw_in (map Out fs) ≡ []
out_raw [] = refl
out_raw (f ∷ fs) = out_raw fs

pub raw_out : (d : List Entry) (fs : List Frame) → received_raw_frames (d ++ map Out fs) ≡ received_raw_frames d
raw_out d fs = filter_map-append raw_in d (map Out fs) ∙ ap (λ (xs : List RawFrame). received_raw_frames d ++ xs) (out_raw fs)
    ∙ append-nil (received_raw_frames d)

pub raw_took : (d : List Entry) (n : ℕ) → received_raw_frames (d ++ Took n ∷ []) ≡ received_raw_frames d
raw_took d n = filter_map-append raw_in d (Took n ∷ []) ∙ append-nil (received_raw_frames d)
