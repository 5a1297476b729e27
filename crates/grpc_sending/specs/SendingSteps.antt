-- For the code alone: no promise speaks of it.
use Rattle.std.specs.Prelude.{◌≡◌, ◌<◌, ℕ, suc, ℤ, ◌==◌, nat_lt, if◌then◌else◌, Bool, false, List, [], ◌∷◌, ◌++◌, length, take, drop, map, Option, Some, None}
use Rattle.std.specs.List.{AllByRecursion}
use Rattle.http2_streams.specs.Credit.{window_left}
use Rattle.http2_frames.specs.declared.frame.Frame.TheVariants.{Data}
use Rattle.http2_frames.specs.Writing.{text_of}
use Rattle.http2_streams.specs.History.{Entry, Out}
use Rattle.http2_frames.specs.declared.frame.Frame.{Frame}
use Rattle.http2_streams.specs.declared.stream.Stream.{Stream}
use Rattle.http2_streams.specs.Standing.{Standing}
use Rattle.http2_streams.specs.StandsFor.{AreStreams}
use Rattle.grpc_sending.specs.declared.piece.StoredPiece.{StoredPiece}
use Rattle.grpc_sending.specs.declared.piece.StoredPiece.TheVariants.{Encoded, Framed, Ranged}
use Rattle.grpc_sending.specs.declared.queue.Removal.{Removal}
use Rattle.grpc_sending.specs.declared.queue.Removal.TheVariants.{FirstPiece, FrontBytes}
use Rattle.grpc_sending.specs.declared.queue.StoredQueue.{StoredQueue}
use Rattle.grpc_sending.specs.declared.turn.Due.{Due}
use Rattle.grpc_sending.specs.declared.turn.Due.TheVariants.{Opens, Gives}
use Rattle.grpc_sending.specs.Pieces.{most_read}
use Rattle.grpc_sending.specs.Spans.{Span, span_front, span_size, span_after}
use Rattle.grpc_sending.specs.Owed.{OwedItem}
use Rattle.grpc_sending.specs.Pump.{part_size, first_of, next_frames}
use Rattle.grpc_sending.specs.Step.{Puts, Resets, Finishes}
use Rattle.grpc_sending.specs.StoredSending.{SourceTexts, StoredSending, sending_in, IsStoredSending, stored_on, ForgetsEnded}

-- what one turn does
abbrev pub PutsBy : SourceTexts → Standing → StoredSending → Standing → StoredSending → Type 0
PutsBy texts streams v after w = Puts streams (sending_in texts v) after (sending_in texts w)

abbrev pub ResetsBy : Standing → StoredSending → ℕ → Standing → StoredSending → Type 0
ResetsBy streams v s after w =
    (texts : SourceTexts) → Resets streams (sending_in texts v) s after (sending_in texts w)

abbrev pub FinishesBy : Standing → StoredSending → ℕ → Bool → Standing → StoredSending → Type 0
FinishesBy streams v s ended_by_client after w =
    (texts : SourceTexts) → Finishes streams (sending_in texts v) s ended_by_client after
    (sending_in texts w)

-- .. after a turn
abbrev pub EndsBy : SourceTexts → Standing → StoredSending → StoredSending → Type 0
EndsBy texts streams v w =
    (d : List Entry) (os : List OwedItem) → AreStreams streams d → IsStoredSending texts v d os →
    ForgetsEnded v.queues d → (fs : List Frame) → next_frames d os ≡ Some fs →
    ForgetsEnded w.queues (d ++ map Out fs)

-- the place of the first queue of stream s
abbrev pub first_at : ℕ → List StoredQueue → ℕ
first_at s [] = 0
first_at s (q ∷ qs) = if q.stream == s then 0 else suc (first_at s qs)

abbrev pub with_piece : StoredPiece → StoredQueue → StoredQueue
with_piece p q = record q { pieces = q.pieces ++ p ∷ [] }

-- a piece was appended to those of stream s
abbrev pub Appends : ℕ → StoredPiece → List StoredQueue → List StoredQueue → Type 0
Appends s p qs rs =
    (t : ℕ) → stored_on t rs ≡ (if s == t then stored_on t qs ++ p ∷ [] else stored_on t qs)

-- n bytes of the first piece were put
abbrev pub stored_front : ℕ → List StoredPiece → List StoredPiece
stored_front n [] = []
stored_front n (Encoded block ∷ ps) = Encoded block ∷ ps
stored_front n (Framed bytes ∷ ps) =
    if nat_lt n (length bytes) then Framed (drop n bytes) ∷ ps else ps
stored_front n (Ranged s ∷ ps) = map Ranged (span_after most_read n s) ++ ps

abbrev pub stored_first_at : ℕ → StoredQueue → StoredQueue
stored_first_at s q = if q.stream == s then record q { pieces = drop 1 q.pieces } else q

abbrev pub stored_front_at : ℕ → ℕ → StoredQueue → StoredQueue
stored_front_at s n q = if q.stream == s then record q { pieces = stored_front n q.pieces } else q

-- what a removal leaves of pieces, and of those of stream s
abbrev pub pieces_left : Removal → List StoredPiece → List StoredPiece
pieces_left FirstPiece ps = drop 1 ps
pieces_left (FrontBytes n) ps = stored_front n ps

abbrev pub left_at : Removal → ℕ → StoredQueue → StoredQueue
left_at removal s q =
    if q.stream == s then record q { pieces = pieces_left removal q.pieces } else q

-- the bytes that are left of the first message of a range
abbrev pub front_in : SourceTexts → Span → List ℕ
front_in texts s = span_front most_read s (texts s.source)

-- a DATA frame with n of them
abbrev pub range_frame : SourceTexts → ℕ → ℕ → Span → List ℕ
range_frame texts stream n s = text_of (Data stream false (take n (front_in texts s)))

-- the bytes of the first piece
abbrev pub front_bytes : SourceTexts → List StoredPiece → List ℕ
front_bytes texts [] = []
front_bytes texts (Encoded block ∷ ps) = []
front_bytes texts (Framed bytes ∷ ps) = bytes
front_bytes texts (Ranged s ∷ ps) = span_front most_read s (texts s.source)

-- a DATA frame with n of them
abbrev pub front_frame : SourceTexts → ℕ → ℕ → List StoredPiece → List ℕ
front_frame texts stream n ps = text_of (Data stream false (take n (front_bytes texts ps)))

abbrev pub count_due : ℕ → ℕ → Option Due
count_due s n = if n == 0 then None else Some (Gives s n)

abbrev pub due_of : ℤ → Stream → List StoredPiece → Option Due
due_of connection_window x [] = None
due_of connection_window x (Encoded block ∷ ps) = Some (Opens x.number block x.ended_by_client)
due_of connection_window x (Framed bytes ∷ ps) =
    count_due x.number (part_size (length bytes) (window_left x.window) connection_window)
due_of connection_window x (Ranged s ∷ ps) =
    count_due x.number (part_size (span_size most_read s) (window_left x.window) connection_window)

abbrev pub due_on : List StoredQueue → ℤ → Stream → Option Due
due_on qs connection_window x = due_of connection_window x (stored_on x.number qs)

-- the turn of the first stream that has one
abbrev pub next_due : List StoredQueue → ℤ → List Stream → Option Due
next_due qs connection_window xs = first_of (due_on qs connection_window) xs

-- ---- streams that have no turn

abbrev pub stream_due : Due → ℕ
stream_due (Opens s block ended_by_client) = s
stream_due (Gives s n) = s

-- none of these streams below s has a turn
abbrev pub NoneDueBelow : ℕ → List StoredQueue → ℤ → List Stream → Type 0
NoneDueBelow s qs connection_window xs =
    AllByRecursion (λ (x : Stream). x.number < s → due_on qs connection_window x ≡ None) xs

-- nothing can be put on the live streams below s
abbrev pub IsDoneBelow : ℕ → Standing → StoredSending → Type 0
IsDoneBelow s streams v =
    NoneDueBelow s v.queues (window_left streams.connection_window) streams.live

-- what is still to be put on all streams but s is the same
abbrev pub KeepsOthers : ℕ → List StoredQueue → List StoredQueue → Type 0
KeepsOthers s qs rs = (t : ℕ) → (s == t) ≡ false → stored_on t rs ≡ stored_on t qs
