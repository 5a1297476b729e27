-- What the code puts next, by what it keeps, and what that means for a history. For the code alone,
-- but for `Rests` and `IsControl`: no public contract speaks of the others.
use Rattle.std.specs.Prelude.{◌≡◌, ℕ, ℤ, ◌≤◌, ◌==◌, not, if◌then◌else◌, Bool, true, false, List, [], ◌∷◌, ◌++◌, length, take, drop, map, Option, Some, None}
use Rattle.http2_streams.specs.Credit.{window_left}
use Rattle.http2_frames.specs.declared.frame.Frame.{Frame}
use Rattle.http2_frames.specs.declared.frame.Frame.TheVariants.{Data, Headers, RstStream}
use Rattle.http2_streams.specs.declared.stream.Stream.{Stream}
use Rattle.http2_streams.specs.History.{Entry, Out, is_not_closed}
use Rattle.http2_streams.specs.Standing.{Standing}
use Rattle.http2_streams.specs.StandsFor.{AreStreams}
use Rattle.grpc_sending.specs.Pieces.{Piece}
use Rattle.grpc_sending.specs.Pieces.{Block, Part}
use Rattle.grpc_sending.specs.Pieces.{Queue}
use Rattle.grpc_sending.specs.Turns.{Turn, Head, Content}
use Rattle.grpc_sending.specs.Owed.{OwedItem, without_front}
use Rattle.grpc_sending.specs.Pump.{part_size, first_of, next_frames, reset_after}
use Rattle.grpc_sending.specs.StandsFor.{Sending, IsSending, pieces_on}

abbrev pub content_turn : ℕ → ℕ → List ℕ → Option Turn
content_turn s n bytes = if n == 0 then None else Some (Content s (take n bytes))

abbrev pub turn_of : ℤ → Stream → List Piece → Option Turn
turn_of connection_window x [] = None
turn_of connection_window x (Block block ∷ ps) = Some (Head x.number block x.ended_by_client)
turn_of connection_window x (Part bytes ends ∷ ps) =
    content_turn x.number (part_size (length bytes) (window_left x.window) connection_window) bytes

abbrev pub turn_on : List Queue → ℤ → Stream → Option Turn
turn_on qs connection_window x = turn_of connection_window x (pieces_on x.number qs)

-- the turn of the first stream that has one
abbrev pub next_turn : List Queue → ℤ → List Stream → Option Turn
next_turn qs connection_window xs = first_of (turn_on qs connection_window) xs

-- ---- changes of one queue

abbrev pub without_first_at : ℕ → Queue → Queue
without_first_at s q = if q.stream == s then record q { pieces = drop 1 q.pieces } else q

abbrev pub without_front_at : ℕ → ℕ → Queue → Queue
without_front_at s n q = if q.stream == s then record q { pieces = without_front n q.pieces } else q

-- ---- what one turn does

-- the next frames were put
abbrev pub Puts : Standing → Sending → Standing → Sending → Type 0
Puts v w v' w' = (d : List Entry) (os : List OwedItem) → AreStreams v d → IsSending w d os →
    (fs : List Frame) × (next_frames d os ≡ Some fs) × AreStreams v' (d ++ map Out fs)
    × IsSending w' (d ++ map Out fs) os

-- nothing more can be put
abbrev pub Rests : Standing → Sending → Type 0
Rests v w =
    (d : List Entry) (os : List OwedItem) → AreStreams v d → IsSending w d os →
    next_frames d os ≡ None

-- a frame that puts nothing of what is owed
abbrev pub IsControl : Frame → Type 0
IsControl (Data s end_stream bytes) = ⊥
IsControl (Headers s end_stream end_headers fragment) = ⊥
IsControl _ = Unit {0}

-- RST_STREAM was put on a stream that was opened
abbrev pub Resets : Standing → Sending → ℕ → Standing → Sending → Type 0
Resets v w s v' w' =
    (d : List Entry) (os : List OwedItem) → s ≤ v.highest → AreStreams v d → IsSending w d os →
    AreStreams v' (d ++ Out (RstStream s 0) ∷ []) × IsSending w' (d ++ Out (RstStream s 0) ∷ []) os

-- a response was put to its end
abbrev pub Finishes : Standing → Sending → ℕ → Bool → Standing → Sending → Type 0
Finishes v w s ended_by_client v' w' =
    (d : List Entry) (os : List OwedItem) → s ≤ v.highest →
    (ended_by_client ≡ true → is_not_closed d s ≡ false) → AreStreams v d → IsSending w d os →
    AreStreams v' (d ++ map Out (reset_after s (not ended_by_client)))
    × IsSending w' (d ++ map Out (reset_after s (not ended_by_client))) os
