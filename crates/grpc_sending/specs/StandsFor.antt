-- What is kept for sending stands for a history and for all that was ever owed.
use Rattle.std.specs.Prelude.{◌≡◌, ◌≤◌, ◌==◌, ℕ, true, false, List, [], ◌∷◌, ◌++◌, length, if◌then◌else◌}
use Rattle.std.specs.List.{flat_map}
use Rattle.hpack.specs.declared.encoder.Position.{Position}
use Rattle.http2_streams.specs.History.{Entry, sent_frames, is_not_closed, has_failed}
use Rattle.grpc_sending.specs.Pieces.{Piece}
use Rattle.grpc_sending.specs.Pieces.{Queue}
use Rattle.grpc_sending.specs.Bytes.{bytes_put, count_taken, pending_bytes, position}
use Rattle.grpc_sending.specs.Owed.{OwedItem, pieces_of, items_owed_on, pieces_after_frames}

pub record Sending : Type 0 where
  -- the bytes that were put and not taken
  pub pending : List ℕ
  -- the place of the next header block
  pub position : Position
  -- what is still to be put on each stream
  pub queues : List Queue

-- the pieces of stream s
abbrev pub pieces_on : ℕ → List Queue → List Piece
pieces_on s [] = []
pieces_on s (q ∷ qs) = if q.stream == s then q.pieces else pieces_on s qs

-- the queue of stream s is what is left of the items owed to it, and more items would stand behind
-- it
abbrev pub IsQueue : List Entry → List OwedItem → List Queue → ℕ → Type 0
IsQueue d os qs s =
    (more : List Piece) →
    pieces_after_frames (sent_frames d) s (flat_map pieces_of (items_owed_on s os) ++ more)
    ≡ pieces_on s qs ++ more

pub record IsSending (v : Sending) (d : List Entry) (os : List OwedItem) : Type 0 where
  pub pending : v.pending ≡ pending_bytes d
  pub taken : count_taken d ≤ length (bytes_put d)
  pub position : v.position ≡ position d
  pub queues : has_failed d ≡ false → (s : ℕ) → is_not_closed d s ≡ true → IsQueue d os v.queues s
