-- What is left of a range of a text: the piece that the code keeps for it, and what it stands for.
use Rattle.std.specs.Prelude.{ℕ, ◌+◌, ◌-◌, ◌<◌, ◌≤◌, nat_lt, min, if◌then◌else◌, List, [], ◌∷◌, ◌++◌, length, take, drop}
use Rattle.byteorder.specs.Endian.{big_bytes}
use Rattle.grpc_messages.specs.Writing.{framed_message}
use Rattle.grpc_sending.specs.Pieces.{Piece, length_text, read_message, message_pieces}
use Rattle.grpc_sending.specs.Owed.{without_front}

-- a source of which the text from a place until another is to be put, and how many bytes of the
-- first message were
pub record Span : Type 0 where
  pub source : ℕ
  pub from : ℕ
  pub until : ℕ
  pub put : ℕ

-- how many bytes of a text a message of at most m has
abbrev pub span_count : ℕ → Span → ℕ
span_count m s = min m (s.until - s.from)

-- the size of a framed ReadResponse with n bytes
abbrev pub read_size : ℕ → ℕ
read_size n = 6 + (length (length_text n) + n)

-- what stands before its n bytes
abbrev pub read_head : ℕ → List ℕ
read_head n = (0 ∷ big_bytes 4 (1 + (length (length_text n) + n))) ++ (82 ∷ length_text n)

-- how many bytes of the first message are left
abbrev pub span_size : ℕ → Span → ℕ
span_size m s = read_size (span_count m s) - s.put

abbrev pub span_text : Span → List ℕ → List ℕ
span_text s text = take (s.until - s.from) (drop s.from text)

-- the pieces that it stands for, messages of at most m bytes
abbrev pub span_pieces : ℕ → Span → List ℕ → List Piece
span_pieces m s text =
    without_front s.put (message_pieces text m (length (span_text s text)) (span_text s text))

-- the text, where the range ends with the first of them
abbrev pub span_ends : ℕ → Span → List ℕ → List (List ℕ)
span_ends m s text = if nat_lt m (s.until - s.from) then [] else text ∷ []

-- the bytes of the first
abbrev pub span_front : ℕ → Span → List ℕ → List ℕ
span_front m s text =
    drop s.put (framed_message (read_message (take (span_count m s) (drop s.from text))))

-- after n bytes of the first message were put
abbrev pub span_after : ℕ → ℕ → Span → List Span
span_after m n s =
    if nat_lt n (span_size m s) then record s { put = s.put + n } ∷ []
    else if nat_lt m (s.until - s.from) then record s { from = s.from + m; put = 0 } ∷ []
    else []

-- bytes are left, the text has them, and the first message is not wholly put
pub record IsSpan (m : ℕ) (s : Span) (text : List ℕ) : Type 0 where
  pub some : s.from < s.until
  pub there : s.until ≤ length text
  pub put : s.put < read_size (span_count m s)
