-- Messages on the wire (gRPC over HTTP2, Length-Prefixed-Message): which bytes are a message, and
-- how the data of a call divides into messages.
use Rattle.std.specs.Prelude.{◌≡◌, ◌≢◌, ℕ, ◌+◌, ◌^◌, ◌<◌, ◌≤◌, ◌⊎◌, List, [], ◌∷◌, ◌++◌, length, drop, slice_index, Result, Ok, Err}
use Rattle.byteorder.specs.Endian.{big_number}
use Rattle.http2_frames.specs.Items.{Division}
use Rattle.http2_frames.specs.Grammar.{IsDivision}
use Rattle.grpc_messages.specs.declared.error.MessagesError.{MessagesError}
use Rattle.grpc_messages.specs.declared.error.MessagesError.TheVariants.{Compressed, TooLarge, CutOff, NoMemory}

-- the length of a message is below this limit: it is written in four bytes (Message-Length)
abbrev pub message_length_limit : ℕ
message_length_limit = 2 ^ 32

-- the flag 0 (Compressed-Flag), four bytes of length (Message-Length), and the message
pub record IsMessageText (limit : ℕ) (text message : List ℕ) : Type 0 where
  pub size : List ℕ
  pub parts : text ≡ (0 ∷ size) ++ message
  pub four : length size ≡ 4
  pub sized : big_number 4 size ≡ length message
  pub short : length message ≤ limit

-- the five bytes that stand before a message, read: its flag and its length
abbrev pub flag_of : List ℕ → ℕ
flag_of bytes = slice_index bytes 0

abbrev pub size_of : List ℕ → ℕ
size_of bytes = big_number 4 (drop 1 bytes)

-- less than a whole message, of which no fault can be seen yet
abbrev pub IsUnfinished : ℕ → List ℕ → Type 0
IsUnfinished limit bytes =
    (length bytes < 5) ⊎ (flag_of bytes ≡ 0) × (size_of bytes ≤ limit)
    × (length bytes < 5 + size_of bytes)

-- what stands behind the last whole message: an unfinished one, or the first five bytes of one that
-- is refused
abbrev pub IsEnd : ℕ → List ℕ → Result (List ℕ) MessagesError → Type 0
IsEnd limit bytes (Ok rest) = (bytes ≡ rest) × IsUnfinished limit bytes
IsEnd limit bytes (Err Compressed) = (5 ≤ length bytes) × (flag_of bytes ≢ 0)
IsEnd limit bytes (Err TooLarge) =
    (5 ≤ length bytes) × (flag_of bytes ≡ 0) × (limit < size_of bytes)
IsEnd limit bytes (Err CutOff) = ⊥
IsEnd limit bytes (Err NoMemory) = ⊥

-- what a text divides into: whole messages, and then a rest or a fault
abbrev pub Split : Type 0
Split = Division (List ℕ) MessagesError

abbrev pub IsSplit : ℕ → List ℕ → Split → Type 0
IsSplit limit text s = IsDivision (IsMessageText limit) (IsEnd limit) text s

-- the end of a text to which nothing more is added
abbrev pub end_of_rest : Result (List ℕ) MessagesError → Result Unit MessagesError
end_of_rest (Ok []) = Ok tt
end_of_rest (Ok (b ∷ bs)) = Err CutOff
end_of_rest (Err e) = Err e
