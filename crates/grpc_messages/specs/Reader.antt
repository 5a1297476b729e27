-- What a reader of messages holds, and what that stands for.
use Rattle.std.specs.Prelude.{ℕ, ◌+◌, ◌-◌, nat_lt, nat_le, ◌&&◌, if◌then◌else◌, Bool, List, [], ◌∷◌, ◌++◌, length, Option, Some, None, Result, Ok, Err}
use Rattle.http2_frames.specs.Items.{fault_only, AreItemsSoFar}
use Rattle.grpc_messages.specs.declared.error.MessagesError.{MessagesError}
use Rattle.grpc_messages.specs.Wire.{Split, size_of}
use Rattle.grpc_messages.specs.Reading.{split}

-- the bytes that were not given yet, or the refusal
abbrev pub left_of : List ℕ → Option MessagesError → Result (List ℕ) MessagesError
left_of bytes None = Ok bytes
left_of bytes (Some e) = Err e

abbrev pub bytes_left : Result (List ℕ) MessagesError → List ℕ
bytes_left (Ok bytes) = bytes
bytes_left (Err e) = []

-- how many bytes are missing of the message that begins so: of what stands before it, where that is
-- not whole
abbrev pub missing_of : List ℕ → ℕ
missing_of bytes =
    if nat_lt (length bytes) 5 then 5 - length bytes else (5 + size_of bytes) - length bytes

-- a message has begun, and so many more bytes may end it
abbrev pub may_end_in : ℕ → List ℕ → Bool
may_end_in more bytes = nat_lt 0 (length bytes) && nat_le (missing_of bytes) more

abbrev pub with_more_bytes : Result (List ℕ) MessagesError → List ℕ → Result (List ℕ) MessagesError
with_more_bytes (Ok bytes) more = Ok (bytes ++ more)
with_more_bytes (Err e) more = Err e

abbrev pub split_left : ℕ → Result (List ℕ) MessagesError → Split
split_left limit (Ok bytes) = split limit bytes
split_left limit (Err e) = fault_only e

-- the reader has given these messages of the text, and will give the others, whatever follows
abbrev pub AreMessages : ℕ → Result (List ℕ) MessagesError → List ℕ → List (List ℕ) → Type 0
AreMessages limit reader text given =
    AreItemsSoFar (split limit) (λ more. split_left limit (with_more_bytes reader more)) text given

-- the messages in an answer
abbrev pub messages_in : Result (Option (List ℕ)) MessagesError → List (List ℕ)
messages_in (Ok None) = []
messages_in (Ok (Some m)) = m ∷ []
messages_in (Err e) = []
