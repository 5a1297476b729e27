-- Dividing a text into messages from left to right.
use Rattle.std.specs.Prelude.{ℕ, ◌+◌, nat_lt, if◌then◌else◌, List, length, take, drop, Option, Some, None, Result, Ok, Err}
use Rattle.http2_frames.specs.Items.{Format, divide}
use Rattle.grpc_messages.specs.declared.error.MessagesError.{MessagesError}
use Rattle.grpc_messages.specs.declared.error.MessagesError.TheVariants.{Compressed, TooLarge}
use Rattle.grpc_messages.specs.Wire.{Split, flag_of, size_of}

-- the length of the whole message at the front, if one is there
abbrev pub whole_at : ℕ → List ℕ → Result (Option ℕ) MessagesError
whole_at limit bytes =
    if nat_lt (length bytes) 5 then Ok None
    else if nat_lt 0 (flag_of bytes) then Err Compressed
    else if nat_lt limit (size_of bytes) then Err TooLarge
    else if nat_lt (length bytes) (5 + size_of bytes) then Ok None
    else Ok (Some (size_of bytes))

-- that message
abbrev pub message_at : List ℕ → List ℕ
message_at bytes = take (size_of bytes) (drop 5 bytes)

abbrev pub message_format : ℕ → Format (List ℕ) MessagesError
message_format limit = record { head = 5; whole_at = whole_at limit; item_at = message_at }

abbrev pub split : ℕ → List ℕ → Split
split limit text = divide (message_format limit) text
