-- What the message of a range is in the words of protobuf_wire.
use Rattle.std.specs.Prelude.{◌≡◌, ℕ, List}
use Rattle.protobuf_wire.specs.Writing.{records_text, bytes_field}
use Rattle.grpc_sending.specs.Pieces.{read_message}

-- a message whose one field has the number 10 and these bytes
abbrev pub IsFieldTen : List ℕ → Type 0
IsFieldTen bytes = read_message bytes ≡ records_text (bytes_field 10 bytes)
