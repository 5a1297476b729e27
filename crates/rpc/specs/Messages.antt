-- The messages of calls.
use Rattle.std.specs.Prelude.{ℕ, ◌^◌}

-- the length of a message is below this limit: it is written in four bytes before it (gRPC over
-- HTTP2, Length-Prefixed-Message)
abbrev pub message_length_limit : ℕ
message_length_limit = 2 ^ 32
