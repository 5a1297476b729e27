-- What the messages of a range bring to a client (bytestream.proto).
use Rattle.std.specs.Prelude.{◌≡◌, ◌<◌, ◌≤◌, ℕ, List, length, map}
use Rattle.std.specs.List.{AllByRecursion, concat}
use Rattle.grpc_sending.specs.Pieces.{read_message}

-- a byte at least, and so many at most
abbrev pub IsData : ℕ → List ℕ → Type 0
IsData most part = (0 < length part) × (length part ≤ most)

-- the messages are ReadResponses, whose data are these bytes, one part after another
pub record BringBytes (most : ℕ) (bytes : List ℕ) (messages : List (List ℕ)) : Type 0 where
  pub parts : List (List ℕ)
  pub data_of_each : messages ≡ map read_message parts
  pub all_data : concat parts ≡ bytes
  pub sizes : AllByRecursion (IsData most) parts
