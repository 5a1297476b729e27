-- For the code alone: no promise speaks of it.
use Rattle.std.specs.Prelude.{ℕ, Bool, List}
use Rattle.grpc_calls.specs.declared.response.ResponseBlock.{ResponseBlock}

-- a header block on a stream, and whether the client has ended the stream; or bytes of a message
pub data Turn : Type 0 where
  Head : ℕ → ResponseBlock → Bool → Turn
  Content : ℕ → List ℕ → Turn
