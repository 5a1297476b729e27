-- Header blocks (RFC 9113 section 4.3): the fragments of one HEADERS frame and the CONTINUATION
-- frames after it.
use Rattle.std.specs.Prelude.{ℕ, ◌+◌, ◌||◌, ◌++◌, nat_lt, Bool, List, length}
use Rattle.http2_streams.specs.declared.header_blocks.TheConstants.{MAX_BLOCK, MAX_CONTINUATIONS}

pub record HeaderBlock : Type 0 where
  pub stream : ℕ
  -- the HEADERS frame had END_STREAM
  pub end_stream : Bool
  -- how many CONTINUATION frames
  pub continuations : ℕ
  -- all fragments, joined
  pub fragment : List ℕ

abbrev pub new_block : ℕ → Bool → List ℕ → HeaderBlock
new_block stream end_stream fragment =
    record { stream = stream; end_stream = end_stream; continuations = 0; fragment = fragment }

abbrev pub with_continuation : List ℕ → HeaderBlock → HeaderBlock
with_continuation fragment b =
    record b { continuations = b.continuations + 1; fragment = b.fragment ++ fragment }

-- more than the server takes: section 10.5.1 leaves the limits to it
abbrev pub is_excessive : HeaderBlock → Bool
is_excessive b = nat_lt MAX_CONTINUATIONS b.continuations || nat_lt MAX_BLOCK (length b.fragment)
