-- What values of the code stand for.
use Rattle.std.specs.Prelude.{◌≤◌, length, Option, Some, None}
use Rattle.hpack.specs.Table.{Table}
use Rattle.http2_streams.specs.declared.header_blocks.Fragments.{Fragments}
use Rattle.http2_streams.specs.HeaderBlock.{HeaderBlock}
use Rattle.http2_streams.specs.declared.header_blocks.TheConstants.{MAX_BLOCK, MAX_CONTINUATIONS}

abbrev pub block_shown : Fragments → HeaderBlock
block_shown f = record {
  stream = f.stream;
  end_stream = f.end_stream;
  continuations = f.continuations;
  fragment = f.bytes.items;
}

abbrev pub table_shown : Option (Option Table) → Option Table
table_shown None = None
table_shown (Some t) = t

-- what is kept of a block is no more than is taken
abbrev pub IsBlockBounded : Option HeaderBlock → Type 0
IsBlockBounded None = Unit {0}
IsBlockBounded (Some b) = (b.continuations ≤ MAX_CONTINUATIONS) × (length b.fragment ≤ MAX_BLOCK)
