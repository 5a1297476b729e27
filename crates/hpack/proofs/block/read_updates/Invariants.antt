use Rattle.std.proofs.Common.{◌≡◌, length}
use Rattle.hpack.specs.Block.{updates_of}
use Rattle.hpack.proofs.block.read_updates.Given as goal

abbrev pub invariant-updates : goal.invariant-updates
invariant-updates l = updates_of l.table l.left ≡ updates_of l.fn.table l.bytes

abbrev pub decreases-updates : goal.decreases-updates
decreases-updates l = length l.left
