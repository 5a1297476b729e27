use Rattle.std.proofs.Common.{◌≡◌, ◌++◌, map, length}
use Rattle.std.specs.Prelude.{string_bytes}
use Rattle.runner.proofs.tree.copied.Given as goal

abbrev pub invariant-names : goal.invariant-names
invariant-names l = map string_bytes l.copies.items ++ map string_bytes l.left ≡ map string_bytes l.names

abbrev pub decreases-names : goal.decreases-names
decreases-names l = length l.left
