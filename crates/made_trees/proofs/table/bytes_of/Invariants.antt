use Rattle.std.proofs.Common.{◌≡◌, ◌+◌}
use Rattle.made_trees.specs.Trees.{sizes_of}
use Rattle.made_trees.proofs.table.bytes_of.Given as goal

-- the bytes so far, and those of the trees that are left
abbrev pub invariant-loop-key : goal.invariant-loop-key
invariant-loop-key l =
    (l.bytes + sizes_of l.instance l.left ≡ sizes_of l.instance l.trees.entries)
    × (goal.iterator-loop-key).can_next l.left × (goal.iterator-loop-key).is_finite l.left
