use Rattle.std.proofs.Common.{◌≡◌, length}
use Rattle.made_trees.specs.RunTrees.{trees_of}
use Rattle.made_trees.proofs.list.trees_of.Given as goal

-- those of the run are not passed yet
abbrev pub invariant-runs : goal.invariant-runs
invariant-runs l = trees_of l.run l.left ≡ trees_of l.run l.fn.runs

abbrev pub decreases-runs : goal.decreases-runs
decreases-runs l = length l.left
