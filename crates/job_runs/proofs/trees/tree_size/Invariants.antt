use Rattle.std.proofs.Common.{◌≤◌, length}
use Rattle.actions.specs.Shown.{nodes_shown}
use Rattle.job_runs.specs.Made.{tree_size, within}
use Rattle.job_runs.proofs.MadeTrees.{IsSize, most}
use Rattle.job_runs.proofs.trees.tree_size.Given as goal

abbrev pub invariant-loop-left : goal.invariant-loop-left
invariant-loop-left l =
    IsSize l.level l.size (nodes_shown l.left) (tree_size (within l.level (nodes_shown l.behind))) × (l.size ≤ most)

abbrev pub decreases-loop-left : goal.decreases-loop-left
decreases-loop-left l = length l.left
