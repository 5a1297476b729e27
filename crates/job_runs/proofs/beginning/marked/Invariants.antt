use Rattle.std.proofs.Common.{length}
use Rattle.job_runs.proofs.MadeTrees.{AreMarks}
use Rattle.job_runs.proofs.beginning.marked.Given as goal

abbrev pub invariant-loop-left : goal.invariant-loop-left
invariant-loop-left l = AreMarks l.places l.left l.made.items

abbrev pub decreases-loop-left : goal.decreases-loop-left
decreases-loop-left l = length l.left
