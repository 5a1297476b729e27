use Rattle.runner.proofs.Lists.{first_and_rest}
use Rattle.job_runs.proofs.MadeTrees.{first_number, marks_more}
use Rattle.job_runs.proofs.beginning.marked.Goals as goal

pub loop-left-preserved-then-is_bound : goal.loop-left-preserved-then-is_bound
loop-left-preserved-then-is_bound c =
    marks_more c.args.places.now c.loop-left.left.now _ _ c.loop-left.made.items _ c.loop-left.invariant
    (first_and_rest c.loop-left.left.now _ c.in-len1-up.len_at_least (first_number c.loop-left.left.now)) c.mark.ensures
