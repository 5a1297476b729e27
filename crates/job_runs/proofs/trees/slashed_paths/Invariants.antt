use Rattle.std.proofs.Common.{◌≡◌, ◌++◌, length, map}
use Rattle.actions.specs.Shown.{asked_shown}
use Rattle.job_runs.specs.Made.{slashed}
use Rattle.job_runs.proofs.trees.slashed_paths.Given as goal

abbrev pub invariant-loop-left : goal.invariant-loop-left
invariant-loop-left l =
    map (λ o. o.items) l.paths.items ++ map slashed (map (λ a. a.path) (map asked_shown l.left))
    ≡ map slashed (map (λ a. a.path) (map asked_shown l.asked))

abbrev pub decreases-loop-left : goal.decreases-loop-left
decreases-loop-left l = length l.left
