use Rattle.std.proofs.Common.{◌≡◌, length, map}
use Rattle.std.specs.List.{list_all}
use Rattle.job_runs.specs.Made.{are_apart}
use Rattle.job_runs.proofs.trees.are_all_apart.Given as goal

abbrev pub invariant-loop-left : goal.invariant-loop-left
invariant-loop-left l = list_all (are_apart l.path) (map (λ o. o.items) l.left) ≡ list_all (are_apart l.path) (map (λ o. o.items) l.others)

abbrev pub decreases-loop-left : goal.decreases-loop-left
decreases-loop-left l = length l.left
