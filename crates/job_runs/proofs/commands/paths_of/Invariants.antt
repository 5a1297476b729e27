use Rattle.std.proofs.Common.{◌≡◌, ◌++◌, length, map, string_bytes}
use Rattle.actions.specs.Shown.{asked_shown}
use Rattle.job_runs.proofs.commands.paths_of.Given as goal

abbrev pub invariant-loop-left : goal.invariant-loop-left
invariant-loop-left l =
    map string_bytes l.paths.items ++ map (λ a. a.path) (map asked_shown l.left)
    ≡ map (λ a. a.path) (map asked_shown l.asked)

abbrev pub decreases-loop-left : goal.decreases-loop-left
decreases-loop-left l = length l.left
