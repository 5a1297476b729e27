use Rattle.std.proofs.Common.{◌≡◌, ◌+◌, drop, length}
use Rattle.std.specs.List.{list_any}
use Rattle.runner.specs.Runs.{is_run_of}
use Rattle.runner.proofs.runs.place_of.Given as goal

abbrev pub invariant-runs : goal.invariant-runs
invariant-runs l =
    (drop l.at l.runs ≡ l.left) × (l.at + length l.left ≡ length l.runs)
    × (list_any (is_run_of l.key) l.runs ≡ list_any (is_run_of l.key) l.left)

abbrev pub decreases-runs : goal.decreases-runs
decreases-runs l = length l.left
