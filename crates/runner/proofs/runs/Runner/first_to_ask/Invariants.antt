use Rattle.std.proofs.Common.{◌≡◌, ◌≤◌, ◌<◌, ℕ, true}
use Rattle.runner.specs.Runs.{runs_at}
use Rattle.runner.proofs.runs.Runner.first_to_ask.Given as goal

abbrev pub invariant-loop-at : goal.invariant-loop-at
invariant-loop-at g l = (at : ℕ) → l.from ≤ at → at < l.at → runs_at l.self.runs.items at ≡ true
