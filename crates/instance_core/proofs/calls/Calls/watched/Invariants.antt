use Rattle.std.proofs.Common.{◌≡◌, ◌≤◌, ◌-◌, ◌++◌, drop, length}
use Rattle.instance_core.specs.Watching.{watched_numbers}
use Rattle.instance_core.proofs.calls.Calls.watched.Given as goal

abbrev pub invariant-calls : goal.invariant-calls
invariant-calls l = record {
  numbers : l.numbers.items ++ watched_numbers (drop l.place l.self) ≡ watched_numbers l.self;
  within : l.place ≤ length l.self;
}

abbrev pub decreases-calls : goal.decreases-calls
decreases-calls l = length l.self - l.place
