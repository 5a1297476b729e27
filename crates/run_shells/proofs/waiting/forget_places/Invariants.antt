use Rattle.std.proofs.Common.{◌≡◌}
use Rattle.run_shells.specs.Removing.{folders}
use Rattle.run_shells.proofs.waiting.forget_places.Given as goal

abbrev pub invariant-loop-each : goal.invariant-loop-each
invariant-loop-each l = folders l.waiting ≡ folders l.fn.waiting
