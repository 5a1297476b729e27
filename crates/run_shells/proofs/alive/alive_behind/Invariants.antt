use Rattle.std.proofs.Common.{All}
use Rattle.system.specs.Processes.{WasIn}
use Rattle.run_shells.proofs.alive.alive_behind.Given as goal

abbrev pub invariant-loop : goal.invariant-loop
invariant-loop g l = All (WasIn g.S.Shells.showed l.session) l.alive.items
