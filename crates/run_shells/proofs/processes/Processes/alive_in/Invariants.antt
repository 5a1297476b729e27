use Rattle.std.proofs.Common.{All}
use Rattle.system.specs.Processes.{WasIn}
use Rattle.run_shells.proofs.processes.Processes.alive_in.Given as goal

abbrev pub invariant-loop-known : goal.invariant-loop-known
invariant-loop-known g l = All (WasIn g.S.Shells.showed l.session) l.alive.items
