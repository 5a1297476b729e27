use Rattle.std.proofs.Common.{All}
use Rattle.system.specs.Processes.{WasIn}
use Rattle.run_shells.proofs.alive.add_alive.Given as goal

abbrev pub invariant-loop-process : goal.invariant-loop-process
invariant-loop-process g l = All (WasIn g.S.Shells.showed l.session) l.alive.items
