use Rattle.library_tests.specs.Beside.{AreBeside}
use Rattle.library_tests.proofs.sharing.are_shared.Given as goal

abbrev pub invariant-loop-case : goal.invariant-loop-case
invariant-loop-case l = AreBeside 10 l.pool l.first l.second
