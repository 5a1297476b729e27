use Rattle.std.proofs.Common.{◌+◌}
use Rattle.serve.proofs.Open.{AreTaken}
use Rattle.serve.proofs.numbering.number_after.Given as goal

abbrev pub invariant-loop-before : goal.invariant-loop-before
invariant-loop-before l = AreTaken l.connections (l.number + 1) (l.before + 1)

abbrev pub invariant-loop-next : goal.invariant-loop-next
invariant-loop-next l = AreTaken l.connections 0 l.next
