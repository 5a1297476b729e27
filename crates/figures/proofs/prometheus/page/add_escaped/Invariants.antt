use Rattle.std.proofs.Common.{◌≡◌, ◌++◌, length}
use Rattle.figures.specs.Lines.{escaped}
use Rattle.figures.proofs.prometheus.page.add_escaped.Given as goal

abbrev pub invariant-loop-left : goal.invariant-loop-left
invariant-loop-left l = l.text.items ++ escaped l.left ≡ l.fn.text.items ++ escaped l.value

abbrev pub decreases-loop-left : goal.decreases-loop-left
decreases-loop-left l = length l.left
