use Rattle.std.proofs.Common.{◌≡◌, ◌++◌, length}
use Rattle.figures.specs.Lines.{more_labels}
use Rattle.figures.proofs.prometheus.page.add_more_labels.Given as goal

abbrev pub invariant-loop-left : goal.invariant-loop-left
invariant-loop-left l = l.text.items ++ more_labels l.left ≡ l.fn.text.items ++ more_labels l.labels

abbrev pub decreases-loop-left : goal.decreases-loop-left
decreases-loop-left l = length l.left
