use Rattle.std.proofs.Common.{◌≡◌, ◌+◌, ◌≤◌, length}
use Rattle.script.specs.FirstBadLine.{after_lines}
use Rattle.script.specs.Parts.{lines_of}
use Rattle.script.proofs.reader.read_lines.Given as goal

abbrev pub invariant-loop-line : goal.invariant-loop-line
invariant-loop-line g l =
    (after_lines g.S.FromLines.after_line (l.number + 1) (g.S.FromLines.value_of l.script) l.line-iterator
    ≡ after_lines g.S.FromLines.after_line 1 (g.S.FromLines.value_of l.fn.script) (lines_of l.text))
    × (l.number + length l.line-iterator ≤ length l.text + 1)
    × (goal.iterator-loop-line g).can_next l.line-iterator
    × (goal.iterator-loop-line g).is_finite l.line-iterator
