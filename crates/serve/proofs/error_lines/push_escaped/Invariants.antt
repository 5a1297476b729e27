use Rattle.std.proofs.Common.{◌≡◌, ◌≤◌, ◌++◌}
use Rattle.std.specs.Char.Escape.{escape_ascii}
use Rattle.std.specs.Char.Iter.{escape_byte_rest, escape_byte_left, escape_byte_end}
use Rattle.serve.proofs.error_lines.push_escaped.Given as goal

abbrev pub invariant-letters : goal.invariant-letters
invariant-letters l =
    (escape_byte_end l.rest ≤ 4)
    × (l.line.items ++ escape_byte_rest l.rest ≡ l.fn.line.items ++ escape_ascii l.byte)

abbrev pub decreases-letters : goal.decreases-letters
decreases-letters l = escape_byte_left l.rest
