use Rattle.std.proofs.Common.{◌≡◌, ◌++◌, map}
use Rattle.script.specs.LimitsShown.{limits_value}
use Rattle.script.specs.Parts.{lines_of}
use Rattle.script.specs.ReplayScript.{configs_of_lines}
use Rattle.script.specs.ReplayShown.{form_value}
use Rattle.script.proofs.replay.instance.forms_of_text.Given as goal

abbrev pub invariant-loop-line : goal.invariant-loop-line
invariant-loop-line l =
    (map form_value l.forms.items ++ configs_of_lines (limits_value l.limits) l.line-iterator
    ≡ configs_of_lines (limits_value l.limits) (lines_of l.text))
    × (goal.iterator-loop-line).can_next l.line-iterator
    × (goal.iterator-loop-line).is_finite l.line-iterator
