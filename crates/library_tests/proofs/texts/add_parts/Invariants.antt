use Rattle.std.proofs.Common.{◌≤◌, ◌-◌, ◌^◌}
use Rattle.library_tests.proofs.texts.add_parts.Given as goal

abbrev pub invariant-parts : goal.invariant-parts
invariant-parts l = l.end ≤ 2 ^ 48

abbrev pub decreases-parts : goal.decreases-parts
decreases-parts l = l.end - l.from
