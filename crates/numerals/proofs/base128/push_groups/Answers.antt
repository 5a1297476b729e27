use Rattle.std.proofs.Common.{◌∷◌, [], ◌+◌, ◌/◌, ◌%◌, append_assoc}
use Rattle.numerals.specs.Groups.{groups}
use Rattle.numerals.proofs.Fronts.{begins_more}
use Rattle.numerals.proofs.Groups.{groups_large}
use Rattle.numerals.proofs.base128.push_groups.Goals as goal

pub loop-left-preserved : goal.loop-left-preserved
loop-left-preserved c =
    let left = c.loop-left.left in
    let large = groups_large left c.loop-left-test.true in
    let byte = (left % 128 + 128) ∷ [] in
    let regrouped = append_assoc c.loop-left.out.items byte (groups (left / 128)) in
    rw c.in_ok-push.ensures.items (
      (rw (regrouped, ← large) c.loop-left.invariant.0),
      begins_more c.args.out.now.items c.loop-left.out.items byte c.loop-left.invariant.1,
    )
