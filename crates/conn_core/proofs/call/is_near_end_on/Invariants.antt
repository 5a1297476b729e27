use Rattle.std.proofs.Common.{◌≡◌, length}
use Rattle.conn_core.specs.CallsInCourse.{is_near_end_on}
use Rattle.conn_core.proofs.call.is_near_end_on.Given as goal

abbrev pub invariant-calls : goal.invariant-calls
invariant-calls l = is_near_end_on l.stream l.calls ≡ is_near_end_on l.stream l.left

abbrev pub decreases-calls : goal.decreases-calls
decreases-calls l = length l.left
