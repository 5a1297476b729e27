use Rattle.std.proofs.Common.{◌≡◌, ◌+◌, length}
use Rattle.conn_core.specs.CallSteps.{call_place}
use Rattle.conn_core.proofs.call.place_of.Given as goal

abbrev pub invariant-calls : goal.invariant-calls
invariant-calls l = (call_place l.stream l.calls ≡ l.place + call_place l.stream l.left) × (l.place + length l.left ≡ length l.calls)

abbrev pub decreases-calls : goal.decreases-calls
decreases-calls l = length l.left
