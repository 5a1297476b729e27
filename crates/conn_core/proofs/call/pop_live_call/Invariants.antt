use Rattle.std.proofs.Common.{◌≡◌, ◌≤◌, length}
use Rattle.conn_core.specs.StandsFor.{live_numbers}
use Rattle.conn_core.proofs.call.pop_live_call.Given as goal

abbrev pub invariant-calls : goal.invariant-calls
invariant-calls l = (live_numbers l.live l.calls.items ≡ live_numbers l.live l.fn.calls.items)
    × (length l.calls.items ≤ length l.fn.calls.items)

abbrev pub decreases-calls : goal.decreases-calls
decreases-calls l = length l.calls.items
