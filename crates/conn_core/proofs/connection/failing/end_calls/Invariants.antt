use Rattle.std.proofs.Common.{◌≡◌, ◌++◌, map, take}
use Rattle.conn_core.specs.StandsFor.{call_stream}
use Rattle.conn_core.specs.Putting.{ended_calls}
use Rattle.conn_core.proofs.connection.failing.end_calls.Given as goal

abbrev pub invariant-loop-call : goal.invariant-loop-call
invariant-loop-call l = l.due.items ≡ l.fn.due.items ++ ended_calls l.live l.reset (map call_stream (take l.call-index l.calls))
