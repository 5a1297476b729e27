use Rattle.std.proofs.Common.{length, List, ℕ}
use Rattle.grpc_messages.specs.Reader.{bytes_left}
use Rattle.conn_core.specs.CallSteps.{GaveMessages}
use Rattle.conn_core.proofs.call.Call.take_messages.Given as goal

abbrev pub invariant-messages : goal.invariant-messages
invariant-messages l = (given : List (List ℕ))
    × GaveMessages given l.fn.self.stream l.self.stream l.fn.self.messages l.self.messages l.fn.due.items l.due.items

abbrev pub decreases-messages : goal.decreases-messages
decreases-messages l = length (bytes_left l.self.messages)
