use Rattle.std.proofs.Common.{◌≡◌, length}
use Rattle.std.specs.Prelude.{fold}
use Rattle.logs.specs.LoggedSockets.{events_of}
use Rattle.serve.specs.SocketEvents.{moment_after, moment_of}
use Rattle.logs.proofs.logged_sockets.last_moment.Given as goal

abbrev pub invariant-loop-left : goal.invariant-loop-left
invariant-loop-left l = fold moment_after l.moment (events_of l.left) ≡ moment_of (events_of l.records)

abbrev pub decreases-loop-left : goal.decreases-loop-left
decreases-loop-left l = length l.left
