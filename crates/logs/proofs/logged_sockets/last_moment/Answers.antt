use Rattle.logs.proofs.SocketLogs.{one_read, all_read}
use Rattle.logs.proofs.logged_sockets.last_moment.Goals as goal

pub loop-left-preserved : goal.loop-left-preserved
loop-left-preserved c = one_read c.loop-left.left.now c.first-item.result _ _ _ c.in-len1-up.len_at_least c.first-item.is
    c.moment_by-moment.ensures c.loop-left.invariant

pub returns : goal.returns
returns c = all_read c.loop-left.left.now _ _ c.in_default.len_below c.loop-left.invariant
