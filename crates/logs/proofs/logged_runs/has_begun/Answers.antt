use Rattle.logs.proofs.RunLogs.{begun_first, begun_later}
use Rattle.logs.proofs.logged_runs.has_begun.Goals as goal

pub returns-then-begins : goal.returns-then-begins
returns-then-begins c _ =
    c.loop-left.invariant (begun_first c.args.run c.loop-left.left.now c.first-item.result c.in-len1-up.len_at_least c.first-item.is
    (c.begins.ensures c.if-begins.true))

pub loop-left-preserved : goal.loop-left-preserved
loop-left-preserved c later =
    c.loop-left.invariant (begun_later c.args.run c.loop-left.left.now c.first-item.result c.in-len1-up.len_at_least c.first-item.is later)
