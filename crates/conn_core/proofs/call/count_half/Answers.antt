use Rattle.std.proofs.Common.{sym, ◌∙◌}
use Rattle.conn_core.proofs.CallsInCourse.{none_half}
use Rattle.conn_core.proofs.call.count_half.Goals as goal

pub returns-then-not-is_any_near_end : goal.returns-then-not-is_any_near_end
returns-then-not-is_any_near_end c = none_half c.args.calls.now c.args.live.now
    (sym c.is_any_near_end.ensures ∙ c.if-not-is_any_near_end.true)
