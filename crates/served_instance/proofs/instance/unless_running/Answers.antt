use Rattle.std.proofs.Common.{sym, ap, ◌∙◌}
use Rattle.served_instance.proofs.Refuses.{unless_there, runs_or_not}
use Rattle.served_instance.proofs.instance.unless_running.Goals as goal

pub returns-then-is_running : goal.returns-then-is_running
returns-then-is_running c =
    sym (runs_or_not c.args.job c.args.instance.now.jobs c.is_running.result c.is_running.ensures ∙ ap unless_there c.if-is_running.true)

pub returns-else-is_running : goal.returns-else-is_running
returns-else-is_running c =
    sym (runs_or_not c.args.job c.args.instance.now.jobs c.is_running.result c.is_running.ensures ∙ ap unless_there c.if-is_running.false)
