use Rattle.std.specs.Prelude.{is_some}
use Rattle.std.proofs.Common.{ap, ◌∙◌}
use Rattle.instance_core.proofs.Readying.{is_copied, runs_alike}
use Rattle.instance_core.proofs.instance.Instance.is_running.Goals as goal

pub returns : goal.returns
returns c = λ p. rw (← c.self.view_is)
    (c.is_some.ensures ∙ is_copied c.running_job.result ∙ ap is_some c.running_job.ensures
    ∙ runs_alike p c.args.job c.self.inside.contents.executions.queue)
