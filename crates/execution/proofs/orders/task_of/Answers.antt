use Rattle.std.proofs.Common.{◌≡◌, ◌∙◌, sym, ap, Some, None, Bor}
use Rattle.std.specs.Prelude.{option_map}
use Rattle.std.specs.Option.{option_copied}
use Rattle.job_queue.specs.Jobs.{running_job}
use Rattle.execution.specs.declared.job.Task.{Task}
use Rattle.execution.specs.Job.{JobValue}
use Rattle.execution.specs.InPool.{job_in, task_in}
use Rattle.execution.proofs.Taken.{shown-running}
use Rattle.execution.proofs.orders.task_of.Goals as goal

pub returns-in_err-job : goal.returns-in_err-job
returns-in_err-job c = λ p.
    let none : running_job c.args.number c.args.queue.now ≡ None = sym c.running_job.ensures ∙ ap option_copied c.in_err-job.was in
    ap (option_map (λ (task : Bor Task). task_in p task.now)) c.from_residual.ensures
    ∙ sym (ap (option_map (λ (job : JobValue). job.task))
    (shown-running p c.args.number c.args.queue.now ∙ ap (option_map (job_in p)) none))

pub returns : goal.returns
returns c = λ p.
    let some : running_job c.args.number c.args.queue.now ≡ Some c.in_ok-job.job.now =
    sym c.running_job.ensures ∙ ap option_copied c.in_ok-job.was in
    sym (ap (option_map (λ (job : JobValue). job.task)) (shown-running p c.args.number c.args.queue.now ∙ ap (option_map (job_in p)) some))
