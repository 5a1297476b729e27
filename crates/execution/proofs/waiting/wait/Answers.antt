use Rattle.std.proofs.Common.{ℕ, Option, sym, ap, subst, ◌∙◌}
use Rattle.std.specs.Prelude.{Result, option_map}
use Rattle.rpc.specs.declared.refusal.Refusal.{Refusal}
use Rattle.cas_service.specs.Answers.{Answers}
use Rattle.job_queue.specs.Jobs.{Jobs, StageValue}
use Rattle.execution.specs.declared.job.Job.{Job}
use Rattle.execution.specs.Answers.{wait_shown}
use Rattle.execution.specs.InPool.{jobs_in, stage_in}
use Rattle.execution.specs.Waiting.{WaitAnswer, wait_answer, wait_for}
use Rattle.execution.proofs.Calling.{stage_same}
use Rattle.execution.proofs.waiting.wait.Goals as goal

pub returns : goal.returns
returns c = λ p.
    let n : ℕ = c.in-Some.number in
    let jobs : Jobs Job = c.args.queue.now in
    subst (λ (v : Result WaitAnswer Refusal). Answers wait_shown c.answer.result v)
    (ap (λ (s : Option (StageValue Job)). wait_answer n (option_map (stage_in p) s)) c.find.ensures
    ∙ ap (wait_answer n) (stage_same p n jobs)
    ∙ sym (ap (λ (o : Option ℕ). wait_for o (jobs_in p jobs)) (sym c.number_named.ensures ∙ c.in-Some.is)))
    (c.answer.ensures p)
