use Rattle.std.proofs.Common.{rules, ◌≡◌, ℕ, List, [], map, option_map, unwrap_or, Option, Some, None, IfOk, sym, ap, subst, ◌∙◌}
use Rattle.instance_view.specs.Shown.{visible_in}
use Rattle.actions.specs.Commands.{AskedOutput, asked_outputs, command_in}
use Rattle.actions.specs.Shown.{asked_shown}
use Rattle.outcomes.specs.Completing.{completion_shown}
use Rattle.outcomes.specs.Results.{CompletionValue, completion_of}
use Rattle.run_calls.specs.Shown.{exited_shown}
use Rattle.outcomes.specs.Endings.{ending_shown}
use Rattle.execution.specs.Job.{JobValue}
use Rattle.execution.specs.InPool.{job_in}
use Rattle.outcomes.specs.Ending.{completed, completed_if, outputs_asked}
use Rattle.outcomes.proofs.ending.end_of_exit.Goals as goal

pub returns-in-Some : goal.returns-in-Some
returns-in-Some c =
    let p = c.args.pool.now in
    let job : JobValue = job_in p c.args.job.now in
    let text : c.deref.result.now ≡ job.task.command = c.deref.ensures.value ∙ c.in_ok-command.ensures in
    let asked : map asked_shown c.deref-2.result.now ≡ outputs_asked job =
    ap (map asked_shown) c.deref-2.ensures.value ∙ c.in_ok-asked.ensures
    ∙ ap (λ (text : List ℕ). unwrap_or (option_map asked_outputs (command_in text)) []) text in
    let found : Some (completion_shown c.in-Some.completion) ≡ completion_of job.action (outputs_asked job) (exited_shown c.args.run) =
    ap (option_map completion_shown) (sym c.in-Some.is) ∙ c.in_ok-completion.ensures
    ∙ ap (λ (asked : List AskedOutput). completion_of job.action asked (exited_shown c.args.run)) asked in
    let ends : IfOk c.completed.result (λ e. ending_shown e
    ≡ completed c.args.quota (visible_in p c.args.view.now) job c.args.run.code (completion_shown c.in-Some.completion)) =
    search (rules, c.completed.ensures p) in
    subst (λ (found : Option CompletionValue). IfOk c.completed.result
    (λ e. ending_shown e ≡ completed_if c.args.quota (visible_in p c.args.view.now) job c.args.run.code found)) found ends
