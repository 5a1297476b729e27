use Rattle.std.proofs.Common.{Ok, ◌≡◌, List, Option, None, refl, sym, ap, subst, ◌∙◌}
use Rattle.std.specs.Prelude.{option_map}
use Rattle.job_queue.specs.Jobs.{running_job}
use Rattle.execution.specs.Job.{JobValue}
use Rattle.execution.specs.InPool.{job_in}
use Rattle.execution.specs.Taking.{steps_shown}
use Rattle.execution.proofs.Taken.{shown-running}
use Rattle.run_calls.specs.Shown.{outcome_shown}
use Rattle.outcomes.specs.Endings.{ending_shown}
use Rattle.outcomes.specs.Ending.{EndingValue}
use Rattle.instance_core.specs.Answer.{answer, ending_changes, steps_at}
use Rattle.instance_core.specs.Calls.{end_job}
use Rattle.instance_core.specs.Changes.{InstanceChange, MadeInPart, state_after_changes}
use Rattle.instance_core.specs.Shown.{contents_state, ongoing_in}
use Rattle.instance_core.proofs.Ended.{any_err, any_ok, ending_none, ending_steps_of, kept_of, ready_by, ready_of}
use Rattle.instance_core.proofs.Events.{answers_short}
use Rattle.instance_core.proofs.Readying.{ready_short}
use Rattle.instance_core.proofs.ending.on_outcome.Goals as goal

pub returns-in_default-clause-ready : goal.returns-in_default-clause-ready
returns-in_default-clause-ready c = λ p.
    let o = ongoing_in c.args.pool.now c.args.contents.now c.args.calls.now in
    let s = contents_state c.args.settings.now c.args.pool.now c.args.contents.now o in
    let outcome = outcome_shown c.args.outcome in
    let none = shown-running c.args.pool.now c.args.job c.args.contents.now.executions.queue
    ∙ ap (option_map (job_in c.args.pool.now)) (sym c.in_default.ensures) in
    let steps : steps_shown c.new.result.items ≡ steps_at s (end_job c.args.job outcome) =
    rw c.new.ensures.items (ending_none s c.args.job outcome none) in
    ready_by c.make_ready.result p s (end_job c.args.job outcome) None c.new.result steps
    (c.make_ready.ensures.replies p) c.make_ready.ensures.orders c.make_ready.ensures.steps

pub returns-in_default-clause-short : goal.returns-in_default-clause-short
returns-in_default-clause-short c = λ q.
    let o = ongoing_in c.args.pool.now c.args.contents.now c.args.calls.now in
    let s = contents_state c.args.settings.now c.args.pool.now c.args.contents.now o in
    let event = end_job c.args.job (outcome_shown c.args.outcome) in
    ready_short q s event (answer s event).replies c.make_ready.result (answers_short s event c.requires.short c.requires.within)
    (returns-in_default-clause-ready c q)

pub returns-in_default-clause-changed : goal.returns-in_default-clause-changed
returns-in_default-clause-changed c =
    let o = ongoing_in c.args.pool.now c.args.contents.now c.args.calls.now in
    let s = contents_state c.args.settings.now c.args.pool.now c.args.contents.now o in
    let outcome = outcome_shown c.args.outcome in
    let none = shown-running c.args.pool.now c.args.job c.args.contents.now.executions.queue
    ∙ ap (option_map (job_in c.args.pool.now)) (sym c.in_default.ensures) in
    any_ok c.make_ready.result (sym (ap (λ (j : Option JobValue). state_after_changes (ending_changes s outcome j) s) none))

pub returns-in_err-keep_outputs-clause-memory : goal.returns-in_err-keep_outputs-clause-memory
returns-in_err-keep_outputs-clause-memory c =
    let p = c.args.pool.now in
    let o = ongoing_in p c.args.contents.now c.args.calls.now in
    let s = contents_state c.args.settings.now p c.args.contents.now o in
    let outcome = outcome_shown c.args.outcome in
    let job = job_in p c.in-Some.running.now in
    let runs = shown-running p c.args.job c.args.contents.now.executions.queue ∙ ap (option_map (job_in p)) (sym c.in-Some.ensures) in
    let kept = kept_of s outcome job (running_job c.args.job s.jobs) c.in-Some.running.now.task.action
    (ending_shown c.in_ok-ending.ending) runs refl c.in_ok-ending.ensures.ending in
    any_err c.from_residual-in_err-keep_outputs.result
    (subst (λ (cs : List InstanceChange). MadeInPart cs s
    (contents_state c.args.settings.now c.keep_outputs.new.pool c.keep_outputs.new.contents o)) kept
    (c.in_err-keep_outputs.ensures.memory o))

pub returns-clause-ready : goal.returns-clause-ready
returns-clause-ready c = λ q.
    let p = c.args.pool.now in
    let o = ongoing_in p c.args.contents.now c.args.calls.now in
    let s = contents_state c.args.settings.now p c.args.contents.now o in
    let outcome = outcome_shown c.args.outcome in
    let job = job_in p c.in-Some.running.now in
    let runs = shown-running p c.args.job c.args.contents.now.executions.queue ∙ ap (option_map (job_in p)) (sym c.in-Some.ensures) in
    let steps = c.in_ok-turn.ensures.steps p ∙ ending_steps_of s c.args.job outcome job _ c.args.contents.now.executions.slots runs
    c.requires.slots (ap (λ (e : EndingValue). e.end_is) c.in_ok-ending.ensures.ending) in
    ready_of q s (end_job c.args.job outcome) None c.in_ok-turn.turn (c.in_ok-turn.ensures.replies q) steps c.in_ok-turn.ensures.orders

pub returns-clause-short : goal.returns-clause-short
returns-clause-short c = λ q.
    let o = ongoing_in c.args.pool.now c.args.contents.now c.args.calls.now in
    let s = contents_state c.args.settings.now c.args.pool.now c.args.contents.now o in
    let event = end_job c.args.job (outcome_shown c.args.outcome) in
    ready_short q s event (answer s event).replies (Ok c.in_ok-turn.turn) (answers_short s event c.requires.short c.requires.within)
    (returns-clause-ready c q)

pub returns-clause-changed : goal.returns-clause-changed
returns-clause-changed c =
    let p = c.args.pool.now in
    let o = ongoing_in p c.args.contents.now c.args.calls.now in
    let s = contents_state c.args.settings.now p c.args.contents.now o in
    let outcome = outcome_shown c.args.outcome in
    let job = job_in p c.in-Some.running.now in
    let runs = shown-running p c.args.job c.args.contents.now.executions.queue ∙ ap (option_map (job_in p)) (sym c.in-Some.ensures) in
    let kept = kept_of s outcome job (running_job c.args.job s.jobs) c.in-Some.running.now.task.action
    (ending_shown c.in_ok-ending.ending) runs refl c.in_ok-ending.ensures.ending in
    c.in_ok-keep_outputs.ensures.changed o ∙ ap (λ (cs : List InstanceChange). state_after_changes cs s) kept
