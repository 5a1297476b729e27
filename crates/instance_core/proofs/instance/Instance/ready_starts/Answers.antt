use Rattle.std.proofs.Common.{◌≡◌, ℕ, Some, sym, ap, subst, ◌∙◌}
use Rattle.job_queue.specs.Order.{AreJobs}
use Rattle.execution.specs.InPool.{jobs_in}
use Rattle.execution.specs.Steps.{start_steps}
use Rattle.execution.specs.Taking.{steps_shown}
use Rattle.instance_core.specs.Apart.{replies_on}
use Rattle.instance_core.specs.Calls.{start_jobs}
use Rattle.instance_core.specs.Shown.{slots_of}
use Rattle.instance_core.specs.Slots.{InstanceSlots, state_in}
use Rattle.instance_core.specs.State.{IsInstanceWithin}
use Rattle.instance_core.specs.Watching.{replies_to_watchers}
use Rattle.instance_core.proofs.Ended.{ready_by}
use Rattle.instance_core.proofs.JobReplies.{start_replies}
use Rattle.instance_core.proofs.Readying.{in_order, are_on, are_short, short_on, told_short}
use Rattle.instance_core.proofs.instance.Instance.ready_starts.Goals as goal

pub start_steps-requires : goal.start_steps-requires
start_steps-requires c =
    let p = c.requires.kept.pool in
    record {
      jobs = in_order p c.self.inside.contents.executions.queue
          (subst (λ (x : InstanceSlots). AreJobs (jobs_in p x.jobs)) (sym c.self.view_is) c.requires.kept.kept.within.jobs);
    }

pub returns-clause-ready : goal.returns-clause-ready
returns-clause-ready c = λ p.
    let i = c.self.inside in
    let s = state_in p (slots_of i.settings i.contents i.calls) in
    let steps : steps_shown c.in_ok-steps.steps.items ≡ start_steps s.slots s.moment s.jobs =
    c.in_ok-steps.ensures p ∙ ap (λ (n : ℕ). start_steps n s.moment s.jobs) c.self.invariant.3 in
    rw (← c.self.view_is) (ready_by c.make_ready.result p s start_jobs (Some c.args.connection) c.in_ok-steps.steps steps
    (c.make_ready.ensures.replies p) c.make_ready.ensures.orders c.make_ready.ensures.steps)

pub returns-clause-own : goal.returns-clause-own
returns-clause-own c =
    let p = c.requires.kept.pool in
    are_on p c.args.connection (replies_to_watchers c.self.inside.calls (steps_shown c.in_ok-steps.steps.items)) c.make_ready.result
    (c.make_ready.ensures.replies p)

pub returns-clause-short : goal.returns-clause-short
returns-clause-short c = λ p.
    let i = c.self.inside in
    let q = c.requires.kept.pool in
    let s = state_in q (slots_of i.settings i.contents i.calls) in
    let within : IsInstanceWithin s = subst (λ (x : InstanceSlots). IsInstanceWithin (state_in q x))
    (sym c.self.view_is) c.requires.kept.kept.within in
    let shown = steps_shown c.in_ok-steps.steps.items in
    let steps : shown ≡ start_steps s.slots s.moment s.jobs =
    c.in_ok-steps.ensures q ∙ ap (λ (n : ℕ). start_steps n s.moment s.jobs) c.self.invariant.3 in
    let all = replies_to_watchers s.calls shown in
    are_short p (replies_on c.args.connection all) c.make_ready.result
    (short_on c.args.connection all (told_short s.calls shown (start_steps s.slots s.moment s.jobs) steps (start_replies s within)))
    (c.make_ready.ensures.replies p)
