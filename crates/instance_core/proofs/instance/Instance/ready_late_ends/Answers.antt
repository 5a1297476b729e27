use Rattle.std.proofs.Common.{◌≡◌, ℕ, None, sym, ap, subst, ◌∙◌}
use Rattle.job_queue.specs.Order.{AreJobs}
use Rattle.execution.specs.InPool.{jobs_in}
use Rattle.execution.specs.Steps.{tick_steps}
use Rattle.execution.specs.Taking.{steps_shown}
use Rattle.instance_core.specs.Calls.{end_late_jobs}
use Rattle.instance_core.specs.Shown.{slots_of}
use Rattle.instance_core.specs.Slots.{InstanceSlots, state_in}
use Rattle.instance_core.specs.State.{IsInstanceWithin}
use Rattle.instance_core.specs.Watching.{replies_to_watchers}
use Rattle.instance_core.proofs.Ended.{ready_by}
use Rattle.instance_core.proofs.JobReplies.{tick_replies}
use Rattle.instance_core.proofs.Readying.{in_order, are_short, told_short}
use Rattle.instance_core.proofs.instance.Instance.ready_late_ends.Goals as goal

pub tick_steps-requires : goal.tick_steps-requires
tick_steps-requires c =
    let p = c.requires.kept.pool in
    record {
      jobs = in_order p c.self.inside.contents.executions.queue
          (subst (λ (x : InstanceSlots). AreJobs (jobs_in p x.jobs)) (sym c.self.view_is) c.requires.kept.kept.within.jobs);
    }

pub returns-clause-ready : goal.returns-clause-ready
returns-clause-ready c = λ p.
    let i = c.self.inside in
    let s = state_in p (slots_of i.settings i.contents i.calls) in
    let steps : steps_shown c.in_ok-steps.steps.items ≡ tick_steps s.slots s.moment s.jobs =
    c.in_ok-steps.ensures p ∙ ap (λ (n : ℕ). tick_steps n s.moment s.jobs) c.self.invariant.3 in
    rw (← c.self.view_is) (ready_by c.make_ready.result p s end_late_jobs None c.in_ok-steps.steps steps
    (c.make_ready.ensures.replies p) c.make_ready.ensures.orders c.make_ready.ensures.steps)

pub returns-clause-short : goal.returns-clause-short
returns-clause-short c = λ p.
    let i = c.self.inside in
    let q = c.requires.kept.pool in
    let s = state_in q (slots_of i.settings i.contents i.calls) in
    let within : IsInstanceWithin s = subst (λ (x : InstanceSlots). IsInstanceWithin (state_in q x))
    (sym c.self.view_is) c.requires.kept.kept.within in
    let shown = steps_shown c.in_ok-steps.steps.items in
    let steps : shown ≡ tick_steps s.slots s.moment s.jobs =
    c.in_ok-steps.ensures q ∙ ap (λ (n : ℕ). tick_steps n s.moment s.jobs) c.self.invariant.3 in
    are_short p (replies_to_watchers s.calls shown) c.make_ready.result
    (told_short s.calls shown (tick_steps s.slots s.moment s.jobs) steps (tick_replies s within))
    (c.make_ready.ensures.replies p)
