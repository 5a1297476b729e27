use Rattle.job_queue.specs.Jobs.{jobs_without}
use Rattle.execution.specs.InPool.{jobs_in}
use Rattle.instance_core.specs.Shown.{slots_of}
use Rattle.instance_core.specs.Slots.{InstanceSlots, IsInstanceInPool}
use Rattle.std.proofs.Common.{refl, sym, subst}
use Rattle.instance_core.proofs.Taking.{jobs_become, forgotten_in_pool}
use Rattle.instance_core.proofs.instance.Instance.forget_job.Goals as goal

pub returns-clause-changed : goal.returns-clause-changed
returns-clause-changed c =
    let i = c.self.inside in
    let old = slots_of i.settings i.contents i.calls in
    let p = c.args.pool.now in
    let kept = subst (λ (x : InstanceSlots). IsInstanceInPool p x) (sym c.self.view_is) c.requires.kept in
    rw (← c.self.view_is)
    (jobs_become p c.forget_job.new.pool old c.forget_job.new.queue i.calls i.calls
    (jobs_without c.args.job (jobs_in p old.jobs)) kept.counted c.forget_job.ensures.moves c.forget_job.ensures.forgotten refl)

pub returns-clause-kept : goal.returns-clause-kept
returns-clause-kept c =
    let i = c.self.inside in
    let old = slots_of i.settings i.contents i.calls in
    let p = c.args.pool.now in
    let kept = subst (λ (x : InstanceSlots). IsInstanceInPool p x) (sym c.self.view_is) c.requires.kept in
    let is = jobs_become p c.forget_job.new.pool old c.forget_job.new.queue i.calls i.calls
    (jobs_without c.args.job (jobs_in p old.jobs)) kept.counted c.forget_job.ensures.moves c.forget_job.ensures.forgotten refl in
    forgotten_in_pool p c.forget_job.new.pool old c.forget_job.new.queue c.args.job kept c.forget_job.ensures.moves is
