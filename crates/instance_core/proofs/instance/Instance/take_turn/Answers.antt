use Rattle.std.proofs.Common.{◌≤◌, ℕ, List, sym, ap, subst, ◌∙◌}
use Rattle.blob_pool.specs.Slots.{count_at}
use Rattle.execution.specs.InPool.{jobs_in}
use Rattle.execution.specs.Steps.{jobs_after_steps}
use Rattle.execution.specs.Taking.{steps_shown}
use Rattle.execution.specs.declared.steps.Step.{Step}
use Rattle.instance_core.specs.Shown.{slots_of}
use Rattle.instance_core.specs.Slots.{InstanceSlots, holders_of_instance}
use Rattle.instance_core.specs.Watching.{calls_after_steps}
use Rattle.instance_core.proofs.Taking.{jobs_become}
use Rattle.instance_core.proofs.instance.Instance.take_turn.Goals as goal

pub returns-clause-changed : goal.returns-clause-changed
returns-clause-changed c =
    let i = c.self.inside in
    let old = slots_of i.settings i.contents i.calls in
    let p = c.args.pool.now in
    let steps = steps_shown c.args.steps.items in
    let held = subst (λ (x : InstanceSlots). (k : ℕ) → holders_of_instance x k ≤ count_at p k) (sym c.self.view_is) c.requires.counted in
    rw (← c.self.view_is)
    (jobs_become p c.take_steps.new.pool old c.take_steps.new.queue c.end_told.new.self (calls_after_steps steps i.calls)
    (jobs_after_steps steps (jobs_in p old.jobs)) held c.take_steps.ensures.moves c.take_steps.ensures.taken
    (c.end_told.ensures.ended ∙ ap (λ (ss : List Step). calls_after_steps (steps_shown ss) i.calls) c.deref.ensures.value))
