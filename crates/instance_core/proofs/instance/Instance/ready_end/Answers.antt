use Rattle.std.proofs.Common.{sym, subst, IfOk, Result, Ok, Err}
use Rattle.job_queue.specs.Jobs.{running_job}
use Rattle.run_calls.specs.Shown.{outcome_shown}
use Rattle.instance_core.specs.Answer.{ending_changes}
use Rattle.instance_core.specs.Shown.{slots_of, contents_state, ongoing_in}
use Rattle.instance_core.specs.Slots.{InstanceSlots, IsInstanceInPool, state_in}
use Rattle.instance_core.specs.State.{IsInstanceWithin}
use Rattle.instance_core.specs.Calls.{end_job}
use Rattle.instance_core.proofs.EventLimits.{after_keeps}
use Rattle.instance_core.proofs.Readying.{in_order}
use Rattle.instance_core.proofs.Taking.{contents_in_pool, ended_state, ended_whole, ended_front, ended_within}
use Rattle.instance_core.proofs.instance.Instance.ready_end.Goals as goal

pub on_outcome-requires-clause-kept : goal.on_outcome-requires-clause-kept
on_outcome-requires-clause-kept c =
    let i = c.self.inside in
    let p = c.args.pool.now in
    let kept = subst (λ (x : InstanceSlots). IsInstanceInPool p x) (sym c.self.view_is) c.requires.kept in
    contents_in_pool p i.settings i.contents i.calls c.self.invariant.1 (in_order p i.contents.executions.queue kept.within.jobs) kept

pub on_outcome-requires-clause-jobs : goal.on_outcome-requires-clause-jobs
on_outcome-requires-clause-jobs c =
    let i = c.self.inside in
    let p = c.args.pool.now in
    let kept = subst (λ (x : InstanceSlots). IsInstanceInPool p x) (sym c.self.view_is) c.requires.kept in
    in_order p i.contents.executions.queue kept.within.jobs

pub on_outcome-requires-clause-within : goal.on_outcome-requires-clause-within
on_outcome-requires-clause-within c = subst (λ (x : InstanceSlots). IsInstanceWithin (state_in c.args.pool.now x))
    (sym c.self.view_is) c.requires.kept.within

pub returns-clause-changed : goal.returns-clause-changed
returns-clause-changed c =
    let i = c.self.inside in
    let p = c.args.pool.now in
    let q = c.on_outcome.new.pool in
    let kept = subst (λ (x : InstanceSlots). IsInstanceInPool p x) (sym c.self.view_is) c.requires.kept in
    let s = state_in p (slots_of i.settings i.contents i.calls) in
    let new = c.on_outcome.new.contents in
    let after = contents_state i.settings q new (ongoing_in p i.contents i.calls) in
    let changes = ending_changes s (outcome_shown c.args.outcome) (running_job c.args.job s.jobs) in
    rw (← c.self.view_is) (ended_whole c.on_outcome.result changes s (state_in q (slots_of i.settings new i.calls)) after
    (ended_state p q i.settings i.contents new i.calls kept.counted c.on_outcome.ensures.moves c.on_outcome.ensures.executions)
    c.on_outcome.ensures.changed)

pub returns-clause-memory : goal.returns-clause-memory
returns-clause-memory c =
    let i = c.self.inside in
    let p = c.args.pool.now in
    let q = c.on_outcome.new.pool in
    let kept = subst (λ (x : InstanceSlots). IsInstanceInPool p x) (sym c.self.view_is) c.requires.kept in
    let s = state_in p (slots_of i.settings i.contents i.calls) in
    let new = c.on_outcome.new.contents in
    let after = contents_state i.settings q new (ongoing_in p i.contents i.calls) in
    let changes = ending_changes s (outcome_shown c.args.outcome) (running_job c.args.job s.jobs) in
    rw (← c.self.view_is) (ended_front c.on_outcome.result changes s (state_in q (slots_of i.settings new i.calls)) after
    (ended_state p q i.settings i.contents new i.calls kept.counted c.on_outcome.ensures.moves c.on_outcome.ensures.executions)
    c.on_outcome.ensures.memory)

pub returns-clause-within : goal.returns-clause-within
returns-clause-within c =
    let i = c.self.inside in
    let p = c.args.pool.now in
    let q = c.on_outcome.new.pool in
    let kept = subst (λ (x : InstanceSlots). IsInstanceInPool p x) (sym c.self.view_is) c.requires.kept in
    let s = state_in p (slots_of i.settings i.contents i.calls) in
    let new = c.on_outcome.new.contents in
    let t = state_in q (slots_of i.settings new i.calls) in
    let after = contents_state i.settings q new (ongoing_in p i.contents i.calls) in
    let outcome = outcome_shown c.args.outcome in
    let job = running_job c.args.job s.jobs in
    let changes = ending_changes s outcome job in
    let same = ended_state p q i.settings i.contents new i.calls kept.counted c.on_outcome.ensures.moves c.on_outcome.ensures.executions in
    ended_within c.on_outcome.result s t outcome job kept.within
    (ended_whole c.on_outcome.result changes s t after same c.on_outcome.ensures.changed)
    (ended_front c.on_outcome.result changes s t after same c.on_outcome.ensures.memory)

if_ok : {X E P : Type 0} (r : Result X E) → P → IfOk r (λ x. P)
if_ok (Ok x) h = h
if_ok (Err e) h = tt

pub returns-clause-after : goal.returns-clause-after
returns-clause-after c =
    let i = c.self.inside in
    let p = c.args.pool.now in
    let kept = subst (λ (x : InstanceSlots). IsInstanceInPool p x) (sym c.self.view_is) c.requires.kept in
    let s = state_in p (slots_of i.settings i.contents i.calls) in
    rw (← c.self.view_is) (if_ok c.on_outcome.result
    (after_keeps s (end_job c.args.job (outcome_shown c.args.outcome)) c.on_outcome.ensures.narrow kept.within))
