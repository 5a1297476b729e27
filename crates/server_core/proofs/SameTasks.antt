-- The task of a number stays the same, whatever happens to an instance and its parent.
use Rattle.std.proofs.Common.{◌≡◌, ℕ, Bool, true, false, List, [], ◌∷◌, ◌++◌, Some, refl, sym, ap, subst}
use Rattle.std.specs.Prelude.{fold, map}
use Rattle.std.specs.List.{AllByRecursion}
use Rattle.job_queue.specs.Jobs.{Jobs}
use Rattle.job_queue.specs.Order.{AreJobs}
use Rattle.execution.specs.Job.{JobValue, TaskValue}
use Rattle.execution.specs.Orders.{task_of}
use Rattle.execution.proofs.Tasks.{task-same}
use Rattle.instance_core.specs.State.{IsInstanceWithin}
use Rattle.instance_core.specs.Visible.{Blob}
use Rattle.server_events.specs.Events.{LoneEvent}
use Rattle.served_instance.specs.Narrow.{IsNarrow}
use Rattle.served_instance.proofs.JobChanges.{Become, unchanged, become_both, stepped_become, short_becomes}
use Rattle.server_core.specs.Families.{Family, FamilyEvent, AreLimited, own_event, parent_event, event_in}
use Rattle.server_core.specs.Marked.{MarkedEvent, IsRunStep, IsFamilyStep, IsRun}
use Rattle.server_core.specs.Runs.{Run, FamilyRun, family_step, new_family_run, run_of_family, texts_of_parent}
use Rattle.server_core.proofs.Limits.{run_within}

abbrev jobs_in : FamilyRun → Jobs JobValue
jobs_in f = f.own.lone.state.jobs

-- ---- runs

step_becomes : (f : FamilyRun) (e : FamilyEvent) → Become (jobs_in f) (jobs_in (family_step f e))
step_becomes f (own_event e) = stepped_become (texts_of_parent f.parent) e f.own.lone
step_becomes f (parent_event e) = unchanged (jobs_in f) (jobs_in f) refl

run_becomes : (f : FamilyRun) (es : List FamilyEvent) → Become (jobs_in f) (jobs_in (fold family_step f es))
run_becomes f [] = unchanged (jobs_in f) (jobs_in f) refl
run_becomes f (e ∷ es) =
    let next : FamilyRun = family_step f e in
    become_both (jobs_in f) (jobs_in next) (jobs_in (fold family_step next es)) (step_becomes f e) (run_becomes next es)

joined_run : (f : FamilyRun) (xs ys : List FamilyEvent) → fold family_step f (xs ++ ys) ≡ fold family_step (fold family_step f xs) ys
joined_run f [] ys = refl
joined_run f (x ∷ xs) ys = joined_run (family_step f x) xs ys

-- ---- runs in which events were done in part

own_becomes : (parent : List Blob) (r q : Run) (e : LoneEvent) (marked : Bool) → IsRunStep parent r e marked q →
    Become r.lone.state.jobs q.lone.state.jobs
own_becomes parent r q e false is =
    subst (λ (x : Run). Become r.lone.state.jobs x.lone.state.jobs) (sym is) (stepped_become parent e r.lone)
own_becomes parent r q e true h = short_becomes parent e r.lone q.lone h.lone

marked_step_becomes : (f g : FamilyRun) (e : MarkedEvent) → IsFamilyStep f e g → Become (jobs_in f) (jobs_in g)
marked_step_becomes f g (own_event e, marked) h = own_becomes (texts_of_parent f.parent) f.own g.own e marked h.0
marked_step_becomes f g (parent_event e, marked) h = unchanged (jobs_in f) (jobs_in g) (ap (λ (r : Run). r.lone.state.jobs) h.0)

marked_run_becomes : (f g : FamilyRun) (es : List MarkedEvent) → IsRun f es g → Become (jobs_in f) (jobs_in g)
marked_run_becomes f g [] is = unchanged (jobs_in f) (jobs_in g) (ap (λ (k : FamilyRun). jobs_in k) is)
marked_run_becomes f g (e ∷ es) h = become_both (jobs_in f) (jobs_in h.0) (jobs_in g) (marked_step_becomes f h.0 e h.1)
    (marked_run_becomes h.0 g es h.2)

-- ---- a task

keeps_task : (n : ℕ) (task other : TaskValue) (old new : Jobs JobValue) → AreJobs old → Become old new → task_of n old ≡ Some task →
    task_of n new ≡ Some other → other ≡ task
keeps_task n task other old new are h is then =
    task-same n h.changes old task other are is (subst (λ (jobs : Jobs JobValue). task_of n jobs ≡ Some other) h.so then)

pub run_keeps_task : (family : Family) (earlier later : List FamilyEvent) (n : ℕ) (task other : TaskValue) → AreLimited family →
    AllByRecursion IsNarrow (map event_in earlier)
    → task_of n (run_of_family family earlier).own.lone.state.jobs ≡ Some task →
    task_of n (run_of_family family (earlier ++ later)).own.lone.state.jobs ≡ Some other → other ≡ task
run_keeps_task family earlier later n task other limited narrow is then =
    let f : FamilyRun = run_of_family family earlier in
    let end : task_of n (jobs_in (fold family_step f later)) ≡ Some other =
    subst (λ (g : FamilyRun). task_of n (jobs_in g) ≡ Some other) (joined_run (new_family_run family) earlier later) then in
    keeps_task n task other (jobs_in f) (jobs_in (fold family_step f later)) (run_within family earlier limited narrow).jobs
    (run_becomes f later) is end

pub marked_run_keeps_task : (f g : FamilyRun) (events : List MarkedEvent) (n : ℕ) (task other : TaskValue) →
    IsInstanceWithin f.own.lone.state → IsRun f events g
    → task_of n f.own.lone.state.jobs ≡ Some task → task_of n g.own.lone.state.jobs ≡ Some other → other ≡ task
marked_run_keeps_task f g events n task other within steps is then =
    keeps_task n task other (jobs_in f) (jobs_in g) within.jobs (marked_run_becomes f g events steps) is then
