use Rattle.std.proofs.Common.{◌≡◌, ◌≤◌, ℕ, List, [], Some, refl, sym, subst}
use Rattle.blob_pool.specs.Slots.{Slots, count_at}
use Rattle.blob_pool.specs.Moves.{Moves, no_holders}
use Rattle.blob_pool.proofs.Moves.{moves_none}
use Rattle.instance_view.specs.Shown.{entry_holders}
use Rattle.job_queue.specs.Jobs.{Jobs, jobs_without, running_job}
use Rattle.execution.specs.declared.job.Job.{Job}
use Rattle.execution.specs.declared.keeping.KeptText.{KeptText}
use Rattle.execution.specs.InPool.{job_holders, jobs_holders}
use Rattle.execution.specs.Keeping.{kept_entries}
use Rattle.execution.proofs.Taken.{end_moves, forgotten_shown, job_held, none_forgotten, shown-forget}
use Rattle.execution.proofs.taking.forget_job.Goals as goal

pub release_texts-requires : goal.release_texts-requires
release_texts-requires c =
    let p : Slots = c.args.pool.now in
    let n : ℕ = c.args.number in
    let jobs : Jobs Job = c.args.queue.now in
    let found : running_job n jobs ≡ Some c.in-Some.job = sym c.in-Some.ensures.job in
    subst (λ (ts : List KeptText). (k : ℕ) → entry_holders (kept_entries ts) k ≤ count_at p k) (sym c.deref.ensures.value)
    (job_held p n [] c.in-Some.job jobs found c.requires.held)

pub returns-in-Some-clause-forgotten : goal.returns-in-Some-clause-forgotten
returns-in-Some-clause-forgotten c =
    let p : Slots = c.args.pool.now in
    let n : ℕ = c.args.number in
    let jobs : Jobs Job = c.args.queue.now in
    let job : Job = c.in-Some.job in
    let found : running_job n jobs ≡ Some job = sym c.in-Some.ensures.job in
    let q : Slots = c.release_texts.new.pool in
    let moved : Moves p q (job_holders job) no_holders =
    subst (λ (ts : List KeptText). Moves p q (entry_holders (kept_entries ts)) no_holders) c.deref.ensures.value
    c.release_texts.ensures in
    rw c.in-Some.ensures.gone (forgotten_shown p q n job jobs found c.requires.held moved)

pub returns-in-Some-clause-moves : goal.returns-in-Some-clause-moves
returns-in-Some-clause-moves c =
    let p : Slots = c.args.pool.now in
    let n : ℕ = c.args.number in
    let jobs : Jobs Job = c.args.queue.now in
    let job : Job = c.in-Some.job in
    let found : running_job n jobs ≡ Some job = sym c.in-Some.ensures.job in
    let q : Slots = c.release_texts.new.pool in
    let moved : Moves p q (job_holders job) no_holders =
    subst (λ (ts : List KeptText). Moves p q (entry_holders (kept_entries ts)) no_holders) c.deref.ensures.value
    c.release_texts.ensures in
    rw c.in-Some.ensures.gone (end_moves p q n [] job jobs found moved)

pub returns-in_default-clause-forgotten : goal.returns-in_default-clause-forgotten
returns-in_default-clause-forgotten c = rw c.in_default.ensures.gone (shown-forget c.args.pool.now c.args.number c.args.queue.now)

pub returns-in_default-clause-moves : goal.returns-in_default-clause-moves
returns-in_default-clause-moves c =
    let jobs : Jobs Job = c.args.queue.now in
    let same : jobs_without c.args.number jobs ≡ jobs = none_forgotten c.args.number jobs (sym c.in_default.ensures.job) in
    rw (c.in_default.ensures.gone, same) (moves_none c.args.pool.now (jobs_holders jobs) (jobs_holders jobs) (λ k. refl))
