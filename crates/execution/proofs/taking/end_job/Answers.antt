use Rattle.std.proofs.Common.{◌≡◌, ◌≤◌, ℕ, List, Some, sym, subst}
use Rattle.std.specs.Prelude.{Result, IfOk, OnOk}
use Rattle.blob_pool.specs.Slots.{Slots, count_at}
use Rattle.blob_pool.specs.Moves.{Moves, no_holders}
use Rattle.instance_view.specs.Shown.{entry_holders}
use Rattle.job_queue.specs.Jobs.{Jobs, jobs_after_end, running_job}
use Rattle.job_queue.specs.declared.error.JobError.{JobError}
use Rattle.execution.specs.declared.job.Job.{Job}
use Rattle.execution.specs.declared.keeping.KeptText.{KeptText}
use Rattle.execution.specs.InPool.{job_holders}
use Rattle.execution.specs.Keeping.{kept_entries}
use Rattle.execution.proofs.Taken.{job_held, end_moves, ended_shown}
use Rattle.execution.proofs.taking.end_job.Goals as goal

pub release_texts-requires : goal.release_texts-requires
release_texts-requires c =
    let p : Slots = c.args.pool.now in
    let n : ℕ = c.args.number in
    let operation : List ℕ = c.args.operation.value.items in
    let jobs : Jobs Job = c.args.queue.now in
    let job : Job = c.unwrap-job.result in
    let found : running_job n jobs ≡ Some job = subst
    (λ (r : Result Job JobError). IfOk r (λ (j : Job). running_job n jobs ≡ Some j)) c.unwrap-job.ensures c.end.ensures.job in
    subst (λ (ts : List KeptText). (k : ℕ) → entry_holders (kept_entries ts) k ≤ count_at p k) (sym c.deref.ensures.value)
    (job_held p n operation job jobs found c.requires.held)

pub returns-clause-ended : goal.returns-clause-ended
returns-clause-ended c =
    let p : Slots = c.args.pool.now in
    let n : ℕ = c.args.number in
    let operation : List ℕ = c.args.operation.value.items in
    let jobs : Jobs Job = c.args.queue.now in
    let job : Job = c.unwrap-job.result in
    let found : running_job n jobs ≡ Some job = subst
    (λ (r : Result Job JobError). IfOk r (λ (j : Job). running_job n jobs ≡ Some j)) c.unwrap-job.ensures c.end.ensures.job in
    let q : Slots = c.release_texts.new.pool in
    let after : c.end.new.self ≡ jobs_after_end n operation jobs =
    subst (λ (r : Result Job JobError). OnOk r (c.end.new.self ≡ jobs_after_end n operation jobs)) c.unwrap-job.ensures
    c.end.ensures.ok in
    let moved : Moves p q (job_holders job) no_holders =
    subst (λ (ts : List KeptText). Moves p q (entry_holders (kept_entries ts)) no_holders) c.deref.ensures.value
    c.release_texts.ensures in
    rw after (ended_shown p q n operation job jobs found c.requires.held moved)

pub returns-clause-moves : goal.returns-clause-moves
returns-clause-moves c =
    let p : Slots = c.args.pool.now in
    let n : ℕ = c.args.number in
    let operation : List ℕ = c.args.operation.value.items in
    let jobs : Jobs Job = c.args.queue.now in
    let job : Job = c.unwrap-job.result in
    let found : running_job n jobs ≡ Some job = subst
    (λ (r : Result Job JobError). IfOk r (λ (j : Job). running_job n jobs ≡ Some j)) c.unwrap-job.ensures c.end.ensures.job in
    let q : Slots = c.release_texts.new.pool in
    let after : c.end.new.self ≡ jobs_after_end n operation jobs =
    subst (λ (r : Result Job JobError). OnOk r (c.end.new.self ≡ jobs_after_end n operation jobs)) c.unwrap-job.ensures
    c.end.ensures.ok in
    let moved : Moves p q (job_holders job) no_holders =
    subst (λ (ts : List KeptText). Moves p q (entry_holders (kept_entries ts)) no_holders) c.deref.ensures.value
    c.release_texts.ensures in
    rw after (end_moves p q n operation job jobs found moved)
