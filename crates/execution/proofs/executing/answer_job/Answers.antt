use Rattle.std.proofs.Common.{◌≡◌, ℕ, ◌≤◌, List, length, sym, ap, subst, ◌∙◌, arith, rules}
use Rattle.std.specs.Prelude.{Ok}
use Rattle.std.proofs.lemmas.List.{length-map}
use Rattle.digest.specs.declared.Digest.{Digest}
use Rattle.blob_pool.specs.Slots.{Slots}
use Rattle.blob_pool.specs.Moves.{no_holders}
use Rattle.instance_view.specs.Shown.{ViewValue, visible_in}
use Rattle.instance_view.specs.Sight.{SightValue, sight_of}
use Rattle.input_tree.specs.Texts.{texts_of}
use Rattle.input_tree.specs.Uses.{visible_after_uses}
use Rattle.job_queue.specs.Jobs.{Jobs, jobs_after_push}
use Rattle.job_queue.specs.declared.queue.TheConstants.{MOST_WAITING}
use Rattle.execution_messages.specs.Progress.{queued_text}
use Rattle.execution.specs.declared.job.Job.{Job}
use Rattle.execution.specs.Changes.{after_changes}
use Rattle.execution.specs.Execute.{ExecuteAnswer, ExecuteDone, ExecutionState, queued}
use Rattle.execution.specs.InPool.{execution_in, job_holders, waiting_in}
use Rattle.execution.specs.Preparing.{PreparedValue, job_of, met}
use Rattle.execution.specs.Shown.{prepared_shown}
use Rattle.execution.proofs.Calling.{by_job_waits, job_after, job_moves, jobs_same, view_same}
use Rattle.execution.proofs.executing.answer_job.Goals as goal

pub returns-clause-answer : goal.returns-clause-answer
returns-clause-answer c = λ results.
    let p : Slots = c.args.pool.now in
    let s : ExecutionState = execution_in p (sight_of c.args.view.now c.args.parent.now) results c.args.queue.now in
    let d : Digest = c.args.action.now in
    let few : MOST_WAITING ≤ length c.args.queue.now.waiting → ⊥ = search rules in
    let same : length s.jobs.waiting ≡ length c.args.queue.now.waiting = length-map c.args.queue.now.waiting (waiting_in p) in
    let number : c.in_ok-number.number ≡ c.args.queue.now.next = c.in_ok-number.ensures.number in
    let told : c.in_ok-told.told.items ≡ queued_text c.args.queue.now.next d =
    c.in_ok-told.ensures ∙ ap (λ (n : ℕ). queued_text n d) c.next.ensures in
    let is : queued c.in_ok-number.number c.in_ok-told.told.items ≡ queued c.args.queue.now.next (queued_text c.args.queue.now.next d) =
    ap (λ (n : ℕ). queued n c.in_ok-told.told.items) number ∙ ap (queued c.args.queue.now.next) told in
    ap (λ (x : ExecuteDone). x.answer) (by_job_waits s d (prepared_shown c.args.prepared) (λ most. few (omega (arith, same, most))))
    ∙ ap (λ (a : ExecuteAnswer). Ok a) (sym is)

pub returns-clause-after : goal.returns-clause-after
returns-clause-after c = λ results.
    let p : Slots = c.args.pool.now in
    let q : Slots = c.make_job.new.pool in
    let view : ViewValue = c.args.view.now in
    let parent : ViewValue = c.args.parent.now in
    let jobs : Jobs Job = c.args.queue.now in
    let job : Job = c.in_ok-job.job in
    let d : Digest = c.args.action.now in
    let prepared : PreparedValue = prepared_shown c.args.prepared in
    let s : ExecutionState = execution_in p (sight_of view parent) results jobs in
    let few : MOST_WAITING ≤ length jobs.waiting → ⊥ = search rules in
    let same : length s.jobs.waiting ≡ length jobs.waiting = length-map jobs.waiting (waiting_in p) in
    let digests : c.deref-2.result.now ≡ met d prepared = c.deref-2.ensures.value ∙ c.in_ok-digests.ensures in
    rw (c.in_ok-number.ensures.same, c.in_ok-number.ensures.ok)
    (subst (λ (x : ExecuteDone). execution_in q (sight_of c.use_all.new.view parent) results (jobs_after_push job jobs)
    ≡ after_changes x.changes s)
    (sym (by_job_waits s d prepared (λ most. few (omega (arith, same, most)))))
    (job_after p q view c.use_all.new.view parent results jobs d prepared job
    (c.use_all.ensures.used q ∙ ap (λ (ds : List Digest). visible_after_uses ds (visible_in q view)) digests)
    (view_same p q view no_holders (job_holders job) (λ k. omega (arith, c.requires.held k)) c.in_ok-job.ensures.moves)
    (view_same p q parent no_holders (job_holders job) (λ k. omega (arith, c.requires.held k)) c.in_ok-job.ensures.moves)
    (jobs_same p q jobs no_holders (job_holders job) (λ k. omega (arith, c.requires.held k)) c.in_ok-job.ensures.moves)
    (c.in_ok-job.ensures.job ∙ ap (λ (v : SightValue). job_of (texts_of p v) d prepared) c.new.ensures)))

pub returns-clause-moves : goal.returns-clause-moves
returns-clause-moves c =
    rw (c.in_ok-number.ensures.same, c.in_ok-number.ensures.ok)
    (job_moves c.args.pool.now c.make_job.new.pool c.args.queue.now c.in_ok-job.job c.in_ok-job.ensures.moves)
