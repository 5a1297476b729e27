-- What Execute and WaitExecution leave of an instance's contents, and of the pool.
use Rattle.std.proofs.Common.{◌≡◌, ℕ, ◌+◌, ◌≤◌, Bool, true, false, cond, List, [], ◌∷◌, ◌++◌, map, Option, Some, None, Result, Ok, Err, refl, sym, ap, subst, ◌∙◌, arith}
use Rattle.std.specs.Prelude.{nat_eq, nat_le, nat_lt, length, string_bytes}
use Rattle.std.specs.List.{AllByRecursion}
use Rattle.digest.specs.declared.Digest.{Digest}
use Rattle.reapi_messages.specs.Results.{◌>>=◌}
use Rattle.rpc.specs.declared.method.Method.TheVariants.{Execute}
use Rattle.rpc.specs.declared.refusal.Refusal.{Refusal}
use Rattle.rpc.specs.declared.refusal.Refusal.TheVariants.{ExecutionIsOff, QueueFull}
use Rattle.blob_pool.specs.Slots.{Slots, count_at}
use Rattle.blob_pool.specs.Moves.{Moves, no_holders}
use Rattle.blob_pool.proofs.Moves.{moves_more}
use Rattle.instance_view.specs.Visible.{Blob}
use Rattle.instance_view.specs.Shown.{ViewValue, visible_in, holders}
use Rattle.instance_view.proofs.Held.{shown_apart}
use Rattle.instance_view.specs.Sight.{sight_of}
use Rattle.quota_evict.specs.Within.{AreBlobsWithin}
use Rattle.quota_evict.proofs.Limits.{used_within}
use Rattle.tree_calls.specs.Complete.{AreResultsWithin}
use Rattle.cas_service.specs.declared.error.CallError.{CallError}
use Rattle.cas_service.specs.declared.error.CallError.TheVariants.{Refused, NoMemory}
use Rattle.cas_service.specs.Answers.{Fails}
use Rattle.action_cache.specs.Answering.{blobs_used}
use Rattle.job_queue.specs.Jobs.{Jobs}
use Rattle.execution_messages.specs.Progress.{completed_text, finds, queued_text}
use Rattle.job_queue.specs.declared.queue.TheConstants.{LAST_NUMBER, MOST_WAITING}
use Rattle.execution.specs.declared.job.Executions.{Executions}
use Rattle.execution.specs.declared.job.Job.{Job}
use Rattle.execution.specs.declared.answer.ExecuteAnswer as CodeExecute
use Rattle.execution.specs.declared.answer.ExecuteAnswer.TheVariants.{Done, Queued}
use Rattle.execution.specs.Answers as Shown
use Rattle.execution.specs.Changes.{after_changes}
use Rattle.execution.specs.Execute as Executor
use Rattle.execution.specs.Execute.{ExecuteAnswer, ExecuteChange, ExecuteDone, ExecutionState, Uses, Keeps, Does, Pushes, queued, by_job, by_looking, by_preparing, execute, look_in, looked_up}
use Rattle.execution.specs.InPool.{execution_in, jobs_holders, jobs_in}
use Rattle.execution.specs.Job.{JobValue}
use Rattle.execution.specs.Preparing.{FaultValue, PreparedValue, job_of, met, prepared}
use Rattle.execution.proofs.Calling.{jobs_same}
use Rattle.execution.specs.Asking.{ExecuteAskedValue, execute_asked}
use Rattle.instance_core.specs.declared.contents.Settings.{Settings}
use Rattle.instance_core.specs.declared.contents.Contents.{Contents}
use Rattle.instance_core.specs.Calls.{Calls}
use Rattle.instance_core.specs.Carries.{Carries, Leaves, answer_holders, answer_shown, contents_beside, contents_holders, executed_so}
use Rattle.instance_core.specs.Changes.{InstanceChange, state_after_changes}
use Rattle.instance_core.specs.Contents.{AreContentsInPool}
use Rattle.instance_core.specs.Methods.{answer_to, execute_answered, executed, execution_change, execution_changes, execution_state, request_changes}
use Rattle.instance_core.specs.Replies.{AnswerValue, answering}
use Rattle.instance_core.specs.State.{InstanceState, LimitsValue}
use Rattle.instance_limits.specs.Shown.{limits_value}
use Rattle.instance_core.proofs.Carrying.{kept_within, within_still}
use Rattle.instance_core.proofs.ExecuteLimits.{after_within}

-- ---- changes

abbrev with_execution : ExecutionState → InstanceState → InstanceState
with_execution e s = record s { visible = e.visible; results = e.results; jobs = e.jobs }

made_execution : (cs : List ExecuteChange) (s : InstanceState) →
    state_after_changes (map execution_change cs) s ≡ with_execution (after_changes cs (execution_state s)) s
made_execution [] s = refl
made_execution (Uses d ∷ cs) s = made_execution cs _
made_execution (Keeps results ∷ cs) s = made_execution cs _
made_execution (Does operation ∷ cs) s = made_execution cs _
made_execution (Pushes job ∷ cs) s = made_execution cs _

abbrev found_by : ExecutionState → Bool → Digest → ExecuteDone
found_by s skip d = by_looking s d (looked_up skip (look_in s) d s.results)

abbrev job_waits : ExecutionState → Digest → PreparedValue → ExecuteDone
job_waits s d p = record {
  answer = Ok (queued s.jobs.next (queued_text s.jobs.next d));
  changes = map Uses (met d p) ++ Pushes (job_of (look_in s) d p) ∷ [];
}

-- ---- limits

-- results that a change leaves are within the limits
abbrev KeepsFew : LimitsValue → ExecuteChange → Type 0
KeepsFew limits (Keeps results) = AreResultsWithin limits results
KeepsFew limits (Uses d) = Unit {0}
KeepsFew limits (Does operation) = Unit {0}
KeepsFew limits (Pushes job) = Unit {0}

abbrev AreWithin : LimitsValue → ℕ → ExecutionState → Type 0
AreWithin limits quota e = AreBlobsWithin limits.blobs quota e.visible × AreResultsWithin limits e.results

changes_within : (limits : LimitsValue) (quota : ℕ) (cs : List ExecuteChange) (e : ExecutionState) → AllByRecursion (KeepsFew limits) cs →
    AreWithin limits quota e → AreWithin limits quota (after_changes cs e)
changes_within limits quota [] e few w = w
changes_within limits quota (Uses d ∷ cs) e few w =
    changes_within limits quota cs _ few.1 (used_within limits.blobs quota d e.visible w.0, w.1)
changes_within limits quota (Keeps results ∷ cs) e few w = changes_within limits quota cs _ few.1 (w.0, few.0)
changes_within limits quota (Does operation ∷ cs) e few w = changes_within limits quota cs _ few.1 w
changes_within limits quota (Pushes job ∷ cs) e few w = changes_within limits quota cs _ few.1 w

uses_few : (limits : LimitsValue) (ds : List Digest) (cs : List ExecuteChange) → AllByRecursion (KeepsFew limits) cs →
    AllByRecursion (KeepsFew limits) (map Uses ds ++ cs)
uses_few limits [] cs few = few
uses_few limits (d ∷ ds) cs few = (tt, uses_few limits ds cs few)

job_few : (limits : LimitsValue) (s : ExecutionState) (d : Digest) (p : PreparedValue) →
    AllByRecursion (KeepsFew limits) (by_job s d p).changes
job_few limits s d p = go (nat_le MOST_WAITING (length s.jobs.waiting)) where
  go : (b : Bool) → AllByRecursion (KeepsFew limits) (cond b (Executor.refused QueueFull) (job_waits s d p)).changes
  go true = tt
  go false = uses_few limits (met d p) (Pushes (job_of (look_in s) d p) ∷ []) (tt, tt)

preparing_few : (limits : LimitsValue) (s : ExecutionState) (d : Digest) (r : Result PreparedValue FaultValue) →
    AllByRecursion (KeepsFew limits) (by_preparing s d r).changes
preparing_few limits s d (Err f) = (tt, tt)
preparing_few limits s d (Ok p) = job_few limits s d p

looking_few : (limits : LimitsValue) (s : ExecutionState) (d : Digest) (o : Option (List ℕ)) → AreResultsWithin limits s.results →
    AllByRecursion (KeepsFew limits) (by_looking s d o).changes
looking_few limits s d (Some text) w = (
  after_within limits (look_in s) d s.results w,
  uses_few limits (blobs_used (look_in s) d s.results)
      (Does (completed_text s.jobs.next d (finds text)) ∷ []) (tt, tt),
)
looking_few limits s d None w = preparing_few limits s d (prepared (look_in s) d)

execute_few : (limits : LimitsValue) (slots : ℕ) (s : ExecutionState) (skip : Bool) (d : Digest) → AreResultsWithin limits s.results →
    AllByRecursion (KeepsFew limits) (execute slots s skip d).changes
execute_few limits slots s skip d w = off (nat_eq slots 0) (nat_lt LAST_NUMBER s.jobs.next) where
  off : (a b : Bool) → AllByRecursion (KeepsFew limits)
      (cond a (Executor.refused ExecutionIsOff) (cond b (Executor.refused QueueFull) (found_by s skip d))).changes
  off true b = tt
  off false true = tt
  off false false = looking_few limits s d (looked_up skip (look_in s) d s.results) w

-- ---- a call that is refused changes nothing

job_refused : (s : ExecutionState) (d : Digest) (p : PreparedValue) (refusal : Refusal) → (by_job s d p).answer ≡ Err refusal →
    (by_job s d p).changes ≡ []
job_refused s d p refusal = go (nat_le MOST_WAITING (length s.jobs.waiting)) where
  go : (b : Bool) → (cond b (Executor.refused QueueFull) (job_waits s d p)).answer ≡ Err refusal →
      (cond b (Executor.refused QueueFull) (job_waits s d p)).changes ≡ []
  go true is = refl
  go false is = absurd cc

preparing_refused : (s : ExecutionState) (d : Digest) (r : Result PreparedValue FaultValue) (refusal : Refusal) →
    (by_preparing s d r).answer ≡ Err refusal → (by_preparing s d r).changes ≡ []
preparing_refused s d (Err f) refusal is = absurd cc
preparing_refused s d (Ok p) refusal is = job_refused s d p refusal is

looking_refused : (s : ExecutionState) (d : Digest) (o : Option (List ℕ)) (refusal : Refusal) → (by_looking s d o).answer ≡ Err refusal →
    (by_looking s d o).changes ≡ []
looking_refused s d (Some text) refusal is = absurd cc
looking_refused s d None refusal is = preparing_refused s d (prepared (look_in s) d) refusal is

execute_refused : (slots : ℕ) (s : ExecutionState) (skip : Bool) (d : Digest) (refusal : Refusal) →
    (execute slots s skip d).answer ≡ Err refusal → (execute slots s skip d).changes ≡ []
execute_refused slots s skip d refusal = off (nat_eq slots 0) (nat_lt LAST_NUMBER s.jobs.next) where
  off : (a b : Bool) → (cond a (Executor.refused ExecutionIsOff) (cond b (Executor.refused QueueFull) (found_by s skip d))).answer
      ≡ Err refusal → (cond a (Executor.refused ExecutionIsOff) (cond b (Executor.refused QueueFull) (found_by s skip d))).changes ≡ []
  off true b is = refl
  off false true is = refl
  off false false is = looking_refused s d (looked_up skip (look_in s) d s.results) refusal is

-- ---- Execute

abbrev pub state_of : Slots → ViewValue → Contents → ExecutionState
state_of p parent old = execution_in p (sight_of old.view parent) old.results old.executions.queue

-- what is done of a call that asks so
abbrev pub done_of : Slots → ViewValue → Contents → ExecuteAskedValue → ExecuteDone
done_of p parent old asked = execute old.executions.slots (state_of p parent old) asked.skips_lookup asked.action

answer_is : (s : InstanceState) (message : List ℕ) (asked : ExecuteAskedValue) (x : ExecuteDone) → execute_asked s.name message ≡ Ok asked →
    x ≡ executed s asked → answer_to Execute s message ≡ answering execute_answered x.answer
answer_is s message asked x is same =
    ap (λ (r : Result ExecuteAskedValue Refusal). r >>= λ a. answering execute_answered (executed s a).answer) is
    ∙ ap (λ (y : ExecuteDone). answering execute_answered y.answer) (sym same)

changes_are : (s : InstanceState) (message : List ℕ) (asked : ExecuteAskedValue) (x : ExecuteDone) →
    execute_asked s.name message ≡ Ok asked → x ≡ executed s asked → request_changes Execute s message ≡ map execution_change x.changes
changes_are s message asked x is same = ap (execution_changes s) is ∙ ap (λ (y : ExecuteDone). map execution_change y.changes) (sym same)

so_answered : (q : Slots) (a : CodeExecute.ExecuteAnswer) → execute_answered (Shown.answer_shown a) ≡ answer_shown q (executed_so a)
so_answered q (Done operation) = refl
so_answered q (Queued number operation) = refl

so_holds : (a : CodeExecute.ExecuteAnswer) (k : ℕ) → answer_holders (Ok (executed_so a)) k ≡ 0
so_holds (Done operation) k = refl
so_holds (Queued number operation) k = refl

-- the same slots
done_same : (settings : Settings) (parent : ViewValue) (p : Slots) (old : Contents) (asked : ExecuteAskedValue) (calls : Calls) →
    old.executions.slots ≡ settings.slots → done_of p parent old asked
    ≡ executed (contents_beside settings (visible_in p parent) p old calls) asked
done_same settings parent p old asked calls slots = ap (λ (n : ℕ). execute n (state_of p parent old) asked.skips_lookup asked.action) slots

limits_of : (settings : Settings) (parent : ViewValue) (p : Slots) (old : Contents) → AreContentsInPool settings p old →
    AreWithin (limits_value settings.limits) settings.quota (state_of p parent old)
limits_of settings parent p old kept = (
  subst (λ (n : ℕ). AreBlobsWithin n settings.quota (visible_in p old.view)) kept.limit
      kept.kept.within,
  kept.results,
)

pub carries_executed : (settings : Settings) (parent : ViewValue) (message : List ℕ) (p q : Slots) (old : Contents) (view : ViewValue)
    (results : List Blob) (executions : Executions) (asked : ExecuteAskedValue) (a : CodeExecute.ExecuteAnswer)
    → AreContentsInPool settings p old → old.executions.slots ≡ settings.slots →
    execute_asked (string_bytes settings.name) message ≡ Ok asked
    → (done_of p parent old asked).answer ≡ Ok (Shown.answer_shown a)
    → execution_in q (sight_of view parent) results executions.queue
    ≡ after_changes (done_of p parent old asked).changes (state_of p parent old)
    → Moves p q (jobs_holders old.executions.queue) (jobs_holders executions.queue) → executions.slots ≡ old.executions.slots →
    ((k : ℕ) → holders view k ≡ holders old.view k) → view.limit ≡ old.view.limit
    → Carries Execute settings (visible_in p parent) message p old (Ok (executed_so a)) q
    (record old { view = view; results = results; executions = executions })
carries_executed settings parent message p q old view results executions asked a kept slots is answered after moved same-slots same limit =
    let x : ExecuteDone = done_of p parent old asked in
    let left = changes_within (limits_value settings.limits) settings.quota x.changes (state_of p parent old)
    (execute_few (limits_value settings.limits) old.executions.slots
    (state_of p parent old) asked.skips_lookup asked.action kept.results) (limits_of settings parent p old kept) in
    let within : AreWithin (limits_value settings.limits) settings.quota (execution_in q (sight_of view parent) results executions.queue) =
    subst (AreWithin (limits_value settings.limits) settings.quota) (sym after) left in
    let new : Contents = record old { view = view; results = results; executions = executions } in
    record {
      answer = λ calls.
          let s = contents_beside settings (visible_in p parent) p old calls in
          answer_is s message asked x is (done_same settings parent p old asked calls slots)
          ∙ ap (answering execute_answered) answered ∙ ap (λ (v : AnswerValue). Ok v) (so_answered q a);
      leaves = λ calls.
          let s = contents_beside settings (visible_in p parent) p old calls in
          let t = contents_beside settings (visible_in p parent) q new calls in
          let all : t ≡ state_after_changes (map execution_change x.changes) s =
          ap (λ (e : ExecutionState). with_execution e s) after ∙ sym (made_execution x.changes s) in
          subst (λ (cs : List InstanceChange). Leaves (Ok (executed_so a)) cs s t)
          (sym (changes_are s message asked x is (done_same settings parent p old asked calls slots)))
          (record { whole = all; memory = tt });
      moves = moves_more p q (jobs_holders old.executions.queue) (jobs_holders executions.queue) (holders old.view) (contents_holders old)
          (λ k. contents_holders new k + answer_holders (Ok (executed_so a)) k)
          (λ k. omega arith) (λ k. let none = so_holds a k in let v = same k in omega (arith, none, v)) moved;
      within = record { limit = limit ∙ kept.limit; texts = within.0; uploads = kept.uploads; results = within.1 };
      slots = same-slots;
    }

-- nothing changes that anyone holds
contents_still : (settings : Settings) (parent : List Blob) (p q : Slots) (old : Contents) (calls : Calls) →
    ((k : ℕ) → contents_holders old k ≤ count_at p k) → Moves p q no_holders no_holders →
    contents_beside settings parent q old calls ≡ contents_beside settings parent p old calls
contents_still settings parent p q old calls held m =
    let texts : visible_in q old.view ≡ visible_in p old.view =
    shown_apart p q old.view.entries no_holders no_holders m (λ k. let a = held k in omega (arith, a)) in
    let jobs : jobs_in q old.executions.queue ≡ jobs_in p old.executions.queue =
    jobs_same p q old.executions.queue no_holders no_holders (λ k. let a = held k in omega (arith, a)) m in
    ap (λ (bs : List Blob). record (contents_beside settings parent q old calls) { visible = bs }) texts
    ∙ ap (λ (js : Jobs JobValue). record (contents_beside settings parent p old calls) { jobs = js }) jobs

-- a call that fails so leaves what there was
leaves_still : (e : CallError) (changes : List InstanceChange) (s t : InstanceState) → t ≡ s →
    ((refusal : Refusal) → e ≡ Refused refusal → changes ≡ []) → Leaves (Err e) changes s t
leaves_still (Refused refusal) changes s t same none = let nothing = none refusal refl in
    record { whole = subst (λ (cs : List InstanceChange). t ≡ state_after_changes cs s) (sym nothing) same; memory = tt }
leaves_still NoMemory changes s t same none = record
    { whole = tt; memory = record { made = []; left = changes; front = refl; so_far = same } }

fails_so : (e : CallError) (r : Result ExecuteAnswer Refusal) (o : Result AnswerValue Refusal) → o ≡ answering execute_answered r →
    Fails e r → Fails e o
fails_so NoMemory r o is h = tt
fails_so (Refused refusal) r o is h = is ∙ ap (answering execute_answered) h

refused_by : (e : CallError) (refusal : Refusal) (r : Result ExecuteAnswer Refusal) → e ≡ Refused refusal → Fails e r → r ≡ Err refusal
refused_by (Refused other) refusal r is h = let same : other ≡ refusal = cc in h ∙ ap (λ (x : Refusal). Err x) same
refused_by NoMemory refusal r is h = absurd cc

unchanged : (old : Contents) (view : ViewValue) (results : List Blob) (executions : Executions) →
    (results ≡ old.results) × (view ≡ old.view) × (executions.queue ≡ old.executions.queue) → executions.slots ≡ old.executions.slots →
    old ≡ record old { view = view; results = results; executions = executions }
unchanged old view results executions same slots =
    let parts : Executions = record { slots = old.executions.slots; queue = executions.queue } in
    ap (λ (rs : List Blob). let c : Contents = record old { results = rs } in c) (sym same.0)
    ∙ ap (λ (v : ViewValue). let c : Contents = record old { results = results; view = v } in c) (sym same.1)
    ∙ ap (λ (js : Jobs Job). let c : Contents = record old
    { results = results; view = view; executions = record { slots = old.executions.slots; queue = js } } in c) (sym same.2)
    ∙ ap (λ (n : ℕ). let c : Contents = record old
    { results = results; view = view; executions = record { slots = n; queue = executions.queue } } in c) (sym slots)

pub carries_failed : (settings : Settings) (parent : ViewValue) (message : List ℕ) (p q : Slots) (old : Contents) (view : ViewValue)
    (results : List Blob) (executions : Executions) (asked : ExecuteAskedValue) (e : CallError)
    → AreContentsInPool settings p old → old.executions.slots ≡ settings.slots → ((k : ℕ) → contents_holders old k ≤ count_at p k) →
    execute_asked (string_bytes settings.name) message ≡ Ok asked
    → Fails e (done_of p parent old asked).answer →
    (results ≡ old.results) × (view ≡ old.view) × (executions.queue ≡ old.executions.queue) → Moves p q no_holders no_holders →
    executions.slots ≡ old.executions.slots
    → Carries Execute settings (visible_in p parent) message p old (Err e) q
    (record old { view = view; results = results; executions = executions })
carries_failed settings parent message p q old view results executions asked e kept slots held is fails same still same-slots =
    let x : ExecuteDone = done_of p parent old asked in
    subst (λ (new : Contents). Carries Execute settings (visible_in p parent) message p old (Err e) q new)
    (unchanged old view results executions same same-slots) (record {
      answer = λ calls.
          let s = contents_beside settings (visible_in p parent) p old calls in
          fails_so e x.answer (answer_to Execute s message)
          (answer_is s message asked x is (done_same settings parent p old asked calls slots)) fails;
      leaves = λ calls.
          let s = contents_beside settings (visible_in p parent) p old calls in
          leaves_still e (request_changes Execute s message) s (contents_beside settings (visible_in p parent) q old calls)
          (contents_still settings (visible_in p parent) p q old calls held still)
          (λ refusal refused. changes_are s message asked x is (done_same settings parent p old asked calls slots)
          ∙ ap (map execution_change) (execute_refused old.executions.slots
          (state_of p parent old) asked.skips_lookup asked.action refusal (refused_by e refusal x.answer refused fails)));
      moves = moves_more p q no_holders no_holders (contents_holders old) (contents_holders old)
          (λ k. contents_holders old k + answer_holders (Err e) k) (λ k. omega arith) (λ k. omega arith) still;
      within = within_still settings p q old (shown_apart p q old.view.entries no_holders no_holders still
          (λ k. let a = held k in omega (arith, a))) (kept_within settings p old p old.view kept refl kept.kept);
      slots = refl;
    })
