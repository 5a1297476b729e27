-- What calls of Execute and WaitExecution do, from what the functions do that they call.
use Rattle.std.proofs.Common.{◌≡◌, ℕ, ◌+◌, ◌<◌, ◌≤◌, Bool, true, false, List, [], ◌∷◌, ◌++◌, length, map, Option, Some, None, is_some, unwrap_or, refl, sym, ap, ◌∙◌, arith, if◌then◌else◌}
use Rattle.std.specs.Prelude.{nat_eq, nat_le, nat_lt, option_map, Ok}
use Rattle.std.specs.Map.{lookup}
use Rattle.std.proofs.lemmas.Bool.Decides.{nat_tests}
use Rattle.std.proofs.lemmas.List.{map-append}
use Rattle.digest.specs.declared.Digest.{Digest}
use Rattle.digest.specs.Naming.{same_digest}
use Rattle.blob_pool.specs.Slots.{Slots, text_at, count_at}
use Rattle.blob_pool.specs.Moves.{Holders, Moves, no_holders}
use Rattle.blob_pool.proofs.Moves.{moves_more}
use Rattle.instance_view.specs.Visible.{Blob, visible_text, with_match_first}
use Rattle.instance_view.specs.Shown.{ViewEntry, ViewValue, blobs_in, visible_in, holders}
use Rattle.instance_view.specs.Sight.{SightValue, seen_in, sight_holders, sight_of}
use Rattle.instance_view.proofs.Held.{shown_same, shown_apart}
use Rattle.input_tree.specs.Texts.{texts_of}
use Rattle.input_tree.specs.Uses.{visible_after_uses}
use Rattle.action_cache.specs.Answering.{HaveSameUses, blobs_for, blobs_used, results_after}
use Rattle.job_queue.specs.Jobs.{Jobs, waits, runs, has_ended, same_number, jobs_after_done, jobs_after_push, stage_of, or_else}
use Rattle.job_queue.specs.Sums.{waiting_sum, running_sum}
use Rattle.job_queue.specs.declared.queue.Running.{Running}
use Rattle.job_queue.specs.declared.queue.TheConstants.{LAST_NUMBER, MOST_WAITING}
use Rattle.job_queue.proofs.Sums.{sum-push}
use Rattle.execution_messages.specs.Progress.{queued_text}
use Rattle.execution.specs.declared.job.Job.{Job}
use Rattle.execution.specs.Job.{JobValue, kept_along}
use Rattle.execution.specs.Keeping.{kept_entries}
use Rattle.execution.specs.Preparing.{PreparedValue, job_of, met}
use Rattle.execution.specs.Execute.{ExecutionState, ExecuteChange, Uses, Keeps, Does, Pushes, queued, by_job, by_looking, execute, looked_up, look_in}
use Rattle.execution.specs.Changes.{after_changes}
use Rattle.execution.specs.InPool.{job_in, job_holders, jobs_in, jobs_holders, waiting_in, running_in, execution_in, stage_in}

-- ---- what is shown does not change where others' texts come and go

pub view_same : (p q : Slots) (v : ViewValue) (h i : Holders) → ((k : ℕ) → h k + holders v k ≤ count_at p k) → Moves p q h i →
    visible_in q v ≡ visible_in p v
view_same p q v h i held m = shown_apart p q v.entries h i m held

pub seen_same : (p q : Slots) (s : SightValue) (i : Holders) → ((k : ℕ) → sight_holders s k ≤ count_at p k) → Moves p q no_holders i →
    seen_in q s ≡ seen_in p s
seen_same p q s i held m =
    let own : visible_in q s.own ≡ visible_in p s.own = view_same p q s.own no_holders i (λ k. omega (arith, held k)) m in
    let parent : visible_in q s.parent ≡ visible_in p s.parent = view_same p q s.parent no_holders i (λ k. omega (arith, held k)) m in
    rw (own, parent) refl

pub kept_same : (p q : Slots) (s : SightValue) (i : Holders) (es : List ViewEntry) (ds : List Digest) →
    ((k : ℕ) → sight_holders s k ≤ count_at p k) → Moves p q no_holders i → blobs_in q es ≡ kept_along (texts_of q s) ds →
    blobs_in q es ≡ kept_along (texts_of p s) ds
kept_same p q s i es ds held m is = is ∙ ap (λ (bs : List Blob). kept_along (λ d. visible_text d bs) ds) (seen_same p q s i held m)

abbrev SameTexts : Slots → Slots → Holders → Type 0
SameTexts p q h = (k : ℕ) → 0 < h k → text_at q k ≡ text_at p k

job_same : (p q : Slots) (job : Job) → SameTexts p q (job_holders job) → job_in q job ≡ job_in p job
job_same p q job h = let texts : blobs_in q (kept_entries job.task.texts.items) ≡ blobs_in p (kept_entries job.task.texts.items) =
    shown_same p q (kept_entries job.task.texts.items) h in rw texts refl

waiting_same : (p q : Slots) (ws : List (ℕ × Job)) → SameTexts p q (λ k. waiting_sum (λ job. job_holders job k) ws) →
    map (waiting_in q) ws ≡ map (waiting_in p) ws
waiting_same p q [] h = refl
waiting_same p q (w ∷ ws) h =
    let first : job_in q w.1 ≡ job_in p w.1 = job_same p q w.1 (λ k held. h k (omega (arith, held))) in
    let later : map (waiting_in q) ws ≡ map (waiting_in p) ws = waiting_same p q ws (λ k held. h k (omega (arith, held))) in
    rw (first, later) refl

running_same : (p q : Slots) (rs : List (ℕ × Running Job)) → SameTexts p q (λ k. running_sum (λ job. job_holders job k) rs) →
    map (running_in q) rs ≡ map (running_in p) rs
running_same p q [] h = refl
running_same p q (r ∷ rs) h =
    let first : job_in q r.1.job ≡ job_in p r.1.job = job_same p q r.1.job (λ k held. h k (omega (arith, held))) in
    let later : map (running_in q) rs ≡ map (running_in p) rs = running_same p q rs (λ k held. h k (omega (arith, held))) in
    rw (first, later) refl

pub jobs_same : (p q : Slots) (jobs : Jobs Job) (h i : Holders) → ((k : ℕ) → h k + jobs_holders jobs k ≤ count_at p k) → Moves p q h i →
    jobs_in q jobs ≡ jobs_in p jobs
jobs_same p q jobs h i held m =
    let texts : SameTexts p q (jobs_holders jobs) = λ k more. m.texts k (omega (arith, held k, more)) in
    let waiting : map (waiting_in q) jobs.waiting ≡ map (waiting_in p) jobs.waiting =
    waiting_same p q jobs.waiting (λ k more. texts k (omega (arith, more))) in
    let running : map (running_in q) jobs.running ≡ map (running_in p) jobs.running =
    running_same p q jobs.running (λ k more. texts k (omega (arith, more))) in
    rw (waiting, running) refl

-- ---- changes

pub uses_first : (ds : List Digest) (cs : List ExecuteChange) (s : ExecutionState) →
    after_changes (map Uses ds ++ cs) s ≡ after_changes cs (record s { visible = visible_after_uses ds s.visible })
uses_first [] cs s = refl
uses_first (d ∷ ds) cs s = uses_first ds cs _

pub found_after : (p : Slots) (view after parent : ViewValue) (results : List Blob) (jobs : Jobs Job) (d : Digest) (blobs : List Digest)
    (operation : List ℕ) → visible_in p after ≡ visible_after_uses blobs (visible_in p view) →
    HaveSameUses (Some blobs) (blobs_for (texts_of p (sight_of view parent)) d results) →
    execution_in p (sight_of after parent) (with_match_first (same_digest d) results) (jobs_after_done operation jobs)
    ≡ after_changes (Keeps (results_after (texts_of p (sight_of view parent)) d results) ∷
    (map Uses (blobs_used (texts_of p (sight_of view parent)) d results) ++ Does operation ∷ []))
    (execution_in p (sight_of view parent) results jobs)
found_after p view after parent results jobs d blobs operation used same =
    rw used (go (blobs_for (texts_of p (sight_of view parent)) d results) same) where
      cs : List ExecuteChange
      cs = Does operation ∷ []

      s : ExecutionState
      s = execution_in p (sight_of view parent) results jobs

      after_uses : List Blob → ExecutionState
      after_uses visible = record {
        visible = visible;
        parent = visible_in p parent;
        results = with_match_first (same_digest d) results;
        jobs =
            jobs_in p (jobs_after_done operation jobs);
      }

      go : (o : Option (List Digest)) → HaveSameUses (Some blobs) o →
          after_uses (visible_after_uses blobs (visible_in p view))
          ≡ after_changes (Keeps (if is_some o then with_match_first (same_digest d) results else results) ∷ (map Uses (unwrap_or o []) ++ cs))
          s
      go (Some ds) same = ap after_uses (same (visible_in p view))
          ∙ sym (uses_first ds cs (record s { results = with_match_first (same_digest d) results }))
      go None same = absurd same

pub job_after : (p q : Slots) (view after parent : ViewValue) (results : List Blob) (jobs : Jobs Job) (d : Digest)
    (prepared : PreparedValue) (job : Job) → visible_in q after ≡ visible_after_uses (met d prepared) (visible_in q view) →
    visible_in q view ≡ visible_in p view → visible_in q parent ≡ visible_in p parent → jobs_in q jobs ≡ jobs_in p jobs →
    job_in q job ≡ job_of (texts_of p (sight_of view parent)) d prepared →
    execution_in q (sight_of after parent) results (jobs_after_push job jobs)
    ≡ after_changes (map Uses (met d prepared) ++ Pushes (job_of (texts_of p (sight_of view parent)) d prepared) ∷ [])
    (execution_in p (sight_of view parent) results jobs)
job_after p q view after parent results jobs d prepared job used seen others same is =
    let j : JobValue = job_of (texts_of p (sight_of view parent)) d prepared in
    let cs : List ExecuteChange = Pushes j ∷ [] in
    let pushed : jobs_in q (jobs_after_push job jobs) ≡ jobs_after_push (job_in q job) (jobs_in q jobs) =
    ap (λ (ws : List (ℕ × JobValue)). let js : Jobs JobValue =
    record { next = jobs.next + 1; waiting = ws; running = map (running_in q) jobs.running; ended = jobs.ended } in js)
    (map-append (waiting_in q) jobs.waiting ((jobs.next, job) ∷ [])) in
    let visible : visible_in q after ≡ visible_after_uses (met d prepared) (visible_in p view) =
    used ∙ ap (visible_after_uses (met d prepared)) seen in
    let queue : jobs_in q (jobs_after_push job jobs) ≡ jobs_after_push j (jobs_in p jobs) =
    pushed ∙ ap (λ (v : JobValue). jobs_after_push v (jobs_in q jobs)) is ∙ ap (λ (js : Jobs JobValue). jobs_after_push j js) same in
    ap (λ (bs : List Blob). let s : ExecutionState =
    record { visible = bs; parent = visible_in q parent; results = results; jobs = jobs_in q (jobs_after_push job jobs) } in s) visible
    ∙ ap (λ (bs : List Blob). let s : ExecutionState =
    record {
      visible = visible_after_uses (met d prepared) (visible_in p view);
      parent = bs;
      results = results;
      jobs =
          jobs_in q (jobs_after_push job jobs);
    } in s) others
    ∙ ap (λ (js : Jobs JobValue). let s : ExecutionState =
    record {
      visible = visible_after_uses (met d prepared) (visible_in p view);
      parent = visible_in p parent;
      results = results;
      jobs =
          js;
    } in s) queue
    ∙ sym (uses_first (met d prepared) cs (execution_in p (sight_of view parent) results jobs))

pub job_moves : (p q : Slots) (jobs : Jobs Job) (job : Job) → Moves p q no_holders (job_holders job) →
    Moves p q (jobs_holders jobs) (jobs_holders (jobs_after_push job jobs))
job_moves p q jobs job m = moves_more p q no_holders (job_holders job) (jobs_holders jobs) (jobs_holders jobs)
    (jobs_holders (jobs_after_push job jobs)) (λ k. omega arith)
    (λ k. let push = sum-push (λ (j : Job). job_holders j k) job jobs in omega (arith, push)) m

pub by_job_waits : (s : ExecutionState) (d : Digest) (p : PreparedValue) → (MOST_WAITING ≤ length s.jobs.waiting → ⊥) →
    by_job s d p ≡ record {
      answer = Ok (queued s.jobs.next (queued_text s.jobs.next d));
      changes =
          map Uses (met d p) ++ Pushes (job_of (look_in s) d p) ∷ [];
    }
by_job_waits s d p few = let no : nat_le MOST_WAITING (length s.jobs.waiting) ≡ false = grind (arith, nat_tests, few) in rw no refl

-- ---- stages

waiting_found : (p : Slots) (n : ℕ) (ws : List (ℕ × Job)) →
    lookup (same_number n) (map (waiting_in p) ws) ≡ option_map (job_in p) (lookup (same_number n) ws)
waiting_found p n [] = refl
waiting_found p n (w ∷ ws) = go (same_number n w.0) refl (waiting_found p n ws) where
  go : (b : Bool) → same_number n w.0 ≡ b → lookup (same_number n) (map (waiting_in p) ws)
      ≡ option_map (job_in p) (lookup (same_number n) ws) →
      lookup (same_number n) (map (waiting_in p) (w ∷ ws)) ≡ option_map (job_in p) (lookup (same_number n) (w ∷ ws))
  go true here later = rw here refl
  go false here later = rw here later

abbrev pub running_job_in : Slots → Running Job → Running JobValue
running_job_in p r = record { deadline = r.deadline; job = job_in p r.job }

pub running_found : (p : Slots) (n : ℕ) (rs : List (ℕ × Running Job)) →
    lookup (same_number n) (map (running_in p) rs) ≡ option_map (running_job_in p) (lookup (same_number n) rs)
running_found p n [] = refl
running_found p n (r ∷ rs) = go (same_number n r.0) refl (running_found p n rs) where
  go : (b : Bool) → same_number n r.0 ≡ b → lookup (same_number n) (map (running_in p) rs)
      ≡ option_map (running_job_in p) (lookup (same_number n) rs) →
      lookup (same_number n) (map (running_in p) (r ∷ rs)) ≡ option_map (running_job_in p) (lookup (same_number n) (r ∷ rs))
  go true here later = rw here refl
  go false here later = rw here later

pub stage_same : (p : Slots) (n : ℕ) (jobs : Jobs Job) → option_map (stage_in p) (stage_of n jobs) ≡ stage_of n (jobs_in p jobs)
stage_same p n jobs = rw (running_found p n jobs.running, waiting_found p n jobs.waiting)
    (go (lookup (same_number n) jobs.running) (lookup (same_number n) jobs.waiting) (lookup (same_number n) jobs.ended)) where
      go : (r : Option (Running Job)) (w : Option Job) (e : Option (List ℕ)) →
          option_map (stage_in p) (or_else (option_map runs r) (or_else (option_map waits w) (option_map has_ended e)))
          ≡ or_else (option_map runs (option_map (running_job_in p) r))
          (or_else (option_map waits (option_map (job_in p) w)) (option_map has_ended e))
      go (Some r) w e = refl
      go None (Some w) e = refl
      go None None (Some e) = refl
      go None None None = refl

-- ---- where results are looked up

pub execute_looks : (slots : ℕ) (s : ExecutionState) (skip : Bool) (d : Digest) → nat_eq slots 0 ≡ false →
    nat_lt LAST_NUMBER s.jobs.next ≡ false → execute slots s skip d ≡ by_looking s d (looked_up skip (look_in s) d s.results)
execute_looks slots s skip d on few = rw (on, few) refl
