-- A call of Execute keeps the limits of an instance.
use Rattle.std.proofs.Common.{◌≡◌, ◌≤◌, ◌<◌, ℕ, Bool, true, false, cond, List, [], ◌∷◌, ◌++◌, map, length, Option, Some, None, Result, Ok, Err, refl, sym, subst, arith}
use Rattle.std.specs.Prelude.{IfOk, is_some, nat_eq, nat_le, nat_lt}
use Rattle.std.proofs.lemmas.Bool.Decides.{nat_tests}
use Rattle.rpc.specs.declared.refusal.Refusal.{Refusal}
use Rattle.rpc.specs.declared.refusal.Refusal.TheVariants.{ExecutionIsOff, QueueFull}
use Rattle.digest.specs.declared.Digest.{Digest}
use Rattle.digest.specs.Naming.{same_digest}
use Rattle.instance_view.specs.Visible.{Blob, with_match_first}
use Rattle.cas_service.specs.Changes as Texts
use Rattle.action_cache.specs.Answering.{blobs_for, blobs_used, results_after}
use Rattle.tree_calls.specs.Complete.{LimitsValue, AreResultsWithin}
use Rattle.tree_calls.proofs.Short.{fronted_within}
use Rattle.job_queue.specs.Jobs.{Jobs}
use Rattle.job_queue.specs.declared.queue.TheConstants.{LAST_NUMBER, MOST_WAITING}
use Rattle.execution_messages.specs.Progress.{completed_text, finds, fails, queued_text}
use Rattle.execution.specs.Job.{JobValue}
use Rattle.execution.specs.Preparing.{FaultValue, PreparedValue, prepared, met, job_of}
use Rattle.execution.specs.Execute.{ExecuteChange, ExecuteDone, Uses, Does, Pushes, queued, by_job, by_looking, by_preparing, execute, look_in, looked_up, refused}
use Rattle.execution.specs.Asking.{ExecuteAskedValue, execute_asked}
use Rattle.instance_core.specs.Changes.{Text, Keeps, state_after_change}
use Rattle.instance_core.specs.Methods.{execution_state, execution_change, execution_changes}
use Rattle.instance_core.specs.State.{InstanceState, IsInstanceWithin, seen}
use Rattle.instance_core.proofs.Sees.{all_named}
use Rattle.instance_core.proofs.ChangeLimits.{FrontsKeep, change_keeps, does_keeps, pushes_keeps}
use Rattle.instance_core.proofs.WholeJobs.{FindsNamed, job_whole, looks_named}
use Rattle.instance_core.proofs.OperationSizes.{IsShortExecuteAnswer, HasForm, execute_short, asked_form}

-- the changes of a call keep the limits, one after another
abbrev KeepAll : InstanceState → List ExecuteChange → Type 0
KeepAll s changes = FrontsKeep s (map execution_change changes)

-- uses of texts leave jobs as they are
uses_keep : (s : InstanceState) (ds : List Digest) (rest : List ExecuteChange) → IsInstanceWithin s →
    ((t : InstanceState) → IsInstanceWithin t → t.jobs ≡ s.jobs → KeepAll t rest) → KeepAll s (map Uses ds ++ rest)
uses_keep s [] rest w more = more s w refl
uses_keep s (d ∷ ds) rest w more =
    let next : InstanceState = state_after_change (Text (Texts.Use d)) s in
    (w, uses_keep next ds rest (change_keeps (Text (Texts.Use d)) s tt w) more)

pub after_within : (limits : LimitsValue) (look : Digest → Option (List ℕ)) (d : Digest) (results : List Blob) →
    AreResultsWithin limits results → AreResultsWithin limits (results_after look d results)
after_within limits look d results within = go (is_some (blobs_for look d results)) where
  go : (b : Bool) → AreResultsWithin limits (cond b (with_match_first (same_digest d) results) results)
  go true = fronted_within limits (same_digest d) results within
  go false = within

-- a number is left
abbrev IsLeft : Jobs JobValue → Type 0
IsLeft jobs = jobs.next ≤ LAST_NUMBER

abbrev HasRoom : Jobs JobValue → Type 0
HasRoom jobs = length jobs.waiting < MOST_WAITING

not_over : (a b : ℕ) → nat_lt a b ≡ false → b ≤ a
not_over a b is = grind (arith, nat_tests, is)

is_under : (a b : ℕ) → nat_le a b ≡ false → b < a
is_under a b is = grind (arith, nat_tests, is)

-- in a state within the limits that has a number left, for an action whose digest has its form
module _ (s : InstanceState) (d : Digest) (w : IsInstanceWithin s) (left : IsLeft s.jobs) (form : HasForm d) where
  finds_named : FindsNamed (look_in (execution_state s))
  finds_named = looks_named (seen s) (all_named s w)

  job_keeps : (p : PreparedValue) → prepared (look_in (execution_state s)) d ≡ Ok p → KeepAll s (by_job (execution_state s) d p).changes
  job_keeps p is = go (nat_le MOST_WAITING (length s.jobs.waiting)) refl where
    pushed : nat_le MOST_WAITING (length s.jobs.waiting) ≡ false → (t : InstanceState) → IsInstanceWithin t → t.jobs ≡ s.jobs →
        KeepAll t (Pushes (job_of (look_in (execution_state s)) d p) ∷ [])
    pushed room t wt same = (
      wt,
      pushes_keeps (job_of (look_in (execution_state s)) d p) t (subst IsLeft (sym same) left)
          (subst HasRoom (sym same) (is_under MOST_WAITING (length s.jobs.waiting) room))
          (job_whole (look_in (execution_state s)) d p finds_named form is) wt,
    )

    go : (b : Bool) → nat_le MOST_WAITING (length s.jobs.waiting) ≡ b
        → KeepAll s (cond b (refused QueueFull) (record {
          answer = Ok (queued s.jobs.next (queued_text s.jobs.next d));
          changes =
              map Uses (met d p) ++ Pushes (job_of (look_in (execution_state s)) d p) ∷ [];
        })).changes
    go true full = w
    go false room = uses_keep s (met d p) (Pushes (job_of (look_in (execution_state s)) d p) ∷ []) w (pushed room)

  preparing_keeps : (r : Result PreparedValue FaultValue) → prepared (look_in (execution_state s)) d ≡ r →
      IfOk (by_preparing (execution_state s) d r).answer IsShortExecuteAnswer → KeepAll s (by_preparing (execution_state s) d r).changes
  preparing_keeps (Ok p) is short = job_keeps p is
  preparing_keeps (Err f) is short = (w, does_keeps (completed_text s.jobs.next d (fails f.fault f.missing)) s left short w)

  looking_keeps : (o : Option (List ℕ)) → IfOk (by_looking (execution_state s) d o).answer IsShortExecuteAnswer →
      KeepAll s (by_looking (execution_state s) d o).changes
  looking_keeps (Some text) short =
      let kept : List Blob = results_after (look_in (execution_state s)) d s.results in
      let next : InstanceState = state_after_change (Keeps kept) s in
      let operation : List ℕ = completed_text s.jobs.next d (finds text) in
      let within : IsInstanceWithin next = change_keeps (Keeps kept) s
      (after_within s.limits (look_in (execution_state s)) d s.results w.results) w in (
        w,
        uses_keep next (blobs_used (look_in (execution_state s)) d s.results) (Does operation ∷ []) within
            (λ t wt same. (wt, does_keeps operation t (subst IsLeft (sym same) left) short wt)),
      )
  looking_keeps None short = preparing_keeps (prepared (look_in (execution_state s)) d) refl short

abbrev found_by : InstanceState → Bool → Digest → ExecuteDone
found_by s skip d = by_looking (execution_state s) d (looked_up skip (look_in (execution_state s)) d s.results)

abbrev unless_full : InstanceState → Bool → Digest → ExecuteDone
unless_full s skip d = cond (nat_lt LAST_NUMBER s.jobs.next) (refused QueueFull) (found_by s skip d)

abbrev IsShortDone : ExecuteDone → Type 0
IsShortDone x = IfOk x.answer IsShortExecuteAnswer

execute_keeps : (s : InstanceState) (skip : Bool) (d : Digest) → IsInstanceWithin s → HasForm d →
    KeepAll s (execute s.slots (execution_state s) skip d).changes
execute_keeps s skip d w form = off (nat_eq s.slots 0)
    (execute_short s.limits s.slots (execution_state s) skip d w.jobs.few_numbers form w.limits w.results) where
      full : (b : Bool) → nat_lt LAST_NUMBER s.jobs.next ≡ b → IsShortDone (cond b (refused QueueFull) (found_by s skip d)) →
          KeepAll s (cond b (refused QueueFull) (found_by s skip d)).changes
      full true is short = w
      full false is short = looking_keeps s d w (not_over LAST_NUMBER s.jobs.next is) form
          (looked_up skip (look_in (execution_state s)) d s.results) short

      off : (b : Bool) → IsShortDone (cond b (refused ExecutionIsOff) (unless_full s skip d)) →
          KeepAll s (cond b (refused ExecutionIsOff) (unless_full s skip d)).changes
      off true short = w
      off false short = full (nat_lt LAST_NUMBER s.jobs.next) refl short

pub executed_keeps : (s : InstanceState) (request : List ℕ) → IsInstanceWithin s →
    FrontsKeep s (execution_changes s (execute_asked s.name request))
executed_keeps s request w = go (execute_asked s.name request) refl where
  go : (r : Result ExecuteAskedValue Refusal) → execute_asked s.name request ≡ r → FrontsKeep s (execution_changes s r)
  go (Err refusal) is = w
  go (Ok asked) is = execute_keeps s asked.skips_lookup asked.action w (asked_form s.name request asked is)
