-- Jobs stay so that all that is told of them is short.
use Rattle.std.proofs.Common.{ℕ, ◌+◌, ◌-◌, ◌≤◌, Bool, true, false, cond, List, [], ◌∷◌, ◌++◌, length}
use Rattle.std.specs.List.{AllByRecursion}
use Rattle.std.specs.Map.{remove_entry}
use Rattle.digest.specs.declared.Digest.{Digest}
use Rattle.job_queue.specs.Jobs.{Jobs, no_jobs, same_number, started, with_ended}
use Rattle.job_queue.specs.declared.queue.Running.{Running}
use Rattle.job_queue.specs.declared.queue.TheConstants.{LAST_NUMBER, MOST_ENDED}
use Rattle.job_queue.specs.Changes.{JobChange, pushes, does, starts, ends, forgets, jobs_after}
use Rattle.job_queue.proofs.Orders.{all-append, all-drop}
use Rattle.tree_calls.specs.Complete.{LimitsValue, IsLimits, AreResultsWithin}
use Rattle.execution.specs.Changes.{after_changes}
use Rattle.execution.specs.Execute.{Does, ExecuteChange, ExecutionState, Keeps, Pushes, Uses, execute}
use Rattle.execution.specs.Job.{JobValue}
use Rattle.execution.specs.Steps as Steps
use Rattle.execution.specs.Steps.{StepValue, jobs_after_steps}
use Rattle.outcomes.specs.Short.{HasForm, IsShort}
use Rattle.outcomes.specs.Told.{AreTold, AreToldShortly, Ended, IsToldChange, Runs, Waits}
use Rattle.outcomes.proofs.Executing.{execute_told}

pub nothing_told : AreTold no_jobs
nothing_told = record { waiting = tt; running = tt; ended = tt }

-- ---- one change

all_left : {A : Type 0} (P : A → Type 0) (t : ℕ → Bool) (es : List (ℕ × A)) → AllByRecursion (λ (e : ℕ × A). P e.1) es →
    AllByRecursion (λ (e : ℕ × A). P e.1) (remove_entry t es)
all_left P t [] h = tt
all_left {A = A} P t (e ∷ es) h = go (t e.0) (all_left P t es h.1) where
  go : (b : Bool) → AllByRecursion (λ (e : ℕ × A). P e.1) (remove_entry t es) →
      AllByRecursion (λ (e : ℕ × A). P e.1) (cond b es (e ∷ remove_entry t es))
  go true rest = h.1
  go false rest = (h.0, rest)

ended_told : (n : ℕ) (operation : List ℕ) (es : List Ended) → IsShort operation → AllByRecursion (λ (e : Ended). IsShort e.1) es →
    AllByRecursion (λ (e : Ended). IsShort e.1) (with_ended n operation es)
ended_told n operation es short h =
    let all = all-append (λ (e : Ended). IsShort e.1) es ((n, operation) ∷ []) h (short, tt) in
    all-drop (λ (e : Ended). IsShort e.1) (length (es ++ (n, operation) ∷ []) - MOST_ENDED) (es ++ (n, operation) ∷ []) all

started_told : (deadline : ℕ) (ws : List Waits) → AllByRecursion (λ (w : Waits). HasForm w.1.action) ws →
    AllByRecursion (λ (r : Runs). HasForm r.1.job.action) (started deadline ws)
started_told deadline [] h = tt
started_told deadline (w ∷ ws) h = (h.0, tt)

-- of a job that waits the action has its form, and an Operation that is kept is short
abbrev pub IsToldJobChange : JobChange JobValue → Type 0
IsToldJobChange (pushes job) = HasForm job.action
IsToldJobChange (does operation) = IsShort operation
IsToldJobChange (starts deadline) = Unit {0}
IsToldJobChange (ends n operation) = IsShort operation
IsToldJobChange (forgets n) = Unit {0}

pub change_told : (c : JobChange JobValue) (jobs : Jobs JobValue) → IsToldJobChange c → AreTold jobs → AreTold (jobs_after c jobs)
change_told (pushes job) jobs one h = record {
  waiting = all-append (λ (w : Waits). HasForm w.1.action) jobs.waiting ((jobs.next, job) ∷ []) h.waiting (one, tt);
  running = h.running;
  ended = h.ended;
}
change_told (does operation) jobs one h = record
    { waiting = h.waiting; running = h.running; ended = ended_told jobs.next operation jobs.ended one h.ended }
change_told (starts deadline) jobs one h = record {
  waiting = all-drop (λ (w : Waits). HasForm w.1.action) 1 jobs.waiting h.waiting;
  running = all-append (λ (r : Runs). HasForm r.1.job.action) jobs.running (started deadline jobs.waiting) h.running
      (started_told deadline jobs.waiting h.waiting);
  ended = h.ended;
}
change_told (ends n operation) jobs one h = record {
  waiting = h.waiting;
  running = all_left (λ (r : Running JobValue). HasForm r.job.action) (same_number n) jobs.running h.running;
  ended = ended_told n operation jobs.ended one h.ended;
}
change_told (forgets n) jobs one h = record {
  waiting = h.waiting;
  running =
      all_left (λ (r : Running JobValue). HasForm r.job.action) (same_number n) jobs.running h.running;
  ended = h.ended;
}

-- ---- several

pub steps_keep : (steps : List StepValue) (jobs : Jobs JobValue) → AreToldShortly steps → AreTold jobs →
    AreTold (jobs_after_steps steps jobs)
steps_keep [] jobs short h = h
steps_keep (Steps.times_out n operation ∷ steps) jobs short h = steps_keep steps _ short.1 (change_told (ends n operation) jobs short.0 h)
steps_keep (Steps.ends n operation ∷ steps) jobs short h = steps_keep steps _ short.1 (change_told (ends n operation) jobs short.0 h)
steps_keep (Steps.starts n deadline operation ∷ steps) jobs short h = steps_keep steps _ short.1 (change_told (starts deadline) jobs tt h)

pub changes_keep : (cs : List ExecuteChange) (s : ExecutionState) → AllByRecursion IsToldChange cs → AreTold s.jobs →
    AreTold (after_changes cs s).jobs
changes_keep [] s told h = h
changes_keep (Uses d ∷ cs) s told h = changes_keep cs _ told.1 h
changes_keep (Keeps results ∷ cs) s told h = changes_keep cs _ told.1 h
changes_keep (Does operation ∷ cs) s told h = changes_keep cs _ told.1 (change_told (does operation) s.jobs told.0 h)
changes_keep (Pushes job ∷ cs) s told h = changes_keep cs _ told.1 (change_told (pushes job) s.jobs told.0 h)

pub execute_keeps : (limits : LimitsValue) (slots : ℕ) (s : ExecutionState) (skip : Bool) (d : Digest) → s.jobs.next ≤ LAST_NUMBER + 1 →
    IsLimits limits → AreResultsWithin limits s.results → HasForm d → AreTold s.jobs →
    AreTold (after_changes (execute slots s skip d).changes s).jobs
execute_keeps limits slots s skip d few good within form h =
    changes_keep (execute slots s skip d).changes s (execute_told limits slots s skip d few good within form).changed h
