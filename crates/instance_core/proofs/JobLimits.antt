-- Jobs stay whole as they come, start and end, and what is kept of those that ended stays short.
use Rattle.std.proofs.Common.{◌≡◌, ℕ, ◌≤◌, ◌<◌, Bool, true, false, cond, List, [], ◌∷◌, ◌++◌, length, Option, Some, None, refl, subst}
use Rattle.std.specs.Prelude.{option_map}
use Rattle.std.specs.List.{AllByRecursion}
use Rattle.std.specs.Map.{lookup, remove_entry}
use Rattle.job_queue.specs.Jobs.{Jobs, same_number, started, with_ended, running_job, jobs_after_push, jobs_after_done}
use Rattle.job_queue.specs.Changes.{jobs_after}
use Rattle.job_queue.specs.Order.{AreJobs}
use Rattle.job_queue.specs.declared.queue.Running.{Running}
use Rattle.job_queue.specs.declared.queue.TheConstants.{LAST_NUMBER, MOST_WAITING, MOST_RUNNING}
use Rattle.job_queue.proofs.Orders.{all-append, all-drop}
use Rattle.job_queue.proofs.Keeping.{after-push, after-done}
use Rattle.execution_messages.specs.Progress.{EndValue}
use Rattle.execution.specs.Job.{JobValue}
use Rattle.execution.specs.Orders.{told}
use Rattle.execution.specs.Steps.{StepValue, times_out, ends, starts, change_of, jobs_after_steps, timings_out, ending_of, tick_steps, start_steps, end_steps}
use Rattle.execution.proofs.Timings.{tick-ends, outcome-ends, nothing-ends}
use Rattle.execution.proofs.Turns.{turn-keeps, turn-few}
use Rattle.instance_core.specs.Jobs.{IsWholeJob, AreWhole, AreToldShortly}
use Rattle.instance_core.proofs.OperationSizes.{IsShort, AreShortSteps, AreTold}

abbrev IsWholeWaiting : ℕ × JobValue → Type 0
IsWholeWaiting w = IsWholeJob w.1

abbrev IsWholeRunning : ℕ × Running JobValue → Type 0
IsWholeRunning r = IsWholeJob r.1.job

abbrev IsShortEnded : ℕ × List ℕ → Type 0
IsShortEnded e = IsShort e.1

-- what jobs of an instance with so many slots keep to
pub record AreJobsWithin (slots : ℕ) (jobs : Jobs JobValue) : Type 0 where
  pub order : AreJobs jobs
  pub running : length jobs.running ≤ slots
  pub whole : AreWhole jobs
  pub ended : AreToldShortly jobs

-- ---- one change after another

pub all_without : {K A : Type 0} (P : K × A → Type 0) (t : K → Bool) (es : List (K × A)) → AllByRecursion P es →
    AllByRecursion P (remove_entry t es)
all_without P t [] h = h
all_without P t (e ∷ es) h = go (t e.0) refl (all_without P t es h.1) where
  go : (b : Bool) → t e.0 ≡ b → AllByRecursion P (remove_entry t es) → AllByRecursion P (remove_entry t (e ∷ es))
  go true is later = rw is h.1
  go false is later = rw is (h.0, later)

started_whole : (deadline : ℕ) (ws : List (ℕ × JobValue)) → AllByRecursion IsWholeWaiting ws →
    AllByRecursion IsWholeRunning (started deadline ws)
started_whole deadline [] h = tt
started_whole deadline (w ∷ ws) h = (h.0, tt)

ended_short : (n : ℕ) (operation : List ℕ) (es : List (ℕ × List ℕ)) → IsShort operation → AllByRecursion IsShortEnded es →
    AllByRecursion IsShortEnded (with_ended n operation es)
ended_short n operation es short h = all-drop IsShortEnded _ (es ++ (n, operation) ∷ [])
    (all-append IsShortEnded es ((n, operation) ∷ []) h (short, tt))

ends_whole : (n : ℕ) (rs : List (ℕ × Running JobValue)) → AllByRecursion IsWholeRunning rs →
    AllByRecursion IsWholeRunning (remove_entry (same_number n) rs)
ends_whole n rs h = all_without IsWholeRunning (same_number n) rs h

step_whole : (step : StepValue) (jobs : Jobs JobValue) → AreWhole jobs → AreWhole (jobs_after (change_of step) jobs)
step_whole (times_out n operation) jobs w = record { waiting = w.waiting; running = ends_whole n jobs.running w.running }
step_whole (ends n operation) jobs w = record { waiting = w.waiting; running = ends_whole n jobs.running w.running }
step_whole (starts n deadline operation) jobs w = record {
  waiting = all-drop IsWholeWaiting 1 jobs.waiting w.waiting;
  running = all-append IsWholeRunning jobs.running (started deadline jobs.waiting) w.running
      (started_whole deadline jobs.waiting w.waiting);
}

pub steps_whole : (steps : List StepValue) (jobs : Jobs JobValue) → AreWhole jobs → AreWhole (jobs_after_steps steps jobs)
steps_whole [] jobs w = w
steps_whole (step ∷ steps) jobs w = steps_whole steps (jobs_after (change_of step) jobs) (step_whole step jobs w)

step_told : (step : StepValue) (jobs : Jobs JobValue) → IsShort (told step).operation → AreToldShortly jobs →
    AreToldShortly (jobs_after (change_of step) jobs)
step_told (times_out n operation) jobs short h = ended_short n operation jobs.ended short h
step_told (ends n operation) jobs short h = ended_short n operation jobs.ended short h
step_told (starts n deadline operation) jobs short h = h

steps_told : (steps : List StepValue) (jobs : Jobs JobValue) → AreShortSteps steps → AreToldShortly jobs →
    AreToldShortly (jobs_after_steps steps jobs)
steps_told [] jobs short h = h
steps_told (step ∷ steps) jobs short h = steps_told steps (jobs_after (change_of step) jobs) short.1 (step_told step jobs short.0 h)

-- ---- a new job, and one that is done

pub push_within : (slots : ℕ) (job : JobValue) (jobs : Jobs JobValue) → AreJobsWithin slots jobs → jobs.next ≤ LAST_NUMBER →
    length jobs.waiting < MOST_WAITING → IsWholeJob job → AreJobsWithin slots (jobs_after_push job jobs)
push_within slots job jobs h left room whole = record {
  order = after-push job jobs h.order left room;
  running = h.running;
  whole = record {
    waiting = all-append IsWholeWaiting jobs.waiting ((jobs.next, job) ∷ []) h.whole.waiting (whole, tt);
    running =
        h.whole.running;
  };
  ended = h.ended;
}

pub done_within : (slots : ℕ) (operation : List ℕ) (jobs : Jobs JobValue) → AreJobsWithin slots jobs → jobs.next ≤ LAST_NUMBER →
    IsShort operation → AreJobsWithin slots (jobs_after_done operation jobs)
done_within slots operation jobs h left short = record {
  order = after-done operation jobs h.order left;
  running = h.running;
  whole = record { waiting = h.whole.waiting; running = h.whole.running };
  ended = ended_short jobs.next operation jobs.ended short h.ended;
}

-- ---- the steps of an event

pub told_jobs : (slots : ℕ) (jobs : Jobs JobValue) → AreJobsWithin slots jobs → AreTold jobs
told_jobs slots jobs h = record { order = h.order; whole = h.whole; ended = h.ended }

pub tick_within : (slots moment : ℕ) (jobs : Jobs JobValue) → slots ≤ MOST_RUNNING → AreShortSteps (tick_steps slots moment jobs) →
    AreJobsWithin slots jobs → AreJobsWithin slots (jobs_after_steps (tick_steps slots moment jobs) jobs)
tick_within slots moment jobs few short h =
    let gone : List StepValue = timings_out moment jobs.running in
    record {
      order = turn-keeps slots moment gone jobs few (tick-ends moment jobs h.order);
      running = turn-few slots moment gone jobs h.running (tick-ends moment jobs h.order);
      whole = steps_whole (tick_steps slots moment jobs) jobs h.whole;
      ended = steps_told (tick_steps slots moment jobs) jobs short h.ended;
    }

pub start_within : (slots moment : ℕ) (jobs : Jobs JobValue) → slots ≤ MOST_RUNNING → AreShortSteps (start_steps slots moment jobs) →
    AreJobsWithin slots jobs → AreJobsWithin slots (jobs_after_steps (start_steps slots moment jobs) jobs)
start_within slots moment jobs few short h = record {
  order = turn-keeps slots moment [] jobs few (nothing-ends jobs h.order);
  running = turn-few slots moment [] jobs h.running (nothing-ends jobs h.order);
  whole = steps_whole (start_steps slots moment jobs) jobs h.whole;
  ended = steps_told (start_steps slots moment jobs) jobs short h.ended;
}

pub end_within : (slots moment n : ℕ) (e : EndValue) (jobs : Jobs JobValue) → slots ≤ MOST_RUNNING →
    AreShortSteps (end_steps slots moment n e jobs) → AreJobsWithin slots jobs →
    AreJobsWithin slots (jobs_after_steps (end_steps slots moment n e jobs) jobs)
end_within slots moment n e jobs few short h =
    let gone : List StepValue = ending_of n e (running_job n jobs) in
    record {
      order = turn-keeps slots moment gone jobs few (outcome-ends n e jobs h.order);
      running = turn-few slots moment gone jobs h.running (outcome-ends n e jobs h.order);
      whole = steps_whole (end_steps slots moment n e jobs) jobs h.whole;
      ended = steps_told (end_steps slots moment n e jobs) jobs short h.ended;
    }

-- ---- a job that runs

pub runs_of : (n : ℕ) (job : JobValue) (o : Option (Running JobValue)) → option_map (λ r. r.job) o ≡ Some job →
    (r : Running JobValue) × (o ≡ Some r) × (r.job ≡ job)
runs_of n job None is = absurd (cc)
runs_of n job (Some r) is = let same : r.job ≡ job = cc in (r, refl, same)

pub found_whole : (n : ℕ) (r : Running JobValue) (rs : List (ℕ × Running JobValue)) → lookup (same_number n) rs ≡ Some r →
    AllByRecursion (λ (e : ℕ × Running JobValue). IsWholeJob e.1.job) rs → IsWholeJob r.job
found_whole n r [] is h = absurd (cc)
found_whole n r (e ∷ es) is h = go (same_number n e.0) is (λ later. found_whole n r es later h.1) where
  go : (b : Bool) → cond b (Some e.1) (lookup (same_number n) es) ≡ Some r → (lookup (same_number n) es ≡ Some r → IsWholeJob r.job) →
      IsWholeJob r.job
  go true is later = let same : e.1 ≡ r = cc in subst (λ (x : Running JobValue). IsWholeJob x.job) same h.0
  go false is later = later is
