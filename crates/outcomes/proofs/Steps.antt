-- What those are told who watch is short.
use Rattle.std.proofs.Common.{◌≡◌, ℕ, zero, suc, ◌-◌, Bool, true, false, cond, List, [], ◌∷◌, length, Option, Some, None, refl, subst, sym, arith}
use Rattle.std.specs.Prelude.{IfSome, nat_le}
use Rattle.std.specs.List.{AllByRecursion, cons_option}
use Rattle.std.specs.Map.{keys_of}
use Rattle.job_queue.specs.Jobs.{Jobs, running_job}
use Rattle.job_queue.specs.Order.{AreJobs}
use Rattle.job_queue.proofs.Orders.{all-append}
use Rattle.execution_messages.specs.declared.fault.Fault.TheVariants.{TimedOut}
use Rattle.execution_messages.specs.Progress.{EndValue, fails, completed_text}
use Rattle.execution.specs.Job.{JobValue}
use Rattle.execution.specs.Orders.{told}
use Rattle.execution.specs.Steps.{StepValue, times_out, ending_of, end_steps, jobs_after_steps, start_steps, starts_at, starts_of, then_starts, tick_steps, timings_out}
use Rattle.execution.proofs.Timings.{outcome-ends, tick-ends}
use Rattle.outcomes.specs.Short.{HasForm, IsShort}
use Rattle.outcomes.specs.Told.{AreTold, AreToldShortly, Runs, Waits}
use Rattle.outcomes.proofs.Written.{executing_short, failed_short}
use Rattle.outcomes.proofs.Stages.{IsNumber, numbers_are}

starts_told : (most moment : ℕ) (ws : List Waits) → AllByRecursion IsNumber (keys_of ws) →
    AllByRecursion (λ (w : Waits). HasForm w.1.action) ws → AreToldShortly (starts_of most moment ws)
starts_told zero moment ws few h = tt
starts_told (suc most) moment [] few h = tt
starts_told (suc most) moment (w ∷ ws) few h =
    let short = executing_short w.0 w.1.action few.0 h.0 in
    (omega arith, starts_told most moment ws few.1 h.1)

turn_told : (slots moment : ℕ) (steps : List StepValue) (jobs : Jobs JobValue) → AreJobs jobs → AreTold jobs →
    (jobs_after_steps steps jobs).waiting ≡ jobs.waiting → AreToldShortly steps → AreToldShortly (then_starts slots moment steps jobs)
turn_told slots moment steps jobs h jobs_told is before =
    let after : Jobs JobValue = jobs_after_steps steps jobs in
    let starts = starts_told (slots - length after.running) moment jobs.waiting (numbers_are jobs h).1 jobs_told.waiting in
    all-append (λ s. IsShort (told s).operation) steps (starts_at slots moment after) before
    (subst (λ (ws : List Waits). AreToldShortly (starts_of (slots - length after.running) moment ws)) (sym is) starts)

timings_told : (moment : ℕ) (rs : List Runs) → AllByRecursion IsNumber (keys_of rs) →
    AllByRecursion (λ (r : Runs). HasForm r.1.job.action) rs → AreToldShortly (timings_out moment rs)
timings_told moment [] few h = tt
timings_told moment (r ∷ rs) few h = go (nat_le r.1.deadline moment) (timings_told moment rs few.1 h.1) where
  operation : List ℕ
  operation = completed_text r.0 r.1.job.action (fails TimedOut [])

  go : (b : Bool) → AreToldShortly (timings_out moment rs) →
      AreToldShortly (cons_option (cond b (Some (times_out r.0 operation)) None) (timings_out moment rs))
  go true rest = let short = failed_short r.0 r.1.job.action TimedOut few.0 h.0 in (omega arith, rest)
  go false rest = rest

pub tick_told : (slots moment : ℕ) (jobs : Jobs JobValue) → AreJobs jobs → AreTold jobs → AreToldShortly (tick_steps slots moment jobs)
tick_told slots moment jobs h jobs_told =
    turn_told slots moment (timings_out moment jobs.running) jobs h jobs_told (tick-ends moment jobs h).fewer.waiting
    (timings_told moment jobs.running (numbers_are jobs h).0 jobs_told.running)

ending_told : (n : ℕ) (e : EndValue) (o : Option JobValue) → IfSome o (λ job. IsShort (completed_text n job.action e)) →
    AreToldShortly (ending_of n e o)
ending_told n e None short = tt
ending_told n e (Some job) short = (short, tt)

pub end_told : (slots moment n : ℕ) (e : EndValue) (jobs : Jobs JobValue) → AreJobs jobs → AreTold jobs →
    IfSome (running_job n jobs) (λ job. IsShort (completed_text n job.action e)) → AreToldShortly (end_steps slots moment n e jobs)
end_told slots moment n e jobs h jobs_told short =
    turn_told slots moment (ending_of n e (running_job n jobs)) jobs h jobs_told (outcome-ends n e jobs h).fewer.waiting
    (ending_told n e (running_job n jobs) short)

pub start_told : (slots moment : ℕ) (jobs : Jobs JobValue) → AreJobs jobs → AreTold jobs → AreToldShortly (start_steps slots moment jobs)
start_told slots moment jobs h jobs_told = turn_told slots moment [] jobs h jobs_told refl tt
