-- WaitExecution (remote_execution.proto, Execution): the present Operation, and whether others
-- follow.
use Rattle.std.specs.Prelude.{ℕ, Bool, true, List, [], ◌∷◌, drop, nat_eq, Option, Some, None, Result, Ok, Err, codes, ◌==◌, if◌then◌else◌}
use Rattle.std.specs.List.{starts_with}
use Rattle.rpc.specs.declared.refusal.Refusal.{Refusal}
use Rattle.rpc.specs.declared.refusal.Refusal.TheVariants.{UnknownOperation}
use Rattle.numerals.specs.Number.{decimal_of}
use Rattle.job_queue.specs.Jobs.{Jobs, StageValue, waits, runs, has_ended, stage_of}
use Rattle.execution_messages.specs.Progress.{queued_text, executing_text}
use Rattle.execution.specs.Job.{JobValue}

-- a decimal number without leading zeros
abbrev pub begins_with_zero : List ℕ → Bool
begins_with_zero [] = true
begins_with_zero (b ∷ bs) = b == 48

abbrev pub number_of_digits : List ℕ → Option ℕ
number_of_digits digits = if begins_with_zero digits then None else decimal_of digits

-- the number of an Operation that a name names: `operations/{number}`
abbrev pub number_named : List ℕ → Option ℕ
number_named name =
    if starts_with nat_eq name (codes "operations/") then number_of_digits (drop 11 name) else None

-- how a call is answered that is not refused
pub data WaitAnswer : Type 0 where
  -- the Operation of an execution that has ended
  has_told : List ℕ → WaitAnswer
  -- the present one, and then those that follow under its number
  watches : ℕ → List ℕ → WaitAnswer

abbrev pub wait_answer : ℕ → Option (StageValue JobValue) → Result WaitAnswer Refusal
wait_answer n None = Err UnknownOperation
wait_answer n (Some (waits job)) = Ok (watches n (queued_text n job.action))
wait_answer n (Some (runs r)) = Ok (watches n (executing_text n r.job.action))
wait_answer n (Some (has_ended operation)) = Ok (has_told operation)

abbrev pub wait_for : Option ℕ → Jobs JobValue → Result WaitAnswer Refusal
wait_for None jobs = Err UnknownOperation
wait_for (Some n) jobs = wait_answer n (stage_of n jobs)

abbrev pub wait : List ℕ → Jobs JobValue → Result WaitAnswer Refusal
wait name jobs = wait_for (number_named name) jobs
