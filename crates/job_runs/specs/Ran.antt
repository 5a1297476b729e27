-- What ran for the jobs of a server's instances: what the runs were told and told themselves, and
-- what was asked of folders and programs for them, in one order. To be read from `HasRun` up.
use Rattle.std.specs.Prelude.{◌≡◌, ◌⊎◌, ℕ, List, [], ◌∷◌, ◌++◌, fold, if◌then◌else◌, Some, None, Ok}
use Rattle.run_calls.specs.declared.outcome.Exited.{Exited}
use Rattle.run_calls.specs.declared.outcome.Outcome.TheVariants as outcomes
use Rattle.run_calls.specs.Outcomes.{OutcomeValue, failed}
use Rattle.run_calls.specs.Shown.{outcome_shown}
use Rattle.execution.specs.Job.{TaskValue}
use Rattle.execution.specs.Orders.{start, kill}
use Rattle.run_calls.specs.declared.task.RunKey.{RunKey}
use Rattle.run_calls.specs.declared.task.Task.{Task}
use Rattle.run_calls.specs.Values.{PlaceValue}
use Rattle.run_calls.specs.Calls.{FolderCall, ProgramCall, RunCall, of_programs, program_done, forget_asked, folder_calls, program_calls, collect}
use Rattle.runner.specs.Begun.{IsBegun}
use Rattle.runner.specs.Made.{made}
use Rattle.runner.specs.Own.{asked_for}
use Rattle.runner.specs.Told.{starts}
use Rattle.runner.specs.Whole.{IsWhole}
use Rattle.serve.specs.RunEvents.{RunEvent, ordered, lent, gave}
use Rattle.job_runs.specs.Keys.{is_key}
use Rattle.job_runs.specs.Tasks.{IsTaskOf, command_for}
use Rattle.job_runs.specs.Texts.{numbered_text}

-- what happened at the runs, or a call of folders or of programs
pub data RunStep : Type 0 where
  told : RunEvent → RunStep
  asked : RunCall → RunStep

-- the run that it is about
abbrev pub key_of : ℕ → ℕ → RunKey
key_of i j = record { instance = i; job = j }

abbrev pub told_of : RunEvent → RunKey
told_of (ordered i (start j t)) = key_of i j
told_of (ordered i (kill j)) = key_of i j
told_of (lent i j t) = key_of i j
told_of (gave i j o) = key_of i j

abbrev pub run_of_step : RunStep → RunKey
run_of_step (told e) = told_of e
run_of_step (asked c) = asked_for c

-- the three histories that are parts of it
abbrev pub event_of : RunStep → List RunEvent
event_of (told e) = e ∷ []
event_of (asked c) = []

abbrev pub call_of : RunStep → List RunCall
call_of (told e) = []
call_of (asked c) = c ∷ []

abbrev pub events_in : List RunStep → List RunEvent
events_in steps = collect event_of steps

abbrev pub calls_in : List RunStep → List RunCall
calls_in steps = collect call_of steps

-- ---- what is to run

-- under a key nothing was ordered yet; or this task is to run; or it is no more
pub data Order : Type 0 where
  not_yet : Order
  to_run : TaskValue → Order
  no_more : Order

abbrev pub ended : Order → Order
ended not_yet = not_yet
ended (to_run t) = no_more
ended no_more = no_more

-- by the order to start it, until it is ordered to be killed, or it gave an outcome, or no task is
-- lent to it
abbrev pub order_by : Order → RunEvent → Order
order_by s (ordered i (start j t)) = to_run t
order_by s (ordered i (kill j)) = ended s
order_by s (lent i j None) = ended s
order_by s (lent i j (Some t)) = s
order_by s (gave i j o) = ended s

abbrev pub order_on : RunKey → Order → RunEvent → Order
order_on key s e = if is_key key (told_of e) then order_by s e else s

abbrev pub order_in : RunKey → List RunEvent → Order
order_in key h = fold (order_on key) not_yet h

-- ---- what is known of what the runs are told: a key is ordered once, and the task that is lent is
-- the one that is to run under it

abbrev pub IsOfJob : Order → RunEvent → Type 0
IsOfJob s (ordered i (start j t)) = s ≡ not_yet
IsOfJob s (lent i j (Some t)) = s ≡ to_run t
IsOfJob s e = Unit {0}

-- behind these
abbrev pub AreOfJobsBehind : List RunEvent → List RunEvent → Type 0
AreOfJobsBehind before [] = Unit {0}
AreOfJobsBehind before (e ∷ h) =
    IsOfJob (order_in (told_of e) before) e × AreOfJobsBehind (before ++ e ∷ []) h

abbrev pub AreOfJobs : List RunEvent → Type 0
AreOfJobs h = AreOfJobsBehind [] h

-- ---- a run so far

-- what is to run under a key, and what was asked for that
pub record SoFar : Type 0 where
  pub order : Order
  pub calls : List RunCall

abbrev pub step_by : SoFar → RunStep → SoFar
step_by s (told e) = record { order = order_by s.order e; calls = s.calls }
step_by s (asked c) = record { order = s.order; calls = s.calls ++ c ∷ [] }

abbrev pub step_on : RunKey → SoFar → RunStep → SoFar
step_on key s x = if is_key key (run_of_step x) then step_by s x else s

abbrev pub at_first : SoFar
at_first = record { order = not_yet; calls = [] }

abbrev pub so_far : RunKey → List RunStep → SoFar
so_far key steps = fold (step_on key) at_first steps

-- ---- what is right

-- the folder of a run, and the directory in it in which its task's program runs
abbrev pub place_of : RunKey → TaskValue → PlaceValue
place_of key t = record { run = key; directory = (command_for t.command).working_directory }

-- of what is to be made for this task, and of its one start, so much was asked: the tree is made in
-- the folder of this run, and its command is started there
pub record IsRunOf (key : RunKey) (t : TaskValue) (calls : List RunCall) : Type 0 where
  pub task : Task
  pub of_task : IsTaskOf t task
  pub begun : IsBegun (numbered_text t.texts) (place_of key t) task calls

-- nothing is made by it, nor started
abbrev pub DoesNothing : RunCall → Type 0
DoesNothing c = (made (folder_calls (c ∷ [])) ≡ []) × (starts (program_calls (c ∷ [])) ≡ [])

abbrev pub IsRightCall : RunKey → Order → List RunCall → RunCall → Type 0
IsRightCall key (to_run t) calls c = IsRunOf key t (calls ++ c ∷ [])
IsRightCall key s calls c = DoesNothing c

-- all that was asked is a whole run of this task, and then its program was let go of; and this is
-- what was answered
pub record HasExited (key : RunKey) (t : TaskValue) (calls : List RunCall) (o : OutcomeValue) :
    Type 0 where
  pub task : Task
  pub of_task : IsTaskOf t task
  pub exited : Exited
  pub before : List RunCall
  pub all : calls
      ≡ before ++ of_programs record { question = forget_asked key; answer = Ok program_done } ∷ []
  pub is_whole : IsWhole (numbered_text t.texts) (place_of key t) task exited before
  pub told : o ≡ outcome_shown (outcomes.Exited exited)

abbrev pub IsRightOutcome : RunKey → Order → List RunCall → OutcomeValue → Type 0
IsRightOutcome key (to_run t) calls o = (o ≡ failed) ⊎ HasExited key t calls o
IsRightOutcome key s calls o = ⊥

-- where a run has come so far
abbrev pub IsRight : RunKey → SoFar → RunStep → Type 0
IsRight key s (asked c) = IsRightCall key s.order s.calls c
IsRight key s (told (gave i j o)) = IsRightOutcome key s.order s.calls o
IsRight key s x = Unit {0}

-- each is right behind those before
abbrev pub AreRight : List RunStep → List RunStep → Type 0
AreRight before [] = Unit {0}
AreRight before (x ∷ xs) =
    IsRight (run_of_step x) (so_far (run_of_step x) before) x × AreRight (before ++ x ∷ []) xs

-- what the runs were told, and what was asked of folders and of programs, are parts of one list, in
-- which each is right
pub record HasRun (h : List RunEvent) (f : List FolderCall) (p : List ProgramCall) : Type 0 where
  pub steps : List RunStep
  pub told_so : events_in steps ≡ h
  pub folders_so : folder_calls (calls_in steps) ≡ f
  pub programs_so : program_calls (calls_in steps) ≡ p
  pub right : AreRight [] steps
