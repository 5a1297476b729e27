-- Calls that watch jobs, and what they are told.
use Rattle.std.specs.Prelude.{◌≡◌, ◌⊎◌, ◌≤◌, ◌<◌, ◌==◌, not, is_some, ℕ, Bool, false, filter, map, List, [], ◌∷◌, length, if◌then◌else◌, Option, Some, None}
use Rattle.std.specs.List.{AllByRecursion, filter_map, flat_map}
use Rattle.std.specs.Map.{lookup}
use Rattle.job_queue.specs.Jobs.{Jobs, same_number}
use Rattle.execution.specs.Orders.{ToldValue, told}
use Rattle.execution.specs.Steps.{StepValue}
use Rattle.instance_core.specs.declared.event.CallId.{CallId}
use Rattle.instance_core.specs.Calls.{Calls, CallValue, ProgressValue, waits, has, writes, watches}
use Rattle.instance_core.specs.Replies.{ReplyItemValue, ReplyValue, says, ends}
use Rattle.instance_core.specs.State.{InstanceState}
use Rattle.instance_core.specs.Apart.{calls_apart}

abbrev pub is_watching : ℕ → ProgressValue → Bool
is_watching n waits = false
is_watching n (has message) = false
is_watching n (writes write) = false
is_watching n (watches m) = m == n

abbrev pub is_watcher : ℕ → (CallId × CallValue) → Bool
is_watcher n c = is_watching n c.1.progress

-- the calls that watch the job of a number, in the order in which they began
abbrev pub watchers : ℕ → Calls → List CallId
watchers n calls = map (λ (c : CallId × CallValue). c.0) (filter (is_watcher n) calls)

-- the number of the job that a call watches, if it watches one
abbrev pub watched_by : ProgressValue → Option ℕ
watched_by waits = None
watched_by (has message) = None
watched_by (writes write) = None
watched_by (watches n) = Some n

-- the numbers of the jobs that calls watch, as often as they do
abbrev pub watched_numbers : Calls → List ℕ
watched_numbers calls = filter_map (λ (c : CallId × CallValue). watched_by c.1.progress) calls

-- ---- what they are told

-- an Operation; behind the last the reply is whole
abbrev pub told_items : ToldValue → List ReplyItemValue
told_items t = if t.is_last then says t.operation ∷ ends ∷ [] else says t.operation ∷ []

abbrev pub told_reply : ToldValue → CallId → ReplyValue
told_reply t id = record { call = id; items = told_items t }

abbrev pub replies_told : Calls → ToldValue → List ReplyValue
replies_told calls t = map (told_reply t) (watchers t.number calls)

-- step by step
abbrev pub replies_to_watchers : Calls → List StepValue → List ReplyValue
replies_to_watchers calls steps = flat_map (λ step. replies_told calls (told step)) steps

-- ---- who watches on

-- those that were told the last have ended
abbrev pub calls_told : ToldValue → Calls → Calls
calls_told t calls =
    if t.is_last then filter (λ c. not (is_watcher t.number c)) calls else calls

abbrev pub calls_after_steps : List StepValue → Calls → Calls
calls_after_steps [] calls = calls
calls_after_steps (step ∷ steps) calls = calls_after_steps steps (calls_told (told step) calls)

-- ---- where nobody waits for a job that could run

-- a number that was given to a job
abbrev pub IsGiven : ℕ → ProgressValue → Type 0
IsGiven next (watches n) = n < next
IsGiven next progress = Unit {0}

abbrev pub waits_for : {J : Type 0} → List (ℕ × J) → ProgressValue → Bool
waits_for jobs waits = false
waits_for jobs (has message) = false
waits_for jobs (writes write) = false
waits_for jobs (watches n) = is_some (lookup (same_number n) jobs)

-- calls watch numbers that were given, and of these others none watches a job that waits while
-- there is a slot for it
pub record WatchWell {J : Type 0} (slots : ℕ) (jobs : Jobs J) (calls others : Calls) : Type 0 where
  pub given : AllByRecursion (λ (c : CallId × CallValue). IsGiven jobs.next c.1.progress) calls
  pub busy : (slots ≤ length jobs.running) ⊎ AllByRecursion
      (λ (c : CallId × CallValue). waits_for jobs.waiting c.1.progress ≡ false) others

-- so it is of all calls behind every event: the jobs that wait then have to wait, or nobody watches
-- them; and in the course of events on connection c it is of the calls on others. So the jobs that
-- start at the end of received bytes are watched on the connection alone on which these came.
abbrev pub WatchAtRest : InstanceState → Type 0
WatchAtRest s = WatchWell s.slots s.jobs s.calls s.calls

abbrev pub WatchDuring : ℕ → InstanceState → Type 0
WatchDuring c s = WatchWell s.slots s.jobs s.calls (calls_apart c s.calls)
