-- What want of memory leaves of what an instance keeps: of an event that was refused for it a front
-- of its own changes was made, each by rule; and of jobs one is lost only where its outcome was
-- refused.
use Rattle.std.specs.Prelude.{◌≡◌, ◌⊎◌, ℕ, List, [], ◌∷◌, ◌++◌}
use Rattle.std.specs.List.{AllByRecursion}
use Rattle.job_queue.specs.Jobs.{Jobs}
use Rattle.execution.specs.Job.{JobValue}
use Rattle.instance_core.specs.Answer.{answer, state_after}
use Rattle.instance_core.specs.Calls.{CallEventValue, tick as time_passes, end_job}
use Rattle.instance_core.specs.Changes.{MadeInPart}
use Rattle.instance_core.specs.Losses.{IsByRule}
use Rattle.instance_core.specs.State.{InstanceState}
use Rattle.server_events.specs.Events.{WhatValue, opened, received, took, closed, tick, ended}
use Rattle.served_instance.specs.Lone.{LoneInstance}
use Rattle.served_instance.specs.Events.{bytes_events}

-- ---- blobs, results and uploads

-- a front of the changes of an event of a call was made, each by rule
pub record IsMadeByRule (event : CallEventValue) (s t : InstanceState) : Type 0 where
  pub part : MadeInPart (answer s event).changes s t
  pub rules : AllByRecursion (IsByRule s event) part.made

-- of these events, one after another, those of a front were answered, and of the next, if there is
-- one, a front of its changes was made
abbrev pub AreMadeByRule : List CallEventValue → InstanceState → InstanceState → Type 0
AreMadeByRule [] s t = t ≡ s
AreMadeByRule (event ∷ events) s t =
    IsMadeByRule event s t
    ⊎ (IsMadeByRule event s (state_after s event) × AreMadeByRule events (state_after s event) t)

-- what t keeps but its calls and jobs is what these events leave of s, as far as they were made
pub record LosesByRules (events : List CallEventValue) (s t : InstanceState) : Type 0 where
  pub left : InstanceState
  pub made : AreMadeByRule events s left
  pub visible : t.visible ≡ left.visible
  pub results : t.results ≡ left.results
  pub uploads : t.uploads ≡ left.uploads

-- the events of calls that an event brings, without the start of jobs, which want of memory leaves
-- out
abbrev pub events_of : WhatValue → LoneInstance → List CallEventValue
events_of (received c bytes) l = bytes_events c bytes l
events_of tick l = time_passes ∷ []
events_of (ended n outcome) l = end_job n outcome ∷ []
events_of (opened c) l = []
events_of (took c n) l = []
events_of (closed c) l = []

-- ---- jobs

-- the jobs that ran run on, and no other; those that waited wait on, and others perhaps behind them
pub record KeepsJobs (old new : Jobs JobValue) : Type 0 where
  pub running : new.running ≡ old.running
  pub more : List (ℕ × JobValue)
  pub waiting : new.waiting ≡ old.waiting ++ more

-- any event but the outcome of a job
abbrev pub IsNoOutcome : WhatValue → Type 0
IsNoOutcome (ended job outcome) = ⊥
IsNoOutcome (opened c) = Unit {0}
IsNoOutcome (received c bytes) = Unit {0}
IsNoOutcome (took c n) = Unit {0}
IsNoOutcome (closed c) = Unit {0}
IsNoOutcome tick = Unit {0}
