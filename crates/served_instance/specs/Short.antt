-- What want of memory leaves of an instance: an event that was refused for it was done in part. To
-- be read from the last definitions up: `Short` says it, by cases of the kind of event
-- (`IsCutEffect`).
use Rattle.std.specs.Prelude.{◌≡◌, ◌⊎◌, ℕ, List, [], ◌∷◌}
use Rattle.job_queue.specs.Jobs.{jobs_without, running_job}
use Rattle.run_calls.specs.Outcomes.{OutcomeValue}
use Rattle.instance_core.specs.Calls.{CallEventValue, tick as time_passes}
use Rattle.instance_core.specs.Apart.{calls_apart}
use Rattle.instance_core.specs.State.{InstanceState}
use Rattle.instance_core.specs.Visible.{Blob}
use Rattle.instance_core.specs.Changes.{MadeInPart}
use Rattle.instance_core.specs.Answer.{answer, ending_changes, state_after}
use Rattle.server_events.specs.Events.{LoneEvent, WhatValue, opened, received, took, closed, tick, ended}
use Rattle.served_instance.specs.Connections.{all_closed, with_closed}
use Rattle.served_instance.specs.Lone.{LoneInstance, lone_at_moment, lone_at_rest}
use Rattle.served_instance.specs.Events.{bytes_events}
use Rattle.served_instance.specs.StandsFor.{ServedState, IsServedInstance}

-- of an event of a call a front of its own changes was made
abbrev pub IsMadeInPart : CallEventValue → InstanceState → InstanceState → Type 0
IsMadeInPart event s t = MadeInPart (answer s event).changes s t

-- of these events of calls those of a front were answered, and of the next, if there is one, a
-- front of its changes was made
abbrev pub IsCutShort : List CallEventValue → InstanceState → InstanceState → Type 0
IsCutShort [] s t = t ≡ s
IsCutShort (event ∷ events) s t = IsMadeInPart event s t ⊎ IsCutShort events (state_after s event) t

-- the connection is gone, with all its calls; nothing of what was done for the event counts as put
-- on it
abbrev pub after_break : ℕ → InstanceState → LoneInstance → LoneInstance
after_break c s l = lone_at_rest (record l {
  state = record s { calls = calls_apart c s.calls };
  connections = with_closed c l.connections;
})

-- received bytes were carried out in part, and their connection is gone
pub record IsBrokenOff (c : ℕ) (bytes : List ℕ) (l m : LoneInstance) : Type 0 where
  pub left : InstanceState
  pub cut : IsCutShort (bytes_events c bytes l) l.state left
  pub gone : m ≡ after_break c left l

-- all connections are gone, with all calls
abbrev pub after_break_all : InstanceState → LoneInstance → LoneInstance
after_break_all s l = lone_at_rest (record l {
  state = record s { calls = [] };
  connections = all_closed l.connections;
})

-- the job is gone that ran under a number
abbrev pub without_job : ℕ → InstanceState → InstanceState
without_job n s = record s { jobs = jobs_without n s.jobs }

-- of what the run of a job left a front was admitted, and then perhaps its result stored; the job
-- is gone, and so are all connections
pub record IsEndedInPart (n : ℕ) (outcome : OutcomeValue) (l m : LoneInstance) : Type 0 where
  pub left : InstanceState
  pub made : MadeInPart (ending_changes l.state outcome (running_job n l.state.jobs)) l.state left
  pub gone : m ≡ after_break_all (without_job n left) l

-- no job starts then, and none times out. A connection that was to be opened is not there; where
-- time went on, old uploads are forgotten, and all connections are gone; what takes no memory is
-- never refused for it
abbrev pub IsCutEffect : WhatValue → LoneInstance → LoneInstance → Type 0
IsCutEffect (opened c) l m = m ≡ lone_at_rest l
IsCutEffect (received c bytes) l m = IsBrokenOff c bytes l m
IsCutEffect (took c n) l m = ⊥
IsCutEffect (closed c) l m = ⊥
IsCutEffect tick l m = m ≡ after_break_all (state_after l.state time_passes) l
IsCutEffect (ended job outcome) l m = IsEndedInPart job outcome l m

-- event e, refused for want of memory, leaves m of l, while the instance's parent has these texts:
-- the moment of the event stands, and some of its effect
abbrev pub Short : List Blob → LoneEvent → LoneInstance → LoneInstance → Type 0
Short parent e l m = IsCutEffect e.what (lone_at_moment e.moment parent l) m

-- what is kept stands for something that the event may leave of l
pub record IsServedShort (parent : List Blob) (e : LoneEvent) (l : LoneInstance)
    (v : ServedState) : Type 0 where
  pub left : LoneInstance
  pub short : Short parent e l left
  pub stands : IsServedInstance v left
