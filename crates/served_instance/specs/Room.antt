-- Which blobs an event uses or admits, at most, where it was carried out in part.
use Rattle.std.specs.Prelude.{List, [], ◌∷◌, ◌++◌}
use Rattle.job_queue.specs.Jobs.{running_job}
use Rattle.instance_core.specs.Digest.{Digest}
use Rattle.instance_core.specs.Answer.{answer, ending_changes, state_after}
use Rattle.instance_core.specs.Calls.{CallEventValue}
use Rattle.instance_core.specs.Room.{all_touched}
use Rattle.instance_core.specs.State.{InstanceState}
use Rattle.server_events.specs.Events.{WhatValue, opened, received, took, closed, tick, ended}
use Rattle.served_instance.specs.Lone.{LoneInstance}
use Rattle.served_instance.specs.Events.{bytes_events}

-- those of events of calls, one after another
abbrev pub touched_by : List CallEventValue → InstanceState → List Digest
touched_by [] s = []
touched_by (event ∷ events) s =
    all_touched (answer s event).changes ++ touched_by events (state_after s event)

-- the calls of received bytes, and what the run of a job left; no other event touches a blob
abbrev pub touched_at : WhatValue → LoneInstance → List Digest
touched_at (received c bytes) l = touched_by (bytes_events c bytes l) l.state
touched_at (ended n outcome) l =
    all_touched (ending_changes l.state outcome (running_job n l.state.jobs))
touched_at (opened c) l = []
touched_at (took c n) l = []
touched_at (closed c) l = []
touched_at tick l = []
