use Rattle.std.proofs.Common.{[], List, length}
use Rattle.server_core.specs.RunSoFar.{HasTaken}
use Rattle.server_events.specs.Configs.{ConfigValue}
use Rattle.tool_programs.proofs.Alone.{IsSoFar}
use Rattle.tool_programs.proofs.replay_run.take_all.Given as goal

abbrev pub invariant-events : goal.invariant-events
invariant-events l = (configs : List ConfigValue) → HasTaken configs [] l.fn.begun → IsSoFar configs l.fn.events l.events l.run

abbrev pub decreases-events : goal.decreases-events
decreases-events l = length l.events
