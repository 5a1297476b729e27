use Rattle.std.proofs.Common.{map}
use Rattle.server_events.specs.Shown.{event_value}
use Rattle.server_core.specs.RunSoFar.{HasPassed}
use Rattle.server_core.proofs.whole_run.run_on.Given as goal

abbrev pub invariant-loop-event : goal.invariant-loop-event
invariant-loop-event l = HasPassed l.configs (map event_value l.yielded) l.run
