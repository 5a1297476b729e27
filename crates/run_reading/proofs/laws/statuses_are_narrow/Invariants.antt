use Rattle.std.proofs.Common.{map, length}
use Rattle.std.specs.List.{AllByRecursion}
use Rattle.server_events.specs.Events.{EventValue}
use Rattle.server_events.specs.Shown.{event_value}
use Rattle.served_instance.specs.Narrow.{IsNarrow}
use Rattle.run_reading.proofs.laws.statuses_are_narrow.Given as goal

abbrev TellsNarrow : EventValue → Type 0
TellsNarrow e = IsNarrow e.lone

abbrev pub invariant-loop-left : goal.invariant-loop-left
invariant-loop-left l = AllByRecursion TellsNarrow (map event_value l.left) → AllByRecursion TellsNarrow (map event_value l.events)

abbrev pub decreases-loop-left : goal.decreases-loop-left
decreases-loop-left l = length l.left
