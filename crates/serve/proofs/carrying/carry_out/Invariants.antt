use Rattle.std.proofs.Common.{◌≡◌, List, map, length}
use Rattle.std.specs.Prelude.{Option, Some}
use Rattle.instance_core.specs.Turns.{orders_meant}
use Rattle.served_instance.specs.StandsFor.{ServedState}
use Rattle.server_core.specs.StandsFor.{instance_at}
use Rattle.serve.specs.RunEvents.{RunEvent, ordered, AddsRuns}
use Rattle.serve.proofs.carrying.carry_out.Given as goal

-- whatever carries out those that are left carries out all
abbrev pub invariant-loop-left : goal.invariant-loop-left
invariant-loop-left g l = record {
  carried : (v : ServedState) (after : Option (List RunEvent)) → instance_at l.instance l.server.instances ≡ Some v →
      AddsRuns (g.R.Runs.happened l.runs) after (map (ordered l.instance) (orders_meant v.state.jobs l.left)) →
      AddsRuns (g.R.Runs.happened l.fn.runs) after (map (ordered l.instance) (orders_meant v.state.jobs l.fn.orders));
  no_fault : g.R.Runs.faulted l.runs ≡ g.R.Runs.faulted l.fn.runs;
}

abbrev pub decreases-loop-left : goal.decreases-loop-left
decreases-loop-left g l = length l.left
