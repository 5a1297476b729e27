use Rattle.std.proofs.Common.{◌≡◌, ◌++◌, List, length}
use Rattle.outcomes.specs.Gathering.{IsGathered}
use Rattle.run_calls.specs.Outcomes.{OutputNodeValue}
use Rattle.run_calls.specs.Shown.{nodes_shown}
use Rattle.outcomes.proofs.gathering.gather_nodes.Given as goal

abbrev pub invariant-loop-node : goal.invariant-loop-node
invariant-loop-node l = record {
  done : List OutputNodeValue;
  whole : nodes_shown l.left ++ done ≡ nodes_shown l.nodes;
  gathered : IsGathered l.like l.gathering done;
}

abbrev pub decreases-loop-node : goal.decreases-loop-node
decreases-loop-node l = length l.left
