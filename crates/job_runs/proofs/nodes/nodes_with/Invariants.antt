use Rattle.std.proofs.Common.{◌≡◌, ◌+◌, ◌++◌, length}
use Rattle.actions.specs.Shown.{nodes_shown}
use Rattle.run_calls.specs.Values.{task_nodes_shown}
use Rattle.execution.specs.Numbers.{kept_digests}
use Rattle.job_runs.specs.Tasks.{nodes_from, nodes_with}
use Rattle.job_runs.proofs.nodes.nodes_with.Given as goal

abbrev pub invariant-nodes : goal.invariant-nodes
invariant-nodes l =
    (task_nodes_shown l.run.items ++ nodes_from l.made (kept_digests l.texts) l.inside l.at (nodes_shown l.left)
    ≡ nodes_with l.made (kept_digests l.texts) (nodes_shown l.nodes))
    × (l.at + length l.left ≡ length l.nodes)

abbrev pub decreases-nodes : goal.decreases-nodes
decreases-nodes l = length l.left
