-- Actions of the code, outputs that are asked for, and nodes of a plan, as plain values.
use Rattle.actions.specs.declared.action.ActionTaken as Code
use Rattle.actions.specs.declared.outputs.AskedOutput as Outputs
use Rattle.actions.specs.Actions.{ActionTaken}
use Rattle.actions.specs.Commands.{AskedOutput}
pub use Rattle.run_calls.specs.Nodes.{node_shown, nodes_shown}

abbrev pub action_taken_shown : Code.ActionTaken → ActionTaken
action_taken_shown a =
    record { command = a.command; root = a.root; timeout = a.timeout; is_stored = a.is_stored }

abbrev pub asked_shown : Outputs.AskedOutput → AskedOutput
asked_shown a = record { path = a.path.now; as_file = a.as_file; as_tree = a.as_tree }
