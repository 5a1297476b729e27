-- What the values of the code stand for.
use Rattle.std.specs.Prelude.{ℕ, List, map, string_bytes}
use Rattle.run_calls.specs.declared.outcome.OutputNodeKind.{OutputNodeKind}
use Rattle.run_calls.specs.declared.outcome.OutputNodeKind.TheVariants as kinds
use Rattle.run_calls.specs.declared.outcome.OutputNode.{OutputNode}
use Rattle.run_calls.specs.declared.outcome.OutputKind.{OutputKind}
use Rattle.run_calls.specs.declared.outcome.OutputKind.TheVariants as outputs
use Rattle.run_calls.specs.declared.outcome.Output.{Output}
use Rattle.run_calls.specs.declared.outcome.Exited.{Exited}
use Rattle.run_calls.specs.declared.outcome.Outcome.{Outcome}
use Rattle.run_calls.specs.declared.outcome.Outcome.TheVariants as ends
use Rattle.run_calls.specs.Outcomes.{ExitedValue, NodeKindValue, OutcomeValue, OutputNodeValue, OutputValue, as_directory, as_file, exited, failed, output_file, output_tree}

abbrev pub kind_shown : OutputNodeKind → NodeKindValue
kind_shown (kinds.File text is_executable) = as_file text is_executable
kind_shown kinds.Directory = as_directory

abbrev pub node_shown : OutputNode → OutputNodeValue
node_shown n = record { name = string_bytes n.name; level = n.level; kind = kind_shown n.kind }

abbrev pub nodes_shown : List OutputNode → List OutputNodeValue
nodes_shown nodes = map node_shown nodes

abbrev pub output_of : OutputKind → List ℕ → OutputValue
output_of (outputs.File text is_executable) path = output_file path text is_executable
output_of (outputs.Tree nodes) path = output_tree path (nodes_shown nodes.items)

abbrev pub output_shown : Output → OutputValue
output_shown o = output_of o.kind (string_bytes o.path)

abbrev pub exited_shown : Exited → ExitedValue
exited_shown x = record {
  code = x.code;
  stdout = x.streams.value.stdout;
  stderr = x.streams.value.stderr;
  outputs = map output_shown x.outputs.items;
}

abbrev pub outcome_shown : Outcome → OutcomeValue
outcome_shown ends.Failed = failed
outcome_shown (ends.Exited x) = exited (exited_shown x)
