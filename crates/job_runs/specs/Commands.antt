-- The command that a task's text spells, and what is run for it.
use Rattle.std.specs.Prelude.{ℕ, List, [], map, unwrap_or}
use Rattle.execution_messages.specs.Actions.{CommandValue, EnvironmentVariableValue}
use Rattle.actions.specs.Commands.{asked_outputs, command_in}
use Rattle.run_calls.specs.Values as values
use Rattle.run_calls.specs.Values.{VariableValue}

-- a command that asks for nothing
abbrev pub no_command : CommandValue
no_command = record {
  arguments = [];
  environment_variables = [];
  output_files = [];
  output_directories = [];
  working_directory = [];
  output_paths = [];
}

-- the command that a text spells, or none
abbrev pub command_for : List ℕ → CommandValue
command_for text = unwrap_or (command_in text) no_command

abbrev pub variable_of : EnvironmentVariableValue → VariableValue
variable_of v = record { name = v.name; value = v.value }

abbrev pub program_of : CommandValue → values.CommandValue
program_of c =
    record { arguments = c.arguments; variables = map variable_of c.environment_variables }

abbrev pub output_paths : CommandValue → List (List ℕ)
output_paths c = map (λ a. a.path) (asked_outputs c)
