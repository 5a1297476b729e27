-- Which commands are taken, and what outputs they ask for (remote_execution.proto, Command).
use Rattle.std.specs.Prelude.{ℕ, Bool, true, false, not, List, [], ◌∷◌, ◌++◌, length, map, Option, Some, None, Result, Ok, Err, nat_le, ◌==◌, ◌&&◌, if◌then◌else◌}
use Rattle.std.specs.List.{list_all}
use Rattle.protobuf_wire.specs.declared.error.MessageError.{MessageError}
use Rattle.protobuf_wire.specs.Fields.{value_of_text}
use Rattle.resource_names.specs.Segments.{segments_of}
use Rattle.input_tree.specs.Names.{is_name}
use Rattle.execution_messages.specs.Actions.{CommandValue, EnvironmentVariableValue, command_of}
use Rattle.actions.specs.declared.command.TheConstants.{MOST_COMMAND_BYTES}

-- ---- texts

-- an argument, or the value of a variable, has no NUL
abbrev pub is_word : List ℕ → Bool
is_word t = list_all (λ b. not (b == 0)) t

-- the name of a variable is not empty, and has no `=` (byte 61) and no NUL
abbrev pub is_variable_byte : ℕ → Bool
is_variable_byte b = not (b == 61) && not (b == 0)

abbrev pub is_variable_name : List ℕ → Bool
is_variable_name t = not (length t == 0) && list_all is_variable_byte t

abbrev pub is_variable : EnvironmentVariableValue → Bool
is_variable v = is_variable_name v.name && is_word v.value

-- each segment of a path can name a node
abbrev pub are_names : List (List ℕ) → Bool
are_names ts = list_all is_name ts

abbrev pub is_path : List ℕ → Bool
is_path t = are_names (segments_of t)

abbrev pub are_paths : List (List ℕ) → Bool
are_paths ts = list_all is_path ts

-- ---- outputs

-- an output that is asked for, and what it may be
pub record AskedOutput : Type 0 where
  pub path : List ℕ
  pub as_file : Bool
  pub as_tree : Bool

abbrev pub asked_as : Bool → Bool → List ℕ → AskedOutput
asked_as as_file as_tree path = record { path = path; as_file = as_file; as_tree = as_tree }

-- a command without output_paths asks by output_files and output_directories
abbrev pub asked_outputs : CommandValue → List AskedOutput
asked_outputs v =
    if length v.output_paths == 0
    then map (asked_as true false) v.output_files ++ map (asked_as false true) v.output_directories
    else map (asked_as true true) v.output_paths

-- the paths that are used
abbrev pub have_paths : CommandValue → Bool
have_paths v =
    if length v.output_paths == 0
    then are_paths v.output_files && are_paths v.output_directories else are_paths v.output_paths

-- ---- commands

-- the root of the inputs, or a path in them
abbrev pub is_place : List ℕ → Bool
is_place t = if length t == 0 then true else is_path t

abbrev pub is_command : CommandValue → Bool
is_command v =
    not (length v.arguments == 0) &&
    (list_all is_word v.arguments &&
    (list_all is_variable v.environment_variables &&
    (is_place v.working_directory && have_paths v)))

abbrev pub valid_command : Result CommandValue MessageError → Option CommandValue
valid_command (Ok v) = if is_command v then Some v else None
valid_command (Err e) = None

-- the command that a text spells, where it has at most MOST_COMMAND_BYTES
abbrev pub command_in : List ℕ → Option CommandValue
command_in text =
    if nat_le (length text) MOST_COMMAND_BYTES then valid_command (value_of_text command_of text)
    else None
