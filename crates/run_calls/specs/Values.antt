-- What tasks and answers are, whatever room they take in memory.
use Rattle.std.specs.Int.{w32}
use Rattle.std.specs.Prelude.{FitsSigned, ℤ, ℕ, Bool, List, map, string_bytes}
use Rattle.std.specs.Rc.{rc_str_bytes}
use Rattle.digest.specs.declared.Digest.{Digest}
use Rattle.run_calls.specs.declared.node.TaskNodeKind.{TaskNodeKind}
use Rattle.run_calls.specs.declared.node.TaskNodeKind.TheVariants.{File, Symlink, Directory, Made}
use Rattle.run_calls.specs.declared.node.TaskNode.{TaskNode}
use Rattle.run_calls.specs.declared.task.RunKey.{RunKey}
use Rattle.run_calls.specs.declared.task.Variable.{Variable}
use Rattle.run_calls.specs.declared.task.Command.{Command}
use Rattle.run_calls.specs.declared.folder.Place.{Place}
use Rattle.run_calls.specs.declared.folder.Entry.{Entry}

-- what a node of a task's tree is
pub data TaskKindValue : Type 0 where
  -- of the number of its text, and whether it may be executed
  task_file : ℕ → Bool → TaskKindValue
  -- to a target
  task_symlink : List ℕ → TaskKindValue
  -- in which other nodes stand
  task_directory : TaskKindValue
  -- made before with all that is in it, which the Directory of this digest lists
  task_made : Digest → TaskKindValue

-- its name in the directory that it stands in, and the level of that, where the root has level 1
pub record TaskNodeValue : Type 0 where
  pub name : List ℕ
  pub level : ℕ
  pub kind : TaskKindValue

pub record PlaceValue : Type 0 where
  pub run : RunKey
  pub directory : List ℕ

pub record VariableValue : Type 0 where
  pub name : List ℕ
  pub value : List ℕ

pub record CommandValue : Type 0 where
  pub arguments : List (List ℕ)
  pub variables : List VariableValue

pub record EntryValue : Type 0 where
  pub name : List ℕ
  pub is_directory : Bool

abbrev pub task_kind_shown : TaskNodeKind → TaskKindValue
task_kind_shown (File text is_executable) = task_file text is_executable
task_kind_shown (Symlink target) = task_symlink (rc_str_bytes target)
task_kind_shown Directory = task_directory
task_kind_shown (Made directory) = task_made directory

abbrev pub task_node_shown : TaskNode → TaskNodeValue
task_node_shown n =
    record { name = rc_str_bytes n.name; level = n.level; kind = task_kind_shown n.kind }

abbrev pub task_nodes_shown : List TaskNode → List TaskNodeValue
task_nodes_shown nodes = map task_node_shown nodes

abbrev pub place_shown : Place → PlaceValue
place_shown p = record { run = p.run; directory = string_bytes p.directory }

abbrev pub variable_shown : Variable → VariableValue
variable_shown v = record { name = string_bytes v.name; value = string_bytes v.value }

abbrev pub command_shown : Command → CommandValue
command_shown c = record {
  arguments = map string_bytes c.arguments.items;
  variables = map variable_shown c.variables.items;
}

abbrev pub entry_shown : Entry → EntryValue
entry_shown e = record { name = string_bytes e.name; is_directory = e.is_directory }

-- a number of 32 bits with a sign
abbrev pub IsInRange : ℤ → Type 0
IsInRange code = FitsSigned w32 code
