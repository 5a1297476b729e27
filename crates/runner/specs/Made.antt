-- What is made of a task's tree: the nodes in walk order, each once, with the bytes of files.
use Rattle.std.specs.Prelude.{ℕ, ◌-◌, List, [], ◌∷◌, ◌++◌, map, take}
use Rattle.std.specs.Rc.{rc_str_bytes}
use Rattle.run_calls.specs.declared.task.RunKey.{RunKey}
use Rattle.run_calls.specs.declared.node.TaskNode.{TaskNode}
use Rattle.run_calls.specs.declared.node.TaskNodeKind.{TaskNodeKind}
use Rattle.run_calls.specs.declared.node.TaskNodeKind.TheVariants.{File, Symlink, Directory, Made}
use Rattle.run_calls.specs.Values.{PlaceValue, TaskKindValue, task_kind_shown}
use Rattle.run_calls.specs.Calls.{FolderCall, FolderQuestion, root_asked, node_asked, text_asked, directory_asked, parents_asked, look_asked, file_asked, list_asked, bytes_asked, removal_asked, collect}

pub data MadeItem : Type 0 where
  root_item : RunKey → MadeItem
  -- a node, by its names from the root on; a file is empty
  node_item : RunKey → List (List ℕ) → TaskKindValue → MadeItem
  -- a byte at the end of a file
  byte_item : RunKey → List (List ℕ) → ℕ → MadeItem
  directory_item : PlaceValue → MadeItem
  parents_item : PlaceValue → List ℕ → MadeItem

-- ---- of what was asked

abbrev pub made_by : FolderQuestion → List MadeItem
made_by (root_asked run) = root_item run ∷ []
made_by (node_asked run names kind) = node_item run names kind ∷ []
made_by (text_asked run names bytes) = map (byte_item run names) bytes
made_by (directory_asked place) = directory_item place ∷ []
made_by (parents_asked place path) = parents_item place path ∷ []
made_by (look_asked place path) = []
made_by (file_asked place path names) = []
made_by (list_asked place path names most) = []
made_by (bytes_asked place path names from most) = []
made_by (removal_asked run) = []

abbrev pub made : List FolderCall → List MadeItem
made calls = collect (λ c. made_by c.question) calls

-- ---- of a task

-- the names of a node at a level below a directory that was reached
abbrev pub names_at : List (List ℕ) → ℕ → List ℕ → List (List ℕ)
names_at above level name = take (level - 1) above ++ name ∷ []

abbrev pub kind_made : (ℕ → List ℕ) → RunKey → List (List ℕ) → TaskNodeKind → List MadeItem
kind_made text run names (File number is_executable) = map (byte_item run names) (text number)
kind_made text run names (Symlink target) = []
kind_made text run names Directory = []
kind_made text run names (Made directory) = []

-- the directory that is reached with a node: nothing more is made in one that was made before
abbrev pub above_then : List (List ℕ) → TaskNode → TaskNodeKind → List (List ℕ)
above_then above n (File number is_executable) = take (n.level - 1) above
above_then above n (Symlink target) = take (n.level - 1) above
above_then above n Directory = names_at above n.level (rc_str_bytes n.name)
above_then above n (Made directory) = take (n.level - 1) above

abbrev pub node_made : (ℕ → List ℕ) → RunKey → List (List ℕ) → TaskNode → List MadeItem
node_made text run names n =
    node_item run names (task_kind_shown n.kind) ∷ kind_made text run names n.kind

-- each node once, in order
abbrev pub nodes_made : (ℕ → List ℕ) → RunKey → List (List ℕ) → List TaskNode → List MadeItem
nodes_made text run above [] = []
nodes_made text run above (n ∷ ns) =
    node_made text run (names_at above n.level (rc_str_bytes n.name)) n
    ++ nodes_made text run (above_then above n n.kind) ns
