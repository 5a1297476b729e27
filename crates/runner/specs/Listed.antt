-- What was listed of an output directory and was not looked at yet: files, the first of them next,
-- and then directories, the last of them next.
use Rattle.std.specs.Prelude.{◌≡◌, ◌≤◌, ◌<◌, ◌+◌, ◌⊎◌, ℕ, if◌then◌else◌, List, [], ◌∷◌, ◌++◌, map, reverse, length, string_bytes, Some, Result, Ok}
use Rattle.run_calls.specs.declared.folder.Found.TheVariants as founds
use Rattle.runner.specs.declared.gathering.Next.{Next}
use Rattle.runner.specs.declared.gathering.Next.TheVariants as nexts
use Rattle.runner.specs.declared.stage.Stage.{Stage}
use Rattle.runner.specs.declared.stage.Stage.TheVariants as stages
use Rattle.runner.specs.declared.stage.Step.{Step}
use Rattle.runner.specs.declared.stage.Step.TheVariants as steps
use Rattle.runner.specs.declared.tree.Inner.{Inner}
use Rattle.runner.specs.declared.tree.Tree.{Tree}
use Rattle.run_calls.specs.Values.{PlaceValue, EntryValue}
use Rattle.std.specs.declared.io.ErrorKind.{ErrorKind}
use Rattle.run_calls.specs.Calls.{FolderCall, FolderQuestion, FolderAnswer, look_asked, file_asked, list_asked, bytes_asked, removal_asked, found, facts, entries, collect}
use Rattle.runner.specs.Made.{names_at}

-- of an output directory
abbrev pub most_nodes : ℕ
most_nodes = 10001

abbrev pub file_name : EntryValue → List (List ℕ)
file_name e = if e.is_directory then [] else e.name ∷ []

abbrev pub directory_name : EntryValue → List (List ℕ)
directory_name e = if e.is_directory then e.name ∷ [] else []

abbrev pub file_names : List EntryValue → List (List ℕ)
file_names es = collect file_name es

abbrev pub directory_names : List EntryValue → List (List ℕ)
directory_names es = collect directory_name es

-- a directory that is to be listed, by its own name and the number of directories from the output
-- directory on in which it stands
pub record InnerValue : Type 0 where
  pub name : List ℕ
  pub level : ℕ

abbrev pub inner_shown : Inner → InnerValue
inner_shown i = record { name = string_bytes i.name; level = i.level }

-- the directories of an entry at a level
abbrev pub inner_of : ℕ → EntryValue → List InnerValue
inner_of level e = if e.is_directory then record { name = e.name; level = level } ∷ [] else []

abbrev pub inners_of : ℕ → List EntryValue → List InnerValue
inners_of level es = collect (inner_of level) es

-- the next one first
abbrev pub stack_of : List Inner → List InnerValue
stack_of todo = reverse (map inner_shown todo)

-- Each stands in the directory of these many names, or in one above it, and none below the one
-- before.
abbrev pub IsStack : ℕ → List InnerValue → Type 0
IsStack deepest [] = Unit {0}
IsStack deepest (i ∷ is) = (1 ≤ i.level) × (i.level ≤ deepest) × IsStack i.level is

abbrev pub IsTreeStack : Tree → Type 0
IsTreeStack t = IsStack (length t.nodes.above + 1) (stack_of t.todo.items)

-- What is next, and what is left then. Nothing is, where nothing is left or so many nodes are
-- gathered.
abbrev pub IsNext : Next → ℕ → List (List ℕ) → List (List ℕ) → List Inner → List Inner → Type 0
IsNext (nexts.File name) count files rest todo left =
    (files ≡ string_bytes name ∷ rest) × (left ≡ todo) × (count < most_nodes)
IsNext (nexts.Directory inner) count files rest todo left =
    (files ≡ []) × (rest ≡ []) × (todo ≡ left ++ inner ∷ []) × (count < most_nodes)
IsNext nexts.Nothing count files rest todo left =
    (most_nodes ≤ count) ⊎ ((files ≡ []) × (todo ≡ []))

-- ---- what is still to be asked of an output directory

-- files of the directory of these names
abbrev pub files_asked : PlaceValue → List ℕ → List (List ℕ) → List (List ℕ) → List FolderQuestion
files_asked place path above names = map (λ n. file_asked place path (above ++ n ∷ [])) names

-- directories in it
abbrev pub lists_asked : PlaceValue → List ℕ → List (List ℕ) → List (List ℕ) → List FolderQuestion
lists_asked place path above names =
    map (λ n. list_asked place path (above ++ n ∷ []) most_nodes) names

-- one that stands there or in a directory above
abbrev pub inner_asked : PlaceValue → List ℕ → List (List ℕ) → InnerValue → FolderQuestion
inner_asked place path above i = list_asked place path (names_at above i.level i.name) most_nodes

abbrev pub to_meet : PlaceValue → List ℕ → List (List ℕ) → List (List ℕ) → List InnerValue →
    List FolderQuestion
to_meet place path above files stack =
    files_asked place path above files ++ map (inner_asked place path above) stack

abbrev pub tree_to_meet : PlaceValue → Tree → List FolderQuestion
tree_to_meet place t =
    to_meet place (string_bytes t.path) t.nodes.above (map string_bytes t.files.items)
    (stack_of t.todo.items)

-- how far an output directory was gathered
pub record Walk : Type 0 where
  -- what is still to be asked, in this order
  pub left : List FolderQuestion
  -- how many files and directories were met, itself among them
  pub nodes : ℕ

abbrev pub no_walk : Walk
no_walk = record { left = []; nodes = 0 }

-- of a tree of which this is next
abbrev pub walk_before : PlaceValue → Tree → FolderQuestion → Walk
walk_before place t q = record { left = q ∷ tree_to_meet place t; nodes = length t.nodes.nodes + 1 }

abbrev pub walk_at : PlaceValue → Stage → Walk
walk_at place (stages.Listing g path) =
    record { left = list_asked place (string_bytes path) [] most_nodes ∷ []; nodes = 0 }
walk_at place (stages.Tree g t) =
    record { left = tree_to_meet place t; nodes = length t.nodes.nodes + 1 }
walk_at place (stages.TreeFile g t f) =
    record { left = tree_to_meet place t; nodes = length t.nodes.nodes + 2 }
walk_at place s = no_walk

abbrev pub walk_then : PlaceValue → Step → Walk
walk_then place (steps.Goes s cost) = walk_at place s
walk_then place (steps.Exits e) = no_walk

-- ---- what an answer adds to it, and what a question takes of it

-- an output that is a directory is to be listed
abbrev pub found_told : PlaceValue → List ℕ → Result FolderAnswer ErrorKind → List FolderQuestion
found_told place path (Ok (found founds.Directory)) = list_asked place path [] most_nodes ∷ []
found_told place path a = []

-- the files that were listed are to be looked at, and then the directories to be listed
abbrev pub listed_told : PlaceValue → List ℕ → List (List ℕ) → Result FolderAnswer ErrorKind →
    List FolderQuestion
listed_told place path names (Ok (entries es)) =
    files_asked place path names (file_names es)
    ++ lists_asked place path names (directory_names es)
listed_told place path names a = []

abbrev pub entries_told : FolderQuestion → Result FolderAnswer ErrorKind → List FolderQuestion
entries_told (look_asked place path) a = found_told place path a
entries_told (list_asked place path names most) a = listed_told place path names a
entries_told q a = []

-- a file is looked at, or a directory is listed
abbrev pub entry_of : FolderQuestion → List FolderQuestion
entry_of (file_asked place path names) = file_asked place path names ∷ []
entry_of (list_asked place path names most) = list_asked place path names most ∷ []
entry_of q = []

-- a file that is there, or a directory, was met
abbrev pub file_met : Result FolderAnswer ErrorKind → ℕ
file_met (Ok (facts (Some f))) = 1
file_met a = 0

abbrev pub list_met : Result FolderAnswer ErrorKind → ℕ
list_met (Ok (entries es)) = 1
list_met a = 0

abbrev pub nodes_met : FolderQuestion → Result FolderAnswer ErrorKind → ℕ
nodes_met (file_asked place path names) a = file_met a
nodes_met (list_asked place path names most) a = list_met a
nodes_met q a = 0

-- Another output is looked at once nothing is left of the one before; no more is met than so many
-- nodes; bytes are wanted where a file is read; and nothing is removed.
abbrev pub MayAsk : Walk → FolderQuestion → Type 0
MayAsk w (look_asked place path) = w ≡ no_walk
MayAsk w (file_asked place path names) = w.nodes ≤ most_nodes
MayAsk w (list_asked place path names most) = w.nodes ≤ most_nodes
MayAsk w (bytes_asked place path names from most) = 0 < most
MayAsk w (removal_asked run) = ⊥
MayAsk w q = Unit {0}

-- nothing is left of it, or so many nodes were met
abbrev pub IsDone : Walk → Type 0
IsDone w = (w.left ≡ []) ⊎ (most_nodes < w.nodes)

-- it goes on as it is, or is done, and no other is begun
abbrev pub Closes : Walk → Walk → Type 0
Closes w now = (now ≡ w) ⊎ (IsDone w × (now ≡ no_walk))

abbrev pub walk_after : FolderQuestion → Result FolderAnswer ErrorKind → List FolderQuestion → ℕ →
    Walk
walk_after q a rest nodes =
    record { left = entries_told q a ++ rest; nodes = nodes_met q a + nodes }

-- each file that is looked at and each directory that is listed is the next of what is left
abbrev pub Meets : Walk → List FolderCall → Walk → Type 0
Meets w [] now = Closes w now
Meets w (c ∷ cs) now =
    (mid : Walk) × Closes w mid × MayAsk mid c.question
    × (rest : List FolderQuestion) × (mid.left ≡ entry_of c.question ++ rest)
    × Meets (walk_after c.question c.answer rest mid.nodes) cs now
