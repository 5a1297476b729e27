-- For the code alone: directories of an output tree, gathered from its last node to its first.
use Rattle.std.specs.Prelude.{◌≡◌, ℕ, zero, suc, ◌+◌, ◌-◌, Bool, List, [], ◌∷◌, ◌++◌, length, map, Some, ◌&&◌}
use Rattle.std.specs.Global.{Vec}
use Rattle.std.specs.List.{list_all}
use Rattle.digest.specs.declared.Digest.{Digest}
use Rattle.tree_messages.specs.Directories.{DirectoryNodeValue, DirectoryValue, FileNodeValue}
use Rattle.input_tree.specs.Directories.{is_directory}
use Rattle.execution_messages.specs.Written.{written_shown}
use Rattle.outcomes.specs.declared.folder.Folder.{Folder}
use Rattle.outcomes.specs.declared.folder.NamedDirectory.{NamedDirectory}
use Rattle.outcomes.specs.declared.folder.NamedFile.{NamedFile}
use Rattle.outcomes.specs.declared.folder.OpenFolder.{OpenFolder}
use Rattle.outcomes.specs.declared.gathering.Gathering.{Gathering}
use Rattle.run_calls.specs.Outcomes.{OutputNodeValue}
use Rattle.outcomes.specs.Trees.{below_root, directory_at, directory_node, directory_text, directory_with}

abbrev pub named_file_shown : NamedFile → FileNodeValue
named_file_shown f = record {
  name = f.name.now;
  digest = Some (written_shown f.digest);
  is_executable = f.is_executable;
}

abbrev pub named_directory_shown : NamedDirectory → DirectoryNodeValue
named_directory_shown d = record { name = d.name.now; digest = Some (written_shown d.digest) }

abbrev pub folder_shown : Folder → DirectoryValue
folder_shown f = directory_with (map named_file_shown f.files.items)
    (map named_directory_shown f.directories.items)

abbrev pub open_shown : OpenFolder → DirectoryValue
open_shown f = directory_with (map named_file_shown f.files.items)
    (map named_directory_shown f.directories.items)

abbrev pub nothing : DirectoryValue
nothing = directory_with [] []

-- so many empty directories before others
abbrev pub below_nothing : ℕ → List DirectoryValue → List DirectoryValue
below_nothing zero vs = vs
below_nothing (suc n) vs = nothing ∷ below_nothing n vs

-- open directories, the deepest first, with empty ones down to a level
abbrev pub down_to : ℕ → List DirectoryValue → List DirectoryValue
down_to level vs = below_nothing (level - length vs) vs

abbrev pub file_added : FileNodeValue → DirectoryValue → DirectoryValue
file_added file v = directory_with (file ∷ v.files) v.directories

abbrev pub directory_added : DirectoryNodeValue → DirectoryValue → DirectoryValue
directory_added node v = directory_with v.files (node ∷ v.directories)

-- the directories of the levels down to one in which nodes go on, the deepest first
abbrev pub going_on : Digest → ℕ → List OutputNodeValue → List DirectoryValue
going_on like zero nodes = []
going_on like (suc above) nodes = directory_at like (suc above) nodes ∷ going_on like above nodes

-- the level of the first node, and 0 for none
abbrev pub first_level : List OutputNodeValue → ℕ
first_level [] = 0
first_level (n ∷ ns) = n.level

-- the first of them, changed
abbrev pub on_first : (DirectoryValue → DirectoryValue) → List DirectoryValue → List DirectoryValue
on_first f [] = []
on_first f (v ∷ vs) = f v ∷ vs

-- these nodes are gathered
pub record IsGathered (like : Digest) (g : Gathering) (nodes : List OutputNodeValue) :
    Type 0 where
  pub going : map open_shown g.going.items ≡ going_on like (first_level nodes) nodes
  pub closed : map folder_shown g.closed.items ≡ below_root like nodes
  pub taken : g.are_taken ≡ list_all is_directory (below_root like nodes)

-- texts, in a table, are those of directories
abbrev pub HaveTexts : List (Vec ℕ) → List DirectoryValue → Type 0
HaveTexts texts vs = map (λ (t : Vec ℕ). t.items) texts ≡ map directory_text vs

abbrev pub deepest : List DirectoryValue → DirectoryValue
deepest [] = nothing
deepest (v ∷ vs) = v

abbrev pub above_deepest : List DirectoryValue → List DirectoryValue
above_deepest [] = []
above_deepest (v ∷ vs) = vs

-- with the node of the deepest of these at the front of that of the level above it
abbrev pub with_closed : Digest → List ℕ → ℕ → List DirectoryValue → List DirectoryValue
with_closed like name level vs =
    on_first (directory_added (directory_node like name (deepest vs)))
    (down_to level (above_deepest vs))

-- the deepest directory was closed, whose node has this name in one of this level
pub record IsClosed (like : Digest) (name : List ℕ) (level : ℕ) (before after : Gathering) :
    Type 0 where
  pub going : map open_shown after.going.items
      ≡ with_closed like name level (down_to (level + 1) (map open_shown before.going.items))
  pub closed : map folder_shown after.closed.items
      ≡ deepest (down_to (level + 1) (map open_shown before.going.items))
      ∷ map folder_shown before.closed.items
  pub taken : after.are_taken
      ≡ (is_directory (deepest (down_to (level + 1) (map open_shown before.going.items)))
      && before.are_taken)
