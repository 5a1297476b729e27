-- Nodes of an input tree (remote_execution.proto: FileNode, SymlinkNode, DirectoryNode).
use Rattle.std.specs.Prelude.{ℕ, Bool, List, ◌++◌, map, Option, Some, option_map}
use Rattle.std.specs.List.{filter_map}
use Rattle.digest.specs.declared.Digest.{Digest}
use Rattle.tree_messages.specs.Directories.{DirectoryValue, DirectoryNodeValue, FileNodeValue, SymlinkNodeValue}
use Rattle.input_tree.specs.Directories.{written_digest, directory_in}
use Rattle.input_tree.specs.Taken.{FileTakenValue, ChildTakenValue, DirectoryTakenValue}
use Rattle.run_calls.specs.declared.tree_node.Node.{Node}
use Rattle.run_calls.specs.Nodes.{NodeKindValue, NodeValue}
pub use Rattle.run_calls.specs.Nodes.{file, symlink, directory}

abbrev pub PlanNode : Type 0
PlanNode = Node Digest

abbrev pub PlanKindValue : Type 0
PlanKindValue = NodeKindValue Digest

abbrev pub PlanNodeValue : Type 0
PlanNodeValue = NodeValue Digest

-- a node of a directory of this level
abbrev pub file_at : ℕ → FileNodeValue → Option PlanNodeValue
file_at level n =
    option_map (λ d. record { name = n.name; level = level; kind = file d n.is_executable })
    (written_digest n.digest)

abbrev pub symlink_at : ℕ → SymlinkNodeValue → Option PlanNodeValue
symlink_at level n = Some (record { name = n.name; level = level; kind = symlink n.target })

abbrev pub directory_at : ℕ → DirectoryNodeValue → Option PlanNodeValue
directory_at level n =
    option_map (λ d. record { name = n.name; level = level; kind = directory d })
    (written_digest n.digest)

-- the nodes of a directory: files, then symbolic links, then directories
abbrev pub nodes_of : ℕ → DirectoryValue → List PlanNodeValue
nodes_of level v =
    filter_map (file_at level) v.files
    ++ (filter_map (symlink_at level) v.symlinks
    ++ filter_map (directory_at level) v.directories)

-- the nodes of the directory that a text spells
abbrev pub nodes_in : ℕ → List ℕ → Option (List PlanNodeValue)
nodes_in level text = option_map (nodes_of level) (directory_in text)

-- ---- of what is taken

abbrev pub file_node : ℕ → FileTakenValue → PlanNodeValue
file_node level n =
    record { name = n.name; level = level; kind = file n.digest n.is_executable }

abbrev pub symlink_node : ℕ → SymlinkNodeValue → PlanNodeValue
symlink_node level n = record { name = n.name; level = level; kind = symlink n.target }

abbrev pub child_node : ℕ → ChildTakenValue → PlanNodeValue
child_node level n = record { name = n.name; level = level; kind = directory n.digest }

abbrev pub nodes_taken : ℕ → DirectoryTakenValue → List PlanNodeValue
nodes_taken level t =
    map (file_node level) t.files
    ++ (map (symlink_node level) t.symlinks ++ map (child_node level) t.directories)
