-- Which directories of a task's tree may be made once for many runs, and what is asked for such a
-- one.
use Rattle.std.specs.Prelude.{ℕ, ◌+◌, Bool, true, false, not, List, [], ◌∷◌, ◌++◌, length, drop, map, min, codes, filter, nat_eq, nat_le, nat_lt, ◌&&◌, Option, Some, None, string_bytes, if◌then◌else◌}
use Rattle.std.specs.List.{join_by, list_all, starts_with}
use Rattle.digest.specs.declared.Digest.{Digest}
use Rattle.actions.specs.Nodes.{PlanKindValue, PlanNodeValue, file, symlink, directory}
use Rattle.actions.specs.Paths.{Path, paths_of}
use Rattle.execution_messages.specs.Actions.{CommandValue}
use Rattle.run_calls.specs.declared.folder.InputTree.{InputTree}
use Rattle.job_runs.specs.Commands.{output_paths}

-- ---- what stands in a directory

-- of the nodes behind a directory of this level in walk order, those that stand in it
abbrev pub within : ℕ → List PlanNodeValue → List PlanNodeValue
within level [] = []
within level (n ∷ behind) = if nat_lt level n.level then n ∷ within level behind else []

abbrev pub is_file : PlanKindValue → Bool
is_file (file d is_executable) = true
is_file (symlink target) = false
is_file (directory d) = false

abbrev pub file_count : List PlanNodeValue → ℕ
file_count nodes = length (filter (λ n. is_file n.kind) nodes)

-- ---- paths

-- a path with a slash (byte 47) behind it, with which the paths begin of all that stands there;
-- that of the root is empty
abbrev pub slashed : List ℕ → List ℕ
slashed [] = []
slashed (b ∷ bs) = (b ∷ bs) ++ 47 ∷ []

abbrev pub path_text : Path → List ℕ
path_text names = join_by (λ name. name) (codes "/") names

-- neither stands at the other's path, nor below it
abbrev pub are_apart : List ℕ → List ℕ → Bool
are_apart path other =
    not (starts_with nat_eq path other) && not (starts_with nat_eq other path)

-- where a command is run at a place, with outputs at these paths from there on: no output is at
-- this path, below it or above it, and that place is neither there nor below
abbrev pub is_free_of : List ℕ → List (List ℕ) → List ℕ → Bool
is_free_of place outputs path =
    not (starts_with nat_eq place path)
    && list_all (λ o. are_apart path (place ++ o)) outputs

abbrev pub is_free : CommandValue → List ℕ → Bool
is_free c path = is_free_of (slashed c.working_directory) (map slashed (output_paths c)) path

-- ---- directories that may be made

-- a directory with 64 files or more at any depth
abbrev pub is_large : PlanKindValue → List PlanNodeValue → Bool
is_large (file d is_executable) inside = false
is_large (symlink target) inside = false
is_large (directory d) inside = nat_le 64 (file_count inside)

-- the first of these nodes, which have these paths
abbrev pub may_be_first : CommandValue → List Path → List PlanNodeValue → Bool
may_be_first c [] nodes = false
may_be_first c (path ∷ paths) [] = false
may_be_first c (path ∷ paths) (n ∷ behind) =
    is_large n.kind (within n.level behind) && is_free c (slashed (path_text path))

-- the node of a plan at a place
abbrev pub may_be_made : List PlanNodeValue → CommandValue → ℕ → Bool
may_be_made nodes c at = may_be_first c (drop at (paths_of nodes)) (drop at nodes)

-- ---- what is asked for

pub record InputTreeValue : Type 0 where
  pub path : List ℕ
  pub digest : Digest
  pub size : ℕ

abbrev pub tree_shown : InputTree → InputTreeValue
tree_shown t = record { path = string_bytes t.path; digest = t.digest; size = t.size }

-- the bytes of a file, and 4,096 for each node
abbrev pub node_size : PlanKindValue → ℕ
node_size (file d is_executable) = 4096 + d.size
node_size (symlink target) = 4096
node_size (directory d) = 4096

abbrev pub nodes_size : List PlanNodeValue → ℕ
nodes_size [] = 0
nodes_size (n ∷ nodes) = node_size n.kind + nodes_size nodes

-- a directory with what is in it, as far as that can be counted
abbrev pub tree_size : List PlanNodeValue → ℕ
tree_size inside = min (4096 + nodes_size inside) 18446744073709551615

abbrev pub tree_of_kind : Path → PlanKindValue → List PlanNodeValue → Option InputTreeValue
tree_of_kind path (file d is_executable) inside = None
tree_of_kind path (symlink target) inside = None
tree_of_kind path (directory d) inside =
    Some (record { path = path_text path; digest = d; size = tree_size inside })

abbrev pub tree_of_first : List Path → List PlanNodeValue → Option InputTreeValue
tree_of_first [] nodes = None
tree_of_first (path ∷ paths) [] = None
tree_of_first (path ∷ paths) (n ∷ behind) = tree_of_kind path n.kind (within n.level behind)

-- the directory of a plan at a place
abbrev pub tree_at : List PlanNodeValue → ℕ → Option InputTreeValue
tree_at nodes at = tree_of_first (drop at (paths_of nodes)) (drop at nodes)
