-- The paths of a plan's nodes, which follow from their names and levels: a path is the list of
-- names from the root on.
use Rattle.std.specs.Prelude.{◌≡◌, ℕ, ◌-◌, List, [], ◌∷◌, ◌++◌, take, Ok}
use Rattle.input_tree.specs.Listing.{Lookup}
use Rattle.actions.specs.Nodes.{PlanNodeValue}
use Rattle.actions.specs.Walk.{nodes_inside}

abbrev pub Path : Type 0
Path = List (List ℕ)

-- of the path of the node before it a node has as many names as there are directories above it
abbrev pub path_behind : Path → PlanNodeValue → Path
path_behind before n = take (n.level - 1) before ++ n.name ∷ []

abbrev pub paths_behind : Path → List PlanNodeValue → List Path
paths_behind before [] = []
paths_behind before (n ∷ nodes) = path_behind before n ∷ paths_behind (path_behind before n) nodes

abbrev pub paths_of : List PlanNodeValue → List Path
paths_of nodes = paths_behind [] nodes

-- these are the paths of all that is met from nodes of the directory at a path: each node's path is
-- the directory's and its own name
pub data ArePathsIn (look : Lookup) : Path → List PlanNodeValue → List Path → Type 0 where
  none : (above : Path) → ArePathsIn look above [] []
  met : (above : Path) (n : PlanNodeValue) (inside next : List PlanNodeValue)
      (below after : List Path) → nodes_inside look n ≡ Ok inside →
      ArePathsIn look (above ++ n.name ∷ []) inside below → ArePathsIn look above next after →
      ArePathsIn look above (n ∷ next) ((above ++ n.name ∷ []) ∷ (below ++ after))
