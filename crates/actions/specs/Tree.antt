-- What the tree of a root is, by what stands in each directory.
use Rattle.std.specs.Prelude.{◌≡◌, ◌⊎◌, List, [], ◌∷◌, ◌++◌, None, Ok}
use Rattle.std.specs.List.{Contains}
use Rattle.digest.specs.declared.Digest.{Digest}
use Rattle.input_tree.specs.Listing.{Lookup}
use Rattle.actions.specs.Nodes.{PlanNodeValue}
use Rattle.actions.specs.Walk.{digests_met, directory_nodes, nodes_inside, nodes_met}

-- nodes, and all that is met from them: each is followed by all that is met from those in it
pub data Meets (look : Lookup) : List PlanNodeValue → List PlanNodeValue → Type 0 where
  none : Meets look [] []
  met : (n : PlanNodeValue) (inside below next after : List PlanNodeValue) →
      nodes_inside look n ≡ Ok inside → Meets look inside below → Meets look next after →
      Meets look (n ∷ next) (n ∷ (below ++ after))

-- the nodes are those of the root's tree
pub record IsTree (look : Lookup) (root : Digest) (nodes : List PlanNodeValue) : Type 0 where
  pub top : List PlanNodeValue
  pub top_is : directory_nodes look 1 root ≡ Ok top
  pub meets : Meets look top nodes

-- a node is one of those in another
pub record StandsIn (look : Lookup) (d n : PlanNodeValue) : Type 0 where
  pub inside : List PlanNodeValue
  pub inside_is : nodes_inside look d ≡ Ok inside
  pub there : Contains inside n

-- a node is at the top, or in one of those before it
abbrev pub HasPlace : Lookup → List PlanNodeValue → List PlanNodeValue → PlanNodeValue → Type 0
HasPlace look top before n =
    Contains top n ⊎ ((d : PlanNodeValue) × Contains before d × StandsIn look d n)

-- each node has its place behind those before it
abbrev pub HavePlaces : Lookup → List PlanNodeValue → List PlanNodeValue → List PlanNodeValue →
    Type 0
HavePlaces look top before [] = Unit {0}
HavePlaces look top before (n ∷ nodes) =
    HasPlace look top before n × HavePlaces look top (before ++ n ∷ []) nodes

-- these are the digests of all that is met and not there
pub record AreMissing (look : Lookup) (root : Digest) (digests : List Digest) : Type 0 where
  pub nodes : List PlanNodeValue
  pub nodes_are : nodes_met look root ≡ Ok nodes
  pub each : (d : Digest) → Contains digests d →
      Contains (digests_met root nodes) d × (look d ≡ None)
  pub all : (d : Digest) → Contains (digests_met root nodes) d → look d ≡ None → Contains digests d
