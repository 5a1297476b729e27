-- Each node that is met has its place.
use Rattle.std.proofs.Common.{◌≡◌, inl, inr, List, [], ◌∷◌, ◌++◌, Ok, append_assoc, append-nil}
use Rattle.std.specs.List.{Contains}
use Rattle.std.proofs.lemmas.List.Elements.{Contains-append_left, Contains-push}
use Rattle.digest.specs.declared.Digest.{Digest}
use Rattle.input_tree.specs.Listing.{Lookup}
use Rattle.actions.specs.Nodes.{PlanNodeValue}
use Rattle.actions.specs.Walk.{directory_nodes, walk}
use Rattle.actions.specs.Tree.{Meets, none, met as met_first, HasPlace, HavePlaces}
use Rattle.actions.proofs.Kept.{first_in, later_in}
use Rattle.actions.proofs.Trees.{plan_tree}

kept_place : (look : Lookup) (top before more : List PlanNodeValue) (m : PlanNodeValue) → HasPlace look top before m →
    HasPlace look top (before ++ more) m
kept_place look top before more m (inl h) = inl h
kept_place look top before more m (inr h) = inr (h.0, Contains-append_left before more h.0 h.1, h.2)

places_joined : (look : Lookup) (top before xs ys : List PlanNodeValue) → HavePlaces look top before xs →
    HavePlaces look top (before ++ xs) ys → HavePlaces look top before (xs ++ ys)
places_joined look top before [] ys h g = rw append-nil at g
places_joined look top before (x ∷ xs) ys h g =
    (h.0, places_joined look top (before ++ x ∷ []) xs ys h.1 (rw append_assoc g))

placed : (look : Lookup) (top next rest before : List PlanNodeValue) → Meets look next rest →
    ((m : PlanNodeValue) → Contains next m → HasPlace look top before m) → HavePlaces look top before rest
placed look top [] rest before none have = tt
placed look top (x ∷ next) rest before (met_first n inside below others after is meets later) have =
    let inner = placed look top inside below (before ++ x ∷ []) meets
    (λ m c. inr (x, Contains-push before x, record { inside = inside; inside_is = is; there = c })) in
    let further = placed look top next after ((before ++ x ∷ []) ++ below) later
    (λ m c. rw append_assoc (kept_place look top before (x ∷ below) m (have m (later_in x next m c)))) in
    (have x (first_in x next), places_joined look top (before ++ x ∷ []) below after inner further)

pub plan_places : (look : Lookup) (root : Digest) (top nodes : List PlanNodeValue) → directory_nodes look 1 root ≡ Ok top →
    walk look root ≡ Ok nodes → HavePlaces look top [] nodes
plan_places look root top nodes is h =
    let tree = plan_tree look root nodes h in
    let same : tree.top ≡ top = (let e = tree.top_is in cc) in
    placed look top tree.top nodes [] tree.meets (λ m c. inl (rw (← same) c))
