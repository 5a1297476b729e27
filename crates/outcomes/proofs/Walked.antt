-- Nodes in walk order, and the place of each.
use Rattle.std.proofs.Common.{◌≡◌, ◌≤◌, ℕ, ◌+◌, Bool, true, ◌&&◌, List, [], ◌∷◌, ◌++◌, nat_le, ◌==◌, ap, sym, subst, ◌∙◌, append_assoc, arith}
use Rattle.std.proofs.lemmas.Bool.{and_parts}
use Rattle.std.proofs.lemmas.Bool.Decides.{nat_tests}
use Rattle.std.proofs.lemmas.List.{map-append}
use Rattle.run_calls.specs.declared.outcome.OutputNode.{OutputNode}
use Rattle.outcomes.specs.Gathering.{first_level}
use Rattle.run_calls.specs.Outcomes.{NodeKindValue, OutputNodeValue, as_directory, as_file}
use Rattle.run_calls.specs.Shown.{node_shown, nodes_shown}
use Rattle.outcomes.specs.Trees.{are_walked, has_place, level_behind}

le_from : (a b : ℕ) → nat_le a b ≡ true → a ≤ b
le_from a b h = grind (arith, nat_tests, h)

eq_from : (a b : ℕ) → (a == b) ≡ true → a ≤ b
eq_from a b h = grind (arith, nat_tests, h)

pub placed : (last level : ℕ) (kind : NodeKindValue) → has_place last level kind ≡ true → (1 ≤ level) × (level ≤ last)
placed last level (as_file text x) h = let parts = and_parts (nat_le 1 level) (level == last) h in
    (le_from 1 level parts.0, eq_from level last parts.1)
placed last level as_directory h = let parts = and_parts (nat_le 1 level) (nat_le level last) h in
    (le_from 1 level parts.0, le_from level last parts.1)

pub first_low : (last : ℕ) (nodes : List OutputNodeValue) → are_walked last nodes ≡ true → first_level nodes ≤ last
first_low last [] h = omega arith
first_low last (n ∷ ns) h = (placed last n.level n.kind
    (and_parts (has_place last n.level n.kind) (are_walked (level_behind n.level n.kind) ns) h).0).1

pub place_of : (last : ℕ) (xs : List OutputNodeValue) (n : OutputNodeValue) (done : List OutputNodeValue) →
    are_walked last (xs ++ n ∷ done) ≡ true → (1 ≤ n.level) × (first_level done ≤ level_behind n.level n.kind)
place_of last [] n done h =
    let parts = and_parts (has_place last n.level n.kind) (are_walked (level_behind n.level n.kind) done) h in
    ((placed last n.level n.kind parts.0).0, first_low (level_behind n.level n.kind) done parts.1)
place_of last (x ∷ xs) n done h =
    place_of (level_behind x.level x.kind) xs n done
    (and_parts (has_place last x.level x.kind) (are_walked (level_behind x.level x.kind) (xs ++ n ∷ done)) h).1

pub whole_next : (left before : List OutputNode) (node : OutputNode) (done : List OutputNodeValue) → left ≡ before ++ node ∷ [] →
    nodes_shown before ++ node_shown node ∷ done ≡ nodes_shown left ++ done
whole_next left before node done is =
    sym (append_assoc (nodes_shown before) (node_shown node ∷ []) done)
    ∙ ap (λ (ns : List OutputNodeValue). ns ++ done) (sym (map-append node_shown before (node ∷ [])))
    ∙ ap (λ (ns : List OutputNode). nodes_shown ns ++ done) (sym is)

pub place_next : (nodes left before : List OutputNode) (node : OutputNode) (done : List OutputNodeValue) →
    are_walked 1 (nodes_shown nodes) ≡ true → nodes_shown left ++ done ≡ nodes_shown nodes → left ≡ before ++ node ∷ [] →
    (1 ≤ node.level) × (first_level done ≤ level_behind node.level (node_shown node).kind)
place_next nodes left before node done walked whole is =
    place_of 1 (nodes_shown before) (node_shown node) done
    (ap (are_walked 1) (whole_next left before node done is ∙ whole) ∙ walked)
