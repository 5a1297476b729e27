-- A walk that finds the texts that it met gives the same plan, whatever other texts there are.
use Rattle.std.proofs.Common.{◌≡◌, ◌⊎◌, inl, inr, ℕ, zero, suc, ◌+◌, nat_le, List, [], ◌∷◌, ◌++◌, Option, Some, None, Ok, Err, refl, sym, ap, subst, ◌∙◌, if◌then◌else◌}
use Rattle.std.specs.List.{Contains, filter_map}
use Rattle.std.proofs.lemmas.List.Elements.{Contains-push}
use Rattle.protobuf_wire.specs.Results.{◌>>=◌}
use Rattle.digest.specs.declared.Digest.{Digest}
use Rattle.input_tree.specs.Listing.{Lookup}
use Rattle.actions.specs.Nodes.{PlanKindValue, file, symlink, directory, PlanNodeValue}
use Rattle.actions.specs.Walk.{Nodes, nodes_of_text, directory_nodes, nodes_below, nodes_inside, walk_along, nodes_met, digest_of_kind, digest_of_node, digests_met, missing_among, nodes_unless_missing, walk, too_deep}
use Rattle.actions.proofs.Kept.{in_none, first_in, later_in, in_cases}
use Rattle.actions.proofs.Trees.{met_stays, plan_is}

-- both find the same of these
abbrev pub AreAlike : Lookup → Lookup → List Digest → Type 0
AreAlike look other ds = (d : Digest) → Contains ds d → other d ≡ look d

filter_map_has : {X Y : Type 0} (f : X → Option Y) (xs : List X) (x : X) (y : Y) → Contains xs x → f x ≡ Some y →
    Contains (filter_map f xs) y
filter_map_has f [] x y c is = absurd (in_none x c)
filter_map_has {X = X} {Y = Y} f (z ∷ zs) x y c is = go (f z) refl (in_cases z zs x c) (λ c. filter_map_has f zs x y c is) where
  go : (o : Option Y) → f z ≡ o → (z ≡ x) ⊎ Contains zs x → (Contains zs x → Contains (filter_map f zs) y) →
      Contains (filter_map f (z ∷ zs)) y
  go None none (inl same) later = absurd (let no : Some y ≡ None = sym is ∙ ap f (sym same) ∙ none in cc)
  go None none (inr c) later = rw none (later c)
  go (Some w) some (inl same) later = let one : Some w ≡ Some y = sym some ∙ ap f same ∙ is in let w_is : w ≡ y = cc in
      rw some (subst (λ (v : Y). Contains (v ∷ filter_map f zs) y) (sym w_is) (first_in y (filter_map f zs)))
  go (Some w) some (inr c) later = rw some (later_in w (filter_map f zs) y (later c))

-- what is inside a node follows from its own text alone
below_alike : (look other : Lookup) (level : ℕ) (kind : PlanKindValue) → ((d : Digest) → digest_of_kind kind ≡ Some d → other d ≡ look d) →
    nodes_below other level kind ≡ nodes_below look level kind
below_alike look other level (file d is_executable) same = refl
below_alike look other level (symlink target) same = refl
below_alike look other level (directory d) same =
    let of_text : Option (List ℕ) → Nodes = λ o. if nat_le 64 level then Err too_deep else nodes_of_text (level + 1) o in
    ap of_text (same d refl)

inside_alike : (look other : Lookup) (n : PlanNodeValue) → ((d : Digest) → digest_of_node n ≡ Some d → other d ≡ look d) →
    nodes_inside other n ≡ nodes_inside look n
inside_alike look other n same = below_alike look other n.level n.kind same

along_alike : (most : ℕ) (look other : Lookup) (next met nodes : List PlanNodeValue) → walk_along most look next met ≡ Ok nodes →
    ((n : PlanNodeValue) → Contains nodes n → nodes_inside other n ≡ nodes_inside look n) → walk_along most other next met ≡ Ok nodes
unfolding walk_along
along_alike zero look other [] met nodes h same = h
along_alike (suc most) look other [] met nodes h same = h
along_alike zero look other (n ∷ next) met nodes h same = cc
along_alike (suc most) look other (n ∷ next) met nodes h same =
    go (nodes_inside look n) refl h (λ inside later. along_alike most look other (inside ++ next) (met ++ n ∷ []) nodes later same) where
      go : (m : Nodes) → nodes_inside look n ≡ m → (m >>= (λ inside. walk_along most look (inside ++ next) (met ++ n ∷ []))) ≡ Ok nodes →
          ((inside : List PlanNodeValue) → walk_along most look (inside ++ next) (met ++ n ∷ []) ≡ Ok nodes →
          walk_along most other (inside ++ next) (met ++ n ∷ []) ≡ Ok nodes) →
          (nodes_inside other n >>= (λ inside. walk_along most other (inside ++ next) (met ++ n ∷ []))) ≡ Ok nodes
      go (Ok inside) is h later =
          let there : Contains nodes n = met_stays most look (inside ++ next) (met ++ n ∷ []) nodes n h (Contains-push met n) in
          let on : Nodes → Nodes = λ m. (m >>= (λ inside. walk_along most other (inside ++ next) (met ++ n ∷ []))) in
          ap on (same n there ∙ is) ∙ later inside h
      go (Err e) is h later = cc

met_alike : (look other : Lookup) (root : Digest) (nodes : List PlanNodeValue) → nodes_met look root ≡ Ok nodes →
    AreAlike look other (digests_met root nodes) → nodes_met other root ≡ Ok nodes
met_alike look other root nodes h same = go (directory_nodes look 1 root) refl h where
  go : (m : Nodes) → directory_nodes look 1 root ≡ m → (m >>= (λ top. walk_along 10000 look top [])) ≡ Ok nodes →
      nodes_met other root ≡ Ok nodes
  go (Ok top) is h =
      let first : directory_nodes other 1 root ≡ Ok top =
      ap (nodes_of_text 1) (same root (first_in root (filter_map digest_of_node nodes))) ∙ is in
      let on : Nodes → Nodes = λ m. (m >>= (λ top. walk_along 10000 other top [])) in
      ap on first ∙ along_alike 10000 look other top [] nodes h
      (λ n c. inside_alike look other n (λ d is. same d
      (later_in root (filter_map digest_of_node nodes) d (filter_map_has digest_of_node nodes n d c is))))
  go (Err e) is h = cc

missing_alike : (look other : Lookup) (ds : List Digest) → AreAlike look other ds → missing_among other ds ≡ missing_among look ds
missing_alike look other [] same = refl
missing_alike look other (d ∷ ds) same =
    let first = same d (first_in d ds) in
    let later = missing_alike look other ds (λ e c. same e (later_in d ds e c)) in
    rw (first, later) refl

-- the nodes that it meets are the same
pub met_again : (look other : Lookup) (root : Digest) (nodes : List PlanNodeValue) → walk look root ≡ Ok nodes →
    AreAlike look other (digests_met root nodes) → nodes_met other root ≡ Ok nodes
met_again look other root nodes h same = met_alike look other root nodes (plan_is look root nodes h).0 same

pub plan_again : (look other : Lookup) (root : Digest) (nodes : List PlanNodeValue) → walk look root ≡ Ok nodes →
    AreAlike look other (digests_met root nodes) → walk other root ≡ Ok nodes
plan_again look other root nodes h same =
    let parts = plan_is look root nodes h in
    let none : missing_among other (digests_met root nodes) ≡ [] = missing_alike look other (digests_met root nodes) same ∙ parts.1 in
    let on : Nodes → Nodes = λ m. (m >>= (λ all. nodes_unless_missing all (missing_among other (digests_met root all)))) in
    ap on (met_again look other root nodes h same) ∙ ap (nodes_unless_missing nodes) none
