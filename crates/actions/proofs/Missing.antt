-- What is missing in a tree.
use Rattle.std.proofs.Common.{◌≡◌, ℕ, zero, suc, ◌+◌, Bool, true, false, not, nat_le, List, [], ◌∷◌, ◌++◌, is_some, Option, Some, None, Ok, Err, refl, ◌∙◌, if◌then◌else◌}
use Rattle.std.specs.List.{Contains}
use Rattle.protobuf_wire.specs.Results.{◌>>=◌}
use Rattle.digest.specs.declared.Digest.{Digest}
use Rattle.input_tree.specs.Listing.{Lookup}
use Rattle.actions.specs.Nodes.{PlanKindValue, file, symlink, directory, PlanNodeValue, nodes_in}
use Rattle.actions.specs.Walk.{Nodes, nodes_or_fault, nodes_of_text, directory_nodes, nodes_below, nodes_inside, walk_along, nodes_met, digests_met, missing_among, plan_of, walk, missing, too_deep}
use Rattle.actions.specs.Tree.{AreMissing}
use Rattle.actions.proofs.Kept.{in_none, filter_gives, filter_has}
use Rattle.actions.proofs.Trees.{none_missing_err, plan_is}

-- ---- no step of the walk finds anything missing

taken_not : (ds : List Digest) (o : Option (List PlanNodeValue)) → nodes_or_fault o ≡ Err (missing ds) → ⊥
taken_not ds None h = cc
taken_not ds (Some nodes) h = cc

text_not : (ds : List Digest) (level : ℕ) (o : Option (List ℕ)) → nodes_of_text level o ≡ Err (missing ds) → ⊥
text_not ds level None h = cc
text_not ds level (Some text) h = taken_not ds (nodes_in level text) h

below_not : (ds : List Digest) (look : Lookup) (level : ℕ) (kind : PlanKindValue) → nodes_below look level kind ≡ Err (missing ds) → ⊥
below_not ds look level (file d is_executable) h = cc
below_not ds look level (symlink target) h = cc
below_not ds look level (directory d) h = go (nat_le 64 level) h where
  go : (b : Bool) → (if b then Err too_deep else directory_nodes look (level + 1) d) ≡ Err (missing ds) → ⊥
  go true h = cc
  go false h = text_not ds (level + 1) (look d) h

along_not : (ds : List Digest) (most : ℕ) (look : Lookup) (next met : List PlanNodeValue) →
    walk_along most look next met ≡ Err (missing ds) → ⊥
unfolding walk_along
along_not ds zero look [] met h = cc
along_not ds (suc most) look [] met h = cc
along_not ds zero look (n ∷ next) met h = cc
along_not ds (suc most) look (n ∷ next) met h =
    go (nodes_inside look n) refl h (λ inside. along_not ds most look (inside ++ next) (met ++ n ∷ [])) where
      go : (m : Nodes) → nodes_inside look n ≡ m → (m >>= (λ inside. walk_along most look (inside ++ next) (met ++ n ∷ [])))
          ≡ Err (missing ds) → ((inside : List PlanNodeValue) → walk_along most look (inside ++ next) (met ++ n ∷ []) ≡ Err (missing ds) → ⊥) →
          ⊥
      go (Ok inside) is h later = later inside h
      go (Err e) is h later = below_not ds look n.level n.kind (is ∙ h)

met_not : (ds : List Digest) (look : Lookup) (root : Digest) → nodes_met look root ≡ Err (missing ds) → ⊥
met_not ds look root h = go (directory_nodes look 1 root) refl h where
  go : (m : Nodes) → directory_nodes look 1 root ≡ m → (m >>= (λ top. walk_along 10000 look top [])) ≡ Err (missing ds) → ⊥
  go (Ok top) is h = along_not ds 10000 look top [] h
  go (Err e) is h = text_not ds 1 (look root) (is ∙ h)

-- ---- what is not there

none_there : (o : Option (List ℕ)) → not (is_some o) ≡ true → o ≡ None
none_there None h = refl
none_there (Some text) h = cc

is_there : (o : Option (List ℕ)) → not (is_some o) ≡ false → is_some o ≡ true
is_there None h = cc
is_there (Some text) h = refl

pub all_missing : (look : Lookup) (root : Digest) (digests : List Digest) → walk look root ≡ Err (missing digests) →
    AreMissing look root digests
all_missing look root digests h = go (nodes_met look root) refl h where
  go : (m : Nodes) → nodes_met look root ≡ m → (m >>= plan_of look root) ≡ Err (missing digests) → AreMissing look root digests
  go (Err e) is h = absurd (met_not digests look root (is ∙ h))
  go (Ok nodes) is h =
      let all = digests_met root nodes in
      let are : missing_among look all ≡ digests = none_missing_err nodes (missing_among look all) digests h in
      record {
        nodes = nodes;
        nodes_are = is;
        each = λ d c. (let f = filter_gives (λ d. not (is_some (look d))) all d (rw are c) in (f.0, none_there (look d) f.1));
        all = λ d c none. (let no : not (is_some (look d)) ≡ true = rw none refl in
            rw (← are) (filter_has (λ d. not (is_some (look d))) all d c no));
      }

pub nothing_missing : (look : Lookup) (root : Digest) (nodes : List PlanNodeValue) → walk look root ≡ Ok nodes → (d : Digest) →
    Contains (digests_met root nodes) d → is_some (look d) ≡ true
nothing_missing look root nodes h d c = go (not (is_some (look d))) refl where
  go : (b : Bool) → not (is_some (look d)) ≡ b → is_some (look d) ≡ true
  go false e = is_there (look d) e
  go true e = absurd (in_none d (let kept = filter_has (λ d. not (is_some (look d))) (digests_met root nodes) d c e in
      rw (plan_is look root nodes h).1 at kept))
