-- The nodes of a root.
use Rattle.std.proofs.Common.{◌≡◌, ◌≤◌, ℕ, ◌+◌, Bool, true, false, ◌&&◌, List, [], ◌∷◌, ◌++◌, map, filter, nat_le, nat_lt, ◌==◌, refl, sym, ap, ◌∙◌, arith, rules, if◌then◌else◌}
use Rattle.std.specs.List.{flat_map}
use Rattle.std.proofs.lemmas.Bool.{and_parts}
use Rattle.digest.specs.declared.Digest.{Digest}
use Rattle.tree_messages.specs.Directories.{DirectoryNodeValue, FileNodeValue}
use Rattle.run_calls.specs.Outcomes.{NodeKindValue, OutputNodeValue, as_directory, as_file}
use Rattle.outcomes.specs.Trees.{are_walked, directories_at, directory_node, directory_with, file_node, files_at, has_place, is_directory_node, level_behind, nodes_first}
use Rattle.outcomes.proofs.Gathered.{lt_false}
use Rattle.outcomes.proofs.Walked.{placed}

least : (last : ℕ) (n : OutputNodeValue) (ns : List OutputNodeValue) → are_walked last (n ∷ ns) ≡ true → 1 ≤ n.level
least last n ns h = (placed last n.level n.kind
    (and_parts (has_place last n.level n.kind) (are_walked (level_behind n.level n.kind) ns) h).0).0

later : (last : ℕ) (n : OutputNodeValue) (ns : List OutputNodeValue) → are_walked last (n ∷ ns) ≡ true →
    are_walked (level_behind n.level n.kind) ns ≡ true
later last n ns h = (and_parts (has_place last n.level n.kind) (are_walked (level_behind n.level n.kind) ns) h).1

pub root_files : (like : Digest) (last : ℕ) (nodes : List OutputNodeValue) → are_walked last nodes ≡ true →
    files_at like 1 nodes ≡ flat_map (λ n. file_node like n n.kind) (filter (λ n. n.level == 1) nodes)
root_files like last [] h = refl
root_files like last (n ∷ ns) h = go (n.level == 1) refl (lt_false n.level 1 (least last n ns h))
    (root_files like (level_behind n.level n.kind) ns (later last n ns h)) where
      go : (b : Bool) → (n.level == 1) ≡ b → nat_lt n.level 1 ≡ false →
          files_at like 1 ns ≡ flat_map (λ n. file_node like n n.kind) (filter (λ n. n.level == 1) ns) →
          files_at like 1 (n ∷ ns) ≡ flat_map (λ n. file_node like n n.kind) (filter (λ n. n.level == 1) (n ∷ ns))
      go true e below rest = rw (below, e) (ap (λ (fs : List FileNodeValue). file_node like n n.kind ++ fs) rest)
      go false e below rest = rw (below, e) rest

first_name : (name : List ℕ) (d : DirectoryNodeValue) (kind : NodeKindValue) (ds : List DirectoryNodeValue) (names : List (List ℕ)) →
    d.name ≡ name → map (λ (d : DirectoryNodeValue). d.name) ds ≡ names →
    map (λ (d : DirectoryNodeValue). d.name) (nodes_first kind d ++ ds) ≡ (if is_directory_node kind then name ∷ names else names)
first_name name d (as_file text x) ds names e rest = rest
first_name name d as_directory ds names e rest = rw (e, rest) refl

pub root_directories : (like : Digest) (last : ℕ) (nodes : List OutputNodeValue) → are_walked last nodes ≡ true →
    map (λ (d : DirectoryNodeValue). d.name) (directories_at like 1 nodes)
    ≡ map (λ (n : OutputNodeValue). n.name) (filter (λ n. n.level == 1 && is_directory_node n.kind) nodes)
root_directories like last [] h = refl
root_directories like last (n ∷ ns) h = go (n.level == 1) refl (lt_false n.level 1 (least last n ns h))
    (root_directories like (level_behind n.level n.kind) ns (later last n ns h)) where
      keep : (b : Bool) → is_directory_node n.kind ≡ b →
          (if b then n.name ∷ map (λ (n : OutputNodeValue). n.name) (filter (λ n. n.level == 1 && is_directory_node n.kind) ns) else map
          (λ (n : OutputNodeValue). n.name) (filter (λ n. n.level == 1 && is_directory_node n.kind) ns))
          ≡ map (λ (n : OutputNodeValue). n.name) (if b then n ∷ filter (λ n. n.level == 1 && is_directory_node n.kind) ns else filter
          (λ n. n.level == 1 && is_directory_node n.kind) ns)
      keep true e = refl
      keep false e = refl

      go : (b : Bool) → (n.level == 1) ≡ b → nat_lt n.level 1 ≡ false →
          map (λ (d : DirectoryNodeValue). d.name) (directories_at like 1 ns)
          ≡ map (λ (n : OutputNodeValue). n.name) (filter (λ n. n.level == 1 && is_directory_node n.kind) ns) →
          map (λ (d : DirectoryNodeValue). d.name) (directories_at like 1 (n ∷ ns))
          ≡ map (λ (n : OutputNodeValue). n.name) (filter (λ n. n.level == 1 && is_directory_node n.kind) (n ∷ ns))
      go true e below rest = rw (below, e) (first_name n.name
          (directory_node like n.name (directory_with (files_at like 2 ns) (directories_at like 2 ns))) n.kind
          (directories_at like 1 ns) _ refl rest ∙ keep (is_directory_node n.kind) refl)
      go false e below rest = rw (below, e) rest
