-- Outputs that are collected.
use Rattle.std.proofs.Common.{◌≡◌, ℕ, Bool, List, [], ◌∷◌, ◌++◌, refl, sym, ap, ◌∙◌, append_assoc}
use Rattle.std.specs.List.{flat_map}
use Rattle.std.proofs.lemmas.List.{append-nil}
use Rattle.digest.specs.declared.Digest.{Digest}
use Rattle.instance_view.specs.Visible.{Blob}
use Rattle.tree_messages.specs.Results.{OutputDirectoryValue, OutputFileValue}
use Rattle.outcomes.specs.Completing.{CollectionValue, no_outputs, with_output, with_outputs}
use Rattle.run_calls.specs.Outcomes.{OutputValue}
use Rattle.outcomes.specs.Results.{file_blobs, file_results, tree_blobs, tree_results}

-- lists that grow by what each item gives
abbrev grown : {X Y : Type 0} (f : X → List Y) → List Y → List X → List Y
grown f ys [] = ys
grown f ys (x ∷ xs) = grown f (ys ++ f x) xs

all_grown : {X Y : Type 0} (f : X → List Y) (ys : List Y) (xs : List X) → grown f ys xs ≡ ys ++ flat_map f xs
all_grown f ys [] = sym (append-nil ys)
all_grown f ys (x ∷ xs) = all_grown f (ys ++ f x) xs ∙ append_assoc ys (f x) (flat_map f xs)

files_grown : (like : Digest) (c : CollectionValue) (os : List OutputValue) →
    (with_outputs like c os).files ≡ grown (file_results like) c.files os
files_grown like c [] = refl
files_grown like c (o ∷ os) = files_grown like (with_output like c o) os

trees_grown : (like : Digest) (c : CollectionValue) (os : List OutputValue) →
    (with_outputs like c os).trees ≡ grown (tree_results like) c.trees os
trees_grown like c [] = refl
trees_grown like c (o ∷ os) = trees_grown like (with_output like c o) os

file_blobs_grown : (like : Digest) (c : CollectionValue) (os : List OutputValue) →
    (with_outputs like c os).file_blobs ≡ grown (file_blobs like) c.file_blobs os
file_blobs_grown like c [] = refl
file_blobs_grown like c (o ∷ os) = file_blobs_grown like (with_output like c o) os

tree_blobs_grown : (like : Digest) (c : CollectionValue) (os : List OutputValue) →
    (with_outputs like c os).tree_blobs ≡ grown (tree_blobs like) c.tree_blobs os
tree_blobs_grown like c [] = refl
tree_blobs_grown like c (o ∷ os) = tree_blobs_grown like (with_output like c o) os

pub record AreAll (like : Digest) (os : List OutputValue) (c : CollectionValue) : Type 0 where
  pub files : c.files ≡ flat_map (file_results like) os
  pub trees : c.trees ≡ flat_map (tree_results like) os
  pub blobs_of_files : c.file_blobs ≡ flat_map (file_blobs like) os
  pub blobs_of_trees : c.tree_blobs ≡ flat_map (tree_blobs like) os

pub all_collected : (like : Digest) (os : List OutputValue) (c : CollectionValue) → c ≡ with_outputs like no_outputs os → AreAll like os c
all_collected like os c is = record {
  files = ap (λ (c : CollectionValue). c.files) is ∙ files_grown like no_outputs os ∙ all_grown (file_results like) [] os;
  trees = ap (λ (c : CollectionValue). c.trees) is ∙ trees_grown like no_outputs os ∙ all_grown (tree_results like) [] os;
  blobs_of_files = ap (λ (c : CollectionValue). c.file_blobs) is ∙ file_blobs_grown like no_outputs os ∙ all_grown (file_blobs like) [] os;
  blobs_of_trees = ap (λ (c : CollectionValue). c.tree_blobs) is ∙ tree_blobs_grown like no_outputs os ∙ all_grown (tree_blobs like) [] os;
}
