-- Folders that are to be removed, one of which is told or added.
use Rattle.std.proofs.Common.{◌≡◌, ◌∙◌, inr, ℕ, List, [], ◌∷◌, ◌++◌, slice_set, slice_index_or, string_bytes, None}
use Rattle.std.proofs.Math.Seq.{map-set_same}
use Rattle.run_shells.specs.declared.waiting.Waiting.{Waiting}
use Rattle.run_shells.specs.Removing.{AddsFolder, folder_of, folders}

-- where one gets another place, its number and its name stay
pub folders_stay : (old waiting : List Waiting) (i : ℕ) (each after : Waiting)
    → folder_of after ≡ folder_of (slice_index_or waiting i each)
    → folders waiting ≡ folders old → folders (slice_set waiting i after) ≡ folders old
folders_stay old waiting i each after alike stay =
    map-set_same folder_of waiting i after each alike ∙ stay

-- one is added behind the others
pub added : (number : ℕ) (name : List ℕ) (each : Waiting) (old new : List Waiting)
    → new ≡ old ++ each ∷ [] → each.number ≡ number → string_bytes each.name ≡ name
    → each.place ≡ None → AddsFolder number name old new
added number name each old new is so called untold = inr (each, is, so, called, untold)
