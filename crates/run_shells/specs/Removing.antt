-- Folders that are to be removed.
use Rattle.std.specs.Prelude.{◌≡◌, ◌==◌, ◌≤◌, ◌⊎◌, ◌++◌, ◌∷◌, [], ℕ, Bool, List, None, map, IsSomeAnd, slice_get, string_bytes}
use Rattle.std.specs.List.{list_any, swap_remove}
use Rattle.run_shells.specs.declared.waiting.Waiting.{Waiting}

-- the folder of a number is to be removed
abbrev pub is_left : ℕ → List Waiting → Bool
is_left number waiting = list_any (λ each. each.number == number) waiting

-- the folder at this place has a number
abbrev pub HasNumberAt : ℕ → List Waiting → ℕ → Type 0
HasNumberAt number waiting at = IsSomeAnd (slice_get waiting at) (λ each. each.number ≡ number)

-- a shell that has answered so many questions has answered the one by which it was told the name of
-- the folder at this place
abbrev pub WasRemovedAt : ℕ → List Waiting → ℕ → Type 0
WasRemovedAt answered waiting at = IsSomeAnd (slice_get waiting at) (λ each.
    IsSomeAnd each.place (λ place. place ≤ answered))

-- the number and the name of a folder
abbrev pub folder_of : Waiting → ℕ × List ℕ
folder_of each = (each.number, string_bytes each.name)

-- those of folders, in order
abbrev pub folders : List Waiting → List (ℕ × List ℕ)
folders waiting = map folder_of waiting

-- these folders, and one more at most: that of this number and name, which no shell was told
abbrev pub AddsFolder : ℕ → List ℕ → List Waiting → List Waiting → Type 0
AddsFolder number name old new = (new ≡ old) ⊎ ((each : Waiting) × (new ≡ old ++ each ∷ [])
    × (each.number ≡ number) × (string_bytes each.name ≡ name) × (each.place ≡ None))

-- these numbers and names, and one more at most: this one
abbrev pub AddsName : ℕ → List ℕ → List (ℕ × List ℕ) → List (ℕ × List ℕ) → Type 0
AddsName number name old new = (new ≡ old) ⊎ (new ≡ old ++ (number, name) ∷ [])

-- the folder at this place is gone, and the last has its place
abbrev pub LosesAt : ℕ → List Waiting → List Waiting → Type 0
LosesAt at old new = IsSomeAnd (slice_get old at) (λ gone. new ≡ swap_remove old at gone)
