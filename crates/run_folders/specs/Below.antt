-- What lies below a path.
use Rattle.std.specs.Prelude.{◌≡◌, ◌⊎◌, ℕ, List, ◌∷◌, ◌++◌}

-- a path is that of a folder, by its name, or goes on behind that
abbrev pub IsBelow : List ℕ → List ℕ → Type 0
IsBelow folder path = (path ≡ folder) ⊎ ((rest : List ℕ) × (path ≡ folder ++ 47 ∷ rest))
