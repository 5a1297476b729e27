-- A text that is read part by part.
use Rattle.std.specs.Prelude.{ℕ, ◌+◌, List, [], ◌∷◌, length}
use Rattle.blob_pool.specs.Pages.{part_of}

-- parts of a text, of these numbers of bytes at most: each begins where the one before it ended
abbrev pub parts_from : ℕ → List ℕ → ℕ → List ℕ → List (List ℕ)
parts_from size text from [] = []
parts_from size text from (most ∷ mosts) =
    part_of size text from most
    ∷ parts_from size text (from + length (part_of size text from most)) mosts
