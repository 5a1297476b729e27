-- What was opened and read of a run.
use Rattle.std.specs.Prelude.{ℕ, List, Option}
use Rattle.run_folders.specs.Folders.{IsParted}
use Rattle.run_folders.specs.Segments.{path_names}
use Rattle.system.specs.Places.{WasFileAt, entry, place_below}
use Rattle.system.specs.declared.directory.Identity.{Identity}

-- where a path leads to from a place on: to its last name, in what the names before that lead to
abbrev pub place_of : Option (List (List ℕ)) → List ℕ → List ℕ → Option (List (List ℕ))
place_of start above name = entry name (place_below start (path_names above))

-- a file that is open, of which these say its identity and where it stood, is a regular one that
-- stood at a path itself
pub record IsFileOf (has : Identity → Type 0) (stood_at : Option (List (List ℕ)) → Type 0)
    (start : Option (List (List ℕ))) (path : List ℕ) : Type 0 where
  pub above : List ℕ
  pub name : List ℕ
  pub parted : IsParted path above name
  pub was : WasFileAt has stood_at (place_of start above name)

-- one reading of the file at a path gave these bytes, from a place in it on
pub record WasRead {F : Type 0} (has : F → Identity → Type 0)
    (stood_at : F → Option (List (List ℕ)) → Type 0) (gave : F → ℕ → List ℕ → Type 0)
    (start : Option (List (List ℕ))) (path : List ℕ) (from : ℕ) (bytes : List ℕ) : Type 0 where
  pub file : F
  pub is : IsFileOf (has file) (stood_at file) start path
  pub read : gave file from bytes
