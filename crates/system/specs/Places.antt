-- Where things stand below the directory that is held.
use Rattle.std.specs.Prelude.{◌≡◌, ℕ, List, [], ◌∷◌, Option, Some, None, ⊤}
use Rattle.system.specs.declared.directory.Kind.TheVariants.{File}
use Rattle.system.specs.declared.directory.Identity.{Identity}

-- names from the directory that is held on, the last first, where they are known
abbrev pub Place : Type 0
Place = Option (List (List ℕ))

-- what has a name there
abbrev pub entry : List ℕ → Option (List (List ℕ)) → Option (List (List ℕ))
entry name None = None
entry name (Some names) = Some (name ∷ names)

-- what may be done at a place, with each entry there, and with each entry of an entry
pub record AtAndBelow (may : Option (List (List ℕ)) → Type 0) (place : Option (List (List ℕ))) : Type 0 where
  pub at : may place
  pub entries : (name : List ℕ) → may (entry name place)
  pub theirs : (name above : List ℕ) → may (entry name (entry above place))

-- what stands at a place may be opened, changed and taken away, and nobody else changes it
pub record MayTake (look change settled : Option (List (List ℕ)) → Type 0)
    (place : Option (List (List ℕ))) : Type 0 where
  pub may_look : look place
  pub may_change : change place
  pub is_settled : settled place

-- a file that is open, of which these say its identity and where it stood, is a regular one that
-- stood there itself
pub record WasFileAt (has : Identity → Type 0) (stood_at : Option (List (List ℕ)) → Type 0)
    (place : Option (List (List ℕ))) : Type 0 where
  pub what : Identity
  pub opened : has what
  pub there : stood_at place
  pub regular : what.kind ≡ File

-- a file was seen at a place
pub record WasFileSeen (stood : Option (List (List ℕ)) → Identity → Type 0)
    (place : Option (List (List ℕ))) : Type 0 where
  pub what : Identity
  pub there : stood place what
  pub regular : what.kind ≡ File

-- a file was seen at a place at which nobody else changes anything
pub record IsFileThere (settled : Option (List (List ℕ)) → Type 0)
    (stood : Option (List (List ℕ)) → Identity → Type 0)
    (place : Option (List (List ℕ))) : Type 0 where
  pub seen : WasFileSeen stood place
  pub is_settled : settled place

-- ---- going down

-- what has these names, each in what has the one before
abbrev pub place_below : Option (List (List ℕ)) → List (List ℕ) → Option (List (List ℕ))
place_below place [] = place
place_below place (name ∷ names) = place_below (entry name place) names

-- something may be done at each place on the way
abbrev pub OnTheWay : (Option (List (List ℕ)) → Type 0) → Option (List (List ℕ)) → List (List ℕ)
    → Type 0
OnTheWay may place [] = ⊤
OnTheWay may place (name ∷ names) =
    may (entry name place) × OnTheWay may (entry name place) names
