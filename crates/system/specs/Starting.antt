-- What commands start.
use Rattle.std.specs.Prelude.{◌≡◌, ◌⊎◌, ◌++◌, ◌∷◌, [], ℕ, Bool, List, Option, None, Result, Ok, Err}
use Rattle.std.specs.Option.{option_map}

-- a program, with its arguments, its variables and its directory
pub record Start : Type 0 where
  -- the path of the program, and its arguments
  pub words : List (List ℕ)
  -- whether it gets none of the variables of whoever starts it
  pub clears_env : Bool
  -- what a variable is set to, `Some None` where it is removed, `None` where nothing is said of it
  pub variable : List ℕ → Option (Option (List ℕ))
  pub directory : Option (List ℕ)

-- the same variables as before
pub record SameVariables (old new : Start) : Type 0 where
  pub cleared : new.clears_env ≡ old.clears_env
  pub variables : (name : List ℕ) → new.variable name ≡ old.variable name

-- the same start
abbrev pub Is : Start → Start → Type 0
Is one other = other ≡ one

-- ---- one more

-- where it is known then what was started, one of which this holds was started since
abbrev pub StartsOne : {C : Type 0} → (C → Type 0) → Option (List C) → Option (List C) → Type 0
StartsOne {C} IsSo before after =
    (after ≡ None) ⊎ ((c : C) × IsSo c × (after ≡ option_map (λ h. h ++ c ∷ []) before))

-- none was, as far as it is known
abbrev pub StartsNone : {C : Type 0} → Option (List C) → Option (List C) → Type 0
StartsNone before after = (after ≡ None) ⊎ (after ≡ before)

-- after a call that went well one was started; after one that failed none was
abbrev pub StartsBy : {C X E : Type 0} → (C → Type 0) → Result X E → Option (List C) →
    Option (List C) → Type 0
StartsBy IsSo (Ok x) before after = StartsOne IsSo before after
StartsBy IsSo (Err e) before after = StartsNone before after
