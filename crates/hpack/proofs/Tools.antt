-- Steps that succeeded, and tests that were passed.
use Rattle.std.proofs.Common.{◌≡◌, Bool, true, false, cond, Option, Some, None, Result, Ok, Err, refl}
pub use Rattle.numerals.proofs.Steps.{bind_ok, bind_err, chosen, passed, ok_is}
pub use Rattle.numerals.proofs.Fronts.{Fronts}
use Rattle.hpack.specs.Representation.{entry_or_fault}

-- a test that had to be met
pub met : {A E : Type 0} (b : Bool) (d : E) (r : Result A E) (y : A) → cond b r (Err d) ≡ Ok y → (b ≡ true) × (r ≡ Ok y)
met true d r y e = (refl, e)
met false d r y e = absurd cc

pub there_is : {A : Type 0} (o : Option A) (x : A) → entry_or_fault o ≡ Ok x → o ≡ Some x
there_is None x e = absurd cc
there_is (Some y) x e = cc
