-- A program that has ended.
use Rattle.std.proofs.Common.{◌≡◌, ◌≤◌, ℕ, List, [], ◌∷◌, ◌++◌, map, refl, sym, ap, ◌∙◌, subst, to_z, of_z}
use Rattle.std.specs.Int.{w32}
use Rattle.std.specs.Prelude.{ℤ, Option, Some, Result, Ok, IfOk, IfSome, string_bytes}
use Rattle.std.proofs.lemmas.Int.{to_z-of_z}
use Rattle.std.specs.declared.io.Error.{Error}
use Rattle.runner.specs.declared.stage.Ended.{Ended}
use Rattle.runner.specs.declared.stage.Stage.TheVariants as stages
use Rattle.runner.specs.declared.stage.Step.{Step}
use Rattle.runner.specs.declared.stage.Step.TheVariants as steps
use Rattle.run_calls.specs.Values.{PlaceValue, IsInRange}
use Rattle.run_calls.specs.Calls.{FolderCall, ProgramCall, look_asked, end_asked, state_of, called, Adds}
use Rattle.runner.specs.Told.{call_told, code_item}
use Rattle.runner.specs.declared.stage.Stage.{Stage}
use Rattle.runner.specs.Steps.{Goes, to_make, to_start, to_look, has_gathered, has_told}
use Rattle.runner.specs.Listed.{walk_at, no_walk}
use Rattle.runner.specs.Sizes.{most_bytes, held}
use Rattle.runner.proofs.Collect.{goes_program}
use Rattle.runner.proofs.Popped.{no_failure}
use Rattle.runner.proofs.Sizes.{fits_none, fits_still}

-- a code is what it is, written in 32 bits and read back
pub same_code : (r : Result (Option ℤ) Error) (code : ℤ) → r ≡ Ok (Some code) → IfOk r (λ s. IfSome s IsInRange) →
    to_z w32 (of_z w32 code) ≡ code
same_code r code is range = to_z-of_z w32 code (subst (λ x. IfOk x (λ s. IfSome s IsInRange)) is range)

pub ended_goes : (text : ℕ → List ℕ) (place : PlaceValue) (from : Stage) (e : Ended) (step : Step) (code : ℤ) (r : Result (Option ℤ) Error)
    (f : Option (List FolderCall)) (p q : Option (List ProgramCall))
    → Adds p q (called (end_asked place.run) (state_of r)) → r ≡ Ok (Some code) → IfOk r (λ s. IfSome s IsInRange) →
    step ≡ steps.Goes (stages.Stopping e) 1 → e.code ≡ to_z w32 (of_z w32 code)
    → to_make text place from ≡ [] → to_start place from ≡ [] →
    to_look place from ≡ map (look_asked place) (map string_bytes e.outputs.items) → has_gathered place from ≡ [] →
    has_told place from ≡ [] → held from ≡ 0 → walk_at place from ≡ no_walk
    → Goes text place from step f f p q
ended_goes text place from e step code r f p q adds is range step_is code_is make start look gathered told nothing left =
    subst (λ (s : Step). Goes text place from s f f p q) (sym step_is)
    (goes_program text place from (steps.Goes (stages.Stopping e) 1) f p q (end_asked place.run) (state_of r) refl adds make start look
    (sym gathered)
    (ap (λ z. code_item place.run z ∷ []) (code_is ∙ same_code r code is range)
    ∙ sym (ap (λ zs. zs ++ call_told (end_asked place.run) (state_of r)) told ∙ ap (λ x. call_told (end_asked place.run) (state_of x)) is))
    (fits_still (held from) 0 (subst (λ n. n ≤ most_bytes) (sym nothing) (fits_none 0 refl)) refl) left refl
    (no_failure (end_asked place.run) state_of r _ is (λ y. refl)))
