-- What is told of a run is what came of it, or that it failed.
use Rattle.std.proofs.Common.{◌≡◌, ℕ, List, ◌∙◌, sym, subst, inl, inr}
use Rattle.std.specs.Prelude.{◌⊎◌, Option, Some, None, Result, Ok, IfSome}
use Rattle.std.specs.Io.KnownBytes.{Appends}
use Rattle.tool_programs.specs.declared.status.Status.{Status}
use Rattle.tool_programs.specs.declared.status.Status.TheVariants.{Done, Failed}
use Rattle.tool_programs.specs.ReplayOutcome.{IsOutcome}

-- whatever a text prints
abbrev pub CameOf : Option (List ℕ) → (List ℕ → Result (List ℕ) ℕ) → Option (List ℕ) → Option (List ℕ) → Status → Type 0
CameOf read printed before after status = IfSome read (λ text. IsOutcome (printed text) status before after)

failed_too : (read : Option (List ℕ)) (printed : List ℕ → Result (List ℕ) ℕ) (before after : Option (List ℕ)) →
    CameOf read printed before after Failed
failed_too None printed before after = tt
failed_too (Some text) printed before after = tt

pub outcome_told : (read : Option (List ℕ)) (printed : List ℕ → Result (List ℕ) ℕ) (before after : Option (List ℕ)) (was is : Status)
    → (is ≡ Failed) ⊎ (is ≡ was) → CameOf read printed before after was → CameOf read printed before after is
outcome_told read printed before after was is (inl failed) h =
    subst (CameOf read printed before after) (sym failed) (failed_too read printed before after)
outcome_told read printed before after was is (inr same) h = subst (CameOf read printed before after) (sym same) h

-- the lines of what was read were put behind
pub lines_put : (read : Option (List ℕ)) (printed : List ℕ → Result (List ℕ) ℕ) (before after : Option (List ℕ))
    (text said lines out : List ℕ)
    → IfSome read (λ all. text ≡ all) → said ≡ text → printed said ≡ Ok lines → out ≡ lines → Appends before after out →
    CameOf read printed before after Done
lines_put None printed before after text said lines out is same told put bytes = tt
lines_put (Some all) printed before after text said lines out is same told put bytes =
    (lines, subst (λ (t : List ℕ). printed t ≡ Ok lines) (same ∙ is) told, subst (Appends before after) put bytes)
