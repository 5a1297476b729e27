-- What an error of `clap` says of the words.
use Rattle.std.proofs.Common.{◌≡◌, ◌∙◌, ap, refl, subst, List, [], None, true, inl, inr}
use Rattle.clap.specs.Words.{App, Text, kind_of}
use Rattle.clap.specs.Faults.{fault_of, is_simple_and_free}
use Rattle.clap.specs.Kinds.{HasKind, IsAmong}
use Rattle.clap.specs.declared.error.Error.{Error}
use Rattle.clap.specs.declared.error.kind.ErrorKind.TheVariants.{ValueValidation}
use Rattle.command_line.specs.declared.CommandLineError.{CommandLineError}
use Rattle.command_line.specs.declared.CommandLineError.TheVariants.{NoMemory, Answered}
use Rattle.command_line.specs.CommandLine.{command_line}
use Rattle.command_line.specs.Shown.{invocation_asked, HasNoFault, IsFaultOf, IsFrom}

pub bad_value_is_fault : (words : List Text) (error : Error) (fault : CommandLineError) → kind_of error ≡ ValueValidation →
    invocation_asked words ≡ None → IsFrom error fault → IsFaultOf words fault
bad_value_is_fault words error NoMemory kind none from = tt
bad_value_is_fault words error (Answered kept) kind none from = inr (ap kind_of from.0 ∙ kind, none)

is_free_command : is_simple_and_free command_line ≡ true
is_free_command = refl

pub refused_is_fault : (app : App) (words : List Text) (error : Error) (fault : CommandLineError) → app ≡ command_line
    → (is_simple_and_free app ≡ true → HasKind (fault_of app words) error) → IsFrom error fault → IsFaultOf words fault
refused_is_fault app words error NoMemory is has from = tt
refused_is_fault app words error (Answered kept) is has from =
    let kind = ap kind_of from.0 in
    elim (has (ap is_simple_and_free is ∙ is_free_command)) [
      | inl out ↦ absurd (from.1 out)
      | inr among ↦ inl (subst (λ k. IsAmong k (fault_of command_line words)) (let p = kind in cc)
          (subst (λ (a : App). IsAmong (kind_of error) (fault_of a words)) is among))
    ]

-- the words that `clap` lets through have no fault
pub accepted_has_none : (app : App) (words : List Text) → app ≡ command_line → (is_simple_and_free app ≡ true → fault_of app words ≡ []) →
    HasNoFault words
accepted_has_none app words is none =
    subst (λ (a : App). fault_of a words ≡ []) is (none (ap is_simple_and_free is ∙ is_free_command))
