use Rattle.std.proofs.Common.{◌∙◌, ap, sym}
use Rattle.std.specs.Prelude.{option_and_then}
use Rattle.command_line.specs.Size.{in_units}
use Rattle.command_line.proofs.SizeLemmas.{multiplied, size_of-plain, size_of-unit}
use Rattle.command_line.proofs.sizes.size.Goals as goal

pub returns-in_err-decimal-in-Some : goal.returns-in_err-decimal-in-Some
returns-in_err-decimal-in-Some c =
    c.from_residual-in_err-decimal-in-Some.ensures
    ∙ sym (size_of-unit c.args.word.now c.in_ok-letter.digits.now c.in_ok-letter.letter.now c.in-Some.unit c.in_ok-letter.ensures.cases
    (sym c.unit.ensures ∙ c.in-Some.is)
    ∙ ap (option_and_then (in_units c.in-Some.unit)) (sym c.decimal.ensures ∙ c.in_err-decimal-in-Some.was))

pub returns-in_ok-decimal-in-Some : goal.returns-in_ok-decimal-in-Some
returns-in_ok-decimal-in-Some c =
    multiplied c.checked_mul.result c.in_ok-decimal-in-Some.field-0 c.in-Some.unit c.checked_mul.ensures
    ∙ sym (size_of-unit c.args.word.now c.in_ok-letter.digits.now c.in_ok-letter.letter.now c.in-Some.unit c.in_ok-letter.ensures.cases
    (sym c.unit.ensures ∙ c.in-Some.is)
    ∙ ap (option_and_then (in_units c.in-Some.unit)) (sym c.decimal.ensures ∙ c.in_ok-decimal-in-Some.was))

pub returns-in-None : goal.returns-in-None
returns-in-None c =
    c.decimal-in-None.ensures
    ∙ sym (size_of-plain c.args.word.now c.in_ok-letter.digits.now c.in_ok-letter.letter.now c.in_ok-letter.ensures.cases
    (sym c.unit.ensures ∙ c.in-None.is))
