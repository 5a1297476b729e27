use Rattle.std.proofs.Common.{sym, ◌∙◌}
use Rattle.numerals.proofs.NumberLemmas.{parsed, IsUtf8-digits}
use Rattle.numerals.proofs.number.decimal.Goals as goal

pub returns-in-Ok : goal.returns-in-Ok
returns-in-Ok c =
    let digits = sym c.are_digits.ensures ∙ c.if-not-are_digits.false in
    let read = rw c.in-Ok.ensures.cases.0 at c.parse.ensures.value.0 in
    c.ok.ensures.value ∙ parsed c.args.word.now c.parse.result digits read

pub returns-in-Err : goal.returns-in-Err
returns-in-Err c =
    absurd (c.in-Err.ensures.cases.0 (IsUtf8-digits c.args.word.now (sym c.are_digits.ensures ∙ c.if-not-are_digits.false)))
