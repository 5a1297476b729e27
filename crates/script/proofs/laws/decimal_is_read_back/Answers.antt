use Rattle.std.proofs.Common.{arith}
use Rattle.std.specs.Fmt.{decimal}
use Rattle.std.proofs.lemmas.Fmt.{decimal_is_IsNumeral}
use Rattle.numerals.proofs.NumberLemmas.{decimal_of-numeral}
use Rattle.script.proofs.laws.decimal_is_read_back.Goals as goal

pub returns : goal.returns
returns c =
    let number = c.args.number in
    let numeral = decimal_is_IsNumeral number (omega arith) in
    decimal_of-numeral (decimal number) number numeral.0 numeral.1 (omega arith)
