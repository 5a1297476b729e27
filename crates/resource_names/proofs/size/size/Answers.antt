use Rattle.std.proofs.Common.{sym, ◌∙◌}
use Rattle.resource_names.proofs.SizeLemmas.{unparsed_size}
use Rattle.resource_names.proofs.size.size.Goals as goal

pub returns-in-Err-clause-value : goal.returns-in-Err-clause-value
returns-in-Err-clause-value c =
    sym (unparsed_size c.args.text.now c.in-Err.field-0 (sym c.is_numeral.ensures ∙ c.if-not-is_numeral.false) c.in-Err.ensures.value.0)
