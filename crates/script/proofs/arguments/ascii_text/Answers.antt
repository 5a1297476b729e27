use Rattle.std.proofs.Common.{sym, ◌∙◌}
use Rattle.script.proofs.OutputLemmas.{IsUtf8-ascii}
use Rattle.script.proofs.arguments.ascii_text.Goals as goal

pub returns-in-Err : goal.returns-in-Err
returns-in-Err c =
    absurd (c.in-Err.ensures.cases.0 (IsUtf8-ascii c.args.word.now (sym c.are_ascii.ensures ∙ c.if-not-are_ascii.false)))
