use Rattle.std.proofs.Common.{sym, ◌∙◌, rules}
use Rattle.script.proofs.OutputLemmas.{IsUtf8-ascii, split_at_last}
use Rattle.script.proofs.replay.output.path_and_content.Goals as goal

pub returns-in-Ok : goal.returns-in-Ok
returns-in-Ok c =
    let split = split_at_last c.in-Ok.text.now _ c.rsplit_once.ensures.cases in
    search (rules, split)

pub returns-in-Err : goal.returns-in-Err
returns-in-Err c =
    absurd (c.in-Err.ensures.cases.0 (IsUtf8-ascii c.args.word.now (sym c.are_ascii.ensures ∙ c.if-not-are_ascii.false)))
