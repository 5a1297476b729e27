use Rattle.std.proofs.Common.{rules, ◌∙◌, ◌+◌}
use Rattle.std.proofs.lemmas.List.{take_rest}
use Rattle.run_shells.proofs.LastBracket.{after_last_bracket}
use Rattle.run_shells.proofs.status.behind_name.Goals as goal

pub returns : goal.returns
returns c =
    let last = after_last_bracket c.args.line.now c.in_ok-bracket.bracket (search rules)
    (search rules) (search rules) in
    take_rest c.args.line.now (c.in_ok-bracket.bracket + 1) ∙ last
