use Rattle.std.proofs.Common.{ap, codes, ◌∙◌}
use Rattle.std.proofs.lemmas.Result.{IfOk-weaker}
use Rattle.clap.specs.Words.{new_app}
use Rattle.command_line.specs.CommandLine.{with_limits, with_ways}
use Rattle.command_line.specs.Shown.{HasApp}
use Rattle.command_line.proofs.Adding.{with_argument}
use Rattle.command_line.proofs.commands.serve.Goals as goal

pub returns : goal.returns
returns c =
    let numbers = c.in_ok-command.ensures in
    let ways = c.in_ok-with_ways.ensures in
    let has : HasApp (with_limits (with_ways (new_app (codes "serve")))) c.in_ok-command.command =
    (numbers.0 ∙ ap with_limits (ways.0 ∙ ap with_ways c.described-described.ensures.0), numbers.1) in
    IfOk-weaker c.arg.result _ _ (λ m h. let first = with_argument _ _ _ _ _ _ _ _ has c.instances.ensures h.shape h.globals in
    (ap (λ a. a.top) first.0, first.1)) c.arg.ensures
