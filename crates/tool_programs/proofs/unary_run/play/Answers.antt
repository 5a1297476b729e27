use Rattle.std.proofs.lemmas.Result.{err_from_is_err_and}
use Rattle.tool_programs.proofs.CallLines.{told_more, told_some}
use Rattle.tool_programs.proofs.unary_run.play.Goals as goal

pub loop-command-preserved : goal.loop-command-preserved
loop-command-preserved g c =
    told_more _ c.loop-command.command-index c.command-item.result _ _ _ _ _ _ c.loop-command-test.true c.command-item.is
    c.in_ok-step.ensures.after c.in_ok-step.ensures.line c.loop-command.invariant

pub returns-in_err-step-clause-memory : goal.returns-in_err-step-clause-memory
returns-in_err-step-clause-memory g c =
    let p = err_from_is_err_and c.from_residual.result c.from_residual.ensures.1 in
    λ memory. told_some _ _ _ _ _ _ _ c.loop-command.invariant
    (c.step.ensures.memory (let same = p.1 in let gave = p.2 in let was = c.in_err-step.was in cc))
