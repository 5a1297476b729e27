use Rattle.tool_programs.proofs.CallLines.{Told}
use Rattle.tool_programs.proofs.unary_run.play.Given as goal

abbrev pub invariant-loop-command : goal.invariant-loop-command
invariant-loop-command g l = Told l.commands l.command-index l.fn.stores l.stores (g.O.Write.contents l.fn.output)
    (g.O.Write.contents l.output)
