use Rattle.std.proofs.Common.{◌≡◌}
use Rattle.run_shells.proofs.sessions.ShellSessions.end_each.Given as goal

abbrev pub invariant-loop-process : goal.invariant-loop-process
invariant-loop-process g l = l.shell.questions.answered ≡ l.fn.shell.questions.answered
