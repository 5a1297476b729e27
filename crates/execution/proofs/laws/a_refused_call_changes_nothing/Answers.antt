use Rattle.execution.proofs.Numbers.{execute-numbered}
use Rattle.execution.proofs.laws.a_refused_call_changes_nothing.Goals as goal

pub returns : goal.returns
returns c = λ slots s skip d refusal is. (execute-numbered slots s skip d).1 refusal is
