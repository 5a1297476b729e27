use Rattle.execution.proofs.Numbers.{execute-numbered}
use Rattle.execution.proofs.laws.an_answer_takes_one_number.Goals as goal

pub returns : goal.returns
returns c = λ slots s skip d a is. (execute-numbered slots s skip d).0 a is
