use Rattle.std.proofs.Common.{arith}
use Rattle.operator_lines.proofs.Colons.{first_is, none_is}
use Rattle.operator_lines.proofs.instance_words.cut.Goals as goal

pub returns-clause-first : goal.returns-clause-first
returns-clause-first c = first_is c.args.text.now c.split_once.result (c.split_once.ensures.byte (omega arith) (λ w o f. f))

pub returns-clause-none : goal.returns-clause-none
returns-clause-none c = none_is c.args.text.now c.split_once.result (c.split_once.ensures.byte (omega arith) (λ w o f. f))
