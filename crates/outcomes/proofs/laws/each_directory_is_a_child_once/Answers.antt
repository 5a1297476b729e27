use Rattle.outcomes.proofs.Once.{each_child, each_once}
use Rattle.outcomes.specs.Trees.{below_root}
use Rattle.outcomes.proofs.laws.each_directory_is_a_child_once.Goals as goal

pub returns-clause-each : goal.returns-clause-each
returns-clause-each c = λ like nodes v h. each_child (below_root like nodes) v h

pub returns-clause-once : goal.returns-clause-once
returns-clause-once c = λ like nodes. each_once (below_root like nodes)
