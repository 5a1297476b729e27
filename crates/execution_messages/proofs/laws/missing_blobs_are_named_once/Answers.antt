use Rattle.execution_messages.proofs.EachOnce.{each-once, same-ones, first-first}
use Rattle.execution_messages.proofs.laws.missing_blobs_are_named_once.Goals as goal

pub returns-clause-once : goal.returns-clause-once
returns-clause-once c = each-once

pub returns-clause-same : goal.returns-clause-same
returns-clause-same c = same-ones

pub returns-clause-order : goal.returns-clause-order
returns-clause-order c = first-first
