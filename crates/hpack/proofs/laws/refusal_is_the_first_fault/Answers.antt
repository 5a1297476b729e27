use Rattle.hpack.proofs.Blocks.{fault_stands, fault_comes, no_reading, fault_kind}
use Rattle.hpack.proofs.laws.refusal_is_the_first_fault.Goals as goal

pub returns-clause-stands : goal.returns-clause-stands
returns-clause-stands c = fault_stands

pub returns-clause-comes : goal.returns-clause-comes
returns-clause-comes c = fault_comes

pub returns-clause-no_reading : goal.returns-clause-no_reading
returns-clause-no_reading c = no_reading

pub returns-clause-kind : goal.returns-clause-kind
returns-clause-kind c = fault_kind
