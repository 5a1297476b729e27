use Rattle.instance_core.proofs.EmptyBlob.{none_empty}
use Rattle.instance_core.proofs.laws.the_empty_blob_has_no_slot.Goals as goal

pub returns-clause-opened : goal.returns-clause-opened
returns-clause-opened c = λ name quota slots limits. tt

pub returns-clause-kept : goal.returns-clause-kept
returns-clause-kept c = none_empty
