use Rattle.actions.proofs.Missing.{all_missing}
use Rattle.actions.proofs.laws.missing_blobs_are_those_not_there.Goals as goal

pub returns : goal.returns
returns c = all_missing
