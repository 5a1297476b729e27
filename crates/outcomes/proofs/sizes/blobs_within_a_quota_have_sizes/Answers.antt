use Rattle.outcomes.proofs.Quotas.{quota_sizes}
use Rattle.outcomes.proofs.sizes.blobs_within_a_quota_have_sizes.Goals as goal

pub returns : goal.returns
returns c = quota_sizes
