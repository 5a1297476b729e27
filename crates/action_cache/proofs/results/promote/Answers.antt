use Rattle.std.proofs.Common.{◌∙◌, ap, map}
use Rattle.digest.specs.Naming.{same_digest}
use Rattle.instance_view.specs.Visible.{blobs_length}
use Rattle.action_cache.specs.Results.{result_shown}
use Rattle.instance_view.proofs.Visibles.{blobs_length-with_match_first, length-with_match_first}
use Rattle.action_cache.proofs.Pairs.{with_match_first-result_shown}
use Rattle.action_cache.proofs.results.promote.Goals as goal

pub returns-clause-used : goal.returns-clause-used
returns-clause-used c = rw c.promote.ensures.entries
    (with_match_first-result_shown (same_digest c.args.digest.now) c.args.cache.now.entries)

pub returns-clause-total : goal.returns-clause-total
returns-clause-total c =
    rw c.promote.ensures.entries
    (ap blobs_length (with_match_first-result_shown (same_digest c.args.digest.now) c.args.cache.now.entries)
    ∙ blobs_length-with_match_first (same_digest c.args.digest.now) (map result_shown c.args.cache.now.entries))

pub returns-clause-length : goal.returns-clause-length
returns-clause-length c = rw c.promote.ensures.entries (length-with_match_first (same_digest c.args.digest.now) c.args.cache.now.entries)
