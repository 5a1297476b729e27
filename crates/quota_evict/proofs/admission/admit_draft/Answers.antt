use Rattle.quota_evict.proofs.Steps.{kept_used}
use Rattle.quota_evict.proofs.admission.admit_draft.Goals as goal

pub returns-then-is_there-clause-kept : goal.returns-then-is_there-clause-kept
returns-then-is_there-clause-kept c = kept_used c.args.quota c.args.digest.now c.args.pool.now c.args.view.now c.touch-is_there.new.self
    c.requires.kept c.touch-is_there.ensures.limit (c.touch-is_there.ensures.used c.args.pool.now) c.touch-is_there.ensures.holders
