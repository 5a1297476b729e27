use Rattle.quota_evict.proofs.Steps.{kept_used}
use Rattle.quota_evict.proofs.admission.admit.Goals as goal

pub returns-then-touch-clause-kept : goal.returns-then-touch-clause-kept
returns-then-touch-clause-kept c = kept_used c.args.quota c.args.digest.now c.args.pool.now c.args.view.now c.touch.new.self c.requires.kept
    c.touch.ensures.limit (c.touch.ensures.used c.args.pool.now) c.touch.ensures.holders
