use Rattle.cas_service.proofs.Steps.{kept_used}
use Rattle.bytestream.proofs.writing.write_first.Goals as goal

pub returns-then-touch-clause-kept : goal.returns-then-touch-clause-kept
returns-then-touch-clause-kept c =
    kept_used c.args.terms.quota _ c.args.pool.now c.args.view.now c.touch.new.self c.requires.kept c.touch.ensures.limit
    (c.touch.ensures.used c.args.pool.now) c.touch.ensures.holders
