use Rattle.serve.proofs.Closings.{failed_adds, failed_gone, written_gone}
use Rattle.serve.proofs.Keeps.{written_told}
use Rattle.serve.proofs.Lending.{after_failed}
use Rattle.serve.proofs.Open.{failed_open, written_open}
use Rattle.serve.proofs.exchange.send.Goals as goal

pub returns-then-count-eq0-clause-serving : goal.returns-then-count-eq0-clause-serving
returns-then-count-eq0-clause-serving g c = λ configs lt at. written_told configs _ _ _ _ _ _ _ _ _ _ _ lt c.in-Ok.ensures.bound
    c.in-Some.ensures.bytes c.in-Ok.ensures.adds c.tell.ensures.takes at

pub returns-then-count-eq0-clause-stays : goal.returns-then-count-eq0-clause-stays
returns-then-count-eq0-clause-stays g c = written_open _ _ _ _ _ c.in-Ok.ensures.adds

pub returns-then-count-eq0-clause-gone : goal.returns-then-count-eq0-clause-gone
returns-then-count-eq0-clause-gone g c = written_gone _ _ c.args.socket _ c.in-Ok.ensures.adds

pub returns-else-count-eq0-clause-serving : goal.returns-else-count-eq0-clause-serving
returns-else-count-eq0-clause-serving g c = λ configs lt at. written_told configs _ _ _ _ _ _ _ _ _ _ _ lt c.in-Ok.ensures.bound
    c.in-Some.ensures.bytes c.in-Ok.ensures.adds c.tell.ensures.takes at

pub returns-else-count-eq0-clause-stays : goal.returns-else-count-eq0-clause-stays
returns-else-count-eq0-clause-stays g c = written_open _ _ _ _ _ c.in-Ok.ensures.adds

pub returns-else-count-eq0-clause-gone : goal.returns-else-count-eq0-clause-gone
returns-else-count-eq0-clause-gone g c = written_gone _ _ c.args.socket _ c.in-Ok.ensures.adds

pub returns-in-Err-2-clause-serving : goal.returns-in-Err-2-clause-serving
returns-in-Err-2-clause-serving g c = λ configs lt at.
    after_failed configs _ _ _ _ _ _ _ lt (failed_adds _ _ c.args.socket c.in-Err.error c.is_not_ready.result c.is_not_ready.ensures
    c.if-is_not_ready.false c.in-Err.ensures.adds) at

pub returns-in-Err-2-clause-stays : goal.returns-in-Err-2-clause-stays
returns-in-Err-2-clause-stays g c =
    failed_open _ _ _ _ (failed_adds _ _ c.args.socket c.in-Err.error c.is_not_ready.result c.is_not_ready.ensures c.if-is_not_ready.false
    c.in-Err.ensures.adds)

pub returns-in-Err-2-clause-over : goal.returns-in-Err-2-clause-over
returns-in-Err-2-clause-over g c = λ is.
    failed_gone _ _ c.args.socket (failed_adds _ _ c.args.socket c.in-Err.error c.is_not_ready.result c.is_not_ready.ensures
    c.if-is_not_ready.false c.in-Err.ensures.adds)

pub returns-in-Err-2-clause-gone : goal.returns-in-Err-2-clause-gone
returns-in-Err-2-clause-gone g c = λ was.
    failed_gone _ _ c.args.socket (failed_adds _ _ c.args.socket c.in-Err.error c.is_not_ready.result c.is_not_ready.ensures
    c.if-is_not_ready.false c.in-Err.ensures.adds)
