use Rattle.std.proofs.Common.{ℕ, List, ap, ◌∙◌, sym, take, length}
use Rattle.std.specs.Prelude.{◌+◌, min}
use Rattle.serve.specs.KeepsServing.{most_counted}
use Rattle.serve.proofs.Closings.{failed_adds, failed_gone, read_gone}
use Rattle.serve.proofs.Keeps.{read_told, written_back}
use Rattle.serve.proofs.Lending.{after_failed}
use Rattle.serve.proofs.Open.{failed_open, read_open}
use Rattle.serve.proofs.exchange.receive.Goals as goal

pub returns-then-count-eq0-clause-serving : goal.returns-then-count-eq0-clause-serving
returns-then-count-eq0-clause-serving g c =
    let back = written_back c.args.room.now.len c.read.new.room c.args.room.now.items
    (c.read.auto.room ∙ ap length c.deref_mut.ensures.value) (sym c.deref_mut.ensures.len ∙ ap length c.deref_mut.ensures.value) in
    λ configs lt at. read_told configs _ _ _ _ _ _ _ _ _ _ _ lt c.in-Ok.ensures.adds
    (c.piece_of-bytes.ensures ∙ ap (take c.in-Ok.count) back) c.tell.ensures.takes at

pub returns-else-count-eq0-clause-serving : goal.returns-else-count-eq0-clause-serving
returns-else-count-eq0-clause-serving g c =
    let back = written_back c.args.room.now.len c.read.new.room c.args.room.now.items
    (c.read.auto.room ∙ ap length c.deref_mut.ensures.value) (sym c.deref_mut.ensures.len ∙ ap length c.deref_mut.ensures.value) in
    λ configs lt at. read_told configs _ _ _ _ _ _ _ _ _ _ _ lt c.in-Ok.ensures.adds
    (c.piece_of-bytes.ensures ∙ ap (take c.in-Ok.count) back) c.tell.ensures.takes at

pub returns-in-Err-2-clause-serving : goal.returns-in-Err-2-clause-serving
returns-in-Err-2-clause-serving g c = λ configs lt at.
    after_failed configs _ _ _ _ _ _ _ lt (failed_adds _ _ c.args.opened.now.socket c.in-Err.error c.is_not_ready.result
    c.is_not_ready.ensures c.if-is_not_ready.false c.in-Err.ensures.adds) at

pub returns-then-count-eq0-clause-stays : goal.returns-then-count-eq0-clause-stays
returns-then-count-eq0-clause-stays g c =
    let back = written_back c.args.room.now.len c.read.new.room c.args.room.now.items
    (c.read.auto.room ∙ ap length c.deref_mut.ensures.value) (sym c.deref_mut.ensures.len ∙ ap length c.deref_mut.ensures.value) in
    read_open c.args.moment c.args.opened.now c.hear.new.self _ _
    (take c.in-Ok.count c.read.new.room) c.in-Ok.ensures.adds c.hear.ensures.socket c.hear.ensures.heard
    (c.hear.ensures.received ∙ ap (λ (xs : List ℕ). min (c.args.opened.now.received + length (take c.in-Ok.count xs)) most_counted)
    (c.deref.ensures.value ∙ back))

pub returns-else-count-eq0-clause-stays : goal.returns-else-count-eq0-clause-stays
returns-else-count-eq0-clause-stays g c =
    let back = written_back c.args.room.now.len c.read.new.room c.args.room.now.items
    (c.read.auto.room ∙ ap length c.deref_mut.ensures.value) (sym c.deref_mut.ensures.len ∙ ap length c.deref_mut.ensures.value) in
    read_open c.args.moment c.args.opened.now c.hear.new.self _ _
    (take c.in-Ok.count c.read.new.room) c.in-Ok.ensures.adds c.hear.ensures.socket c.hear.ensures.heard
    (c.hear.ensures.received ∙ ap (λ (xs : List ℕ). min (c.args.opened.now.received + length (take c.in-Ok.count xs)) most_counted)
    (c.deref.ensures.value ∙ back))

pub returns-in-Err-2-clause-stays : goal.returns-in-Err-2-clause-stays
returns-in-Err-2-clause-stays g c = λ count before after next has.
    failed_open _ _ _ _ (failed_adds _ _ c.args.opened.now.socket c.in-Err.error c.is_not_ready.result c.is_not_ready.ensures
    c.if-is_not_ready.false c.in-Err.ensures.adds) count _ next c.args.moment has

pub returns-then-count-eq0-clause-over : goal.returns-then-count-eq0-clause-over
returns-then-count-eq0-clause-over g c = λ is.
    read_gone _ _ c.args.opened.now.socket c.in-Ok.count c.read.new.room c.if-count-eq0.true c.in-Ok.ensures.adds

pub returns-in-Err-2-clause-over : goal.returns-in-Err-2-clause-over
returns-in-Err-2-clause-over g c = λ is.
    failed_gone _ _ c.args.opened.now.socket (failed_adds _ _ c.args.opened.now.socket c.in-Err.error c.is_not_ready.result
    c.is_not_ready.ensures c.if-is_not_ready.false c.in-Err.ensures.adds)
