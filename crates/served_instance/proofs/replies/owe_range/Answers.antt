use Rattle.std.proofs.Common.{ℕ, subst, sym, ◌∙◌}
use Rattle.std.specs.Prelude.{OnOk}
use Rattle.conn_core.specs.StandsFor.{OwesRange}
use Rattle.served_instance.proofs.Taking.{range_taken}
use Rattle.served_instance.proofs.replies.owe_range.Goals as goal

pub returns-else-is_err-clause-owes : goal.returns-else-is_err-clause-owes
returns-else-is_err-clause-owes c =
    subst (λ (n : ℕ). OnOk c.owe_range-owed.result
    (OwesRange c.args.stream n c.args.range.now.from c.args.range.now.until c.args.connection.now c.owe_range-owed.new.self))
    c.number.ensures c.owe_range-owed.ensures.stands

pub returns-else-is_err-clause-takes : goal.returns-else-is_err-clause-takes
returns-else-is_err-clause-takes c =
    range_taken c.owe_range-owed.result c.number.result c.args.range.now.text c.args.range.now.until c.args.pool.now c.args.connection.now
    c.owe_range-owed.new.self
    c.number.ensures (sym c.is_err.ensures.value ∙ c.if-is_err.false) c.owe_range-owed.ensures.sources c.owe_range-owed.ensures.few
    c.owe_range-owed.ensures.fit
