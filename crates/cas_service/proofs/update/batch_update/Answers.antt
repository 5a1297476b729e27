use Rattle.std.proofs.Common.{refl, subst, sym}
use Rattle.std.specs.List.{AllByRecursion}
use Rattle.cas_service.specs.Shown.{IsStorable, answered_shown}
use Rattle.cas_service.proofs.Storing.{all_storable}
use Rattle.cas_service.proofs.update.batch_update.Goals as goal

pub store_all-requires-clause-storable : goal.store_all-requires-clause-storable
store_all-requires-clause-storable c =
    let answered = c.in_ok-answered.answered in
    subst (AllByRecursion (IsStorable c.args.quota)) (sym c.deref.ensures.value)
    (all_storable c.args.own.now c.args.quota c.args.message.now
    (answered_shown answered) answered.accepted.items c.in_ok-answered.ensures refl)
