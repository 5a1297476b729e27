use Rattle.std.proofs.Common.{refl}
use Rattle.run_shells.proofs.Folders.{folders_stay}
use Rattle.run_shells.proofs.waiting.set_places.Goals as goal

pub loop-each-preserved : goal.loop-each-preserved
loop-each-preserved c = folders_stay c.args.waiting.now c.loop-each.waiting c.loop-each.each-index
    c.each-item.result _ refl c.loop-each.invariant
