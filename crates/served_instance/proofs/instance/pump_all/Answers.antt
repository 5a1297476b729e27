use Rattle.std.proofs.Common.{arith, map}
use Rattle.blob_pool.specs.Slots.{text_at}
use Rattle.conn_core.specs.Past.{with_pumped}
use Rattle.served_instance.specs.Connections.{open_ones, at_all_open}
use Rattle.served_instance.specs.Shown.{connection_shown}
use Rattle.served_instance.proofs.Releasing.{alike_releases}
use Rattle.served_instance.proofs.instance.pump_all.Goals as goal

pub release_all-requires : goal.release_all-requires
release_all-requires c = λ k. omega (arith, c.pump_each.ensures.holds.sources k, c.requires.counted k)

pub returns-clause-stands : goal.returns-clause-stands
returns-clause-stands c = λ ks s. c.release_all.ensures.stands (text_at c.args.pool.now) (open_ones (at_all_open with_pumped ks))
    (c.pump_each.ensures.stands ks s)

pub returns-clause-releases : goal.returns-clause-releases
returns-clause-releases c =
    alike_releases c.args.pool.now c.release_all.new.pool (map connection_shown c.args.connections.now)
    (map connection_shown c.pump_each.new.connections) (map connection_shown c.release_all.new.connections)
    c.pump_each.ensures.holds c.release_all.ensures.releases
