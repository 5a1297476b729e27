use Rattle.blob_pool.specs.Slots.{count_at}
use Rattle.instance_view.specs.Sight.{sight_holders, sight_of}
use Rattle.bytestream.proofs.HeldLemmas.{held_more}
use Rattle.bytestream.proofs.reading.read.Goals as goal

pub range-requires : goal.range-requires
range-requires c = held_more c.find-found.result (sight_holders (sight_of c.args.view.now c.args.parent.now))
    (count_at c.args.pool.now) c.find-found.ensures.held c.requires.held
