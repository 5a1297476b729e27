use Rattle.std.proofs.Common.{arith}
use Rattle.blob_pool.proofs.Pools.{pool_counted, totals_counted}
use Rattle.blob_pool.proofs.slots.hold_again.Goals as goal

pub returns-clause-pool : goal.returns-clause-pool
returns-clause-pool c = λ index pool. pool_counted c.args.slots.now.slots c.add_holder.new.slots.slots index c.args.slot _ pool
    c.add_holder.ensures c.requires.held (omega arith)

pub returns-clause-totals : goal.returns-clause-totals
returns-clause-totals c = totals_counted c.args.slots.now.slots c.add_holder.new.slots.slots c.args.slot _ c.add_holder.ensures
    c.requires.held
