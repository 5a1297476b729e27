use Rattle.blob_pool.proofs.slots.put_text.Goals as goal

pub returns-in-Some-clause-pool : goal.returns-in-Some-clause-pool
returns-in-Some-clause-pool c = c.hold_again.ensures.pool _ c.requires.pool

pub returns-in-Some-clause-totals : goal.returns-in-Some-clause-totals
returns-in-Some-clause-totals c = c.hold_again.ensures.totals _ c.requires.totals
