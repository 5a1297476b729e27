use Rattle.hpack.proofs.Steps.{update_shrinks}
use Rattle.hpack.proofs.block.read_updates.Goals as goal

pub updates-smaller : goal.updates-smaller
updates-smaller c = update_shrinks c.updates.left.now (c.in_ok-maximum.maximum, c.in_ok-maximum.rest.now) c.in_ok-maximum.ensures
