use Rattle.host_sockets.proofs.Left.{one_read}
use Rattle.host_sockets.proofs.lingering.Lingering.drop_more.Goals as goal

pub returns-then-is_open : goal.returns-then-is_open
returns-then-is_open g c = one_read g.W.Wire.happened c.args.self.now.wire c.read.new.self
    c.read.result c.read.new.room c.read.ensures.adds

pub returns-else-is_open : goal.returns-else-is_open
returns-else-is_open g c = one_read g.W.Wire.happened c.args.self.now.wire c.read.new.self
    c.read.result c.read.new.room c.read.ensures.adds
