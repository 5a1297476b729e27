use Rattle.std.proofs.Common.{◌∙◌, ap, drop, arith}
use Rattle.grpc_sending.proofs.Heads.{after_is}
use Rattle.grpc_sending.proofs.range.ReadHead.after.Goals as goal

pub returns : goal.returns
returns c = after_is c.args.count c.self.inside.size c.min.result c.self.inside.bytes (omega (arith, c.min.ensures))
    ∙ ap (drop c.args.count) c.self.view_is
