use Rattle.std.proofs.Common.{ap, ◌++◌, length, length-append, length-drop, arith}
use Rattle.grpc_sending.specs.Contents.{content_bytes}
use Rattle.grpc_sending.proofs.piece.FramedMessage.len.Goals as goal

pub returns : goal.returns
returns c =
    let whole = length-append c.self.inside.prefix (content_bytes c.self.inside.message) in
    let left = length-drop c.self.inside.put (c.self.inside.prefix ++ (content_bytes c.self.inside.message)) in
    omega (arith, whole, left, c.self.invariant.0, ap length c.self.view_is)
