use Rattle.std.proofs.Common.{◌∙◌}
use Rattle.grpc_sending.specs.Contents.{content_bytes}
use Rattle.grpc_sending.proofs.Heads.{parts_read}
use Rattle.grpc_sending.proofs.piece.FramedMessage.parts.Goals as goal

pub returns : goal.returns
returns c = parts_read c.self.inside.put c.min-of_prefix.result c.self.inside.prefix
    (content_bytes c.self.inside.message) c.as_slice.result.now c.as_slice.ensures c.self.invariant.0 c.min-of_prefix.ensures
    ∙ c.self.view_is
