use Rattle.std.proofs.Common.{◌∙◌}
use Rattle.grpc_messages.proofs.Buffers.{appended}
use Rattle.grpc_messages.proofs.reader.Messages.append.Goals as goal

pub returns-clause-ok : goal.returns-clause-ok
returns-clause-ok c = appended c.self-2.inside.refusal c.args.self.now c.self-2.inside.prefix.items c.self-2.inside.behind.items
    c.args.piece.now c.extend.new.prefix.items c.extend.new.behind.items c.self-2.inside.given
    (c.self-2.view_is ∙ c.discard_given.ensures) c.self-2.invariant.0 c.self-2.invariant.1 c.in_ok-extend.ensures.prefix
    c.in_ok-extend.ensures.behind
