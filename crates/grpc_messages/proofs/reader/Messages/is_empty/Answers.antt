use Rattle.std.proofs.Common.{◌∙◌, sym, arith}
use Rattle.std.proofs.lemmas.Grind.{common_steps}
use Rattle.grpc_messages.proofs.Buffers.{empty_by}
use Rattle.grpc_messages.proofs.reader.Messages.is_empty.Goals as goal

pub returns-else-is_some : goal.returns-else-is_some
returns-else-is_some c = empty_by c.args.self.now c.self.inside.refusal c.self.inside.prefix.items c.self.inside.behind.items
    c.self.inside.given c.is_empty.result c.self.view_is (sym c.is_some.ensures ∙ c.if-is_some.false) c.self.invariant.1
    (let n = c.is_empty.ensures in grind (arith, common_steps))
