use Rattle.std.proofs.Common.{take, ◌-◌}
use Rattle.grpc_sending.proofs.Filling.{extended}
use Rattle.grpc_sending.proofs.Heads.{message_put}
use Rattle.grpc_sending.proofs.buffer.put_message.Goals as goal

pub returns-clause-items : goal.returns-clause-items
returns-clause-items c =
    let prefix = c.parts.result.0.now in
    let content = c.parts.result.1.now in
    let of_prefix = c.min-of_prefix.result in
    message_put c.args.count of_prefix c.args.stream prefix content c.args.message.now c.args.out.now.items c.put_header.new.out.items
    c.extend_from_slice.new.self.items c.extend_from_slice-2.new.self.items c.parts.ensures c.requires.there c.min-of_prefix.ensures
    c.put_header.ensures.items
    (extended c.extend_from_slice.result c.extend_from_slice.new.self.items c.put_header.new.out.items
    (take of_prefix prefix) c.unwrap.ensures c.extend_from_slice.ensures.items)
    (extended c.extend_from_slice-2.result c.extend_from_slice-2.new.self.items c.extend_from_slice.new.self.items
    (take (c.args.count - of_prefix) content) c.unwrap-2.ensures c.extend_from_slice-2.ensures.items)
