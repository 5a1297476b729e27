use Rattle.std.proofs.Common.{◌≡◌, ◌≤◌, ◌+◌, ◌++◌, Some, Ok, length, drop, take, arith}
use Rattle.std.proofs.lemmas.Grind.{common_steps}
use Rattle.grpc_messages.specs.declared.reader.TheConstants.{MESSAGE_LIMIT}
use Rattle.grpc_messages.specs.Reading.{whole_at}
use Rattle.grpc_messages.proofs.Buffers.{taken_by}
use Rattle.grpc_messages.proofs.reader.Messages.take.Goals as goal

pub returns-in_ok-bytes-in-Ok-Some : goal.returns-in_ok-bytes-in-Ok-Some
returns-in_ok-bytes-in-Ok-Some c =
    let few : length c.self.inside.prefix.items ≤ 5 = grind (arith, common_steps) in
    let whole : whole_at MESSAGE_LIMIT (c.self.inside.prefix.items ++ drop c.self.inside.given c.self.inside.behind.items)
    ≡ Ok (Some c.in-Ok-Some.size) = grind (arith, common_steps) in
    let is : c.new.result ≡ take c.in-Ok-Some.size (drop c.self.inside.given c.self.inside.behind.items) = grind (arith, common_steps) in
    let rest : c.take_front.new.prefix.items ++ drop c.take_front.new.given c.take_front.new.behind.items
    ≡ drop (c.self.inside.given + c.in-Ok-Some.size) c.self.inside.behind.items = grind (arith, common_steps) in
    taken_by MESSAGE_LIMIT c.in-Ok-Some.size c.self.inside.given c.take_front.new.given c.args.self.now c.self.inside.refusal
    c.self.inside.prefix.items c.self.inside.behind.items c.take_front.new.prefix.items c.take_front.new.behind.items c.new.result
    c.self.view_is c.in_default.is few c.self.invariant.1 whole is rest
