use Rattle.std.proofs.Common.{◌≡◌, take, drop, arith}
use Rattle.std.proofs.lemmas.Grind.{common_steps}
use Rattle.grpc_messages.proofs.Buffers.{prefix_begun}
use Rattle.grpc_messages.proofs.reader.begin_prefix.Goals as goal

pub returns-else-given-len-clause-rest : goal.returns-else-given-len-clause-rest
returns-else-given-len-clause-rest c =
    let is : c.append_to_prefix.new.prefix.items ≡ take c.min-count.result (drop c.args.given.now c.args.behind.now.items) =
    grind (arith, common_steps) in
    prefix_begun c.append_to_prefix.new.prefix.items c.args.behind.now.items c.args.given.now c.min-count.result is
