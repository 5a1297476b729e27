use Rattle.std.proofs.Common.{ℕ, List, Bor, arith}
use Rattle.protobuf_wire.proofs.Loops.{next_payload, all_payloads}
use Rattle.protobuf_wire.proofs.parts.put_repeated_octets.Goals as goal

pub values-preserved : goal.values-preserved
values-preserved c = next_payload {A = Bor (List ℕ)} (λ b. b.now) c.args.field _ c.values.writer c.message.new.self c.values.left.now _
    (omega arith) c.values.invariant c.in_ok-message.ensures.ok

pub returns : goal.returns
returns c = all_payloads {A = Bor (List ℕ)} (λ b. b.now) c.args.field _ c.values.writer c.values.left.now c.in_default.len_below
    c.values.invariant
