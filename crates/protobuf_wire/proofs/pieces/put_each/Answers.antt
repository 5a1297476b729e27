use Rattle.std.proofs.Common.{ℕ, List, Bor, arith}
use Rattle.protobuf_wire.proofs.Loops.{next_piece, all_pieces}
use Rattle.protobuf_wire.proofs.pieces.put_each.Goals as goal

pub pieces-preserved : goal.pieces-preserved
pieces-preserved c = next_piece {A = Bor (List ℕ)} (λ p. p.now) _ c.pieces.writer c.payload_part.new.self c.pieces.left.now _
    (omega arith) c.pieces.invariant c.in_ok-payload_part.ensures.ok

pub returns : goal.returns
returns c = all_pieces {A = Bor (List ℕ)} (λ p. p.now) _ c.pieces.writer c.pieces.left.now c.in_default.len_below c.pieces.invariant
