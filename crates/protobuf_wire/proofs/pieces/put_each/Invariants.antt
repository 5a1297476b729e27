use Rattle.std.proofs.Common.{◌≡◌, length}
use Rattle.std.specs.List.{flat_map}
use Rattle.protobuf_wire.specs.Writing.{followed_by}
use Rattle.protobuf_wire.proofs.pieces.put_each.Given as goal

abbrev pub invariant-pieces : goal.invariant-pieces
invariant-pieces l = followed_by l.writer (flat_map (λ p. p.now) l.left) ≡ followed_by l.fn.writer (flat_map (λ p. p.now) l.pieces)

abbrev pub decreases-pieces : goal.decreases-pieces
decreases-pieces l = length l.left
