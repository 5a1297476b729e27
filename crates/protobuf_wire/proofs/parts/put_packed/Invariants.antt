use Rattle.std.proofs.Common.{◌≡◌, map, length}
use Rattle.std.specs.Int.{w64, cast_unsigned}
use Rattle.protobuf_wire.specs.Writing.{packed_text, followed_by}
use Rattle.protobuf_wire.proofs.parts.put_packed.Given as goal

abbrev pub invariant-values : goal.invariant-values
invariant-values l = followed_by l.writer (packed_text (map (cast_unsigned w64) l.left))
    ≡ followed_by l.fn.writer (packed_text (map (cast_unsigned w64) l.values))

abbrev pub decreases-values : goal.decreases-values
decreases-values l = length l.left
