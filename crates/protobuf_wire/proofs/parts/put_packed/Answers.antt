use Rattle.std.proofs.Common.{◌≡◌, ℤ, pos, slice_index_or, arith, rules}
use Rattle.std.specs.Int.{w64, cast_unsigned}
use Rattle.protobuf_wire.specs.Writing.{varint, followed_by}
use Rattle.protobuf_wire.proofs.Loops.{next_number, all_numbers}
use Rattle.protobuf_wire.proofs.parts.put_packed.Goals as goal

pub values-preserved : goal.values-preserved
values-preserved c =
    let written : c.put_packed_enum.new.writer ≡ followed_by c.values.writer
    (varint (cast_unsigned w64 (slice_index_or c.values.left.now 0 (pos 0)))) = search rules in
    next_number {A = ℤ} (cast_unsigned w64) _ c.values.writer c.put_packed_enum.new.writer c.values.left.now (pos 0)
    (omega arith) c.values.invariant written

pub returns : goal.returns
returns c = all_numbers {A = ℤ} (cast_unsigned w64) _ c.values.writer c.values.left.now c.in_default.len_below c.values.invariant
