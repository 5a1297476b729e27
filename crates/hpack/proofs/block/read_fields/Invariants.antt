use Rattle.std.proofs.Common.{◌≡◌, length}
use Rattle.hpack.specs.FieldLists.{headers_in, fields_length}
use Rattle.hpack.specs.Block.{fields_of, list_limit}
use Rattle.hpack.proofs.Steps.{after_front}
use Rattle.hpack.proofs.block.read_fields.Given as goal

abbrev pub invariant-fields : goal.invariant-fields
invariant-fields l = record {
  read : after_front (headers_in l.lengths.items l.text.items) (fields_of l.room l.table l.left) ≡ fields_of list_limit l.fn.table l.bytes;
  whole : fields_length l.lengths.items ≡ length l.text.items;
}

abbrev pub decreases-fields : goal.decreases-fields
decreases-fields l = length l.left
