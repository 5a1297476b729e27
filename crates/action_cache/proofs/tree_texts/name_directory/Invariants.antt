use Rattle.std.proofs.Common.{◌≡◌, ◌+◌, ◌≤◌, length}
use Rattle.protobuf_wire.specs.Reading.{record_at, items_left, count_left}
use Rattle.instance_view.specs.Texts.{look_of}
use Rattle.action_cache.specs.Complete.{with_each}
use Rattle.action_cache.specs.TreeTexts.{with_read, with_node, with_directory_text}
use Rattle.action_cache.proofs.tree_texts.name_directory.Given as goal

abbrev pub invariant-records : goal.invariant-records
invariant-records l = record {
  named : with_read (with_each (with_node (look_of l.blobs.texts))) l.named.items
      (items_left record_at l.reader) ≡ with_directory_text (look_of l.blobs.texts) l.fn.named.items l.text;
  looks : l.work.looks + count_left l.reader ≤ l.fn.work.looks + length l.text;
  bytes : l.work.bytes ≡ l.fn.work.bytes;
}

abbrev pub decreases-records : goal.decreases-records
decreases-records l = count_left l.reader
