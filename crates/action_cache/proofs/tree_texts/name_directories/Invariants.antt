use Rattle.std.proofs.Common.{◌≡◌, ◌+◌, ◌≤◌, length}
use Rattle.protobuf_wire.specs.Reading.{record_at, items_left, count_left}
use Rattle.instance_view.specs.Texts.{look_of}
use Rattle.action_cache.specs.Complete.{with_each}
use Rattle.action_cache.specs.TreeTexts.{with_read, with_directory_in, with_directories}
use Rattle.action_cache.proofs.tree_texts.name_directories.Given as goal

abbrev pub invariant-records : goal.invariant-records
invariant-records l = record {
  named : with_read (with_each (with_directory_in (look_of l.blobs.texts) l.field)) l.named.items
      (items_left record_at l.reader) ≡ with_directories (look_of l.blobs.texts) l.field l.fn.named.items l.text;
  looks : l.work.looks + count_left l.reader ≤ l.fn.work.looks + length l.text;
  bytes : l.work.bytes ≡ l.fn.work.bytes;
}

abbrev pub decreases-records : goal.decreases-records
decreases-records l = count_left l.reader
