use Rattle.std.proofs.Common.{◌≡◌, ◌+◌, ◌≤◌, map, reverse, length}
use Rattle.tree_messages.specs.Results.{output_directory_shown}
use Rattle.instance_view.specs.Texts.{look_of}
use Rattle.action_cache.specs.Complete.{with_each, with_output_directory}
use Rattle.action_cache.specs.Work.{sum_of, tree_length, tree_looks}
use Rattle.action_cache.proofs.complete.name_from_last.Given as goal

abbrev pub invariant-outputs : goal.invariant-outputs
invariant-outputs l = record {
  named : with_each (with_output_directory (look_of l.blobs.texts)) l.named.items (reverse (map output_directory_shown l.outputs.items))
      ≡ with_each (with_output_directory (look_of l.blobs.texts)) l.fn.named.items
      (reverse (map output_directory_shown l.fn.outputs.items));
  looks : l.work.looks + sum_of (tree_looks (look_of l.blobs.texts)) (reverse (map output_directory_shown l.outputs.items))
      ≤ l.fn.work.looks + sum_of (tree_looks (look_of l.blobs.texts)) (reverse (map output_directory_shown l.fn.outputs.items));
  bytes : l.work.bytes + sum_of (tree_length (look_of l.blobs.texts)) (reverse (map output_directory_shown l.outputs.items))
      ≤ l.fn.work.bytes + sum_of (tree_length (look_of l.blobs.texts)) (reverse (map output_directory_shown l.fn.outputs.items));
}

abbrev pub decreases-outputs : goal.decreases-outputs
decreases-outputs l = length l.outputs.items
