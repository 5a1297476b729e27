use Rattle.std.proofs.Common.{◌≡◌, ◌+◌, ◌≤◌, map, length}
use Rattle.tree_messages.specs.Results.{output_directory_shown}
use Rattle.instance_view.specs.Texts.{look_of}
use Rattle.action_cache.specs.LastTrees.{are_trees_there}
use Rattle.action_cache.proofs.complete.are_there.Given as goal

abbrev pub invariant-outputs : goal.invariant-outputs
invariant-outputs l = record {
  there : are_trees_there (look_of l.blobs.texts) (map output_directory_shown l.left)
      ≡ are_trees_there (look_of l.fn.blobs.texts) (map output_directory_shown l.outputs);
  looks : l.work.looks + length l.left ≤ l.fn.work.looks + length l.outputs;
  bytes : l.work.bytes ≡ l.fn.work.bytes;
}

abbrev pub decreases-outputs : goal.decreases-outputs
decreases-outputs l = length l.left
