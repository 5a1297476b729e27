use Rattle.std.proofs.Common.{◌≡◌, [], length, map}
use Rattle.outcomes.specs.Gathering.{HaveTexts, folder_shown}
use Rattle.outcomes.specs.Trees.{with_children}
use Rattle.outcomes.proofs.tree.distinct_folders.Given as goal

abbrev pub invariant-loop-folder : goal.invariant-loop-folder
invariant-loop-folder l = record {
  texts : HaveTexts l.texts.keys (map folder_shown l.children.items);
  same : with_children (map folder_shown l.children.items) (map folder_shown l.left.items)
      ≡ with_children [] (map folder_shown l.fn.folders.items);
}

abbrev pub decreases-loop-folder : goal.decreases-loop-folder
decreases-loop-folder l = length l.left.items
