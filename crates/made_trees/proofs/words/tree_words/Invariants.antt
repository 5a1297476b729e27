use Rattle.std.proofs.Common.{◌≡◌, ◌++◌, length}
use Rattle.made_trees.specs.RunTrees.{tree_words}
use Rattle.made_trees.proofs.words.tree_words.Given as goal

-- what was added, and the words of what is left, are all words
abbrev pub invariant-trees : goal.invariant-trees
invariant-trees l =
    l.text.items ++ tree_words l.start l.run l.store.trees l.left
    ≡ tree_words l.start l.run l.store.trees l.fn.trees

abbrev pub decreases-trees : goal.decreases-trees
decreases-trees l = length l.left
