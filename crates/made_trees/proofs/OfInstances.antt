-- The trees of instances.
use Rattle.std.proofs.Common.{◌≡◌, ◌++◌, ◌+◌, ℕ, false, true≢false, List, [], ◌∷◌, length, replicate, sym}
use Rattle.std.proofs.lemmas.List.{replicate-append-replicate}
use Rattle.run_calls.specs.declared.task.RunKey.{RunKey}
use Rattle.run_calls.specs.declared.folder.InputTree.{InputTree}
use Rattle.made_trees.specs.Trees.{Trees}
use Rattle.made_trees.specs.RunTrees.{AreBound, RunTreeValue}

-- where there is no instance, none of it was made before
pub none_are_bound : (run : RunKey) (es : Trees) (own : List RunTreeValue) (is : List InputTree)
    → AreBound run es own (replicate (length is) false) is
none_are_bound run es own [] = tt
none_are_bound run es own (i ∷ is) =
    ((λ wrong. absurd (true≢false (sym wrong))), none_are_bound run es own is)

pub one_more : {X : Type 0} (n : ℕ) (x : X) → replicate n x ++ x ∷ [] ≡ replicate (n + 1) x
one_more n x = replicate-append-replicate n 1 x
