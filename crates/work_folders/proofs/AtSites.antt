-- What may be done where the node of a run that has trees stands.
use Rattle.std.proofs.Common.{◌≡◌, ℕ, List, Option, Some}
use Rattle.std.specs.Prelude.{IfSome}
use Rattle.made_trees.specs.RunTrees.{IfTree, SiteValue, bound, in_tree, own, place_of, there}
use Rattle.work_folders.specs.Rights.{MayRun}

module _ (look change settled : Option (List (List ℕ)) → Type 0) where
  -- where the folder of the start stands
  pub at_start : (start : Option (Option (List (List ℕ)))) (at : Option (List (List ℕ)))
      (shown site : SiteValue) → start ≡ Some at → shown ≡ site
      → IfTree site (λ folder. IfSome start (λ p. MayRun look change settled p folder))
      → IfTree shown (λ folder. MayRun look change settled at folder)
  at_start start at shown site is e h = rw e (by site h)
    where
      by : (s : SiteValue)
          → IfTree s (λ folder. IfSome start (λ p. MayRun look change settled p folder))
          → IfTree s (λ folder. MayRun look change settled at folder)
      by own h = tt
      by (place_of folder) h = rw is at h
      by (bound digest) h = tt
      by (in_tree folder names) h = rw is at h
      by there h = tt
