use Rattle.quota_evict.specs.InPool.{IsViewInPool}
use Rattle.library_tests.proofs.shapes.store_tree.Given as goal

abbrev pub invariant-loop-level : goal.invariant-loop-level
invariant-loop-level l = IsViewInPool 100000000 l.pool l.view
