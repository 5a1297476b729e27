use Rattle.quota_evict.specs.InPool.{IsViewInPool}
use Rattle.library_tests.proofs.admissions.are_stored.Given as goal

abbrev pub invariant-loop-text : goal.invariant-loop-text
invariant-loop-text l = IsViewInPool l.quota l.pool l.view
