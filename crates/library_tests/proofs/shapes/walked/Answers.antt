use Rattle.std.proofs.Common.{ap}
use Rattle.instance_view.specs.Shown.{ViewValue}
use Rattle.quota_evict.proofs.Steps.{kept_none}
use Rattle.library_tests.proofs.shapes.walked.Goals as goal

pub store_tree-requires : goal.store_tree-requires
store_tree-requires c = record {
  kept = kept_none 100000000 c.new-pool.result c.in_ok-view.view c.new-pool.ensures
      (ap (λ (v : ViewValue). v.entries) c.in_ok-view.ensures);
}
