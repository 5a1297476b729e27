use Rattle.std.proofs.Common.{ap}
use Rattle.instance_view.specs.Shown.{ViewValue}
use Rattle.quota_evict.proofs.Steps.{kept_none}
use Rattle.library_tests.proofs.admissions.keeps_the_quota.Goals as goal

pub drops_for_the_quota-requires : goal.drops_for_the_quota-requires
drops_for_the_quota-requires c = kept_none 10 c.new-pool.result c.in_ok-view.view c.new-pool.ensures
    (ap (λ (v : ViewValue). v.entries) c.in_ok-view.ensures)
