use Rattle.std.proofs.Common.{ap}
use Rattle.instance_view.specs.Shown.{ViewValue}
use Rattle.quota_evict.proofs.Steps.{kept_none}
use Rattle.library_tests.proofs.admissions.keeps_the_limit.Goals as goal

pub drops_the_least_recently_used-requires : goal.drops_the_least_recently_used-requires
drops_the_least_recently_used-requires c = kept_none 100 c.new-pool.result c.in_ok-view.view c.new-pool.ensures
    (ap (λ (v : ViewValue). v.entries) c.in_ok-view.ensures)
