use Rattle.std.proofs.Common.{ap}
use Rattle.instance_view.specs.Shown.{ViewValue}
use Rattle.quota_evict.proofs.Steps.{kept_none}
use Rattle.tool_programs.proofs.store.Store.open.Goals as goal

pub invariant_of-result : goal.invariant_of-result
invariant_of-result c = (
  c.requires,
  kept_none c.args.instance.now.quota c.new-3.result c.in_ok-view.view c.new-3.ensures
      (ap (λ (v : ViewValue). v.entries) c.in_ok-view.ensures),
  ap (λ (v : ViewValue). v.entries) c.in_ok-nobody.ensures,
)
