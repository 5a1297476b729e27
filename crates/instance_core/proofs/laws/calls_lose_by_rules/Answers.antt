use Rattle.instance_core.proofs.Losses.{changes_are_by_rule}
use Rattle.instance_core.proofs.laws.calls_lose_by_rules.Goals as goal

pub returns : goal.returns
returns c = changes_are_by_rule
