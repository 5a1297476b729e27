use Rattle.instance_core.proofs.EventLimits.{answer_stores}
use Rattle.instance_core.proofs.laws.calls_store_named_texts.Goals as goal

pub returns : goal.returns
returns c = answer_stores
