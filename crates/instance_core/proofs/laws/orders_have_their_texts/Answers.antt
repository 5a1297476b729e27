use Rattle.instance_core.proofs.OrderTexts.{orders_whole}
use Rattle.instance_core.proofs.laws.orders_have_their_texts.Goals as goal

pub returns : goal.returns
returns c = orders_whole
