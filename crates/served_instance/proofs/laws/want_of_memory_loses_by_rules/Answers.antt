use Rattle.served_instance.proofs.Losses.{short_loses}
use Rattle.served_instance.proofs.laws.want_of_memory_loses_by_rules.Goals as goal

pub returns : goal.returns
returns c = short_loses
