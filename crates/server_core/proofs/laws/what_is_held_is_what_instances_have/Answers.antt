use Rattle.server_core.proofs.Held.{all_alone}
use Rattle.server_core.proofs.laws.what_is_held_is_what_instances_have.Goals as goal

pub returns : goal.returns
returns c = λ s ls st. all_alone s.instances ls st
