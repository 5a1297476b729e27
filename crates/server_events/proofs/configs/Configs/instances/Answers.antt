use Rattle.server_events.proofs.Chosen.{all_chosen}
use Rattle.server_events.proofs.configs.Configs.instances.Goals as goal

pub returns-clause-limits : goal.returns-clause-limits
returns-clause-limits c = rw (← c.self.view_is) (all_chosen c.self.inside.instances.items)
