use Rattle.std.proofs.Common.{rules}
use Rattle.server_events.proofs.NameLemmas.{exact_test}
use Rattle.server_events.proofs.instance.is_instance_name.Goals as goal

pub returns-then-are_name_bytes-clause-exact : goal.returns-then-are_name_bytes-clause-exact
returns-then-are_name_bytes-clause-exact c = exact_test c.args.name.now _ (search rules)

pub returns-else-are_name_bytes-clause-exact : goal.returns-else-are_name_bytes-clause-exact
returns-else-are_name_bytes-clause-exact c = exact_test c.args.name.now _ (search rules)
