use Rattle.resource_names.proofs.ReadNames.{read_found, read_only}
use Rattle.resource_names.proofs.laws.a_read_is_named_by_its_written_form.Goals as goal

pub returns-clause-only : goal.returns-clause-only
returns-clause-only c = read_only

pub returns-clause-found : goal.returns-clause-found
returns-clause-found c = read_found
