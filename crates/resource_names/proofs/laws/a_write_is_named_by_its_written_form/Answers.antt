use Rattle.resource_names.proofs.WriteNames.{write_found, write_only}
use Rattle.resource_names.proofs.laws.a_write_is_named_by_its_written_form.Goals as goal

pub returns-clause-only : goal.returns-clause-only
returns-clause-only c = write_only

pub returns-clause-found : goal.returns-clause-found
returns-clause-found c = write_found
