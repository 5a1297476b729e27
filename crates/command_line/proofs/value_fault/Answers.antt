use Rattle.command_line.proofs.Faults.{bad_value_is_fault}
use Rattle.command_line.proofs.value_fault.Goals as goal

pub returns-in-Ok : goal.returns-in-Ok
returns-in-Ok c = λ words none. bad_value_is_fault words _ _ c.in-Ok.ensures none c.from.ensures
