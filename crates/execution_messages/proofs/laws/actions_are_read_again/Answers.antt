use Rattle.execution_messages.proofs.ActionsAgain.{duration_again, action_again, command_again}
use Rattle.execution_messages.proofs.laws.actions_are_read_again.Goals as goal

pub returns-clause-duration : goal.returns-clause-duration
returns-clause-duration c = duration_again

pub returns-clause-action : goal.returns-clause-action
returns-clause-action c = action_again

pub returns-clause-command : goal.returns-clause-command
returns-clause-command c = command_again
