use Rattle.conn_core.proofs.Left.{left_calls, left_cancels}
use Rattle.conn_core.proofs.laws.calls_on_live_streams.Goals as goal

pub returns-clause-calls : goal.returns-clause-calls
returns-clause-calls c = left_calls

pub returns-clause-cancels : goal.returns-clause-cancels
returns-clause-cancels c = left_cancels
