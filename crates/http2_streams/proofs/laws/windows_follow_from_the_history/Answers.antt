use Rattle.http2_streams.proofs.PutLaw.{window_read}
use Rattle.http2_streams.proofs.laws.windows_follow_from_the_history.Goals as goal

pub returns-clause-left : goal.returns-clause-left
returns-clause-left c = window_read
