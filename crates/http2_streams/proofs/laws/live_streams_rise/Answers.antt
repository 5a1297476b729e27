use Rattle.http2_streams.proofs.PutLaw.{live_rises, live_is_opened}
use Rattle.http2_streams.proofs.laws.live_streams_rise.Goals as goal

pub returns-clause-rise : goal.returns-clause-rise
returns-clause-rise c = live_rises

pub returns-clause-opened : goal.returns-clause-opened
returns-clause-opened c = live_is_opened
