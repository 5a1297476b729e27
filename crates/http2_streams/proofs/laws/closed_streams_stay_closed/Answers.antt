use Rattle.http2_streams.proofs.LiveLaw.{live_falls, listed_is_live, idle_is_live}
use Rattle.http2_streams.proofs.laws.closed_streams_stay_closed.Goals as goal

pub returns-clause-falls : goal.returns-clause-falls
returns-clause-falls c = live_falls

pub returns-clause-listed : goal.returns-clause-listed
returns-clause-listed c = listed_is_live

pub returns-clause-idle : goal.returns-clause-idle
returns-clause-idle c = idle_is_live
