use Rattle.http2_streams.proofs.EventLaw.{live_after_frame}
use Rattle.http2_streams.proofs.laws.the_live_streams_after_a_frame.Goals as goal

pub returns : goal.returns
returns c = live_after_frame
