use Rattle.http2_streams.proofs.EventLaw.{event_on_stream, named_is_opened}
use Rattle.http2_streams.proofs.LiveLaw.{highest_rises}
use Rattle.http2_streams.proofs.laws.events_name_opened_streams.Goals as goal

pub returns-clause-stream : goal.returns-clause-stream
returns-clause-stream c = event_on_stream

pub returns-clause-opened : goal.returns-clause-opened
returns-clause-opened c = named_is_opened

pub returns-clause-rises : goal.returns-clause-rises
returns-clause-rises c = highest_rises
