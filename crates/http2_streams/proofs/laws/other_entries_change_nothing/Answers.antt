use Rattle.http2_streams.proofs.PutLaw.{no_matter}
use Rattle.http2_streams.proofs.laws.other_entries_change_nothing.Goals as goal

pub returns : goal.returns
returns c = no_matter
