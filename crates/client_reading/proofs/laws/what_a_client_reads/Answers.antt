use Rattle.client_reading.proofs.Pasts.{past_read}
use Rattle.client_reading.proofs.laws.what_a_client_reads.Goals as goal

pub returns : goal.returns
returns c = past_read
