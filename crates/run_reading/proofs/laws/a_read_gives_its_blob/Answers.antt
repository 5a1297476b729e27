use Rattle.run_reading.proofs.ReadRuns.{blobs_read}
use Rattle.run_reading.proofs.laws.a_read_gives_its_blob.Goals as goal

pub returns : goal.returns
returns c = λ family events limited narrow. blobs_read family events limited narrow
