use Rattle.serve.proofs.Did.{did, came, alone, sent}
use Rattle.serve.proofs.laws.what_serve_did.Goals as goal

pub returns : goal.returns
returns c = record { did = did; came = came; alone = alone; sent = sent }
