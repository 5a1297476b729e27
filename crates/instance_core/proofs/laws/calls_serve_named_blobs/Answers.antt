use Rattle.instance_core.proofs.NamedReplies.{serves_named}
use Rattle.instance_core.proofs.laws.calls_serve_named_blobs.Goals as goal

pub returns : goal.returns
returns c = serves_named
