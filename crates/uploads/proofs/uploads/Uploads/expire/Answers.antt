use Rattle.uploads.proofs.ListLemmas.{within_unexpired}
use Rattle.uploads.proofs.uploads.Uploads.expire.Goals as goal

pub returns-clause-within : goal.returns-clause-within
returns-clause-within c quota h = rw c.expire.ensures.left (rw c.self.view_is (within_unexpired quota c.args.moment c.args.self.now h))
