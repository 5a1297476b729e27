use Rattle.uploads.proofs.TableLemmas.{at_shown}
use Rattle.uploads.proofs.table.find.Goals as goal

pub returns : goal.returns
returns c = rw c.get.ensures.value (at_shown c.args.key.now c.args.table.now.entries)
