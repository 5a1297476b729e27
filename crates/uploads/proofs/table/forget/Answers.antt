use Rattle.uploads.proofs.TableLemmas.{without_shown, whole_without}
use Rattle.uploads.proofs.table.forget.Goals as goal

pub returns-clause-forgotten : goal.returns-clause-forgotten
returns-clause-forgotten c = rw c.shift_remove.ensures.entries (without_shown c.args.key.now c.args.table.now.entries)

pub returns-clause-whole : goal.returns-clause-whole
returns-clause-whole c = rw c.shift_remove.ensures.entries (whole_without c.args.key.now c.args.table.now.entries c.requires.whole)
