use Rattle.uploads.proofs.TableLemmas.{with_shown, whole_with}
use Rattle.uploads.proofs.table.put.Goals as goal

pub returns-clause-ok : goal.returns-clause-ok
returns-clause-ok c = rw c.in_ok-insert.ensures.entries (with_shown c.args.key.now c.args.upload c.args.table.now.entries)

pub returns-clause-whole : goal.returns-clause-whole
returns-clause-whole c = rw c.in_ok-insert.ensures.entries
    (whole_with c.args.key.now c.args.upload c.args.table.now.entries c.requires.whole c.requires.all_whole)
