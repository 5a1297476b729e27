use Rattle.hpack.proofs.Lookups.{copied_get}
use Rattle.hpack.proofs.dynamic_table.dynamic_entry.Goals as goal

pub returns : goal.returns
returns c = copied_get c.get.result c.args.entries.now.items c.args.place c.get.ensures.item
