use Rattle.hpack.specs.StaticTable.{static_table}
use Rattle.hpack.proofs.static_table.static_entry.Goals as goal

pub returns : goal.returns
unfolding static_table
returns c = c.row_at.ensures
