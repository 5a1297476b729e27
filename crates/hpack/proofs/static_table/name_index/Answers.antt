use Rattle.hpack.specs.StaticTable.{static_table, name_index}
use Rattle.hpack.proofs.static_table.name_index.Goals as goal

pub returns : goal.returns
unfolding static_table name_index
returns c = c.index_in.ensures
