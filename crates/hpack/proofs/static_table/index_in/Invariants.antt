use Rattle.std.proofs.Common.{◌≡◌, ◌+◌, length, map}
use Rattle.hpack.specs.Shown.{row_shown}
use Rattle.hpack.specs.StaticTable.{name_index_in}
use Rattle.hpack.proofs.static_table.index_in.Given as goal

abbrev pub invariant-rows : goal.invariant-rows
invariant-rows l = record {
  same : name_index_in (map row_shown l.left) l.index l.name ≡ name_index_in (map row_shown l.rows) 1 l.name;
  counted : l.index + length l.left ≡ 1 + length l.rows;
}

abbrev pub decreases-rows : goal.decreases-rows
decreases-rows l = length l.left
