use Rattle.std.proofs.Common.{◌≡◌, ◌≤◌}
use Rattle.std.specs.VecDeque.{deque_len, deque_capacity}
use Rattle.hpack.specs.Header.{total_size}
use Rattle.hpack.specs.Table.{longest_front}
use Rattle.hpack.proofs.dynamic_table.evict.Given as goal

abbrev pub invariant-entries : goal.invariant-entries
invariant-entries l = record {
  counted : l.left ≡ total_size l.entries.items;
  same : longest_front l.room l.entries.items ≡ longest_front l.room l.fn.entries.items;
  capacity : deque_capacity l.entries ≡ deque_capacity l.fn.entries;
  len : deque_len l.entries ≤ deque_len l.fn.entries;
}

abbrev pub decreases-entries : goal.decreases-entries
decreases-entries l = deque_len l.entries
