use Rattle.std.proofs.Common.{◌≡◌, ◌≤◌, ◌<◌, ◌+◌, ◌*◌, ◌^◌, length}
use Rattle.std.specs.List.Sorted.{IsNonDecreasing}
use Rattle.blob_pool.specs.Alone.{bytes_alone, holders_at}
use Rattle.blob_pool.proofs.alone.bytes_alone.Given as goal

-- the bytes so far, and those that the holders that are left have alone
abbrev pub invariant-texts : goal.invariant-texts
invariant-texts l = record {
  rising : IsNonDecreasing l.rest;
  sum : l.bytes + bytes_alone (holders_at l.rest) 0 l.slots.slots ≡ bytes_alone (holders_at l.fn.holders.items) 0 l.slots.slots;
  few : l.bytes + 2 ^ 48 * length l.rest ≤ 2 ^ 112;
  size : length l.rest * 8 < 2 ^ 63;
}

abbrev pub decreases-texts : goal.decreases-texts
decreases-texts l = length l.rest
