use Rattle.std.proofs.Common.{◌≡◌, ◌<◌, All, length}
use Rattle.server_core.proofs.Begins.{AreBegun}
use Rattle.server_core.proofs.whole_run.new_records.Given as goal

abbrev pub invariant-loop : goal.invariant-loop
invariant-loop l = record {
  count : length l.records.items ≡ l.counter;
  begun : AreBegun l.counter l.records.items;
  room : All (λ r. r.count < 1) l.records.items;
}
