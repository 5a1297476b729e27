use Rattle.std.proofs.Common.{◌≤◌, ◌++◌, length}
use Rattle.std.specs.Prelude.{vec_capacity}
use Rattle.grpc_sending.specs.Sources.{AreSame, sources_in}
use Rattle.grpc_sending.proofs.queue.spend_all.Given as goal

abbrev pub invariant-pieces : goal.invariant-pieces
invariant-pieces l = record {
  same : AreSame (sources_in l.fn.pieces.items ++ l.fn.spent.items) (sources_in l.pieces.items ++ l.spent.items);
  capacity : vec_capacity l.fn.spent ≤ vec_capacity l.spent;
}

abbrev pub decreases-pieces : goal.decreases-pieces
decreases-pieces l = length l.pieces.items
