use Rattle.std.proofs.Common.{◌≡◌, ◌++◌, drop}
use Rattle.grpc_sending.specs.Sources.{sources_in}
use Rattle.grpc_sending.proofs.queue.add_each.Given as goal

abbrev pub invariant-loop-place : goal.invariant-loop-place
invariant-loop-place l = l.sources.items ++ sources_in (drop l.place l.pieces.items) ≡ l.fn.sources.items ++ sources_in l.pieces.items
