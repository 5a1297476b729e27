use Rattle.std.proofs.Common.{◌≤◌, vec_len}
use Rattle.tool_programs.proofs.Steps.{IsSoFar}
use Rattle.tool_programs.proofs.probing.exchange.Given as goal

abbrev pub invariant-loop : goal.invariant-loop
invariant-loop g l =
    IsSoFar l.request.bytes.now l.unsent l.received.items (g.W.Write.contents l.fn.to_peer) (g.W.Write.contents l.to_peer)
    (g.R.Read.remaining l.fn.from_peer) (g.R.Read.remaining l.from_peer)
    × (vec_len l.received ≤ l.request.want)
