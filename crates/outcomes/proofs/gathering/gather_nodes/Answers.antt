use Rattle.outcomes.proofs.Walked.{place_next}
use Rattle.outcomes.proofs.gathering.gather_nodes.Goals as goal

pub gather_node-requires : goal.gather_node-requires
gather_node-requires c =
    (place_next c.args.nodes.now c.loop-node.left.now c.in-Some.before.now c.in-Some.node.now c.loop-node.invariant.done c.requires
    c.loop-node.invariant.whole c.in-Some.ensures.cases.0).0
