use Rattle.std.proofs.Common.{◌≡◌, ◌-◌, ◌<◌}
use Rattle.blob_pool.specs.Slots.{Slots}
use Rattle.actions.specs.TreeWalks.{LeadsTo, steps_left}
use Rattle.actions.proofs.tree_walk.TreeWalk.meet_some.Given as goal

abbrev pub invariant-nodes : goal.invariant-nodes
invariant-nodes g l = record {
  root : l.self.root ≡ l.fn.self.root;
  leads : (p : Slots) → LeadsTo (g.F.Finds.found_in p l.view) l.fn.self → LeadsTo (g.F.Finds.found_in p l.view) l.self;
  less : steps_left l.self < steps_left l.fn.self;
}

abbrev pub decreases-nodes : goal.decreases-nodes
decreases-nodes g l = 1000 - l.count
