use Rattle.std.proofs.Common.{◌≡◌, map, length}
use Rattle.served_instance.specs.Lent.{IsSameLoan}
use Rattle.served_instance.specs.Ranges.{Releases}
use Rattle.served_instance.specs.Shown.{connection_shown}
use Rattle.served_instance.proofs.lent.Lent.break_off_all.Given as goal

abbrev pub invariant-connections : goal.invariant-connections
invariant-connections l = record {
  same : IsSameLoan l.fn.self l.self;
  parent : l.self.parent.now ≡ l.fn.self.parent.now;
  instance : l.self.instance.now ≡ l.fn.self.instance.now;
  releases : Releases l.fn.self.pool.now (map connection_shown l.fn.self.connections.now.items)
      l.self.pool.now (map connection_shown l.self.connections.now.items);
}

abbrev pub decreases-connections : goal.decreases-connections
decreases-connections l = length l.self.connections.now.items
