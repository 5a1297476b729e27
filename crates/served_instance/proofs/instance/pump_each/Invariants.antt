use Rattle.blob_pool.specs.Slots.{text_at}
use Rattle.served_instance.specs.Acts.{HoldAlike}
use Rattle.served_instance.proofs.Serves.{ArePumped}
use Rattle.served_instance.proofs.instance.pump_each.Given as goal

abbrev pub invariant-loop-kept : goal.invariant-loop-kept
invariant-loop-kept l = record {
  pumped : ArePumped (text_at l.pool) l.kept-index l.fn.connections l.connections;
  holds : HoldAlike l.fn.connections l.connections;
}
