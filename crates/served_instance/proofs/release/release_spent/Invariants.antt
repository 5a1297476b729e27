use Rattle.std.proofs.Common.{◌≡◌, length}
use Rattle.conn_core.specs.StandsFor.{Becomes}
use Rattle.served_instance.proofs.Releasing.{IsReleased}
use Rattle.served_instance.proofs.release.release_spent.Given as goal

abbrev pub invariant-sources : goal.invariant-sources
invariant-sources l = record {
  stands : Becomes l.fn.connection (λ p. p) l.connection;
  queues : l.connection.sending.queues ≡ l.fn.connection.sending.queues;
  rest : l.connection ≡ record l.fn.connection { sending = l.connection.sending };
  released : IsReleased l.fn.pool l.fn.connection.sending.spent l.pool l.connection.sending.spent;
}

abbrev pub decreases-sources : goal.decreases-sources
decreases-sources l = length l.connection.sending.spent
