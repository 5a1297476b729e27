use Rattle.std.proofs.Common.{◌≡◌, ℕ, length, List}
use Rattle.blob_pool.specs.Slots.{Slots}
use Rattle.instance_core.specs.Visible.{Blob}
use Rattle.instance_core.specs.State.{seeing}
use Rattle.instance_core.specs.Slots.{state_in, holders_of_instance, IsInstanceInPool}
use Rattle.served_instance.specs.declared.open_connection.OpenConnection.{OpenConnection}
use Rattle.served_instance.specs.Lone.{after_call_events}
use Rattle.served_instance.specs.Acts.{LeadsOn, cancels_of}
use Rattle.served_instance.proofs.calls.give_up.Given as goal

abbrev pub invariant-calls : goal.invariant-calls
invariant-calls l = record {
  leads : (p : Slots) (seen : List Blob) (others : List OpenConnection) →
      LeadsOn (seeing seen (state_in p l.fn.instance)) others (seeing seen (state_in p l.instance)) others
      (after_call_events l.number (cancels_of l.initial.closed)) (after_call_events l.number (cancels_of l.closed));
  holders : (k : ℕ) → holders_of_instance l.instance k ≡ holders_of_instance l.fn.instance k;
  kept : (p : Slots) → IsInstanceInPool p l.fn.instance → IsInstanceInPool p l.instance;
}

abbrev pub decreases-calls : goal.decreases-calls
decreases-calls l = length l.closed.calls
