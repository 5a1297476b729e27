-- Events of a connection's calls name it.
use Rattle.std.proofs.Common.{refl}
use Rattle.std.specs.Prelude.{ℕ}
use Rattle.conn_core.specs.declared.event.CallEvent.{CallEvent}
use Rattle.conn_core.specs.declared.event.CallEvent.TheVariants as Seen
use Rattle.instance_core.specs.Apart.{IsCallOn}
use Rattle.served_instance.specs.Calls.{call_event_on}

pub event_on : (c : ℕ) (event : CallEvent) → IsCallOn c (call_event_on c event)
event_on c (Seen.Head s method) = refl
event_on c (Seen.Message s bytes) = refl
event_on c (Seen.Fault s refusal) = refl
event_on c (Seen.End s) = refl
event_on c (Seen.Cancel s) = refl
