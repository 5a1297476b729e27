-- What holds of all that an instance gives in a run.
use Rattle.std.specs.Prelude.{◌≡◌, ℕ, List, [], ◌∷◌, ◌++◌, map, None}
use Rattle.std.specs.List.{AllByRecursion}
use Rattle.execution.specs.Orders.{OrderValue}
use Rattle.instance_core.specs.Jobs.{IsWholeOrder}
use Rattle.instance_core.specs.NamedReplies.{ServesNamed}
use Rattle.instance_core.specs.State.{IsInstanceWithin}
use Rattle.server_events.specs.Events.{LoneEvent}
use Rattle.served_instance.specs.Lone.{sent_bytes_on}
use Rattle.served_instance.specs.Refusals.{refusal_of}
use Rattle.served_instance.specs.StandsFor.{AreSettled}
use Rattle.server_core.specs.Families.{Family, FamilyEvent, own_event}
use Rattle.server_core.specs.LoneOutput.{lone_output}
use Rattle.server_core.specs.Runs.{run_of_family}
use Rattle.run_reading.specs.Replies.{run_connections, run_given_items, run_state, AreConnectionsRead}
use Rattle.run_reading.specs.Named.{run_answered_events, GivesNamed}
use Rattle.run_reading.specs.ReadsBlob.{ReadsBlobsAskedFor}

-- behind each of its events that was accepted the instance's open connections are settled
abbrev pub IsSettledThroughout : Family → List FamilyEvent → Type 0
IsSettledThroughout family events =
    (before after : List FamilyEvent) (e : LoneEvent) → events ≡ before ++ own_event e ∷ after
    → refusal_of e (run_of_family family before).own.lone ≡ None
    → AreSettled (run_of_family family (before ++ own_event e ∷ [])).own.lone

-- of an instance with its parent, to which these events happen
pub record GivesWell (family : Family) (events : List FamilyEvent) : Type 0 where
  -- the bytes that it gives are those that were put on these connections
  pub sent : (lone_output family events).sent ≡ map sent_bytes_on (run_connections family events)
  -- on each of which the client reads what was given to its streams
  pub read : AreConnectionsRead family.own.limits.window 0 (run_given_items family events)
      (run_connections family events)
  -- that is what the instance answers, from the state in which it was opened
  pub state : (run_of_family family events).own.lone.state ≡ run_state family events
  -- each blob is named by the digest that was asked for
  pub answers : AllByRecursion ServesNamed (run_answered_events family events)
  pub streams : AllByRecursion GivesNamed (run_given_items family events)
  -- what is ordered to be run has what it needs
  pub orders :
      AllByRecursion (λ (o : ℕ × OrderValue). IsWholeOrder o.1) (lone_output family events).orders
  pub settled : IsSettledThroughout family events
  -- and who asks for a blob reads a beginning of a refusal, or of the bytes of that blob
  pub blobs : ReadsBlobsAskedFor family events
  pub within : IsInstanceWithin (run_of_family family events).own.lone.state
