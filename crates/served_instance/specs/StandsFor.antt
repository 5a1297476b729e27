-- What is kept of an instance stands for all that happened to it by itself.
use Rattle.std.specs.Prelude.{◌≡◌, ◌≤◌, ℕ, List, [], ◌∷◌, length}
use Rattle.std.specs.List.{AllByRecursion, flat_map}
use Rattle.grpc_sending.specs.Settled.{IsSettled}
use Rattle.grpc_sending.specs.Owed.{ranges_left}
use Rattle.grpc_sending.specs.StandsFor.{Sending}
use Rattle.grpc_sending.specs.StoredSending.{SourceTexts}
use Rattle.conn_core.specs.StandsFor.{ConnectionValue, IsConnection, IsSeen}
use Rattle.instance_core.specs.State.{InstanceState, IsInstanceWithin}
use Rattle.instance_core.specs.Watching.{WatchAtRest}
use Rattle.served_instance.specs.Connections.{LoneConnection, open_ones}
use Rattle.served_instance.specs.Lone.{LoneInstance}
use Rattle.served_instance.specs.declared.instance.TheConstants.{CONNECTION_LIMIT}

-- an open connection and its number
pub record ServedConnection : Type 0 where
  pub number : ℕ
  pub connection : ConnectionValue

-- .. as it is seen: what is to be sent stands beside the rest, with the messages of each range
pub record SeenConnection : Type 0 where
  pub number : ℕ
  pub connection : ConnectionValue
  pub sending : Sending

pub record ServedState : Type 0 where
  pub state : InstanceState
  -- the open connections, in order of opening
  pub connections : List SeenConnection
  -- the text of each range that is held
  pub ranges : List (List ℕ)

-- with these texts of the sources of their ranges
abbrev pub AreServed : SourceTexts → List ServedConnection → List LoneConnection → Type 0
AreServed texts [] [] = Unit {0}
AreServed texts (v ∷ vs) (k ∷ ks) =
    (v.number ≡ k.number) × IsConnection texts v.connection k.past × AreServed texts vs ks
AreServed texts vs ks = ⊥

abbrev pub AreSeen : List SeenConnection → List LoneConnection → Type 0
AreSeen [] [] = Unit {0}
AreSeen (v ∷ vs) (k ∷ ks) =
    (v.number ≡ k.number) × IsSeen v.sending v.connection k.past × AreSeen vs ks
AreSeen vs ks = ⊥

-- the text of each range that a connection is owed and that is not wholly put: of live streams,
-- while no error of the connection was met
abbrev pub ranges_left_of : LoneConnection → List (List ℕ)
ranges_left_of k = ranges_left k.past.history k.past.owed

-- .. of all open connections
abbrev pub lone_ranges : LoneInstance → List (List ℕ)
lone_ranges l = flat_map ranges_left_of (open_ones l.connections)

pub record IsServedInstance (v : ServedState) (l : LoneInstance) : Type 0 where
  pub state : v.state ≡ l.state
  pub connections : AreSeen v.connections (open_ones l.connections)
  -- a range is held until it is wholly put or its stream is over, once, and nothing else is
  pub ranges : v.ranges ≡ lone_ranges l
  -- nobody watches a job that waits though it could run
  pub watched : WatchAtRest l.state

-- the limits that a served instance keeps
pub record IsServedWithin (v : ServedState) : Type 0 where
  pub instance : IsInstanceWithin v.state
  pub connections : length v.connections ≤ CONNECTION_LIMIT

-- nothing more can be put on an open connection
abbrev pub IsSettledConnection : LoneConnection → Type 0
IsSettledConnection k = IsSettled k.past.history k.past.owed

abbrev pub AreSettled : LoneInstance → Type 0
AreSettled l = AllByRecursion IsSettledConnection (open_ones l.connections)
