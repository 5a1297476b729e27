-- What each part of the code does, in terms of what it keeps and of what that stands for. For the
-- code alone: no public contract speaks of it.
use Rattle.std.specs.Prelude.{◌≡◌, ◌<◌, ℕ, ◌==◌, if◌then◌else◌, Bool, IsTrue, List, [], ◌∷◌, length, map, Option, Some, None, option_map, OnSome}
use Rattle.std.specs.Option.{option_map_or}
use Rattle.conn_core.specs.declared.event.CallEvent.{CallEvent}
use Rattle.conn_core.specs.declared.event.CallEvent.TheVariants.{Cancel}
use Rattle.conn_core.specs.Past.{Past}
use Rattle.conn_core.specs.StandsFor.{ConnectionValue, IsConnection, Becomes, PopsOne, ReadsOneFrame, unread_length, live_calls}
use Rattle.grpc_sending.specs.StoredSending.{SourceTexts, AgreeOn, new_stored_sending}
use Rattle.instance_core.specs.State.{InstanceState}
use Rattle.served_instance.specs.declared.open_connection.OpenConnection.{OpenConnection}
use Rattle.served_instance.specs.Connections.{open_at, open_ones}
use Rattle.served_instance.specs.Lone.{LoneInstance, after_reading_on, effect_of, orders_of_what}
use Rattle.served_instance.specs.StandsFor.{AreServed}
use Rattle.served_instance.specs.Places.{connection_at}
use Rattle.served_instance.specs.Ranges.{AllKeepRanges, sources_at}
use Rattle.served_instance.specs.Slots.{ServedSlots}
use Rattle.std.specs.declared.alloc.Global.{Global}
use Rattle.std.specs.declared.vec.Vec.{Vec}
use Rattle.execution.specs.declared.orders.Order.{Order}
use Rattle.instance_core.specs.Slots.{InstanceSlots, state_in}
use Rattle.instance_core.specs.Turns.{AreOrders}
use Rattle.instance_core.specs.Watching.{WatchAtRest}
use Rattle.server_events.specs.Events.{WhatValue}
use Rattle.blob_pool.specs.Slots.{Slots, text_at}
use Rattle.served_instance.specs.Lent.{LentValue, lent_state}
use Rattle.served_instance.specs.Shown.{connection_shown}

-- ---- one connection

-- the connection of number c
abbrev pub present_at : ℕ → List OpenConnection → Option ConnectionValue
present_at c os = connection_at c (map connection_shown os)

-- it has become w
abbrev pub with_present : ℕ → ConnectionValue → List OpenConnection → List OpenConnection
with_present c w [] = []
with_present c w (o ∷ os) =
    if o.number == c then record o { connection = w } ∷ os else o ∷ with_present c w os

abbrev pub BecomesFrom : Option ConnectionValue → ℕ → List OpenConnection → List OpenConnection →
    (ConnectionValue → ConnectionValue → Type 0) → Type 0
BecomesFrom None c os ns R = ns ≡ os
BecomesFrom (Some v) c os ns R = (w : ConnectionValue) × (ns ≡ with_present c w os) × R v w

-- what became of the connection of number c, if there is one; the others stayed as they were
abbrev pub BecomesAt : ℕ → List OpenConnection → List OpenConnection →
    (ConnectionValue → ConnectionValue → Type 0) →
    Type 0
BecomesAt c os ns R = BecomesFrom (present_at c os) c os ns R

-- this step
abbrev pub TakesStep : (Past → Past) → ConnectionValue → ConnectionValue → Type 0
TakesStep step v w = Becomes v step w

-- nothing else than what is to be sent has changed
abbrev pub SendsMore : ConnectionValue → ConnectionValue → Type 0
SendsMore v w = w ≡ record v { sending = w.sending }

-- this step, which reads the texts of sources
pub record Owes (step : SourceTexts → Past → Past) (v w : ConnectionValue) : Type 0 where
  pub taken : (texts : SourceTexts) (p : Past) → IsConnection texts v p →
      IsConnection texts w (step texts p)
  pub rest : SendsMore v w

pub record Pops (given : Option CallEvent) (v w : ConnectionValue) : Type 0 where
  pub event : PopsOne v given w
  pub fewer : OnSome given (length w.due < length v.due)
  pub rest : w ≡ record v { due = w.due }

pub record ReadsFrame (more : Bool) (v w : ConnectionValue) : Type 0 where
  pub frame : ReadsOneFrame v more w
  pub fewer : IsTrue more → unread_length w < unread_length v

-- ---- measures

abbrev pub due_count : ℕ → List OpenConnection → ℕ
due_count c os = option_map_or (λ v. length v.due) (present_at c os) 0

abbrev pub unread_at : ℕ → List OpenConnection → ℕ
unread_at c os = option_map_or unread_length (present_at c os) 0

-- ---- an instance and its connections

-- they stand for this, with these texts of the sources of ranges
pub record StandsBy (texts : SourceTexts) (s : InstanceState) (os : List OpenConnection)
    (l : LoneInstance) : Type 0 where
  pub state : s ≡ l.state
  pub connections : AreServed texts (map connection_shown os) (open_ones l.connections)

-- they take this step, by these texts before and by others afterwards
abbrev pub ActsBy : SourceTexts → InstanceState → List OpenConnection → SourceTexts →
    InstanceState →
    List OpenConnection → (LoneInstance → LoneInstance) → Type 0
ActsBy texts s os others t ns step =
    (l : LoneInstance) → StandsBy texts s os l → StandsBy others t ns (step l)

-- .. whatever the texts are
abbrev pub Acts : InstanceState → List OpenConnection → InstanceState → List OpenConnection →
    (LoneInstance → LoneInstance) → Type 0
Acts s os t ns step = (texts : SourceTexts) → ActsBy texts s os texts t ns step

-- .. by those of a pool
abbrev pub ActsIn : LentValue → LentValue → (LoneInstance → LoneInstance) → Type 0
ActsIn a b step =
    ActsBy (text_at a.pool) (lent_state a) a.connections
    (text_at b.pool) (lent_state b) b.connections step

abbrev pub LentStands : LentValue → LoneInstance → Type 0
LentStands a l = StandsBy (text_at a.pool) (lent_state a) a.connections l

abbrev pub without_sending : ConnectionValue → ConnectionValue
without_sending v = record v { sending = new_stored_sending }

-- .. behind an event, before which nobody watched a job that waits though it could run
abbrev pub ActsAtRest : LentValue → LentValue → (LoneInstance → LoneInstance) → Type 0
ActsAtRest a b step =
    (l : LoneInstance) → WatchAtRest l.state → LentStands a l → LentStands b (step l)

-- the orders are those of an event of this kind
abbrev pub HasOrdersOf : LentValue → LentValue → WhatValue → Vec Order Global → Type 0
HasOrdersOf a b what orders =
    (l : LoneInstance) → LentStands a l →
    AreOrders (state_in b.pool b.instance).jobs orders.items (orders_of_what what l)

-- an event of this kind was carried out
pub record IsDone (what : WhatValue) (a b : LentValue) (given : Vec Order Global) : Type 0 where
  pub acts : ActsAtRest a b (effect_of what)
  pub orders : HasOrdersOf a b what given

-- an instance with its connections, as the code keeps it
abbrev pub slots_of : InstanceSlots → List OpenConnection → ServedSlots
slots_of i os = record { instance = i; connections = map connection_shown os }

-- each range finds the text in the one pool that it found in the other
abbrev pub FindAlike : Slots → Slots → List OpenConnection → Type 0
FindAlike p q os = AgreeOn (sources_at (map connection_shown os)) (text_at p) (text_at q)

-- the same sources of ranges are held
abbrev pub HoldAlike : List OpenConnection → List OpenConnection → Type 0
HoldAlike os ns = AllKeepRanges (map connection_shown os) (map connection_shown ns)

-- nothing else than what is to be sent has changed
abbrev pub Keeps : List OpenConnection → List OpenConnection → Type 0
Keeps os ns =
    (c : ℕ) → option_map without_sending (present_at c ns)
    ≡ option_map without_sending (present_at c os)

-- they are at a state from which this leads to the same
abbrev pub LeadsBy : SourceTexts → InstanceState → List OpenConnection → SourceTexts →
    InstanceState →
    List OpenConnection → (LoneInstance → LoneInstance) → (LoneInstance → LoneInstance) → Type 0
LeadsBy texts s os others t ns before after =
    (l : LoneInstance) → StandsBy texts s os l →
    (k : LoneInstance) × StandsBy others t ns k × (after k ≡ before l)

-- .. whatever the texts are
abbrev pub LeadsOn : InstanceState → List OpenConnection → InstanceState → List OpenConnection →
    (LoneInstance → LoneInstance) → (LoneInstance → LoneInstance) → Type 0
LeadsOn s os t ns before after = (texts : SourceTexts) → LeadsBy texts s os texts t ns before after

-- .. by those of a pool
abbrev pub LeadsIn : LentValue → LentValue → (LoneInstance → LoneInstance) →
    (LoneInstance → LoneInstance) → Type 0
LeadsIn a b before after =
    LeadsBy (text_at a.pool) (lent_state a) a.connections
    (text_at b.pool) (lent_state b) b.connections before after

-- all that was received on connection c and not read yet is read
abbrev pub after_rest_on : ℕ → LoneInstance → LoneInstance
after_rest_on c l = after_reading_on c l (open_at c l.connections)

abbrev pub cancels_of : ConnectionValue → List CallEvent
cancels_of v = map Cancel (live_calls v)
