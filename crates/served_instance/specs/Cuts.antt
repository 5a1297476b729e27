-- What events leave where memory is refused. For the code alone, but for `broken_by`, which the
-- code and the record of a run name.
use Rattle.std.specs.Prelude.{◌≡◌, ◌==◌, if◌then◌else◌, ℕ, List, [], ◌∷◌}
use Rattle.grpc_sending.specs.StoredSending.{SourceTexts}
use Rattle.instance_core.specs.Apart.{calls_apart}
use Rattle.job_queue.specs.Jobs.{running_job}
use Rattle.instance_core.specs.Answer.{ending_changes, state_after}
use Rattle.instance_core.specs.Calls.{CallEventValue, tick as time_passes}
use Rattle.instance_core.specs.Changes.{MadeInPart}
use Rattle.instance_core.specs.State.{InstanceState}
use Rattle.blob_pool.specs.Slots.{Slots, text_at}
use Rattle.instance_core.specs.Slots.{state_in}
use Rattle.server_events.specs.Events.{WhatValue, opened, received, took, closed, tick, ended}
use Rattle.served_instance.specs.declared.open_connection.OpenConnection.{OpenConnection}
use Rattle.served_instance.specs.Lone.{LoneInstance}
use Rattle.served_instance.specs.Acts.{StandsBy, FindAlike, HoldAlike}
use Rattle.served_instance.specs.Events.{bytes_events}
use Rattle.served_instance.specs.Lent.{GoesOn, LentValue, lent_state}
use Rattle.served_instance.specs.Present.{IsPlaceOf, StayInPlace}
use Rattle.served_instance.specs.Short.{IsCutShort, without_job}
use Rattle.served_instance.specs.declared.broken.Broken.{Broken}
use Rattle.served_instance.specs.declared.broken.Broken.TheVariants.{Nothing, One, All, AllAndJob}

-- the other connections
abbrev pub others_of : ℕ → List OpenConnection → List OpenConnection
others_of c [] = []
others_of c (o ∷ os) = if o.number == c then os else o ∷ others_of c os

-- they are as they were
abbrev pub KeepsOthers : ℕ → List OpenConnection → List OpenConnection → Type 0
KeepsOthers c os ns = others_of c ns ≡ others_of c os

-- their ranges find the texts in the one pool that they found in the other
abbrev pub OthersFindAlike : ℕ → Slots → Slots → List OpenConnection → Type 0
OthersFindAlike c p q os = FindAlike p q (others_of c os)

-- what is done for a connection leaves the others, and the places of all
pub record KeepsApart (c : ℕ) (a b : LentValue) : Type 0 where
  pub others : KeepsOthers c a.connections b.connections
  pub finds : OthersFindAlike c a.pool b.pool a.connections
  pub places : StayInPlace a.connections b.connections

-- the connection at a place took a step that holds no other sources
pub record StepsAt (place : ℕ) (os ns : List OpenConnection) : Type 0 where
  pub holds : HoldAlike os ns
  pub others : (c : ℕ) → IsPlaceOf c place os → KeepsOthers c os ns
  pub places : StayInPlace os ns

-- of these events of calls a front was carried out
abbrev pub CutsShortBy : SourceTexts → InstanceState → List OpenConnection → InstanceState →
    (LoneInstance → List CallEventValue) → Type 0
CutsShortBy texts s os t events =
    (l : LoneInstance) → StandsBy texts s os l → IsCutShort (events l) l.state t

abbrev pub CutsShort : LentValue → LentValue → (LoneInstance → List CallEventValue) → Type 0
CutsShort a b events =
    CutsShortBy (text_at a.pool) (lent_state a) a.connections (lent_state b) events

-- they are where a front of these leaves the same as a front of those
abbrev pub CutLeadsBy : SourceTexts → InstanceState → List OpenConnection → SourceTexts →
    InstanceState → List OpenConnection → (LoneInstance → List CallEventValue) →
    (LoneInstance → List CallEventValue) → Type 0
CutLeadsBy texts s os others t ns before after =
    (l : LoneInstance) → StandsBy texts s os l →
    (k : LoneInstance) × StandsBy others t ns k
    × ((u : InstanceState) → IsCutShort (after k) k.state u → IsCutShort (before l) l.state u)

abbrev pub CutLeads : LentValue → LentValue → (LoneInstance → List CallEventValue) →
    (LoneInstance → List CallEventValue) → Type 0
CutLeads a b before after =
    CutLeadsBy (text_at a.pool) (lent_state a) a.connections
    (text_at b.pool) (lent_state b) b.connections before after

-- ---- by the kind of the event

-- what was done of an event, before anything is broken off
abbrev pub CutsAct : WhatValue → LentValue → LentValue → Type 0
CutsAct (received c bytes) a b = CutsShort a b (bytes_events c bytes)
CutsAct tick a b = lent_state b ≡ state_after (lent_state a) time_passes
CutsAct (ended job outcome) a b =
    let s = lent_state a in
    MadeInPart (ending_changes s outcome (running_job job s.jobs)) s (lent_state b)
CutsAct what a b = lent_state b ≡ lent_state a

-- what want of memory breaks off: the connection whose bytes came, or all, and with an outcome its
-- job
abbrev pub broken_by : WhatValue → Broken
broken_by (opened c) = Nothing
broken_by (received c bytes) = One c
broken_by (took c n) = Nothing
broken_by (closed c) = Nothing
broken_by tick = All
broken_by (ended job outcome) = AllAndJob job

abbrev pub others_by : Broken → List OpenConnection → List OpenConnection
others_by Nothing os = os
others_by (One c) os = others_of c os
others_by All os = []
others_by (AllAndJob n) os = []

-- those that an event leaves that was refused for want of memory
abbrev pub others_than : WhatValue → List OpenConnection → List OpenConnection
others_than what os = others_by (broken_by what) os

-- without the calls on the connections, and without the job
abbrev pub state_without : Broken → InstanceState → InstanceState
state_without Nothing s = s
state_without (One c) s = record s { calls = calls_apart c s.calls }
state_without All s = record s { calls = [] }
state_without (AllAndJob n) s = without_job n (record s { calls = [] })

-- memory was refused in the midst of an event
pub record IsCut (what : WhatValue) (a b : LentValue) : Type 0 where
  pub acts : CutsAct what a b
  pub others : others_than what b.connections ≡ others_than what a.connections
  pub finds : FindAlike a.pool b.pool (others_than what a.connections)

-- what that breaks off is gone
pub record LosesBroken (broken : Broken) (a b : LentValue) : Type 0 where
  pub left : b.connections ≡ others_by broken a.connections
  pub forgotten : state_in b.pool b.instance ≡ state_without broken (state_in a.pool a.instance)
  pub finds : FindAlike a.pool b.pool b.connections
  pub goes : GoesOn a b
