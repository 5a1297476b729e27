-- What each instance of a server gives: the run of that instance and of its parent, if it has one,
-- by themselves, over the events of these two alone. `family_events` (Families.antt) are the events
-- that name the one or the other, in order. `run_of_family` (Runs.antt) begins with two instances
-- that nothing has happened to, and takes these events one after another by `lone_step`
-- (served_instance, Refusals.antt): a refused event changes nothing, any other does what Lone.antt
-- of served_instance says. An event of the instance reads the texts that the parent has by then,
-- and nothing else of it; an event of the parent reads nothing of the instance. `output_of_run` is
-- what the instance's part of the run gives: the bytes that were put on each connection, in order
-- of opening, what was ordered of whoever runs jobs (`lone_orders`, Refusals.antt), and which of
-- its own events were refused, and why.
use Rattle.std.specs.Prelude.{ℕ, ◌+◌, nat_lt, if◌then◌else◌, List, [], ◌∷◌, ◌++◌, length, Option}
use Rattle.std.specs.List.{slice_get}
use Rattle.server_events.specs.Configs.{ConfigValue}
use Rattle.server_events.specs.Events.{EventValue}
use Rattle.server_core.specs.Outputs.{InstanceOutputValue}
use Rattle.server_core.specs.Families.{Family, FamilyEvent}
use Rattle.server_core.specs.Runs.{run_of_family, output_of_run}

abbrev pub config_at : ℕ → List ConfigValue → Option ConfigValue
config_at i configs = slice_get configs i

-- what an instance gives: a function of its own and its parent's configuration, and of the events
-- of both
abbrev pub lone_output : Family → List FamilyEvent → InstanceOutputValue
lone_output family events = output_of_run (run_of_family family events).own

-- the place of an event, if it names none of so many instances
abbrev pub stray_at : ℕ → ℕ → EventValue → List ℕ
stray_at place count e = if nat_lt e.instance count then [] else place ∷ []

-- the places, among all events and from 1, of those that name no instance
abbrev pub strays_from : ℕ → ℕ → List EventValue → List ℕ
strays_from place count [] = []
strays_from place count (e ∷ es) = stray_at place count e ++ strays_from (place + 1) count es

abbrev pub strays : List ConfigValue → List EventValue → List ℕ
strays configs events = strays_from 1 (length configs) events
