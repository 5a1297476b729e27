-- An instance and the one that it builds on, its parent: how the two are configured, and what
-- happens to them. A parent builds on no other itself.
use Rattle.std.specs.Prelude.{◌≤◌, ℕ, ◌==◌, IfSome, false, if◌then◌else◌, List, [], ◌∷◌, Option, None}
use Rattle.std.specs.Option.{option_map_or, option_and_then}
use Rattle.std.specs.List.{slice_get, flat_map}
use Rattle.server_events.specs.Configs.{ConfigValue, parent_of}
use Rattle.server_events.specs.Events.{EventValue, LoneEvent}
use Rattle.server_events.specs.Instance.{quota_limit, slots_limit}
use Rattle.server_events.specs.Limits.{IsLimits}

-- how an instance is configured, and how its parent is, if it has one
pub record Family : Type 0 where
  pub own : ConfigValue
  pub parent : Option ConfigValue

-- of an instance that builds on no other
abbrev pub without_parent : ConfigValue → Family
without_parent config = record { own = config; parent = None }

-- of an instance among these
abbrev pub family_in : List ConfigValue → ConfigValue → Family
family_in configs config =
    record { own = config; parent = option_and_then (slice_get configs) (parent_of configs config) }

-- it is given no more than an instance may be given, and what may be chosen for one
pub record IsLimited (config : ConfigValue) : Type 0 where
  pub quota : config.quota ≤ quota_limit
  pub slots : config.slots ≤ slots_limit
  pub limits : IsLimits config.limits

-- so is its parent
pub record AreLimited (family : Family) : Type 0 where
  pub own : IsLimited family.own
  pub parent : IfSome family.parent IsLimited

-- something happens to an instance, or to its parent
pub data FamilyEvent : Type 0 where
  own_event : LoneEvent → FamilyEvent
  parent_event : LoneEvent → FamilyEvent

abbrev pub event_in : FamilyEvent → LoneEvent
event_in (own_event e) = e
event_in (parent_event e) = e

-- what an event is to the instance of this number with that parent: to others than the two it is
-- nothing
abbrev pub family_event : ℕ → Option ℕ → EventValue → List FamilyEvent
family_event i parent e =
    if e.instance == i then own_event e.lone ∷ []
    else if option_map_or (λ p. e.instance == p) parent false then parent_event e.lone ∷ []
    else []

-- the events of the instance of this number and of its parent, in their common order
abbrev pub family_events : ℕ → Option ℕ → List EventValue → List FamilyEvent
family_events i parent events = flat_map (family_event i parent) events
