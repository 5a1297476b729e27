-- Which configurations a server may have, and which fault others have, in words of their own.
use Rattle.std.specs.Prelude.{◌≡◌, ◌≢◌, ◌<◌, ◌≤◌, ◌⊎◌, ℕ, List, ◌∷◌, ◌++◌, length, Contains, Option, Some, None, IfSome}
use Rattle.std.specs.List.{All, AllPairs, slice_get}
use Rattle.server_events.specs.Instance.{IsInstanceName, quota_limit, slots_limit}
use Rattle.server_events.specs.declared.fault.ConfigFault.{ConfigFault}
use Rattle.server_events.specs.declared.fault.ConfigFault.TheVariants.{BadName, BadQuota, BadSlots, DuplicateName, TooMany, BadParent}
use Rattle.server_events.specs.Configs.{ConfigValue, instance_limit}

-- what one instance must have for itself
pub record IsConfig (config : ConfigValue) : Type 0 where
  pub name : IsInstanceName config.name
  pub quota : config.quota ≤ quota_limit
  pub slots : config.slots ≤ slots_limit

-- each instance is good for itself, and no two have one name
pub record AreGood (configs : List ConfigValue) : Type 0 where
  pub each : All IsConfig configs
  pub distinct : AllPairs (λ earlier later. later.name ≢ earlier.name) configs

-- another one of these instances has the name, and builds on none
pub record IsNameOfParent (configs : List ConfigValue) (config : ConfigValue)
    (name : List ℕ) : Type 0 where
  pub parent : ConfigValue
  pub there : Contains configs parent
  pub named : parent.name ≡ name
  pub another : parent.name ≢ config.name
  pub builds_on_none : parent.parent ≡ None

-- an instance builds on none, or on another one of these, which builds on none
abbrev pub BuildsWell : List ConfigValue → ConfigValue → Type 0
BuildsWell configs config = IfSome config.parent (IsNameOfParent configs config)

-- they are not too many, each is good, and each builds on no other or on one that builds on none
pub record AreConfigs (configs : List ConfigValue) : Type 0 where
  pub few : length configs ≤ instance_limit
  pub good : AreGood configs
  pub parents : All (BuildsWell configs) configs

-- the first fault of an instance after others
abbrev pub IsOwnFault : List ConfigValue → ConfigValue → ConfigFault → Type 0
IsOwnFault before config (BadName number) =
    (number ≡ length before) × (¬ (IsInstanceName config.name))
IsOwnFault before config (BadQuota number) =
    (number ≡ length before) × IsInstanceName config.name × (quota_limit < config.quota)
IsOwnFault before config (BadSlots number) =
    (number ≡ length before) × IsInstanceName config.name × (config.quota ≤ quota_limit)
    × (slots_limit < config.slots)
IsOwnFault before config (DuplicateName number) =
    (number ≡ length before) × IsConfig config
    × (¬ (All (λ other. config.name ≢ other.name) before))
IsOwnFault before config TooMany = ⊥
IsOwnFault before config (BadParent number) = ⊥

-- an instance of the list has that fault, and those before it have none
pub record IsFirstFault (configs : List ConfigValue) (fault : ConfigFault) : Type 0 where
  pub front : List ConfigValue
  pub config : ConfigValue
  pub back : List ConfigValue
  pub whole : configs ≡ front ++ config ∷ back
  pub good : AreGood front
  pub bad : IsOwnFault front config fault

-- all are good, and an instance builds on one that it may not build on, and none before it does
pub record IsFirstBadParent (configs : List ConfigValue) (fault : ConfigFault) : Type 0 where
  pub front : List ConfigValue
  pub config : ConfigValue
  pub back : List ConfigValue
  pub whole : configs ≡ front ++ config ∷ back
  pub good : AreGood configs
  pub before : All (BuildsWell configs) front
  pub bad : ¬ (BuildsWell configs config)
  pub number : fault ≡ BadParent (length front)

-- the fault of a list: too many instances, or else the first of an instance by itself and beside
-- those before it, or else the first of a parent
abbrev pub IsFaultOf : List ConfigValue → ConfigFault → Type 0
IsFaultOf configs fault =
    ((fault ≡ TooMany) × (instance_limit < length configs))
    ⊎ ((length configs ≤ instance_limit) × IsFirstFault configs fault)
    ⊎ ((length configs ≤ instance_limit) × IsFirstBadParent configs fault)

-- ---- parents by their numbers

-- the number is that of another one of these instances, which builds on none
pub record IsParentAt (parents : List (Option ℕ)) (child parent : ℕ) : Type 0 where
  pub within : parent < length parents
  pub another : parent ≢ child
  pub builds_on_none : slice_get parents parent ≡ Some None

-- each instance that builds on one builds on another one of these, which builds on none
abbrev pub AreParents : List (Option ℕ) → Type 0
AreParents parents =
    (child parent : ℕ) → slice_get parents child ≡ Some (Some parent) →
    IsParentAt parents child parent
