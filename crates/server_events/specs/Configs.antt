-- The configurations of a server's instances, and the first fault in a list of them.
use Rattle.std.specs.Prelude.{ℕ, Bool, false, not, ◌&&◌, nat_le, nat_lt, if◌then◌else◌, List, [], ◌∷◌, ◌++◌, length, map, Option, Some, None, is_none, option_map, option_and_then}
use Rattle.std.specs.List.{list_any, position}
use Rattle.std.specs.Option.{option_or, option_map_or}
use Rattle.std.specs.Str.{bytes_eq}
use Rattle.instance_limits.specs.Limits.{LimitsValue}
use Rattle.server_events.specs.Instance.{is_instance_name, quota_limit, slots_limit}
use Rattle.server_events.specs.declared.fault.ConfigFault.{ConfigFault}
use Rattle.server_events.specs.declared.fault.ConfigFault.TheVariants.{BadName, BadQuota, BadSlots, DuplicateName, TooMany, BadParent}

-- an instance: its name, the bytes that it is given, the actions that it may run at once, the numbers
-- that were chosen for it, and the name of the instance on which it builds, if it builds on one
pub record ConfigValue : Type 0 where
  pub name : List ℕ
  pub quota : ℕ
  pub slots : ℕ
  pub limits : LimitsValue
  pub parent : Option (List ℕ)

-- the most instances that a server has
abbrev pub instance_limit : ℕ
instance_limit = 256

abbrev pub is_named_among : List ConfigValue → List ℕ → Bool
is_named_among configs name = list_any (λ config. bytes_eq config.name name) configs

-- the first fault that an instance has which follows these others; its number is how many they are
abbrev pub own_fault : List ConfigValue → ConfigValue → Option ConfigFault
own_fault before config =
    if not (is_instance_name config.name) then Some (BadName (length before))
    else if not (nat_le config.quota quota_limit) then Some (BadQuota (length before))
    else if not (nat_le config.slots slots_limit) then Some (BadSlots (length before))
    else if is_named_among before config.name then Some (DuplicateName (length before))
    else None

-- the first such fault of instances that follow others
abbrev pub first_own_fault : List ConfigValue → List ConfigValue → Option ConfigFault
first_own_fault before [] = None
first_own_fault before (config ∷ configs) =
    option_or (own_fault before config) (first_own_fault (before ++ config ∷ []) configs)

-- one of these instances has the name, and builds on none
abbrev pub names_a_root : List ConfigValue → List ℕ → Bool
names_a_root configs name =
    list_any (λ config. bytes_eq config.name name && is_none config.parent) configs

-- an instance builds on none of these which builds on none itself; so one that names itself does
abbrev pub has_bad_parent : List ConfigValue → ConfigValue → Bool
has_bad_parent configs config =
    option_map_or (λ name. not (names_a_root configs name)) config.parent false

-- the fault of the first instance that has such a parent
abbrev pub first_parent_fault : List ConfigValue → Option ConfigFault
first_parent_fault configs = option_map BadParent (position (has_bad_parent configs) configs)

-- the first fault of the instances of a server
abbrev pub config_fault : List ConfigValue → Option ConfigFault
config_fault configs =
    if nat_lt instance_limit (length configs) then Some TooMany
    else option_or (first_own_fault [] configs) (first_parent_fault configs)

-- ---- parents

-- the number of the instance of a name
abbrev pub number_named : List ConfigValue → List ℕ → Option ℕ
number_named configs name = position (λ config. bytes_eq config.name name) configs

-- the number of the instance on which one builds
abbrev pub parent_of : List ConfigValue → ConfigValue → Option ℕ
parent_of configs config = option_and_then (number_named configs) config.parent

-- and so for each instance, in their order
abbrev pub parents_of : List ConfigValue → List (Option ℕ)
parents_of configs = map (parent_of configs) configs
