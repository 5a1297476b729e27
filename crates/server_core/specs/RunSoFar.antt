-- A run of a server so far.
use Rattle.std.specs.Prelude.{◌≡◌, ◌<◌, ◌+◌, ℕ, List, All, Option, Some, length}
use Rattle.std.specs.List.{AllByRecursion}
use Rattle.server_events.specs.Configs.{ConfigValue, parent_of, parents_of}
use Rattle.server_events.specs.Faults.{AreParents}
use Rattle.server_events.specs.Events.{EventValue}
use Rattle.served_instance.specs.StandsFor.{IsServedWithin}
use Rattle.server_core.specs.Families.{Family, FamilyEvent, family_in, family_events}
use Rattle.server_core.specs.Runs.{run_of_family}
use Rattle.server_core.specs.Marked.{MarkedRun}
use Rattle.server_core.specs.Records.{RecordValue}
use Rattle.server_core.specs.LoneOutput.{config_at, strays}
use Rattle.server_core.specs.RunTo.{HasFamilyRun}
use Rattle.server_core.specs.StandsFor.{ServerState}

-- the server, what is noted of each instance, the places of the events that name none, and how many
-- events there were
pub record RunValue : Type 0 where
  pub server : ServerState
  pub records : List RecordValue
  pub strays : List ℕ
  pub count : ℕ

-- a run to which these events happened, of instances with these configurations: each instance has
-- come as far as it would have with its parent alone
pub record HasTaken (configs : List ConfigValue) (events : List EventValue)
    (v : RunValue) : Type 0 where
  pub many : length v.server.instances ≡ length configs
  pub count : v.count ≡ length events
  pub parents : v.server.parents ≡ parents_of configs
  pub alone : (i : ℕ) (config : ConfigValue) → config_at i configs ≡ Some config
      → HasFamilyRun i (parent_of configs config) v.server.instances v.records
      (run_of_family (family_in configs config)
      (family_events i (parent_of configs config) events))
  pub strays : v.strays ≡ strays configs events

-- the instance of this number with this parent has come as far as a run of these events of the two
-- by themselves, of which some may be marked
pub record HasCome (family : Family) (events : List FamilyEvent) (i : ℕ) (parent : Option ℕ)
    (v : RunValue) : Type 0 where
  pub came : MarkedRun family events
  pub there : HasFamilyRun i parent v.server.instances v.records came.run

-- a run to which these events happened, of which some may have been refused for want of memory:
-- each instance has come as far as such a run
pub record HasPassed (configs : List ConfigValue) (events : List EventValue)
    (v : RunValue) : Type 0 where
  pub many : length v.server.instances ≡ length configs
  pub count : v.count ≡ length events
  pub parents : v.server.parents ≡ parents_of configs
  pub own : (i : ℕ) (config : ConfigValue) → config_at i configs ≡ Some config
      → HasCome (family_in configs config) (family_events i (parent_of configs config) events)
      i (parent_of configs config) v
  pub strays : v.strays ≡ strays configs events

-- each of the server's instances keeps its limits and has a record, which counts no more events
-- than there were; and each parent is another instance, which has none
pub record IsRunning (v : RunValue) : Type 0 where
  pub within : AllByRecursion IsServedWithin v.server.instances
  pub parents : AreParents v.server.parents
  pub each : length v.records ≡ length v.server.instances
  pub room : All (λ r. r.count < v.count + 1) v.records
