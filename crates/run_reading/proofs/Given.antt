-- A server's configurations have no fault, so what is supposed of a family holds of each; and what
-- is given in a run.
use Rattle.std.proofs.Common.{◌≡◌, ℕ, List, [], ◌∷◌, ◌++◌, refl, subst, get_or}
use Rattle.std.specs.Prelude.{Bool, false, cond, ◌==◌, map, IfSome, Option, Some, None}
use Rattle.std.specs.Option.{option_and_then, option_map_or}
use Rattle.std.specs.List.{All, AllByRecursion, slice_get}
use Rattle.std.proofs.lemmas.Option.{slice_get_within, get_or_from_slice_get}
use Rattle.server_events.specs.Configs.{ConfigValue, config_fault, parent_of}
use Rattle.server_events.specs.Events.{EventValue}
use Rattle.server_events.specs.Faults.{IsConfig}
use Rattle.server_events.specs.Limits.{IsLimits}
use Rattle.server_events.proofs.FaultLemmas.{none_is_good}
use Rattle.served_instance.specs.Narrow.{IsNarrow}
use Rattle.server_core.specs.Families.{Family, FamilyEvent, IsLimited, AreLimited, own_event, parent_event, event_in, family_in, family_event, family_events}
use Rattle.server_core.proofs.Limits.{run_within}
use Rattle.client_reading.proofs.Choices.{choose}
use Rattle.run_reading.specs.GivesWell.{GivesWell}
use Rattle.run_reading.proofs.Runs.{replies_read, state_is, run_named, run_gives_named, run_orders_whole}
use Rattle.run_reading.proofs.Takings.{family_settled}
use Rattle.run_reading.proofs.ReadRuns.{blobs_read}

-- ---- configurations

-- what each of a server's configurations is
abbrev AreGiven : List ConfigValue → Type 0
AreGiven configs = All IsConfig configs × All (λ config. IsLimits config.limits) configs

limited : (config : ConfigValue) → IsConfig config → IsLimits config.limits → IsLimited config
limited config good chosen = record { quota = good.quota; slots = good.slots; limits = chosen }

limited_at : (configs : List ConfigValue) (i : ℕ) (config : ConfigValue) → AreGiven configs → slice_get configs i ≡ Some config →
    IsLimited config
limited_at configs i config each is =
    let lt = slice_get_within configs i config is in
    let same = get_or_from_slice_get configs i config config is in
    limited config (subst IsConfig same (each.0 i config lt)) (subst (λ (c : ConfigValue). IsLimits c.limits) same (each.1 i config lt))

some_limited : (configs : List ConfigValue) (parent : Option ℕ) → AreGiven configs →
    IfSome (option_and_then (slice_get configs) parent) IsLimited
some_limited configs None each = tt
some_limited configs (Some p) each = go (slice_get configs p) refl where
  go : (o : Option ConfigValue) → slice_get configs p ≡ o → IfSome o IsLimited
  go None is = tt
  go (Some config) is = limited_at configs p config each is

pub family_limited : (configs : List ConfigValue) (i : ℕ) (config : ConfigValue) → config_fault configs ≡ None →
    All (λ (c : ConfigValue). IsLimits c.limits) configs → slice_get configs i ≡ Some config → AreLimited (family_in configs config)
family_limited configs i config none chosen is =
    let each : AreGiven configs = (((none_is_good configs).0 none).good.each, chosen) in
    record { own = limited_at configs i config each is; parent = some_limited configs (parent_of configs config) each }

-- ---- events

abbrev AreNarrow : List FamilyEvent → Type 0
AreNarrow es = AllByRecursion IsNarrow (map event_in es)

event_narrow : (i : ℕ) (parent : Option ℕ) (e : EventValue) → IsNarrow e.lone → AreNarrow (family_event i parent e)
event_narrow i parent e narrow = choose AreNarrow (e.instance == i) (own_event e.lone ∷ []) (cond theirs (parent_event e.lone ∷ []) [])
    (λ _. (narrow, tt)) (λ _. choose AreNarrow theirs (parent_event e.lone ∷ []) [] (λ _. (narrow, tt)) (λ _. tt)) where
      theirs : Bool
      theirs = option_map_or (λ p. e.instance == p) parent false

both_narrow : (these those : List FamilyEvent) → AreNarrow these → AreNarrow those → AreNarrow (these ++ those)
both_narrow [] those h g = g
both_narrow (e ∷ these) those h g = (h.0, both_narrow these those h.1 g)

pub events_narrow : (i : ℕ) (parent : Option ℕ) (es : List EventValue) → AllByRecursion (λ (e : EventValue). IsNarrow e.lone) es →
    AreNarrow (family_events i parent es)
events_narrow i parent [] h = tt
events_narrow i parent (e ∷ es) h = both_narrow (family_event i parent e) (family_events i parent es) (event_narrow i parent e h.0)
    (events_narrow i parent es h.1)

-- ---- what is given

gives_well : (family : Family) (events : List FamilyEvent) → AreLimited family → AreNarrow events → GivesWell family events
gives_well family events limits narrow = record {
  sent = refl;
  read = replies_read family events limits narrow;
  state = state_is family events;
  answers = run_named family events limits narrow;
  streams = run_gives_named family events limits narrow;
  orders = run_orders_whole family events limits narrow;
  settled = λ before after e is accepted. family_settled family before e accepted;
  blobs = blobs_read family events limits narrow;
  within = run_within family events limits narrow;
}

pub all_give_well : (configs : List ConfigValue) (events : List EventValue) (i : ℕ) (config : ConfigValue) → config_fault configs ≡ None →
    All (λ (c : ConfigValue). IsLimits c.limits) configs → AllByRecursion (λ (e : EventValue). IsNarrow e.lone) events →
    slice_get configs i ≡ Some config
    → GivesWell (family_in configs config) (family_events i (parent_of configs config) events)
all_give_well configs events i config none chosen narrow is =
    gives_well (family_in configs config) (family_events i (parent_of configs config) events)
    (family_limited configs i config none chosen is) (events_narrow i (parent_of configs config) events narrow)
