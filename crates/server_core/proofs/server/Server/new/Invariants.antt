use Rattle.std.proofs.Common.{◌≡◌, ℕ, length, take, map, Some}
use Rattle.std.specs.List.{AllByRecursion}
use Rattle.blob_pool.specs.Slots.{Slots}
use Rattle.server_events.specs.Configs.{ConfigValue}
use Rattle.server_events.specs.Shown.{config_value}
use Rattle.served_instance.specs.Lone.{new_lone}
use Rattle.served_instance.specs.StandsFor.{IsServedWithin}
use Rattle.server_core.specs.LoneOutput.{config_at}
use Rattle.server_core.specs.Shared.{all_in, all_holders}
use Rattle.server_core.specs.StandsFor.{StandsAt}
use Rattle.server_core.proofs.Begins.{AreAllTidy}
use Rattle.server_core.proofs.server.Server.new.Given as goal

abbrev pub invariant-loop-config : goal.invariant-loop-config
invariant-loop-config l = record {
  count : length l.instances.items ≡ l.config-index;
  nobody : (k : ℕ) → all_holders l.instances.items k ≡ 0;
  tidy : AreAllTidy l.instances.items;
  within : (p : Slots) → AllByRecursion IsServedWithin (all_in p l.instances.items);
  stands : (p : Slots) (i : ℕ) (config : ConfigValue) → config_at i (map config_value (take l.config-index l.configs)) ≡ Some config →
      StandsAt i (all_in p l.instances.items) (new_lone config.name config.quota config.slots config.limits);
}
