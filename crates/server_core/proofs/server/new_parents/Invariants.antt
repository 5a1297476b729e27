use Rattle.std.proofs.Common.{◌≡◌, take, map}
use Rattle.server_events.specs.Shown.{config_value}
use Rattle.server_events.specs.Configs.{parent_of}
use Rattle.server_core.proofs.server.new_parents.Given as goal

abbrev pub invariant-loop-config : goal.invariant-loop-config
invariant-loop-config l = l.parents.items ≡ map (parent_of l.configs) (map config_value (take l.config-index l.instances))
