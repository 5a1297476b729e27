use Rattle.std.proofs.Common.{◌≡◌, [], map, take, drop}
use Rattle.server_events.specs.Configs.{first_own_fault}
use Rattle.server_events.specs.Shown.{config_value}
use Rattle.server_events.proofs.configs.first_own_fault.Given as goal

abbrev pub invariant-loop-number : goal.invariant-loop-number
invariant-loop-number l =
    first_own_fault (map config_value (take l.number l.instances)) (map config_value (drop l.number l.instances))
    ≡ first_own_fault [] (map config_value l.instances)
