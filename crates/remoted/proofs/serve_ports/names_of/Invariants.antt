use Rattle.std.proofs.Common.{◌≡◌, map, take, string_bytes}
use Rattle.server_events.specs.Shown.{config_value}
use Rattle.remoted.proofs.serve_ports.names_of.Given as goal

abbrev pub invariant-instances : goal.invariant-instances
invariant-instances l = map string_bytes l.names.items
    ≡ map (λ config. config.name) (map config_value (take l.config-index l.instances))
