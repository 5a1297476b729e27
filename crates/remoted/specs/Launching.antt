-- What a launcher knows of the instances.
use Rattle.std.specs.Prelude.{◌≡◌, List, map, string_bytes}
use Rattle.server_events.specs.Configs.{ConfigValue}
use Rattle.run_programs.specs.declared.launching.Launcher.{Launcher}

-- their names, each at its number
abbrev pub KnowsInstances : List ConfigValue → Launcher → Type 0
KnowsInstances configs launcher =
    map string_bytes launcher.instances.items ≡ map (λ config. config.name) configs
