-- What was chosen for each instance may be chosen.
use Rattle.std.proofs.Common.{List, [], ◌∷◌, map}
use Rattle.std.proofs.lemmas.List.Elements.{All-nil, All-cons}
use Rattle.std.specs.List.{All}
use Rattle.instance_limits.specs.Limits.{IsLimits}
use Rattle.instance_limits.proofs.Good.{are_good}
use Rattle.server_events.specs.declared.configs.InstanceConfig.{InstanceConfig}
use Rattle.server_events.specs.Configs.{ConfigValue}
use Rattle.server_events.specs.Shown.{config_value}

abbrev IsChosen : ConfigValue → Type 0
IsChosen config = IsLimits config.limits

pub all_chosen : (configs : List InstanceConfig) → All (λ config. IsLimits config.limits) (map config_value configs)
all_chosen [] = All-nil IsChosen
all_chosen (config ∷ configs) = All-cons IsChosen (config_value config) (map config_value configs) (are_good config.limits)
    (all_chosen configs)
