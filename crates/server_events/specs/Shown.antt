-- What the types of configurations and events stand for.
use Rattle.std.specs.Prelude.{option_map}
use Rattle.std.specs.String.{string_bytes}
use Rattle.server_events.specs.declared.configs.InstanceConfig.{InstanceConfig}
use Rattle.server_events.specs.declared.event.Event.{Event}
use Rattle.server_events.specs.declared.event.What.{What}
use Rattle.server_events.specs.declared.event.What.TheVariants.{Open, Bytes, Took, Closed, Tick, Outcome}
use Rattle.instance_limits.specs.Shown.{limits_value}
use Rattle.run_calls.specs.Shown.{outcome_shown}
use Rattle.server_events.specs.Configs.{ConfigValue}
use Rattle.server_events.specs.Events.{WhatValue, opened, received, took, closed, tick, ended, EventValue}

abbrev pub config_value : InstanceConfig → ConfigValue
config_value config = record {
  name = string_bytes config.name;
  quota = config.quota;
  slots = config.slots;
  limits = limits_value config.limits;
  parent = option_map string_bytes config.parent;
}

abbrev pub what_value : What → WhatValue
what_value (Open connection) = opened connection
what_value (Bytes connection bytes) = received connection bytes.items
what_value (Took connection count) = took connection count
what_value (Closed connection) = closed connection
what_value Tick = tick
what_value (Outcome job outcome) = ended job (outcome_shown outcome)

abbrev pub event_value : Event → EventValue
event_value e =
    record { instance = e.instance; lone = record { moment = e.moment; what = what_value e.what } }
