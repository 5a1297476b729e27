-- What the types of a script stand for.
use Rattle.std.specs.Prelude.{map, option_map}
use Rattle.server_events.specs.Configs.{ConfigValue}
use Rattle.server_events.specs.LimitsShown.{limits_value}
use Rattle.server_events.specs.Shown.{config_value}
use Rattle.script.specs.declared.replay.instance.InstanceForm.{InstanceForm}
use Rattle.script.specs.declared.replay.parser.ReplayHead.{ReplayHead}
use Rattle.script.specs.declared.replay.parser.ReplayScript.{ReplayScript}
use Rattle.script.specs.ReplayHead.{ReplayHeadValue}
use Rattle.script.specs.ReplayScript.{ReplayScriptValue, config}

abbrev pub replay_script_value : ReplayScript → ReplayScriptValue
replay_script_value script = record {
  configs = map config_value script.configs.items;
  events = script.events;
}

abbrev pub form_value : InstanceForm → ConfigValue
form_value form = config (limits_value form.limits) form.name.now form.quota form.slots
    (option_map (λ parent. parent.now) form.parent)

abbrev pub head_value : ReplayHead → ReplayHeadValue
head_value head = record {
  limits = limits_value head.limits;
  all = map form_value head.forms.items;
  configs = map config_value head.configs.items;
  has_events = head.has_events;
}
