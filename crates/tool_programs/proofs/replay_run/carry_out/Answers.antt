use Rattle.std.proofs.Common.{◌≡◌, List, length, subst, ap, ◌∙◌}
use Rattle.server_core.specs.LoneOutput.{strays}
use Rattle.server_events.specs.Configs.{ConfigValue}
use Rattle.script.specs.ReplayScript.{ReplayScriptValue}
use Rattle.script.specs.ReplayShown.{replay_script_value}
use Rattle.tool_programs.proofs.Alone.{AreOutputs, lines_are}
use Rattle.tool_programs.proofs.replay_run.carry_out.Goals as goal

pub returns : goal.returns
returns c =
    let ran = c.in_ok-outputs.ensures in
    let script : ReplayScriptValue = replay_script_value c.args.script in
    let configs : c.configured-configs.result ≡ script.configs = c.configured-configs.ensures in
    let outputs = c.in_ok-outputs.outputs.instances.items in
    lines_are c.lines.result script outputs c.in_ok-outputs.outputs.strays.items (ran.count ∙ ap length configs)
    (subst (λ (cs : List ConfigValue). AreOutputs cs script.events outputs) configs ran.alone)
    (ran.strays ∙ ap (λ (cs : List ConfigValue). strays cs script.events) configs) c.lines.ensures
