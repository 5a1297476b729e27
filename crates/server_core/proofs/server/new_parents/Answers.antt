use Rattle.std.proofs.Common.{List, map, ap, ◌∙◌}
use Rattle.std.specs.Prelude.{Option}
use Rattle.std.proofs.Common.{ℕ}
use Rattle.std.proofs.lemmas.List.{take_all}
use Rattle.server_events.specs.Configs.{ConfigValue, parent_of}
use Rattle.server_events.specs.Shown.{config_value}
use Rattle.server_core.proofs.Begins.{parents_more}
use Rattle.server_core.proofs.server.new_parents.Goals as goal

pub loop-config-preserved : goal.loop-config-preserved
loop-config-preserved c = parents_more _ _ _ _ _ _ _ c.loop-config-test.true c.config-item.is c.in_ok-push.ensures.items
    c.loop-config.invariant c.parent_of.ensures

pub returns : goal.returns
returns c =
    let xs = c.instances-instances.result.now in
    let f : ConfigValue → Option ℕ = parent_of c.args.configs.now in
    c.loop-config.invariant
    ∙ ap (λ (ys : List _). map f (map config_value ys)) (take_all c.loop-config.config-index xs c.loop-config-test.false)
    ∙ ap (map f) c.instances-instances.ensures.instances
