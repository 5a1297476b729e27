use Rattle.std.proofs.Common.{rules, ap, sym, ◌∙◌, map}
use Rattle.std.specs.Prelude.{option_map}
use Rattle.std.proofs.lemmas.Iterator.{YieldsList-from_slice}
use Rattle.std.proofs.lemmas.Iterator.Search.{position_from_yields_List}
use Rattle.server_events.specs.Configs.{has_bad_parent}
use Rattle.server_events.specs.Shown.{config_value}
use Rattle.server_events.specs.declared.fault.ConfigFault.TheVariants.{BadParent}
use Rattle.server_events.proofs.ListLemmas.{position-map}
use Rattle.server_events.proofs.configs.first_parent_fault.Goals as goal

pub returns-in-None : goal.returns-in-None
returns-in-None c =
    ap (option_map BadParent) (sym c.in-None.is
    ∙ position_from_yields_List (λ instance. has_bad_parent (map config_value c.args.instances.now) (config_value instance)) _ _ _
    c.position-bad.ensures.ran (YieldsList-from_slice c.args.instances.now c.iter.ensures.rest) (λ x b q k. search rules)
    ∙ sym (position-map (has_bad_parent (map config_value c.args.instances.now)) config_value c.args.instances.now))

pub returns-in-Some : goal.returns-in-Some
returns-in-Some c =
    ap (option_map BadParent) (sym c.in-Some.is
    ∙ position_from_yields_List (λ instance. has_bad_parent (map config_value c.args.instances.now) (config_value instance)) _ _ _
    c.position-bad.ensures.ran (YieldsList-from_slice c.args.instances.now c.iter.ensures.rest) (λ x b q k. search rules)
    ∙ sym (position-map (has_bad_parent (map config_value c.args.instances.now)) config_value c.args.instances.now))
