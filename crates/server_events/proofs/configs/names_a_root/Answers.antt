use Rattle.std.proofs.Common.{rules, tests, sym, ◌∙◌, ◌&&◌}
use Rattle.std.specs.Prelude.{is_none}
use Rattle.std.proofs.lemmas.Iterator.{YieldsList-from_slice}
use Rattle.std.proofs.lemmas.Iterator.Search.{any_from_yields_List}
use Rattle.std.specs.Str.{bytes_eq}
use Rattle.server_events.specs.Shown.{config_value}
use Rattle.server_events.proofs.ListLemmas.{list_any-map}
use Rattle.server_events.proofs.configs.names_a_root.Goals as goal

pub returns : goal.returns
returns c =
    any_from_yields_List (λ instance. bytes_eq (config_value instance).name c.args.name.now && is_none (config_value instance).parent) _ _ _
    c.any.ensures.ran (YieldsList-from_slice c.args.instances.now c.iter.ensures.rest) (λ x b q k. search (rules, tests))
    ∙ sym (list_any-map (λ config. bytes_eq config.name c.args.name.now && is_none config.parent) config_value c.args.instances.now)
