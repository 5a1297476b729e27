use Rattle.script.proofs.ConfigLemmas.{config_if_good-no_text}
use Rattle.script.specs.ReplayShown.{form_value}
use Rattle.script.proofs.replay.parser.config_if_good.Goals as goal

pub returns-in_default-clause-bad : goal.returns-in_default-clause-bad
returns-in_default-clause-bad c = λ _.
    config_if_good-no_text _ _ (form_value c.args.form) c.in_default.ensures.cases.0
