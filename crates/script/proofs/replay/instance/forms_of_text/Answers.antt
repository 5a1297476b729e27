use Rattle.std.proofs.Common.{◌≡◌, ◌∷◌, ◌++◌, map, ap, sym, ◌∙◌, rules, append_assoc}
use Rattle.std.specs.Option.{option_to_list}
use Rattle.script.specs.LimitsShown.{limits_value}
use Rattle.script.specs.Parts.{words_of}
use Rattle.script.specs.ReplayScript.{config_of_words, configs_of_lines}
use Rattle.script.specs.ReplayShown.{form_value}
use Rattle.script.proofs.replay.instance.forms_of_text.Goals as goal

pub loop-line-preserved : goal.loop-line-preserved
loop-line-preserved c =
    let before = map form_value c.loop-line.forms.items in
    let line = c.in-Some.line.now in
    let after = c.next.new.self in
    let steps : c.loop-line.line-iterator ≡ line ∷ after = search rules in (
      ap (λ configs. configs ++ configs_of_lines (limits_value c.args.limits) after) c.in_ok-add_form.ensures
          ∙ append_assoc before (option_to_list (config_of_words (limits_value c.args.limits) (words_of line)))
          (configs_of_lines (limits_value c.args.limits) after)
          ∙ ap (λ lines. before ++ configs_of_lines (limits_value c.args.limits) lines) (sym steps) ∙ c.loop-line.invariant.0,
      tt,
      tt,
    )
