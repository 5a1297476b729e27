use Rattle.script.proofs.ReplayForms.{good_line_has_form}
use Rattle.script.proofs.replay.laws.a_good_line_has_a_form.Goals as goal

pub returns : goal.returns
returns c limits all before after = good_line_has_form limits all before after c.args.line.now
