use Rattle.script.proofs.UnaryForms.{IsGoodUnaryLine-from_Some, Some-from_IsGoodLine}
use Rattle.script.proofs.unary.laws.a_good_line_has_a_form.Goals as goal

pub returns : goal.returns
returns c before after good = (
  λ read. IsGoodUnaryLine-from_Some before after c.args.line.now read,
  λ form. Some-from_IsGoodLine before after c.args.line.now good
      form,
)
