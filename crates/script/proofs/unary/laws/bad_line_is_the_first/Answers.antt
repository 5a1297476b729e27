use Rattle.script.specs.Parts.{lines_of}
use Rattle.script.specs.UnaryScript.{after_unary_line, empty_unary_script}
use Rattle.script.proofs.FirstLemmas.{Leads-from_Ok, Ok-from_Leads, Err-from_IsFirstBadLine, IsFirstBadLine-from_Err}
use Rattle.script.proofs.unary.laws.bad_line_is_the_first.Goals as goal

pub returns-clause-script : goal.returns-clause-script
returns-clause-script c script = (
  λ read. Leads-from_Ok after_unary_line 1 empty_unary_script script
      (lines_of c.args.text.now) read,
  λ leads. Ok-from_Leads after_unary_line 1 empty_unary_script script
      (lines_of c.args.text.now) leads,
)

pub returns-clause-bad_line : goal.returns-clause-bad_line
returns-clause-bad_line c number = (
  λ read. IsFirstBadLine-from_Err after_unary_line empty_unary_script
      (lines_of c.args.text.now) number read,
  λ first. Err-from_IsFirstBadLine after_unary_line empty_unary_script
      (lines_of c.args.text.now) number first,
)
