use Rattle.script.specs.Parts.{lines_of}
use Rattle.script.specs.ReplayScript.{after_replay_line, configs_of_lines, empty_replay_script}
use Rattle.script.proofs.FirstLemmas.{Leads-from_Ok, Ok-from_Leads, Err-from_IsFirstBadLine, IsFirstBadLine-from_Err}
use Rattle.script.proofs.replay.laws.bad_line_is_the_first.Goals as goal

pub returns-clause-script : goal.returns-clause-script
returns-clause-script c limits script = (
  λ read. Leads-from_Ok (after_replay_line limits (configs_of_lines limits (lines_of c.args.text.now))) 1 empty_replay_script script
      (lines_of c.args.text.now) read,
  λ leads. Ok-from_Leads
      (after_replay_line limits (configs_of_lines limits (lines_of c.args.text.now))) 1 empty_replay_script script
      (lines_of c.args.text.now) leads,
)

pub returns-clause-bad_line : goal.returns-clause-bad_line
returns-clause-bad_line c limits number = (
  λ read. IsFirstBadLine-from_Err (after_replay_line limits (configs_of_lines limits (lines_of c.args.text.now))) empty_replay_script
      (lines_of c.args.text.now) number read,
  λ first. Err-from_IsFirstBadLine
      (after_replay_line limits (configs_of_lines limits (lines_of c.args.text.now))) empty_replay_script
      (lines_of c.args.text.now) number first,
)
