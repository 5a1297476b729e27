use Rattle.std.proofs.Common.{◌≡◌, Ok}
use Rattle.std.proofs.lemmas.Result.{err_from_is_err_and}
use Rattle.script.specs.Faults.{IsFaultOf}
use Rattle.script.specs.EventLines.{events_of_text}
use Rattle.script.specs.FirstBadLine.{after_lines}
use Rattle.script.specs.LimitsShown.{limits_value}
use Rattle.script.specs.Parts.{lines_of}
use Rattle.script.specs.ReplayHead.{after_head_line, head_of}
use Rattle.script.specs.ReplayScript.{configs_of_lines, empty_replay_script}
use Rattle.script.specs.ReplayShown.{head_value}
use Rattle.script.proofs.ConfigLemmas.{config_fault-replay_script_of}
use Rattle.script.proofs.HeadLemmas.{IsFaultOf-head, length-events_of_text, replay_script_of-head}
use Rattle.script.proofs.replay.parser.parse.Goals as goal

pub returns-in_err-read_lines-clause-bad_line : goal.returns-in_err-read_lines-clause-bad_line
returns-in_err-read_lines-clause-bad_line c =
    let given = err_from_is_err_and c.from_residual-in_err-read_lines.result c.from_residual-in_err-read_lines.ensures.1 in
    let told : IsFaultOf (after_lines after_head_line 1
    (head_of (limits_value c.args.limits) (configs_of_lines (limits_value c.args.limits) (lines_of c.args.text.now))
    empty_replay_script) (lines_of c.args.text.now)) c.in_err-read_lines.field-0.0 =
    rw (c.new.ensures.items, c.in_ok-forms_of_text.ensures) at c.in_err-read_lines.ensures.bad_line in
    rw (given.1, given.2) (IsFaultOf-head (limits_value c.args.limits) c.args.text.now _ told)

pub returns-clause-script : goal.returns-clause-script
returns-clause-script c =
    let head = head_value c.read_lines.new.script in
    let read : after_lines after_head_line 1 (head_of (limits_value c.args.limits)
    (configs_of_lines (limits_value c.args.limits) (lines_of c.args.text.now)) empty_replay_script) (lines_of c.args.text.now)
    ≡ Ok head = rw (c.new.ensures.items, c.in_ok-forms_of_text.ensures) at c.in_ok-read_lines.ensures.read in
    rw (c.new-2.ensures) (replay_script_of-head (limits_value c.args.limits) c.args.text.now head read)

pub returns-clause-configs : goal.returns-clause-configs
returns-clause-configs c =
    let head = head_value c.read_lines.new.script in
    let read : after_lines after_head_line 1 (head_of (limits_value c.args.limits)
    (configs_of_lines (limits_value c.args.limits) (lines_of c.args.text.now)) empty_replay_script) (lines_of c.args.text.now)
    ≡ Ok head = rw (c.new.ensures.items, c.in_ok-forms_of_text.ensures) at c.in_ok-read_lines.ensures.read in
    config_fault-replay_script_of (limits_value c.args.limits) c.args.text.now
    (record { configs = head.configs; events = events_of_text c.args.text.now })
    (replay_script_of-head (limits_value c.args.limits) c.args.text.now head read)

pub returns-clause-few : goal.returns-clause-few
returns-clause-few c = rw (c.new-2.ensures) (length-events_of_text c.args.text.now)
