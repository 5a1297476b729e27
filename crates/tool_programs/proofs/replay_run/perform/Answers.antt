use Rattle.server_events.specs.LimitsShown.{limits_value}
use Rattle.tool_programs.specs.Printed.{text_printed_by}
use Rattle.tool_programs.proofs.ToldRuns.{lines_put}
use Rattle.tool_programs.proofs.replay_run.perform.Goals as goal

pub returns-in-Ok : goal.returns-in-Ok
returns-in-Ok g c = lines_put _ (text_printed_by (limits_value c.args.limits)) _ _ _ _ _ _ c.in_ok-text.ensures c.deref.ensures.value
    c.in_ok-lines.ensures.printed c.deref-2.ensures.value c.in-Ok.ensures.bytes
