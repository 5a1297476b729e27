use Rattle.server_events.specs.LimitsShown.{limits_value}
use Rattle.tool_programs.specs.Printed.{text_printed_by}
use Rattle.tool_programs.proofs.ToldRuns.{outcome_told}
use Rattle.tool_programs.proofs.replay_run.replay.Goals as goal

pub returns-clause-outcome : goal.returns-clause-outcome
returns-clause-outcome g c = outcome_told _ (text_printed_by (limits_value c.args.limits)) _ _ _ _ c.told.ensures.status c.perform.ensures

pub returns-clause-told : goal.returns-clause-told
returns-clause-told g c = c.told.ensures.told
