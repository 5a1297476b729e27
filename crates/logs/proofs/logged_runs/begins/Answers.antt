use Rattle.logs.proofs.RunLogs.{begun_by}
use Rattle.logs.proofs.logged_runs.begins.Goals as goal

pub returns-in-Begun : goal.returns-in-Begun
returns-in-Begun c = begun_by c.args.entry.now c.in-Begun.begun c.args.run c.in-Begun.field-1 c.eq.result c.in-Begun.is c.eq.ensures
