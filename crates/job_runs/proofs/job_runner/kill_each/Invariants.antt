use Rattle.std.specs.Prelude.{vec_len}
use Rattle.job_runs.specs.Runs.{AreKilled, Standing}
use Rattle.job_runs.proofs.job_runner.kill_each.Given as goal

-- whatever kills what is left kills all
abbrev pub invariant-loop-left : goal.invariant-loop-left
invariant-loop-left g l =
    (new : Standing)
    → AreKilled l.configs l.moment l.left
    (record {
      runs = l.runner.runs.items;
      folders = g.F.Folder.asked l.runner.folder;
      programs = g.P.Programs.asked l.runner.programs;
      text = g.E.Write.contents l.errors.output;
      backlog = l.errors.backlog;
    }) new
    → AreKilled l.configs l.moment (vec_len l.fn.runner.runs)
    (record {
      runs = l.fn.runner.runs.items;
      folders = g.F.Folder.asked l.fn.runner.folder;
      programs =
          g.P.Programs.asked l.fn.runner.programs;
      text = g.E.Write.contents l.fn.errors.output;
      backlog = l.fn.errors.backlog;
    }) new

abbrev pub decreases-loop-left : goal.decreases-loop-left
decreases-loop-left g l = l.left
