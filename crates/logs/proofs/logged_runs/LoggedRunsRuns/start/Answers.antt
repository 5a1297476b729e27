use Rattle.std.proofs.Common.{[], ◌∷◌, ap, refl}
use Rattle.execution.specs.Job.{TaskValue}
use Rattle.execution.specs.Orders.{start}
use Rattle.serve.specs.RunEvents.{ordered}
use Rattle.logs.proofs.Carried.{carried_as, carried_lost}
use Rattle.logs.proofs.logged_runs.LoggedRunsRuns.start.Goals as goal
use Rattle.logs.proofs.logged_runs.LoggedRunsRuns.start.Goals.{in-Ok, in-Err+in-Some-1, in-Err+in-None-1}

pub invariant_of-self : goal.invariant_of-self
invariant_of-self g c = record {
  carried = elim c.match-copied_task.branch [
    | in-Ok w ↦ rw (w.self-is) (carried_as _ _ _ _ _ _
        (ap (λ (task : TaskValue). ordered c.args.run.instance (start c.args.run.job task) ∷ []) w.in-Ok.ensures)
        c.args.self.now.carried c.start.ensures.carries w.add.ensures.adds)
    | in-Err+in-Some-1 w ↦ rw (w.self-is) (carried_lost (g.R.Runs.carries c.args.self.now.runs) _ _ refl)
    | in-Err+in-None-1 w ↦ rw (w.self-is) (carried_lost (g.R.Runs.carries c.args.self.now.runs) _ _ refl)
  ];
}
