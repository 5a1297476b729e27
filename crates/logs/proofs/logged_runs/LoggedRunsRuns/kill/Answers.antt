use Rattle.logs.proofs.Carried.{carried_on}
use Rattle.logs.proofs.logged_runs.LoggedRunsRuns.kill.Goals as goal

pub invariant_of-self : goal.invariant_of-self
invariant_of-self g c = record {
  carried = carried_on _ _ _ _ _ c.args.self.now.carried c.kill.ensures.carries c.add.ensures.adds;
}
