use Rattle.std.proofs.Common.{◌≡◌, IfOk, sym, subst}
use Rattle.instance_view.specs.Shown.{visible_in}
use Rattle.run_calls.specs.declared.outcome.Outcome.{Outcome}
use Rattle.run_calls.specs.Outcomes.{exited}
use Rattle.run_calls.specs.Shown.{exited_shown, outcome_shown}
use Rattle.outcomes.specs.Endings.{ending_shown}
use Rattle.execution.specs.InPool.{job_in}
use Rattle.outcomes.specs.Ending.{ending}
use Rattle.outcomes.proofs.Named.{run_named}
use Rattle.outcomes.proofs.ending.end_of_run.Goals as goal

pub returns-in-Exited-clause-ending : goal.returns-in-Exited-clause-ending
returns-in-Exited-clause-ending c = let p = c.args.pool.now in
    subst (λ (outcome : Outcome). IfOk c.end_of_exit.result
    (λ e. ending_shown e ≡ ending c.args.quota (visible_in p c.args.view.now) (job_in p c.args.job.now) (outcome_shown outcome)))
    (sym c.in-Exited.is) c.end_of_exit.ensures

pub returns-in-Exited-clause-named : goal.returns-in-Exited-clause-named
returns-in-Exited-clause-named c = run_named c.args.quota (visible_in c.args.pool.now c.args.view.now)
    (job_in c.args.pool.now c.args.job.now) (exited (exited_shown c.in-Exited.run')) c.end_of_exit.result c.end_of_exit.ensures
