-- What a log says of the runs that were begun.
use Rattle.std.proofs.Common.{◌≡◌, ℕ, ◌-◌, ◌≤◌, Bool, true, false, List, [], ◌∷◌, length, take, drop, get_or, refl, ap, ◌∙◌, sym}
use Rattle.std.specs.Prelude.{◌&&◌, ◌==◌, IsTrue}
use Rattle.std.proofs.lemmas.Bool.{eqb-true, true≢false}
use Rattle.runner.proofs.Lists.{first_and_rest}
use Rattle.run_calls.specs.declared.task.RunKey.{RunKey}
use Rattle.execution.specs.Job.{TaskValue}
use Rattle.execution.specs.Orders.{start}
use Rattle.logs.specs.declared.logged_runs.RunRecord.{RunRecord}
use Rattle.logs.specs.declared.logged_runs.RunRecord.TheVariants.{Begun}
use Rattle.logs.specs.declared.run_copies.TaskCopy.{TaskCopy}
use Rattle.logs.specs.LoggedRuns.{run_event, run_events, task_copied}
use Rattle.serve.specs.RunEvents.{IsBegun, ordered}

both_true : (a b : Bool) → (a && b) ≡ true → (a ≡ true) × (b ≡ true)
both_true true b h = (refl, h)
both_true false b h = absurd (true≢false (sym h))

-- keys that are the same
pub begun_by : (e : RunRecord) (a b : RunKey) (t : TaskCopy) (r : Bool) → e ≡ Begun a t → r ≡ (a.instance == b.instance && a.job == b.job) →
    IsTrue r → (x : TaskValue) × (run_event e ≡ ordered b.instance (start b.job x))
begun_by e a b t r is same holds =
    let both = both_true (a.instance == b.instance) (a.job == b.job) (sym same ∙ holds) in (
      task_copied t,
      ap run_event is ∙ ap (λ (i : ℕ). ordered i (start a.job (task_copied t))) (eqb-true _ _ both.0)
          ∙ ap (λ (n : ℕ). ordered b.instance (start n (task_copied t))) (eqb-true _ _ both.1),
    )

-- the first record says it
pub begun_first : (run : RunKey) (left : List RunRecord) (o : RunRecord) → 1 ≤ length left → o ≡ get_or left 0 o →
    ((task : TaskValue) × (run_event o ≡ ordered run.instance (start run.job task))) → IsBegun run (run_events left)
begun_first run left o le first it = record {
  task = it.0;
  before = [];
  after = run_events (take (length left - 1) (drop 1 left));
  whole = ap run_events (first_and_rest left o le first)
      ∙ ap (λ e. e ∷ run_events (take (length left - 1) (drop 1 left))) it.1;
}

-- one behind it does
pub begun_later : (run : RunKey) (left : List RunRecord) (o : RunRecord) → 1 ≤ length left → o ≡ get_or left 0 o →
    IsBegun run (run_events (take (length left - 1) (drop 1 left))) → IsBegun run (run_events left)
begun_later run left o le first it = record {
  task = it.task;
  before = run_event o ∷ it.before;
  after = it.after;
  whole = ap run_events (first_and_rest left o le first) ∙ ap (λ es. run_event o ∷ es) it.whole;
}
