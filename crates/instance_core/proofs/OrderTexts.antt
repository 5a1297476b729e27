-- What is ordered to be run has what it needs.
use Rattle.std.proofs.Common.{◌≡◌, List, [], ◌∷◌, Option, Some, None, refl}
use Rattle.std.specs.Prelude.{IfSome, option_map}
use Rattle.std.specs.List.{AllByRecursion, filter_map}
use Rattle.std.specs.Map.{lookup}
use Rattle.job_queue.specs.Jobs.{Jobs, same_number}
use Rattle.job_queue.specs.declared.queue.Running.{Running}
use Rattle.execution.specs.Job.{JobValue}
use Rattle.execution.specs.Orders.{OrderValue, start, order_of}
use Rattle.execution.specs.Steps.{StepValue, times_out, ends, starts, jobs_after_steps}
use Rattle.instance_core.specs.Answer.{orders_at, steps_at}
use Rattle.instance_core.specs.Calls.{CallEventValue}
use Rattle.instance_core.specs.Jobs.{AreWhole, IsWholeOrder}
use Rattle.instance_core.specs.State.{InstanceState, IsInstanceWithin}
use Rattle.instance_core.proofs.JobLimits.{steps_whole, found_whole}

one_whole : (after : Jobs JobValue) (step : StepValue) → AreWhole after → IfSome (order_of after step) IsWholeOrder
one_whole after (times_out n operation) w = tt
one_whole after (ends n operation) w = tt
one_whole after (starts n deadline operation) w = go (lookup (same_number n) after.running) refl where
  go : (o : Option (Running JobValue)) → lookup (same_number n) after.running ≡ o →
      IfSome (option_map (start n) (option_map (λ job. job.task) (option_map (λ r. r.job) o))) IsWholeOrder
  go None is = tt
  go (Some r) is = (found_whole n r after.running is w.running).task

all_whole : (after : Jobs JobValue) (steps : List StepValue) → AreWhole after →
    AllByRecursion IsWholeOrder (filter_map (order_of after) steps)
all_whole after [] w = tt
all_whole after (step ∷ steps) w = go (order_of after step) refl (one_whole after step w) (all_whole after steps w) where
  go : (o : Option OrderValue) → order_of after step ≡ o → IfSome o IsWholeOrder →
      AllByRecursion IsWholeOrder (filter_map (order_of after) steps) →
      AllByRecursion IsWholeOrder (filter_map (order_of after) (step ∷ steps))
  go None is one later = rw is later
  go (Some order) is one later = rw is (one, later)

pub orders_whole : (s : InstanceState) (event : CallEventValue) → IsInstanceWithin s → AllByRecursion IsWholeOrder (orders_at s event)
orders_whole s event w = all_whole (jobs_after_steps (steps_at s event) s.jobs) (steps_at s event)
    (steps_whole (steps_at s event) s.jobs w.whole)
