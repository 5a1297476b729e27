-- Each order that an event gives has its meaning.
use Rattle.std.proofs.Common.{◌≡◌, ℕ, List, [], ◌∷◌, map, Option, Some, None, refl, ap, ◌∙◌}
use Rattle.std.specs.List.{cons_option, filter_map}
use Rattle.job_queue.specs.Jobs.{Jobs, running_job}
use Rattle.run_calls.specs.Outcomes.{OutcomeValue}
use Rattle.execution.specs.declared.orders.Order.{Order}
use Rattle.execution.specs.Job.{JobValue}
use Rattle.execution.specs.Ordered.{order_meant, orders_by}
use Rattle.execution.specs.Orders.{OrderValue, orders_of}
use Rattle.execution.specs.Steps.{StepValue, ending_of, jobs_after_steps, timings_out}
use Rattle.execution.proofs.StartedJobs.{ending-is, timings-are, turn-meant}
use Rattle.instance_core.specs.Answer.{ending_at, ending_steps, steps_at}
use Rattle.instance_core.specs.Calls.{CallEventValue, start_jobs, end_late_jobs, end_job}
use Rattle.instance_core.specs.State.{InstanceState}
use Rattle.instance_core.specs.Turns.{AreOrders, orders_meant}

abbrev AreMeant : List StepValue → Jobs JobValue → Type 0
AreMeant steps jobs = AreOrders (jobs_after_steps steps jobs) (orders_by steps) (orders_of steps jobs)

ending_orders : (s : InstanceState) (n : ℕ) (outcome : OutcomeValue) (o : Option JobValue) → running_job n s.jobs ≡ o →
    AreMeant (ending_steps s n outcome o) s.jobs
ending_orders s n outcome None is = refl
ending_orders s n outcome (Some job) is =
    let e = (ending_at s outcome job).end_is in
    turn-meant s.slots s.moment (ending_of n e (running_job n s.jobs)) s.jobs (ending-is n e (running_job n s.jobs))

pub event_orders : (s : InstanceState) (event : CallEventValue) → AreMeant (steps_at s event) s.jobs
event_orders s start_jobs = turn-meant s.slots s.moment [] s.jobs tt
event_orders s end_late_jobs = turn-meant s.slots s.moment (timings_out s.moment s.jobs.running) s.jobs
    (timings-are s.moment s.jobs.running)
event_orders s (end_job n outcome) = ending_orders s n outcome (running_job n s.jobs) refl
event_orders s _ = refl

-- ---- where each order has its meaning, none is passed over

one_by_one : {A B : Type 0} (f : A → Option B) (xs : List A) → filter_map f xs ≡ filter_map (λ (o : Option B). o) (map f xs)
one_by_one f [] = refl
one_by_one f (x ∷ xs) = ap (cons_option (f x)) (one_by_one f xs)

none_passed : {B : Type 0} (vs : List B) → filter_map (λ (o : Option B). o) (map Some vs) ≡ vs
none_passed [] = refl
none_passed {B} (v ∷ vs) = ap (λ (ws : List B). v ∷ ws) (none_passed vs)

pub all_meant : (after : Jobs JobValue) (orders : List Order) (values : List OrderValue) → AreOrders after orders values →
    orders_meant after orders ≡ values
all_meant after orders values are = one_by_one (order_meant after) orders ∙ ap (filter_map (λ (o : Option OrderValue). o)) are
    ∙ none_passed values
