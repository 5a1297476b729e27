-- Orders of the code, and what is told, as plain values.
use Rattle.std.specs.Prelude.{List, Option, Some, None, option_map}
use Rattle.std.specs.List.{filter_map}
use Rattle.job_queue.specs.Jobs.{Jobs}
use Rattle.execution.specs.declared.orders.Order.{Order}
use Rattle.execution.specs.declared.orders.Order.TheVariants.{Start, Kill}
use Rattle.execution.specs.declared.orders.Told.{Told}
use Rattle.execution.specs.Job.{JobValue}
use Rattle.execution.specs.Orders.{OrderValue, ToldValue, start, kill, task_of}
use Rattle.execution.specs.Steps.{StepValue, times_out, ends, starts}

-- the order that goes with a step, where one does
abbrev pub order_by : StepValue → Option Order
order_by (times_out n operation) = Some (Kill n)
order_by (ends n operation) = None
order_by (starts n deadline operation) = Some (Start n)

-- those that go with steps, in their order
abbrev pub orders_by : List StepValue → List Order
orders_by steps = filter_map order_by steps

-- what an order means, where these are the jobs after the event; a job that does not run cannot be
-- started
abbrev pub order_meant : Jobs JobValue → Order → Option OrderValue
order_meant after (Start job) = option_map (start job) (task_of job after)
order_meant after (Kill job) = Some (kill job)

abbrev pub told_shown : Told → ToldValue
told_shown t =
    record { number = t.number; operation = t.operation.now.value.items; is_last = t.is_last }
