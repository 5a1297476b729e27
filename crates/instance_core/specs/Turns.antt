-- What happens to jobs at the end of an event, as it is made ready in the code.
use Rattle.std.specs.Prelude.{◌≡◌, List, map, Some}
use Rattle.std.specs.List.{filter_map}
use Rattle.blob_pool.specs.Slots.{Slots}
use Rattle.job_queue.specs.Jobs.{Jobs}
use Rattle.execution.specs.declared.orders.Order.{Order}
use Rattle.execution.specs.Job.{JobValue}
use Rattle.execution.specs.Ordered.{order_meant}
use Rattle.execution.specs.Orders.{OrderValue}
use Rattle.execution.specs.Steps.{jobs_after_steps}
use Rattle.execution.specs.Taking.{steps_shown}
use Rattle.instance_core.specs.declared.turns.Turn.{Turn}
use Rattle.instance_core.specs.Answer.{orders_at, steps_at}
use Rattle.instance_core.specs.Calls.{CallEventValue}
use Rattle.instance_core.specs.Replies.{ReplyValue}
use Rattle.instance_core.specs.Shown.{reply_shown}
use Rattle.instance_core.specs.State.{InstanceState}

-- these orders of the code are those orders, one by one, with what the jobs have, where these are
-- the jobs after the event
abbrev pub AreOrders : Jobs JobValue → List Order → List OrderValue → Type 0
AreOrders after orders values = map (order_meant after) orders ≡ map Some values

-- what any orders come to, where a start of a job that does not run is passed over
abbrev pub orders_meant : Jobs JobValue → List Order → List OrderValue
orders_meant after orders = filter_map (order_meant after) orders

-- it is ready for this event of an instance in this state, with these replies
pub record IsReady (p : Slots) (s : InstanceState) (event : CallEventValue)
    (sent : List ReplyValue) (turn : Turn) : Type 0 where
  pub replies : map (reply_shown p) turn.replies.items ≡ sent
  pub steps : steps_shown turn.steps.items ≡ steps_at s event
  pub orders : AreOrders (jobs_after_steps (steps_at s event) s.jobs) turn.orders.items
      (orders_at s event)
