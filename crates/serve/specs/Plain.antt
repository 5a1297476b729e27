-- The plain values of which promises speak: each says what is there, and nothing of it is left out.
-- Whoever trusts that can pass them over.
-- a configuration; an event, what happened in it, and what a run gave
pub use Rattle.server_events.specs.Configs.{ConfigValue}
pub use Rattle.server_events.specs.Events.{EventValue, LoneEvent, WhatValue}
pub use Rattle.run_calls.specs.Outcomes.{NodeKindValue, OutputNodeValue, OutputValue, ExitedValue, OutcomeValue}
-- a text under its digest; what is ordered to be run, and what stands in its input root
pub use Rattle.instance_core.specs.Visible.{Blob}
pub use Rattle.actions.specs.Nodes.{PlanNodeValue, PlanKindValue}
pub use Rattle.run_calls.specs.Nodes.{NodeKindValue as TreeKindValue, NodeValue}
pub use Rattle.execution.specs.Job.{TaskValue}
pub use Rattle.execution.specs.Orders.{OrderValue}
-- what an instance gave; what happened at sockets and at runs
pub use Rattle.server_core.specs.Outputs.{InstanceOutputValue}
pub use Rattle.serve.specs.SocketEvents.{PortEvent, SocketEvent}
pub use Rattle.serve.specs.RunEvents.{RunEvent}
