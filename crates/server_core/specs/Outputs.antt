-- What a run gives.
use Rattle.std.specs.Prelude.{ℕ, List}
use Rattle.execution.specs.Orders.{OrderValue}
use Rattle.served_instance.specs.declared.refusal.EventRefusal.{EventRefusal}

pub record InstanceOutputValue : Type 0 where
  -- the bytes that were put on each connection, in order of opening, with its number
  pub sent : List (ℕ × List ℕ)
  -- what was ordered of whoever runs jobs, and at which of the instance's own events: the places
  -- count from 1
  pub orders : List (ℕ × OrderValue)
  -- which of its own events were refused, and why
  pub refusals : List (ℕ × EventRefusal)
