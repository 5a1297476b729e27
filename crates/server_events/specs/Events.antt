-- What happens to a server, and what of it happens to one instance.
use Rattle.std.specs.Prelude.{ℕ, ◌==◌, List, filter, map}
use Rattle.run_calls.specs.Outcomes.{OutcomeValue}

-- a connection was opened, got bytes, had some taken or was closed; time went on; or a job's run
-- ended
pub data WhatValue : Type 0 where
  opened : ℕ → WhatValue
  received : ℕ → List ℕ → WhatValue
  took : ℕ → ℕ → WhatValue
  closed : ℕ → WhatValue
  tick : WhatValue
  ended : ℕ → OutcomeValue → WhatValue

-- what happens at a moment, in milliseconds
pub record LoneEvent : Type 0 where
  pub moment : ℕ
  pub what : WhatValue

-- .. to the instance of a number
pub record EventValue : Type 0 where
  pub instance : ℕ
  pub lone : LoneEvent

-- what happens to the instance of one number, in order
abbrev pub own_events : ℕ → List EventValue → List LoneEvent
own_events instance events =
    map (λ event. event.lone) (filter (λ event. event.instance == instance) events)
