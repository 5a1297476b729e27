-- Events whose exit status, if they tell one, is one of 32 bits: so each that the code takes.
use Rattle.instance_core.specs.Calls.{IsNarrowOutcome}
use Rattle.server_events.specs.Events.{LoneEvent, WhatValue, opened, received, took, closed, tick, ended}

abbrev pub IsNarrowWhat : WhatValue → Type 0
IsNarrowWhat (ended job outcome) = IsNarrowOutcome outcome
IsNarrowWhat (opened c) = Unit {0}
IsNarrowWhat (received c bytes) = Unit {0}
IsNarrowWhat (took c n) = Unit {0}
IsNarrowWhat (closed c) = Unit {0}
IsNarrowWhat tick = Unit {0}

abbrev pub IsNarrow : LoneEvent → Type 0
IsNarrow e = IsNarrowWhat e.what
