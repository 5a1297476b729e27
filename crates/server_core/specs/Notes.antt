-- What an event changes of what is noted of a run. For the code alone, but for `connection_change`,
-- which `InstanceRecord::note` asks for.
use Rattle.std.specs.Prelude.{ℕ, zero, suc, ◌==◌, ◌-◌, if◌then◌else◌, not, List, [], ◌∷◌, ◌++◌, map, filter, drop, length, fold}
use Rattle.std.specs.Option.{option_map_or}
use Rattle.served_instance.specs.Bytes.{pending_bytes}
use Rattle.server_events.specs.Events.{WhatValue, opened, took, closed}
use Rattle.served_instance.specs.Connections.{open_at}
use Rattle.served_instance.specs.Lone.{LoneInstance}
use Rattle.served_instance.specs.declared.broken.Broken.{Broken}
use Rattle.served_instance.specs.declared.broken.Broken.TheVariants.{One, All, AllAndJob}
use Rattle.server_core.specs.declared.record.ConnectionChange.{ConnectionChange}
use Rattle.server_core.specs.declared.record.ConnectionChange.TheVariants.{Opened, Took, Closed, Nothing}
use Rattle.server_core.specs.declared.record.OpenRecord.{OpenRecord}

-- what an event changes of which connections are open, and of how many bytes were taken
abbrev pub connection_change : WhatValue → ConnectionChange
connection_change (opened c) = Opened c
connection_change (took c n) = Took c n
connection_change (closed c) = Closed c
connection_change _ = Nothing

-- so many more bytes were taken on the connection of this number
abbrev pub record_after_taking : ℕ → ℕ → OpenRecord → OpenRecord
record_after_taking c n o = if o.number == c then record o { untaken = o.untaken - n } else o

-- which connections are open after an event, and how many bytes that were noted are not taken;
-- before it there were so many connections
abbrev pub open_records_changed : ConnectionChange → ℕ → List OpenRecord → List OpenRecord
open_records_changed (Opened c) count os =
    os ++ record { number = c; place = count; untaken = 0 } ∷ []
open_records_changed (Took c n) count os = map (record_after_taking c n) os
open_records_changed (Closed c) count os = filter (λ o. not (o.number == c)) os
open_records_changed Nothing count os = os

-- where this was broken off
abbrev pub open_records_left : Broken → List OpenRecord → List OpenRecord
open_records_left Broken.Nothing os = os
open_records_left (One c) os = filter (λ o. not (o.number == c)) os
open_records_left All os = []
open_records_left (AllAndJob n) os = []

abbrev pub open_records_after : WhatValue → ℕ → List OpenRecord → List OpenRecord
open_records_after what = open_records_changed (connection_change what)

abbrev pub sent_bytes_changed : ConnectionChange → List (ℕ × List ℕ) → List (ℕ × List ℕ)
sent_bytes_changed (Opened c) ss = ss ++ (c, []) ∷ []
sent_bytes_changed _ ss = ss

abbrev pub sent_bytes_after : WhatValue → List (ℕ × List ℕ) → List (ℕ × List ℕ)
sent_bytes_after what = sent_bytes_changed (connection_change what)

-- more bytes at a place
abbrev pub with_more_at : ℕ → List ℕ → List (ℕ × List ℕ) → List (ℕ × List ℕ)
with_more_at place more [] = []
with_more_at zero more (s ∷ ss) = (s.0, s.1 ++ more) ∷ ss
with_more_at (suc place) more (s ∷ ss) = s ∷ with_more_at place more ss

abbrev pub pending_bytes_on : LoneInstance → ℕ → List ℕ
pending_bytes_on l c = option_map_or (λ p. pending_bytes p.history) (open_at c l.connections) []

-- what an open connection's pending bytes have behind those that were noted
abbrev pub sent_bytes_with : LoneInstance → List (ℕ × List ℕ) → OpenRecord → List (ℕ × List ℕ)
sent_bytes_with l ss o = with_more_at o.place (drop o.untaken (pending_bytes_on l o.number)) ss

abbrev pub sent_bytes_with_all : LoneInstance → List OpenRecord → List (ℕ × List ℕ) →
    List (ℕ × List ℕ)
sent_bytes_with_all l os ss = fold (sent_bytes_with l) ss os

abbrev pub record_after_noting : LoneInstance → OpenRecord → OpenRecord
record_after_noting l o = record o { untaken = length (pending_bytes_on l o.number) }
