-- What is noted of an instance's run stands for the run.
use Rattle.std.specs.Prelude.{◌≡◌, ◌≤◌, ◌+◌, ℕ, if◌then◌else◌, List, [], ◌∷◌, length}
use Rattle.std.specs.List.{AllByRecursion}
use Rattle.served_instance.specs.Bytes.{bytes_put, count_taken, untaken_count}
use Rattle.execution.specs.Orders.{OrderValue}
use Rattle.served_instance.specs.declared.refusal.EventRefusal.{EventRefusal}
use Rattle.served_instance.specs.Connections.{LoneConnection, AreApart, open_ones}
use Rattle.served_instance.specs.Lone.{all_sent_bytes}
use Rattle.server_core.specs.declared.record.OpenRecord.{OpenRecord}
use Rattle.server_core.specs.Runs.{Run}

pub record RecordValue : Type 0 where
  pub count : ℕ
  pub orders : List (ℕ × OrderValue)
  pub refusals : List (ℕ × EventRefusal)
  pub sent : List (ℕ × List ℕ)
  pub live : List OpenRecord

abbrev pub open_record : ℕ → LoneConnection → OpenRecord
open_record place k =
    record { number = k.number; place = place; untaken = untaken_count k.past.history }

-- the open ones of connections of which the first has this place
abbrev pub open_from : ℕ → List LoneConnection → List OpenRecord
open_from place [] = []
open_from place (k ∷ ks) =
    if k.is_open then open_record place k ∷ open_from (place + 1) ks else open_from (place + 1) ks

-- no more was taken than was put
abbrev pub IsTakenFrom : LoneConnection → Type 0
IsTakenFrom k = count_taken k.past.history ≤ length (bytes_put k.past.history)

pub record IsRecord (v : RecordValue) (r : Run) : Type 0 where
  pub count : v.count ≡ r.count
  pub orders : v.orders ≡ r.orders
  pub refusals : v.refusals ≡ r.refusals
  pub sent : v.sent ≡ all_sent_bytes r.lone
  pub live : v.live ≡ open_from 0 r.lone.connections
  pub taken : AllByRecursion IsTakenFrom (open_ones r.lone.connections)
  pub apart : AreApart r.lone.connections
