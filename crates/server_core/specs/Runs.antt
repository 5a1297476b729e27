-- The run of one instance by itself, and of one with its parent: event after event, and what comes
-- of them. Why an event is refused (`refusal_of`), and what it makes of the instance (`lone_step`),
-- is in served_instance, Refusals.antt.
use Rattle.std.specs.Prelude.{ℕ, ◌+◌, List, [], ◌∷◌, ◌++◌, fold, map, Option, Some, None}
use Rattle.std.specs.Option.{option_map, option_map_or}
use Rattle.execution.specs.Orders.{OrderValue}
use Rattle.instance_core.specs.Visible.{Blob}
use Rattle.server_events.specs.Configs.{ConfigValue}
use Rattle.server_events.specs.Events.{LoneEvent}
use Rattle.served_instance.specs.declared.refusal.EventRefusal.{EventRefusal}
use Rattle.served_instance.specs.Lone.{LoneInstance, new_lone, all_sent_bytes}
use Rattle.served_instance.specs.Refusals.{refusal_of, lone_step, lone_orders}
use Rattle.server_core.specs.Families.{Family, FamilyEvent, own_event, parent_event}
use Rattle.server_core.specs.Outputs.{InstanceOutputValue}

pub record Run : Type 0 where
  pub lone : LoneInstance
  -- how many events there were
  pub count : ℕ
  -- what was ordered, and at which of them, from 1
  pub orders : List (ℕ × OrderValue)
  -- the places of those that were refused, and why
  pub refusals : List (ℕ × EventRefusal)

abbrev pub new_run : ConfigValue → Run
new_run config = record {
  lone = new_lone config.name config.quota config.slots config.limits;
  count = 0;
  orders = [];
  refusals = [];
}

abbrev pub orders_at : ℕ → List OrderValue → List (ℕ × OrderValue)
orders_at place orders = map (λ (order : OrderValue). (place, order)) orders

abbrev pub refusals_at : ℕ → Option EventRefusal → List (ℕ × EventRefusal)
refusals_at place None = []
refusals_at place (Some refusal) = (place, refusal) ∷ []

-- an event happens while the instance's parent has these texts
abbrev pub run_step : List Blob → Run → LoneEvent → Run
run_step parent r e = record {
  lone = lone_step parent e r.lone;
  count = r.count + 1;
  orders = r.orders ++ orders_at (r.count + 1) (lone_orders parent e r.lone);
  refusals = r.refusals ++ refusals_at (r.count + 1) (refusal_of e r.lone);
}

-- of an instance that builds on no other
abbrev pub run_of : ConfigValue → List LoneEvent → Run
run_of config events = fold (run_step []) (new_run config) events

-- ---- an instance and its parent

pub record FamilyRun : Type 0 where
  pub own : Run
  pub parent : Option Run

abbrev pub new_family_run : Family → FamilyRun
new_family_run family =
    record { own = new_run family.own; parent = option_map new_run family.parent }

-- the texts that the parent has now, in its own list
abbrev pub texts_of_parent : Option Run → List Blob
texts_of_parent parent = option_map_or (λ r. r.lone.state.visible) parent []

-- the instance reads what its parent has by then; the parent goes its own way
abbrev pub family_step : FamilyRun → FamilyEvent → FamilyRun
family_step f (own_event e) = record f { own = run_step (texts_of_parent f.parent) f.own e }
family_step f (parent_event e) =
    record f { parent = option_map (λ r. run_step [] r e) f.parent }

abbrev pub run_of_family : Family → List FamilyEvent → FamilyRun
run_of_family family events = fold family_step (new_family_run family) events

-- ---- what a run gives

abbrev pub output_of_run : Run → InstanceOutputValue
output_of_run r =
    record { sent = all_sent_bytes r.lone; orders = r.orders; refusals = r.refusals }
