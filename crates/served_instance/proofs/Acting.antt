-- What an event does, by its kind.
use Rattle.std.proofs.Common.{◌≡◌, ◌≤◌, ℕ, List, [], length, map, Some, Result, refl, sym, ap, ◌∙◌, subst, arith}
use Rattle.std.proofs.lemmas.List.{length-map}
use Rattle.std.specs.Prelude.{IfOk, OnErr}
use Rattle.std.specs.declared.alloc.Global.{Global}
use Rattle.std.specs.declared.vec.Vec.{Vec}
use Rattle.execution.specs.declared.orders.Order.{Order}
use Rattle.execution.specs.Ordered.{order_meant}
use Rattle.instance_core.specs.Slots.{state_in}
use Rattle.server_events.specs.Events.{WhatValue, opened}
use Rattle.served_instance.specs.declared.open_connection.OpenConnection.{OpenConnection}
use Rattle.served_instance.specs.Acts.{ActsAtRest, HoldAlike, IsDone}
use Rattle.served_instance.specs.Cuts.{IsCut, others_than}
use Rattle.served_instance.specs.Lent.{LentValue, GoesOn, IsKept}
use Rattle.served_instance.specs.Lone.{LoneInstance, effect_of, orders_of_what}
use Rattle.served_instance.specs.Shown.{connection_shown}
use Rattle.served_instance.proofs.Cut.{finds_here}
use Rattle.served_instance.proofs.Kept.{alike_keeps, alike_moves}
use Rattle.served_instance.proofs.Lends.{with_connections}

-- of the event that it is
pub done_as : {E : Type 0} (r : Result (Vec Order Global) E) (a b : LentValue) (w v : WhatValue) → w ≡ v → IfOk r (IsDone v a b) →
    IfOk r (IsDone w a b)
done_as r a b w v e h = subst (λ (y : WhatValue). IfOk r (IsDone y a b)) (sym e) h

pub cut_as : {T E : Type 0} (r : Result T E) (a b : LentValue) (w v : WhatValue) → w ≡ v → OnErr r (IsCut v a b) → OnErr r (IsCut w a b)
cut_as r a b w v e h = subst (λ (y : WhatValue). OnErr r (IsCut y a b)) (sym e) h

-- an event that orders nothing
pub done_none : (a b : LentValue) (w v : WhatValue) (orders : Vec Order Global) → w ≡ v → orders.items ≡ [] →
    ((l : LoneInstance) → orders_of_what v l ≡ []) → ActsAtRest a b (effect_of v) → IsDone w a b orders
done_none a b w v orders e none all acts =
    subst (λ (y : WhatValue). IsDone y a b orders) (sym e) (record {
      acts = acts;
      orders = λ l st. ap (map (order_meant (state_in b.pool b.instance).jobs)) none ∙ sym (ap (map Some) (all l));
    })

-- a connection opens, or not for want of memory
pub opened_goes : (a : LentValue) (ns : List OpenConnection) → IsKept a → HoldAlike a.connections ns → length ns ≤ 64 →
    GoesOn a (with_connections a ns)
opened_goes a ns kept holds few =
    let vs = map connection_shown a.connections in
    let ws = map connection_shown ns in
    record {
      parent = refl;
      moves = alike_moves a.pool a.instance vs ws holds;
      kept = alike_keeps a.pool a.instance vs ws kept holds (omega (arith, few, length-map ns connection_shown));
    }

pub still_cut : (a : LentValue) (ns : List OpenConnection) (w : WhatValue) (c : ℕ) → w ≡ opened c → ns ≡ a.connections →
    IsCut w a (with_connections a ns)
still_cut a ns w c e same =
    subst (λ (y : WhatValue). IsCut y a (with_connections a ns)) (sym e)
    (record { acts = refl; others = same; finds = finds_here a.pool (others_than (opened c) a.connections) })
