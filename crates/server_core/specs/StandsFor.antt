-- What a server keeps of each instance stands for that instance alone.
use Rattle.std.specs.Prelude.{◌≡◌, ℕ, List, [], ◌∷◌, Option, Some}
use Rattle.std.specs.declared.alloc.Global.{Global}
use Rattle.std.specs.declared.vec.Vec.{Vec}
use Rattle.execution.specs.declared.orders.Order.{Order}
use Rattle.execution.specs.Orders.{OrderValue}
use Rattle.instance_core.specs.Turns.{AreOrders}
use Rattle.std.specs.List.{slice_get}
use Rattle.served_instance.specs.Lone.{LoneInstance}
use Rattle.served_instance.specs.StandsFor.{ServedState, IsServedInstance}

-- a server: its instances, and the number of each one's parent, if it has one
pub record ServerState : Type 0 where
  pub instances : List ServedState
  pub parents : List (Option ℕ)

abbrev pub instance_at : ℕ → List ServedState → Option ServedState
instance_at i vs = slice_get vs i

-- the instance of this number is there and stands for this
abbrev pub StandsAt : ℕ → List ServedState → LoneInstance → Type 0
StandsAt i vs l = (v : ServedState) × (instance_at i vs ≡ Some v) × IsServedInstance v l

-- the instances stand for these, one by one
abbrev pub AllStand : List ServedState → List LoneInstance → Type 0
AllStand [] [] = Unit {0}
AllStand (v ∷ vs) (l ∷ ls) = IsServedInstance v l × AllStand vs ls
AllStand vs ls = ⊥

-- these orders of the instance of this number are those orders, one by one, with what its jobs have
abbrev pub OrdersStand : ℕ → List ServedState → Vec Order Global → List OrderValue → Type 0
OrdersStand i vs orders meant =
    (v : ServedState) → instance_at i vs ≡ Some v → AreOrders v.state.jobs orders.items meant
