-- What the parent of an instance has stays while the instance does something.
use Rattle.std.proofs.Common.{◌≡◌, List, sym, ap, subst, ◌∙◌, arith}
use Rattle.std.specs.List.{AllByRecursion}
use Rattle.blob_pool.specs.Slots.{Slots}
use Rattle.blob_pool.specs.Moves.{Moves, no_holders}
use Rattle.instance_core.specs.Naming.{Names}
use Rattle.instance_core.specs.Visible.{Blob}
use Rattle.instance_core.specs.InstanceViewShown.{ViewValue, visible_in}
use Rattle.instance_core.specs.State.{seeing}
use Rattle.instance_core.specs.Slots.{InstanceSlots, state_in, state_beside, IsBeside}
use Rattle.instance_core.proofs.Sees.{parent_same}
use Rattle.served_instance.specs.declared.open_connection.OpenConnection.{OpenConnection}
use Rattle.served_instance.specs.StandsFor.{ServedConnection}
use Rattle.served_instance.specs.Slots.{ServedSlots, holders_of, IsServedInPool, IsServedBeside}
use Rattle.served_instance.specs.Ranges.{Releases}
use Rattle.served_instance.specs.Acts.{slots_of}
use Rattle.served_instance.proofs.Kept.{slots_at, same_state}

pub moved_beside : (p q : Slots) (parent : ViewValue) (a b : ServedSlots) → Moves p q (holders_of a) (holders_of b) →
    IsServedBeside p parent a → IsServedBeside q parent b
moved_beside p q parent a b m h = record {
  counted = λ k. omega (arith, m.counts k, h.counted k);
  named = subst (λ (bs : List Blob). AllByRecursion (λ (x : Blob). Names x.0 x.1) bs)
      (sym (parent_same p q parent (holders_of a) (holders_of b) m h.counted)) h.named;
}

pub instance_beside : (p : Slots) (parent : ViewValue) (i : InstanceSlots) (os : List OpenConnection) →
    IsServedBeside p parent (slots_of i os) → IsBeside p parent i
instance_beside p parent i os h = record { counted = λ k. omega (arith, h.counted k); named = h.named }

-- the instance's state with its parent's texts, where both find their texts still
pub both_same : (p q : Slots) (parent : ViewValue) (i : InstanceSlots) → visible_in q parent ≡ visible_in p parent →
    state_in q i ≡ state_in p i → state_beside q parent i ≡ state_beside p parent i
both_same p q parent i theirs own = ap (λ (bs : List Blob). seeing bs (state_in q i)) theirs ∙ ap (seeing (visible_in p parent)) own

-- sources were released
pub released_beside : (p q : Slots) (parent : ViewValue) (i : InstanceSlots) (vs ws : List ServedConnection) →
    IsServedInPool p (slots_at i vs) → IsServedBeside p parent (slots_at i vs) → Releases p vs q ws →
    state_beside q parent i ≡ state_beside p parent i
released_beside p q parent i vs ws kept h r =
    both_same p q parent i (parent_same p q parent _ no_holders r.moves (λ k. omega (arith, h.counted k, r.sources k)))
    (same_state p q i vs ws kept r)
