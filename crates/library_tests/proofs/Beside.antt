-- What an instance's doings leave of another's.
use Rattle.std.proofs.Common.{◌≡◌, ℕ, ◌+◌, ◌≤◌, List, [], length, refl, sym, subst, arith}
use Rattle.blob_pool.specs.Slots.{Slots, count_at}
use Rattle.blob_pool.specs.Moves.{Moves}
use Rattle.instance_view.specs.Visible.{Blob}
use Rattle.instance_view.specs.Shown.{ViewValue, visible_in, holders}
use Rattle.instance_view.proofs.Held.{shown_apart, holders-few}
use Rattle.quota_evict.specs.Within.{AreBlobsWithin}
use Rattle.quota_evict.specs.InPool.{IsViewInPool}
use Rattle.quota_evict.proofs.Steps.{entries_fit, kept_none}
use Rattle.library_tests.specs.Beside.{AreBeside}

pub beside_none : (quota : ℕ) (p : Slots) (v w : ViewValue) → p ≡ [] → v.entries ≡ [] → w.entries ≡ [] → v.limit ≤ 65536 → w.limit ≤ 65536 →
    AreBeside quota p v w
beside_none quota p v w empty none none' small small' = record {
  exact = λ k. rw (empty, none, none') refl;
  first = kept_none quota p v empty none;
  second = kept_none quota p w empty none';
  first_limit = small;
  second_limit = small';
}

pub beside_swapped : (quota : ℕ) (p : Slots) (v w : ViewValue) → AreBeside quota p v w → AreBeside quota p w v
beside_swapped quota p v w b = record {
  exact = λ k. omega (arith, b.exact k);
  first = b.second;
  second = b.first;
  first_limit = b.second_limit;
  second_limit = b.first_limit;
}

pub beside_after : (quota : ℕ) (p q : Slots) (v w x : ViewValue) → AreBeside quota p v w → x.limit ≡ v.limit → IsViewInPool quota q x →
    Moves p q (holders v) (holders x) → AreBeside quota q x w
beside_after quota p q v w x b limit kept m =
    let exact : (k : ℕ) → count_at q k ≡ holders x k + holders w k = λ k. omega (arith, m.counts k, b.exact k) in
    let few : length x.entries ≤ 65536 = omega (arith, entries_fit quota q x kept, limit, b.first_limit) in
    let same : visible_in q w ≡ visible_in p w = shown_apart p q w.entries (holders v) (holders x) m (λ k. omega (arith, b.exact k)) in
    record {
      exact = exact;
      first = kept;
      second = record {
        held = record { counted = λ k. omega (arith, exact k); others = λ k. omega (arith, exact k, holders-few x.entries k, few) };
        within = subst (λ (bs : List Blob). AreBlobsWithin w.limit quota bs) (sym same) b.second.within;
      };
      first_limit = omega (arith, limit, b.first_limit);
      second_limit = b.second_limit;
    }
