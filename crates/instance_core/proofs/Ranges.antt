-- What a Read does to an instance's texts.
use Rattle.std.proofs.Common.{◌≡◌, ℕ, ◌≤◌, ◌^◌, List, [], Result, Ok, Err, refl, sym, subst, arith}
use Rattle.rpc.specs.declared.refusal.Refusal.{Refusal}
use Rattle.blob_pool.specs.Slots.{Slots, count_at}
use Rattle.blob_pool.specs.Moves.{Holders, Moves, no_holders, HasRoom}
use Rattle.instance_view.specs.Visible.{Blob}
use Rattle.instance_view.specs.Shown.{ViewValue, visible_in, holders}
use Rattle.instance_view.proofs.Held.{shown_apart, room_for_one}
use Rattle.quota_evict.specs.Within.{AreBlobsWithin}
use Rattle.quota_evict.specs.InPool.{IsViewInPool}
use Rattle.quota_evict.proofs.Limits.{used_within}
use Rattle.quota_evict.proofs.Steps.{entries_fit}
use Rattle.cas_service.specs.Changes as Texts
use Rattle.bytestream.specs.declared.reading.ReadAsked.{ReadAsked}
use Rattle.bytestream.specs.Reading.{after_asking}
use Rattle.instance_core.specs.Methods.{use_asked}

pub read_uses : (asked : Result ReadAsked Refusal) (limit quota : ℕ) (old : List Blob) →
    after_asking asked old ≡ Texts.visible_after_changes limit quota (use_asked asked) old
read_uses (Ok asked) limit quota old = refl
read_uses (Err refusal) limit quota old = refl

-- none of the changes are a front of them
pub none_made : (limit quota : ℕ) (cs : List Texts.TextChange) (old new : List Blob) → new ≡ old → Texts.MadeInPart limit quota cs old new
none_made limit quota cs old new is = record { made = []; left = cs; front = refl; so_far = is }

pub read_keeps : (asked : Result ReadAsked Refusal) (limit quota : ℕ) (old new : List Blob) → new ≡ after_asking asked old →
    AreBlobsWithin limit quota old → AreBlobsWithin limit quota new
read_keeps (Ok asked) limit quota old new is within =
    subst (AreBlobsWithin limit quota) (sym is) (used_within limit quota asked.digest old within)
read_keeps (Err refusal) limit quota old new is within = subst (AreBlobsWithin limit quota) (sym is) within

-- a holder more leaves what an instance shows
pub read_shown : (p q : Slots) (v w : ViewValue) (given : Holders) → Moves p q no_holders given → ((k : ℕ) → holders w k ≡ holders v k) →
    ((k : ℕ) → holders v k ≤ count_at p k) → visible_in q w ≡ visible_in p w
read_shown p q v w given m same held = shown_apart p q w.entries no_holders given m (λ k. omega (arith, same k, held k))

pub room_kept : (quota : ℕ) (p : Slots) (v : ViewValue) → IsViewInPool quota p v → v.limit ≤ 2 ^ 31 → HasRoom p
room_kept quota p v kept limit =
    let few = entries_fit quota p v kept in
    room_for_one p v.entries kept.held (omega (arith, few, limit))
