-- Texts of two lists, one behind the other.
use Rattle.std.proofs.Common.{◌≡◌, ℕ, Bool, true, false, cond, List, [], ◌∷◌, ◌++◌, refl, ap}
use Rattle.std.specs.Prelude.{Some, None}
use Rattle.std.specs.Map.{lookup}
use Rattle.digest.specs.declared.Digest.{Digest}
use Rattle.digest.specs.Naming.{same_digest, is_empty_digest}
use Rattle.blob_pool.specs.Slots.{Slots}
use Rattle.instance_view.specs.Visible.{Blob, visible_text}
use Rattle.instance_view.specs.Shown.{ViewEntry, ViewValue, blob_in, blobs_in, visible_in}
use Rattle.instance_view.specs.Sight.{SightValue, seen_in}

lookup-some : (t : Digest → Bool) (as' bs : List Blob) (x : List ℕ) → lookup t as' ≡ Some x → lookup t (as' ++ bs) ≡ Some x
lookup-some t [] bs x is = cc
lookup-some t (a ∷ as') bs x is = at (t a.0) refl is (λ later. lookup-some t as' bs x later) where
  at : (c : Bool) → t a.0 ≡ c → cond c (Some a.1) (lookup t as') ≡ Some x → (lookup t as' ≡ Some x → lookup t (as' ++ bs) ≡ Some x) →
      lookup t (a ∷ as' ++ bs) ≡ Some x
  at true c is ih = rw c is
  at false c is ih = rw c (ih is)

lookup-none : (t : Digest → Bool) (as' bs : List Blob) → lookup t as' ≡ None → lookup t (as' ++ bs) ≡ lookup t bs
lookup-none t [] bs is = refl
lookup-none t (a ∷ as') bs is = at (t a.0) refl is (λ later. lookup-none t as' bs later) where
  at : (c : Bool) → t a.0 ≡ c → cond c (Some a.1) (lookup t as') ≡ None → (lookup t as' ≡ None → lookup t (as' ++ bs) ≡ lookup t bs) →
      lookup t (a ∷ as' ++ bs) ≡ lookup t bs
  at true c is ih = absurd (cc)
  at false c is ih = rw c (ih is)

-- what the first has is seen
pub own_text : (d : Digest) (as' bs : List Blob) (x : List ℕ) → visible_text d as' ≡ Some x → visible_text d (as' ++ bs) ≡ Some x
own_text d as' bs x is = at (is_empty_digest d) is where
  at : (c : Bool) → cond c (Some []) (lookup (same_digest d) as') ≡ Some x → cond c (Some []) (lookup (same_digest d) (as' ++ bs)) ≡ Some x
  at true is = is
  at false is = lookup-some (same_digest d) as' bs x is

-- and else what the other has
pub parents_text : (d : Digest) (as' bs : List Blob) → visible_text d as' ≡ None → visible_text d (as' ++ bs) ≡ visible_text d bs
parents_text d as' bs is = at (is_empty_digest d) is where
  at : (c : Bool) → cond c (Some []) (lookup (same_digest d) as') ≡ None →
      cond c (Some []) (lookup (same_digest d) (as' ++ bs)) ≡ cond c (Some []) (lookup (same_digest d) bs)
  at true is = refl
  at false is = lookup-none (same_digest d) as' bs is

-- the two as one list of entries
abbrev pub both : SightValue → ViewValue
both s = record { entries = s.own.entries ++ s.parent.entries; limit = s.own.limit }

joined_shown : (p : Slots) (v w : List ViewEntry) → blobs_in p (v ++ w) ≡ blobs_in p v ++ blobs_in p w
joined_shown p [] w = refl
joined_shown p (e ∷ v) w = ap (λ (bs : List Blob). blob_in p e ∷ bs) (joined_shown p v w)

pub both_shown : (p : Slots) (s : SightValue) → visible_in p (both s) ≡ seen_in p s
both_shown p s = joined_shown p s.own.entries s.parent.entries
