-- A blob that an admission drops had no room.
use Rattle.std.proofs.Common.{◌≡◌, ◌+◌, ◌-◌, ◌<◌, ◌≤◌, ℕ, zero, suc, Bool, true, false, cond, List, [], ◌∷◌, ◌++◌, length, take, refl, sym, ap, ◌∙◌, subst, inl, inr, arith}
use Rattle.std.specs.Prelude.{◌⊎◌, is_some, nat_le, nat_lt, Contains, Option, Some, None}
use Rattle.std.specs.List.{AllByRecursion, IsDistinct}
use Rattle.std.specs.Map.{keys_of, lookup, lookup_entry, remove_entry}
use Rattle.std.specs.Option.{option_map_or}
use Rattle.std.proofs.lemmas.Bool.Decides.{nat_tests}
use Rattle.std.proofs.lemmas.Map.Keys.{IsDistinct-cons}
use Rattle.digest.specs.declared.Digest.{Digest}
use Rattle.digest.specs.Naming.{Names, same_digest, is_empty_digest}
use Rattle.digest.proofs.Same.{same_equal}
use Rattle.instance_view.specs.Visible.{Blob, visible_text, visible_after_use, blobs_length}
use Rattle.quota_evict.specs.Admission.{longest_front, visible_after_admission}
use Rattle.quota_evict.specs.Within.{AreBlobsWithin}
use Rattle.instance_core.specs.Room.{IsOneOf, HadNoRoom}

-- ---- a blob behind others of some digests

abbrev pub IsKnown : List Digest → Blob → Type 0
IsKnown ds x = IsOneOf ds x.0

abbrev pub Behind : List Digest → Blob → List Blob → Type 0
Behind ds b [] = ⊥
Behind ds b (x ∷ xs) = (x ≡ b) ⊎ (IsKnown ds x × Behind ds b xs)

-- what stands before it, and behind it
record Split (ds : List Digest) (b : Blob) (xs : List Blob) : Type 0 where
  ahead : List Blob
  rest : List Blob
  whole : xs ≡ ahead ++ b ∷ rest
  known : AllByRecursion (IsKnown ds) ahead

split_at : (ds : List Digest) (b : Blob) (xs : List Blob) → Behind ds b xs → Split ds b xs
split_at ds b [] h = absurd h
split_at ds b (x ∷ xs) (inl is) = record { ahead = []; rest = xs; whole = ap (λ (y : Blob). y ∷ xs) is; known = tt }
split_at ds b (x ∷ xs) (inr h) =
    let s = split_at ds b xs h.1 in
    record { ahead = x ∷ s.ahead; rest = s.rest; whole = ap (λ (ys : List Blob). x ∷ ys) s.whole; known = (h.0, s.known) }

pub behind_front : (ds : List Digest) (front back : List Blob) (b : Blob) → AllByRecursion (IsOneOf ds) (keys_of front) →
    Behind ds b (front ++ b ∷ back)
behind_front ds [] back b h = inl refl
behind_front ds (x ∷ front) back b h = inr (h.0, behind_front ds front back b h.1)

pub behind_there : (ds : List Digest) (b : Blob) (xs : List Blob) → Behind ds b xs → Contains xs b
behind_there ds b [] h = absurd h
behind_there ds b (x ∷ xs) (inl is) = (0, omega arith, is)
behind_there ds b (x ∷ xs) (inr h) =
    let there = behind_there ds b xs h.1 in
    let within = there.1 in
    (suc there.0, omega arith, there.2)

-- ---- a use

removed : (ds : List Digest) (b pair : Blob) (test : Digest → Bool) (xs : List Blob) → lookup_entry test xs ≡ Some pair → Behind ds b xs →
    (pair ≡ b) ⊎ Behind ds b (remove_entry test xs)
removed ds b pair test [] is h = absurd h
removed ds b pair test (x ∷ xs) is h = go (test x.0) is h (λ later there. removed ds b pair test xs later there) where
  go : (t : Bool) → cond t (Some x) (lookup_entry test xs) ≡ Some pair → Behind ds b (x ∷ xs) →
      (lookup_entry test xs ≡ Some pair → Behind ds b xs → (pair ≡ b) ⊎ Behind ds b (remove_entry test xs))
      → (pair ≡ b) ⊎ Behind ds b (cond t xs (x ∷ remove_entry test xs))
  go true is (inl same) later = let first : x ≡ pair = cc in inl (sym first ∙ same)
  go true is (inr h) later = inr h.1
  go false is (inl same) later = inr (inl same)
  go false is (inr h) later = elim (later is h.1) [
    | inl same ↦ inl same
    | inr there ↦ inr (inr (h.0, there))
  ]

found_same : (d : Digest) (xs : List Blob) (pair : Blob) → lookup_entry (same_digest d) xs ≡ Some pair → d ≡ pair.0
found_same d [] pair is = absurd (cc)
found_same d (x ∷ xs) pair is = go (same_digest d x.0) refl is (λ later. found_same d xs pair later) where
  go : (t : Bool) → same_digest d x.0 ≡ t → cond t (Some x) (lookup_entry (same_digest d) xs) ≡ Some pair →
      (lookup_entry (same_digest d) xs ≡ Some pair → d ≡ pair.0) → d ≡ pair.0
  go true same is later = let first : x ≡ pair = cc in same_equal d x.0 same ∙ ap (λ (y : Blob). y.0) first
  go false other is later = later is

-- the digest is known, or that of the first is
abbrev pub KnowsFirst : List Digest → Digest → List Blob → Type 0
KnowsFirst ds d xs = IsOneOf ds d ⊎ AllByRecursion (IsOneOf ds) (keys_of (take 1 xs))

pub used_behind : (ds : List Digest) (d : Digest) (b : Blob) (xs : List Blob) → KnowsFirst ds d (visible_after_use d xs) → Behind ds b xs →
    Behind ds b (visible_after_use d xs)
used_behind ds d b xs knows h = go (lookup_entry (same_digest d) xs) refl knows where
  known : (pair : Blob) → lookup_entry (same_digest d) xs ≡ Some pair → KnowsFirst ds d (pair ∷ remove_entry (same_digest d) xs) →
      IsKnown ds pair
  known pair is (inl one) = subst (IsOneOf ds) (found_same d xs pair is) one
  known pair is (inr first) = first.0

  go : (o : Option Blob) → lookup_entry (same_digest d) xs ≡ o →
      KnowsFirst ds d (option_map_or (λ pair. pair ∷ remove_entry (same_digest d) xs) o xs) →
      Behind ds b (option_map_or (λ pair. pair ∷ remove_entry (same_digest d) xs) o xs)
  go None is knows = h
  go (Some pair) is knows = elim (removed ds b pair (same_digest d) xs is h) [
    | inl same ↦ inl same
    | inr there ↦ inr (known pair is knows, there)
  ]

-- ---- an admission

-- it stood behind more than there is room for
record CutOff (room n : ℕ) (ds : List Digest) (b : Blob) (xs : List Blob) : Type 0 where
  place : Split ds b xs
  full : (room < blobs_length place.ahead + length b.1) ⊎ (n ≤ length place.ahead)

first_too_long : (room n : ℕ) (ds : List Digest) (b x : Blob) (xs : List Blob) → room < length x.1 → Behind ds b (x ∷ xs) →
    CutOff room n ds b (x ∷ xs)
first_too_long room n ds b x xs long (inl is) =
    let size : length x.1 ≡ length b.1 = ap (λ (y : Blob). length y.1) is in
    record { place = record { ahead = []; rest = xs; whole = ap (λ (y : Blob). y ∷ xs) is; known = tt }; full = inl (omega arith) }
first_too_long room n ds b x xs long (inr h) =
    let s = split_at ds b xs h.1 in
    record {
      place = record { ahead = x ∷ s.ahead; rest = s.rest; whole = ap (λ (ys : List Blob). x ∷ ys) s.whole; known = (h.0, s.known) };
      full = inl (omega arith);
    }

one_more : (room n : ℕ) (ds : List Digest) (b x : Blob) (xs : List Blob) → IsKnown ds x → length x.1 ≤ room →
    CutOff (room - length x.1) n ds b xs → CutOff room (suc n) ds b (x ∷ xs)
one_more room n ds b x xs known small c =
    let p = c.place in
    record {
      place = record { ahead = x ∷ p.ahead; rest = p.rest; whole = ap (λ (ys : List Blob). x ∷ ys) p.whole; known = (known, p.known) };
      full = more c.full;
    }
  where
    more : ((room - length x.1) < blobs_length c.place.ahead + length b.1) ⊎ (n ≤ length c.place.ahead) →
        (room < blobs_length (x ∷ c.place.ahead) + length b.1) ⊎ (suc n ≤ length (x ∷ c.place.ahead))
    more (inl long) = inl (omega arith)
    more (inr many) = inr (omega arith)

cut : (room n : ℕ) (ds : List Digest) (b : Blob) (xs : List Blob) → Behind ds b xs →
    Behind ds b (take n (longest_front room xs)) ⊎ CutOff room n ds b xs
cut room n ds b [] h = absurd h
cut room n ds b (x ∷ xs) h = go (nat_le (length x.1) room) refl n h (λ m there. cut (room - length x.1) m ds b xs there) where
  go : (t : Bool) → nat_le (length x.1) room ≡ t → (m : ℕ) → Behind ds b (x ∷ xs)
      → ((k : ℕ) → Behind ds b xs → Behind ds b (take k (longest_front (room - length x.1) xs)) ⊎ CutOff (room - length x.1) k ds b xs)
      → Behind ds b (take m (cond t (x ∷ longest_front (room - length x.1) xs) [])) ⊎ CutOff room m ds b (x ∷ xs)
  go false le m h later =
      let long : room < length x.1 = grind (arith, nat_tests) in
      inr (first_too_long room m ds b x xs long h)
  go true le zero h later = inr (record { place = split_at ds b (x ∷ xs) h; full = inr (omega arith) })
  go true le (suc k) (inl is) later = inl (inl is)
  go true le (suc k) (inr h) later =
      let small : length x.1 ≤ room = grind (arith, nat_tests) in
      elim (later k h.1) [
        | inl there ↦ inl (inr (h.0, there))
        | inr c ↦ inr (one_more room k ds b x xs h.0 small c)
      ]

-- ---- what is named, and stands once

keys_front : (P : Digest → Type 0) (ahead : List Blob) (b : Blob) (rest : List Blob) → AllByRecursion P (keys_of (ahead ++ b ∷ rest)) →
    AllByRecursion P (keys_of (ahead ++ b ∷ []))
keys_front P [] b rest h = (h.0, tt)
keys_front P (x ∷ ahead) b rest h = (h.0, keys_front P ahead b rest h.1)

once_front : (ahead : List Blob) (b : Blob) (rest : List Blob) → IsDistinct same_digest (keys_of (ahead ++ b ∷ rest)) →
    IsDistinct same_digest (keys_of (ahead ++ b ∷ []))
unfolding IsDistinct
once_front [] b rest h = (tt, tt)
once_front (x ∷ ahead) b rest h = (keys_front (λ (y : Digest). same_digest x.0 y ≡ false) ahead b rest h.0, once_front ahead b rest h.1)

blobs_front : (P : Blob → Type 0) (ahead back : List Blob) → AllByRecursion P (ahead ++ back) → AllByRecursion P ahead
blobs_front P [] back h = tt
blobs_front P (x ∷ ahead) back h = (h.0, blobs_front P ahead back h.1)

differ : (d : Digest) (xs : List Blob) → lookup (same_digest d) xs ≡ None →
    AllByRecursion (λ (y : Digest). same_digest d y ≡ false) (keys_of xs)
differ d [] h = tt
differ d (x ∷ xs) h = go (same_digest d x.0) refl h (λ later. differ d xs later) where
  go : (t : Bool) → same_digest d x.0 ≡ t → cond t (Some x.1) (lookup (same_digest d) xs) ≡ None →
      (lookup (same_digest d) xs ≡ None → AllByRecursion (λ (y : Digest). same_digest d y ≡ false) (keys_of xs)) →
      AllByRecursion (λ (y : Digest). same_digest d y ≡ false) (keys_of (x ∷ xs))
  go true is h later = absurd (cc)
  go false is h later = (is, later h)

absent : (d : Digest) (xs : List Blob) → is_some (visible_text d xs) ≡ false → lookup (same_digest d) xs ≡ None
absent d xs h = go (is_empty_digest d) (lookup (same_digest d) xs) refl h where
  go : (t : Bool) (o : Option (List ℕ)) → lookup (same_digest d) xs ≡ o → is_some (cond t (Some []) o) ≡ false →
      lookup (same_digest d) xs ≡ None
  go true o at h = absurd (cc)
  go false None at h = at
  go false (Some text) at h = absurd (cc)

-- ---- an admission keeps the blob, or it had no room

abbrev pub Stays : ℕ → ℕ → List Digest → Blob → List Blob → Type 0
Stays limit quota ds b xs = Behind ds b xs ⊎ HadNoRoom limit quota ds b

length_more : (xs : List Blob) (b : Blob) → length (xs ++ b ∷ []) ≡ suc (length xs)
length_more [] b = refl
length_more (x ∷ xs) b = ap suc (length_more xs b)

bytes_more : (xs : List Blob) (b : Blob) → blobs_length (xs ++ b ∷ []) ≡ blobs_length xs + length b.1
bytes_more [] b = omega arith
bytes_more (x ∷ xs) b = let more = bytes_more xs b in omega arith

put_out : (limit quota : ℕ) (ds : List Digest) (d : Digest) (text : List ℕ) (b : Blob) (xs : List Blob) → AreBlobsWithin limit quota xs →
    Names d text → IsOneOf ds d → lookup (same_digest d) xs ≡ None → length text ≤ quota
    → CutOff (quota - length text) (limit - 1) ds b xs → HadNoRoom limit quota ds b
put_out limit quota ds d text b xs w names one new small c =
    let p = c.place in
    let once : IsDistinct same_digest (keys_of ((d, text) ∷ xs)) =
    IsDistinct-cons same_digest d (keys_of xs) (differ d xs new) w.distinct in
    record {
      ahead = (d, text) ∷ p.ahead;
      known = (one, p.known);
      named = (
        names,
        blobs_front (λ (x : Blob). Names x.0 x.1) p.ahead (b ∷ p.rest)
            (subst (AllByRecursion (λ (x : Blob). Names x.0 x.1)) p.whole w.named),
      );
      once = once_front ((d, text) ∷ p.ahead) b p.rest
          (subst (λ (ys : List Blob). IsDistinct same_digest (keys_of ((d, text) ∷ ys))) p.whole once);
      full = all c.full;
    }
  where
    bytes : blobs_length (c.place.ahead ++ b ∷ []) ≡ blobs_length c.place.ahead + length b.1
    bytes = bytes_more c.place.ahead b

    count : length (c.place.ahead ++ b ∷ []) ≡ suc (length c.place.ahead)
    count = length_more c.place.ahead b

    all : ((quota - length text) < blobs_length c.place.ahead + length b.1) ⊎ ((limit - 1) ≤ length c.place.ahead)
        → (quota < blobs_length ((d, text) ∷ c.place.ahead ++ b ∷ [])) ⊎ (limit < length ((d, text) ∷ c.place.ahead ++ b ∷ []))
    all (inl long) = inl (omega (arith, bytes, long, small))
    all (inr many) = inr (omega (arith, count, many))

pub admitted_stays : (limit quota : ℕ) (ds : List Digest) (d : Digest) (text : List ℕ) (b : Blob) (xs : List Blob) →
    AreBlobsWithin limit quota xs → Names d text → KnowsFirst ds d (visible_after_admission limit quota d text xs) → Behind ds b xs
    → Stays limit quota ds b (visible_after_admission limit quota d text xs)
admitted_stays limit quota ds d text b xs w names knows h =
    go (is_some (visible_text d xs)) refl (nat_lt quota (length text)) refl knows where
      one_of : (ys : List Blob) → KnowsFirst ds d ((d, text) ∷ ys) → IsOneOf ds d
      one_of ys (inl one) = one
      one_of ys (inr first) = first.0

      go : (s : Bool) → is_some (visible_text d xs) ≡ s → (t : Bool) → nat_lt quota (length text) ≡ t
          → KnowsFirst ds d (cond s (visible_after_use d xs)
          (cond t xs ((d, text) ∷ take (limit - 1) (longest_front (quota - length text) xs))))
          → Stays limit quota ds b (cond s (visible_after_use d xs)
          (cond t xs ((d, text) ∷ take (limit - 1) (longest_front (quota - length text) xs))))
      go true there t long knows = inl (used_behind ds d b xs knows h)
      go false there true long knows = inl h
      go false there false long knows =
          let small : length text ≤ quota = grind (arith, nat_tests) in
          let one = one_of (take (limit - 1) (longest_front (quota - length text) xs)) knows in
          elim (cut (quota - length text) (limit - 1) ds b xs h) [
            | inl stays ↦ inl (inr (one, stays))
            | inr c ↦ inr (put_out limit quota ds d text b xs w names one (absent d xs there) small c)
          ]
