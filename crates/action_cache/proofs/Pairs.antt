-- Pairs of a cache, seen with their bytes.
use Rattle.std.proofs.Common.{◌≡◌, ℕ, zero, suc, ◌+◌, ◌-◌, ◌<◌, ◌≤◌, ◌⊎◌, inl, inr, nat_le, Bool, true, false, cond, List, [], ◌∷◌, length, take, map, Option, Some, None, refl, sym, ap, ◌∙◌, arith}
use Rattle.std.specs.Prelude.{option_map, slice_get}
use Rattle.std.specs.declared.alloc.Global.{Global}
use Rattle.std.specs.declared.vec.Vec.{Vec}
use Rattle.std.specs.Map.{lookup, lookup_entry, remove_entry}
use Rattle.std.proofs.lemmas.List.{length-map, length-take-le, take-map}
use Rattle.std.proofs.lemmas.Map.Made.{lookup-map_values}
use Rattle.std.proofs.lemmas.Option.{slice_get-map}
use Rattle.std.proofs.lemmas.Bool.Decides.{nat_tests}
use Rattle.keyed_maps.specs.LruCache.{LruCache, put_entries}
use Rattle.keyed_maps.proofs.CacheLemmas.{Contains-lookup_entry}
use Rattle.digest.specs.declared.Digest.{Digest}
use Rattle.digest.specs.Naming.{same_digest}
use Rattle.digest.proofs.Same.{same_equal}
use Rattle.instance_view.specs.Visible.{Blob, with_match_first, blobs_length, without_oldest}
use Rattle.instance_view.specs.Insertion.{text_length}
use Rattle.action_cache.specs.Results.{result_shown, front_within}
use Rattle.action_cache.specs.Lengths.{length_or_zero}

abbrev pub Kept : Type 0
Kept = Digest × Vec ℕ Global

abbrev items_of : Vec ℕ Global → List ℕ
items_of text = text.items

pub lookup-result_shown : (t : Digest → Bool) (es : List Kept) → lookup t (map result_shown es) ≡ option_map items_of (lookup t es)
lookup-result_shown t es = lookup-map_values items_of t es

pub lookup_some : (t : Digest → Bool) (es : List Kept) (text : Vec ℕ Global) → Some text ≡ lookup t es →
    Some text.items ≡ lookup t (map result_shown es)
lookup_some t es text is = sym (lookup-result_shown t es ∙ ap (option_map items_of) (sym is))

pub lookup_none : (t : Digest → Bool) (es : List Kept) → None ≡ lookup t es → None ≡ lookup t (map result_shown es)
lookup_none t es is = sym (lookup-result_shown t es ∙ ap (option_map items_of) (sym is))

pub lookup_entry-result_shown : (t : Digest → Bool) (es : List Kept) →
    lookup_entry t (map result_shown es) ≡ option_map result_shown (lookup_entry t es)
lookup_entry-result_shown t [] = refl
lookup_entry-result_shown t (e ∷ es) = go (t e.0) refl (lookup_entry-result_shown t es) where
  go : (b : Bool) → t e.0 ≡ b → lookup_entry t (map result_shown es) ≡ option_map result_shown (lookup_entry t es) →
      lookup_entry t (map result_shown (e ∷ es)) ≡ option_map result_shown (lookup_entry t (e ∷ es))
  go true is ih = rw is refl
  go false is ih = rw is ih

pub remove_entry-result_shown : (t : Digest → Bool) (es : List Kept) →
    remove_entry t (map result_shown es) ≡ map result_shown (remove_entry t es)
remove_entry-result_shown t [] = refl
remove_entry-result_shown t (e ∷ es) = go (t e.0) refl (remove_entry-result_shown t es) where
  go : (b : Bool) → t e.0 ≡ b → remove_entry t (map result_shown es) ≡ map result_shown (remove_entry t es) →
      remove_entry t (map result_shown (e ∷ es)) ≡ map result_shown (remove_entry t (e ∷ es))
  go true is ih = rw is refl
  go false is ih = rw is (ap (λ (bs : List Blob). result_shown e ∷ bs) ih)

pub with_match_first-result_shown : (t : Digest → Bool) (es : List Kept) →
    map result_shown (with_match_first t es) ≡ with_match_first t (map result_shown es)
with_match_first-result_shown t es = go (lookup_entry t es) refl where
  go : (o : Option Kept) → lookup_entry t es ≡ o → map result_shown (with_match_first t es) ≡ with_match_first t (map result_shown es)
  go None is = let there : lookup_entry t (map result_shown es) ≡ None = lookup_entry-result_shown t es ∙ ap (option_map result_shown) is in
      rw (there, is) refl
  go (Some e) is = let there : lookup_entry t (map result_shown es) ≡ Some (result_shown e) =
      lookup_entry-result_shown t es ∙ ap (option_map result_shown) is in let rest = remove_entry-result_shown t es in
      rw (there, is, rest) refl

-- what is beyond the first n, where that is one pair at most
pub blobs_length-take : (n : ℕ) (bs : List Blob) → length bs ≤ n + 1 →
    blobs_length (take n bs) + text_length (slice_get bs n) ≡ blobs_length bs
blobs_length-take zero [] h = refl
blobs_length-take zero (b ∷ []) h = omega arith
blobs_length-take zero (b ∷ c ∷ bs) h = absurd (omega arith)
blobs_length-take (suc n) [] h = refl
blobs_length-take (suc n) (b ∷ bs) h = let ih = blobs_length-take n bs (omega arith) in omega (arith, ih)

-- ---- a pair is put in front, in the place of an earlier one

removed_absent : (t : Digest → Bool) (es : List Kept) → lookup_entry t es ≡ None → remove_entry t es ≡ es
removed_absent t [] h = refl
removed_absent t (e ∷ es) h = go (t e.0) refl h (removed_absent t es) where
  go : (b : Bool) → t e.0 ≡ b → cond b (Some e) (lookup_entry t es) ≡ None → (lookup_entry t es ≡ None → remove_entry t es ≡ es) →
      remove_entry t (e ∷ es) ≡ e ∷ es
  go true is h later = cc
  go false is h later = rw is (ap (λ (xs : List Kept). e ∷ xs) (later h))

take_all : (n : ℕ) (es : List Kept) → length es ≤ n → take n es ≡ es
take_all zero [] h = refl
take_all (suc n) [] h = refl
take_all zero (e ∷ es) h = absurd (omega arith)
take_all (suc n) (e ∷ es) h = ap (λ (xs : List Kept). e ∷ xs) (take_all n es (omega arith))

pub put_shown : (d : Digest) (text : Vec ℕ Global) (n : ℕ) (c : LruCache Digest (Vec ℕ Global)) → c.cap ≡ n + 1 → length c.entries ≤ n
    → map result_shown (put_entries same_digest c d text) ≡ (d, text.items) ∷ remove_entry (same_digest d) (map result_shown c.entries)
put_shown d text n c most few = go (lookup_entry (same_digest d) c.entries) refl where
  rest : map result_shown (remove_entry (same_digest d) c.entries) ≡ remove_entry (same_digest d) (map result_shown c.entries)
  rest = sym (remove_entry-result_shown (same_digest d) c.entries)

  less : c.cap - 1 ≡ n
  less = omega (arith, most)

  go : (o : Option Kept) → lookup_entry (same_digest d) c.entries ≡ o →
      map result_shown (put_entries same_digest c d text) ≡ (d, text.items) ∷ remove_entry (same_digest d) (map result_shown c.entries)
  go None is = let absent = removed_absent (same_digest d) c.entries is in
      rw (is, less, take_all n c.entries few) (ap (λ (bs : List Blob). (d, text.items) ∷ bs) (ap (map result_shown) (sym absent) ∙ rest))
  go (Some e) is = let key : d ≡ e.0 = same_equal d e.0 (Contains-lookup_entry (same_digest d) c.entries e is).1 in
      rw (is, ← key) (ap (λ (bs : List Blob). (d, text.items) ∷ bs) rest)

total_removed : (t : Digest → Bool) (bs : List Blob) → blobs_length (remove_entry t bs) + length_or_zero (lookup t bs) ≡ blobs_length bs
total_removed t [] = refl
total_removed t (b ∷ bs) = go (t b.0) refl (total_removed t bs) where
  go : (c : Bool) → t b.0 ≡ c → blobs_length (remove_entry t bs) + length_or_zero (lookup t bs) ≡ blobs_length bs →
      blobs_length (remove_entry t (b ∷ bs)) + length_or_zero (lookup t (b ∷ bs)) ≡ blobs_length (b ∷ bs)
  go true is ih = rw is (omega arith)
  go false is ih = rw is (omega (arith, ih))

pub put_total : (d : Digest) (text : Vec ℕ Global) (n : ℕ) (c : LruCache Digest (Vec ℕ Global)) → c.cap ≡ n + 1 → length c.entries ≤ n
    → blobs_length (map result_shown (put_entries same_digest c d text)) + length_or_zero
    (option_map items_of (lookup (same_digest d) c.entries)) ≡ blobs_length (map result_shown c.entries) + length text.items
put_total d text n c most few =
    let removed = total_removed (same_digest d) (map result_shown c.entries) in
    rw (put_shown d text n c most few, ← lookup-result_shown (same_digest d) c.entries) (omega (arith, removed))

pub pop_total : (es : List Kept) → blobs_length (map result_shown (take (length es - 1) es)) + text_length
    (option_map result_shown (slice_get es (length es - 1))) ≡ blobs_length (map result_shown es)
pop_total es =
    let lost = slice_get-map result_shown es (length es - 1) in
    let kept = blobs_length-take (length es - 1) (map result_shown es) (omega (arith, length-map es result_shown)) in
    let shown_kept : map result_shown (take (length es - 1) es) ≡ take (length es - 1) (map result_shown es) =
    sym (take-map result_shown (length es - 1) es) in
    rw (shown_kept, ← lost) kept

pub pop_shown : (es : List Kept) → map result_shown (take (length es - 1) es) ≡ without_oldest (map result_shown es)
pop_shown es = rw (length-map es result_shown) (sym (take-map result_shown (length es - 1) es))

pub pop_length : (es : List Kept) → length (take (length es - 1) es) ≡ length es - 1
pop_length es = length-take-le (length es - 1) es (omega arith)

-- ---- what there is no room for

front_whole : (n room : ℕ) (bs : List Blob) → length bs ≤ n → blobs_length bs ≤ room → front_within n room bs ≡ bs
unfolding front_within
front_whole zero room [] few short = refl
front_whole (suc n) room [] few short = refl
front_whole zero room (b ∷ bs) few short = absurd (omega arith)
front_whole (suc n) room (b ∷ bs) few short =
    let fits : nat_le (length b.1) room ≡ true = grind (arith, nat_tests) in
    rw fits (ap (λ (xs : List Blob). b ∷ xs) (front_whole n (room - length b.1) bs (omega arith) (omega arith)))

-- the last makes no difference where there is no room for all
without_last : (n room m : ℕ) (bs : List Blob) → (n < length bs) ⊎ (room < blobs_length bs) → length bs ≡ m + 1 →
    front_within n room (take m bs) ≡ front_within n room bs
unfolding front_within
without_last zero room m bs over is = refl
without_last (suc n) room m [] over is = absurd (omega arith)
without_last (suc n) room zero (b ∷ x ∷ xs) over is = absurd (omega arith)
without_last (suc n) room zero (b ∷ []) over is = go (nat_le (length b.1) room) refl where
  go : (c : Bool) → nat_le (length b.1) room ≡ c → [] ≡ cond c (b ∷ front_within n (room - length b.1) []) []
  go true fits = absurd (elim over [ inl few ↦ omega arith | inr short ↦ grind (arith, nat_tests) ])
  go false fits = refl
without_last (suc n) room (suc m) (b ∷ xs) over is =
    go (nat_le (length b.1) room) refl (λ past. without_last n (room - length b.1) m xs past (omega arith)) where
      go : (c : Bool) → nat_le (length b.1) room ≡ c →
          ((n < length xs) ⊎ (room - length b.1 < blobs_length xs) →
          front_within n (room - length b.1) (take m xs) ≡ front_within n (room - length b.1) xs) →
          cond c (b ∷ front_within n (room - length b.1) (take m xs)) [] ≡ cond c (b ∷ front_within n (room - length b.1) xs) []
      go true fits later = ap (λ (ys : List Blob). b ∷ ys)
          (later (elim over [
            | inl few ↦ inl (omega arith)
            | inr short ↦ inr
                (let le : length b.1 ≤ room = grind (arith, nat_tests) in omega (arith, le, short))
          ]))
      go false fits later = refl

front_shorter : (n room : ℕ) (bs : List Blob) → (n < length bs) ⊎ (room < blobs_length bs) →
    front_within n room (take (length bs - 1) bs) ≡ front_within n room bs
front_shorter n room [] over = absurd (elim over [ inl few ↦ omega arith | inr short ↦ omega arith ])
front_shorter n room (b ∷ bs) over = without_last n room (length (b ∷ bs) - 1) (b ∷ bs) over (omega arith)

pub front_popped : (n room : ℕ) (es : List Kept) → (n < length es) ⊎ (room < blobs_length (map result_shown es)) →
    front_within n room (without_oldest (map result_shown es)) ≡ front_within n room (map result_shown es)
front_popped n room es over = front_shorter n room (map result_shown es)
    (elim over [ inl few ↦ inl (omega (arith, few, length-map es result_shown)) | inr short ↦ inr short ])

pub front_kept : (n room : ℕ) (es : List Kept) → length es ≤ n → blobs_length (map result_shown es) ≤ room →
    front_within n room (map result_shown es) ≡ map result_shown es
front_kept n room es few short = front_whole n room (map result_shown es) (omega (arith, few, length-map es result_shown)) short
