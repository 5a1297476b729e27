-- The names of a directory's nodes are distinct.
use Rattle.std.proofs.Common.{◌≡◌, ◌≢◌, ◌⊎◌, inl, inr, ℕ, Bool, true, false, not, ◌||◌, List, [], ◌∷◌, Ordering, Less, Equal, Greater, refl}
use Rattle.std.specs.List.{Contains, list_any}
use Rattle.std.specs.Ordering.{nat_cmp, is_lt, ordering_reverse}
use Rattle.std.specs.Cmp.Lexicographic.{slice_cmp}
use Rattle.std.proofs.lemmas.Cmp.{nat_list_cmp_total}
use Rattle.std.proofs.lemmas.Bool.{and_parts}
use Rattle.input_tree.specs.Names.{precedes, are_alike, are_rising, are_apart}
use Rattle.actions.proofs.Kept.{in_none, in_cases}
use Rattle.actions.proofs.Pairs.{Pairs}

less_by : (o : Ordering) → is_lt o ≡ true → o ≡ Less
less_by Less h = refl
less_by Equal h = cc
less_by Greater h = cc

own_reverse : (o : Ordering) → o ≡ ordering_reverse o → o ≡ Equal
own_reverse Less h = cc
own_reverse Equal h = refl
own_reverse Greater h = cc

self_equal : (t : List ℕ) → slice_cmp nat_cmp t t ≡ Equal
self_equal t = own_reverse (slice_cmp nat_cmp t t) (nat_list_cmp_total.antisymm t t)

less_differs : (t u : List ℕ) → slice_cmp nat_cmp t u ≡ Less → t ≢ u
less_differs t u less same = let equal : slice_cmp nat_cmp t u ≡ Equal = rw (← same) (self_equal t) in cc

-- ---- names in order

rising_pairs : (ts : List (List ℕ)) → are_rising ts ≡ true → Pairs (λ t u. slice_cmp nat_cmp t u ≡ Less) ts
rising_pairs [] h = tt
rising_pairs (t ∷ []) h = (λ y c. absurd (in_none y c), tt)
rising_pairs (t ∷ (u ∷ us)) h =
    let parts = and_parts (precedes t u) (are_rising (u ∷ us)) h in
    let less = less_by (slice_cmp nat_cmp t u) parts.0 in
    let later = rising_pairs (u ∷ us) parts.1 in
    (λ y c. go less later y (in_cases u us y c), later) where
      go : slice_cmp nat_cmp t u ≡ Less → Pairs (λ t u. slice_cmp nat_cmp t u ≡ Less) (u ∷ us) → (y : List ℕ) → (u ≡ y) ⊎ Contains us y →
          slice_cmp nat_cmp t y ≡ Less
      go less later y (inl is) = rw (← is) less
      go less later y (inr c) = nat_list_cmp_total.trans t u y less (later.0 y c)

pub distinct_by_order : (ts : List (List ℕ)) → are_rising ts ≡ true → Pairs (λ t u. t ≢ u) ts
distinct_by_order ts h = differ ts (rising_pairs ts h) where
  differ : (ts : List (List ℕ)) → Pairs (λ t u. slice_cmp nat_cmp t u ≡ Less) ts → Pairs (λ t u. t ≢ u) ts
  differ [] h = tt
  differ (t ∷ ts) h = (λ u c. less_differs t u (h.0 u c), differ ts h.1)

either_false : (a b : Bool) → not (a || b) ≡ true → (a ≡ false) × (not b ≡ true)
either_false true b h = cc
either_false false b h = (refl, h)

not_alike : (t : List ℕ) (us : List (List ℕ)) → not (list_any (are_alike t) us) ≡ true → (u : List ℕ) → Contains us u → t ≢ u
not_alike t [] h u c = absurd (in_none u c)
not_alike t (v ∷ vs) h u c = go (either_false (are_alike t v) (list_any (are_alike t) vs) h) (in_cases v vs u c)
    (λ further c. not_alike t vs further u c) where
      go : (are_alike t v ≡ false) × (not (list_any (are_alike t) vs) ≡ true) → (v ≡ u) ⊎ Contains vs u →
          (not (list_any (are_alike t) vs) ≡ true → Contains vs u → t ≢ u) → t ≢ u
      go parts (inl is) later = λ same. (let equal : slice_cmp nat_cmp t v ≡ Equal = rw (is, ← same) (self_equal t) in
          let alike : are_alike t v ≡ true = rw equal refl in let no = parts.0 in cc)
      go parts (inr c) later = later parts.1 c

pub apart_differ : (ts us : List (List ℕ)) → are_apart ts us ≡ true → (t u : List ℕ) → Contains ts t → Contains us u → t ≢ u
apart_differ [] us h t u ct cu = absurd (in_none t ct)
apart_differ (x ∷ ts) us h t u ct cu = go (and_parts (not (list_any (are_alike x) us)) (are_apart ts us) h) (in_cases x ts t ct)
    (λ further c. apart_differ ts us further t u c cu) where
      go : (not (list_any (are_alike x) us) ≡ true) × (are_apart ts us ≡ true) → (x ≡ t) ⊎ Contains ts t →
          (are_apart ts us ≡ true → Contains ts t → t ≢ u) → t ≢ u
      go parts (inl is) later = rw (← is) (not_alike x us parts.0 u cu)
      go parts (inr c) later = later parts.1 c
