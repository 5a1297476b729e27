-- What the streams of each connection are owed is what they were given.
use Rattle.std.proofs.Common.{◌≡◌, ℕ, ◌<◌, ◌+◌, List, [], ◌∷◌, ◌++◌, refl, ap, ◌∙◌, sym, subst, arith, length, inl, inr}
use Rattle.std.specs.Prelude.{false, cond, ◌==◌, ◌&&◌, suc, map, Some, None}
use Rattle.std.specs.List.{AllByRecursion, flat_map}
use Rattle.std.proofs.lemmas.Bool.{cases_Bool}
use Rattle.std.proofs.lemmas.Bool.Decides.{nat_tests}
use Rattle.std.proofs.lemmas.Grind.{flat_map-append}
use Rattle.grpc_sending.specs.Owed.{Item, items_owed_on}
use Rattle.grpc_sending.proofs.Histories.{append-nil}
use Rattle.conn_core.specs.Past.{Past}
use Rattle.conn_core.proofs.Numbers.{same_number}
use Rattle.served_instance.specs.Connections.{LoneConnection, is_open_at, open_at, at_open, with_closed, at_all_open}
use Rattle.client_reading.proofs.Choices.{choose}
use Rattle.run_reading.specs.Happenings.{connection_place}
use Rattle.run_reading.specs.Replies.{GivenItems, items_given, items_on}

-- ---- gifts at one place

-- a stream, and items
abbrev pub Gift : Type 0
Gift = ℕ × List Item

abbrev pub give : ℕ → Gift → GivenItems
give place x = record { place = place; stream = x.0; items = x.1 }

abbrev pub gift_on : ℕ → Gift → List Item
gift_on s x = cond (x.0 == s) x.1 []

abbrev pub gifts_on : ℕ → List Gift → List Item
gifts_on s xs = flat_map (gift_on s) xs

given_here : (n s : ℕ) (xs : List Gift) → items_on n s (map (give n) xs) ≡ gifts_on s xs
given_here n s [] = refl
given_here n s (x ∷ xs) =
    let here : (n == n && x.0 == s) ≡ (x.0 == s) = ap (λ b. b && x.0 == s) (same_number n) in
    ap (λ b. cond b x.1 [] ++ items_on n s (map (give n) xs)) here ∙ ap (λ is. gift_on s x ++ is) (given_here n s xs)

given_elsewhere : (n m s : ℕ) (xs : List Gift) → (n == m) ≡ false → items_on m s (map (give n) xs) ≡ []
given_elsewhere n m s [] other = refl
given_elsewhere n m s (x ∷ xs) other =
    ap (λ b. cond (b && x.0 == s) x.1 [] ++ items_on m s (map (give n) xs)) other ∙ given_elsewhere n m s xs other

-- ---- connections from a place on

abbrev pub IsOwed : ℕ → List GivenItems → LoneConnection → Type 0
IsOwed place gs k = (s : ℕ) → items_owed_on s k.past.owed ≡ items_on place s gs

abbrev pub OwedFrom : ℕ → List GivenItems → List LoneConnection → Type 0
OwedFrom base gs [] = Unit {0}
OwedFrom base gs (k ∷ ks) = IsOwed base gs k × OwedFrom (suc base) gs ks

more_given : (m s : ℕ) (gs hs : List GivenItems) → items_on m s (gs ++ hs) ≡ items_on m s gs ++ items_on m s hs
more_given m s gs hs = flat_map-append (items_given m s) gs hs

-- what is given at another place
aside : (n m : ℕ) (gs : List GivenItems) (xs : List Gift) (k : LoneConnection) → (n == m) ≡ false → IsOwed m gs k →
    IsOwed m (gs ++ map (give n) xs) k
aside n m gs xs k other h s =
    h s ∙ sym (append-nil (items_on m s gs)) ∙ ap (λ is. items_on m s gs ++ is) (sym (given_elsewhere n m s xs other))
    ∙ sym (more_given m s gs (map (give n) xs))

differs : (n m : ℕ) → n < m → (n == m) ≡ false
differs n m h = grind (arith, nat_tests)

differs_above : (n m : ℕ) → m < n → (n == m) ≡ false
differs_above n m h = grind (arith, nat_tests)

all_aside : (n base : ℕ) (gs : List GivenItems) (xs : List Gift) (ks : List LoneConnection) → n < base → OwedFrom base gs ks →
    OwedFrom base (gs ++ map (give n) xs) ks
all_aside n base gs xs [] low h = tt
all_aside n base gs xs (k ∷ ks) low h = (aside n base gs xs k (differs n base low) h.0, all_aside n (suc base) gs xs ks (omega arith) h.1)

-- a step that gives a connection's streams these
abbrev pub Gives : (Past → Past) → Past → List Gift → Type 0
Gives step p xs = (s : ℕ) → items_owed_on s (step p).owed ≡ items_owed_on s p.owed ++ gifts_on s xs

here_owed : (n : ℕ) (gs : List GivenItems) (xs : List Gift) (k : LoneConnection) (step : Past → Past) → Gives step k.past xs →
    IsOwed n gs k → IsOwed n (gs ++ map (give n) xs) (record k { past = step k.past })
here_owed n gs xs k step gives h s =
    gives s ∙ ap (λ is. is ++ gifts_on s xs) (h s) ∙ ap (λ is. items_on n s gs ++ is) (sym (given_here n s xs))
    ∙ sym (more_given n s gs (map (give n) xs))

some_is : (p q : Past) → Some p ≡ Some q → p ≡ q
some_is p q h = cc

pub step_owed : (c n base : ℕ) (step : Past → Past) (gs : List GivenItems) (xs : List Gift) (ks : List LoneConnection) (p : Past) →
    open_at c ks ≡ Some p → Gives step p xs → n ≡ base + connection_place c ks → OwedFrom base gs ks →
    OwedFrom base (gs ++ map (give n) xs) (at_open c step ks)
step_owed c n base step gs xs [] p is gives at h = cc
step_owed c n base step gs xs (k ∷ ks) p is gives at h = elim (cases_Bool (is_open_at c k)) [
  | inl here ↦
      let is' : Some k.past ≡ Some p = rw here at is in
      let gives' : Gives step k.past xs = subst (λ (q : Past). Gives step q xs) (sym (some_is k.past p is')) gives in
      let at' : n ≡ base = let a : n ≡ base + 0 = rw here at at in omega (arith, a) in
      let there : IsOwed n gs k = subst (λ (m : ℕ). IsOwed m gs k) (sym at') h.0 in
      rw here (
        subst (λ (m : ℕ). IsOwed m (gs ++ map (give n) xs) (record k { past = step k.past })) at'
            (here_owed n gs xs k step gives' there),
        all_aside n (suc base) gs xs ks (omega (arith, at')) h.1,
      )
  | inr other ↦
      let is' : open_at c ks ≡ Some p = rw other at is in
      let at' : n ≡ base + suc (connection_place c ks) = rw other at at in
      rw other (
        aside n base gs xs k (differs_above n base (omega (arith, at'))) h.0,
        step_owed c n (suc base) step gs xs ks p is' gives
            (omega (arith, at')) h.1,
      )
]

-- ---- steps that owe nothing

abbrev pub OwesNone : (Past → Past) → Type 0
OwesNone step = (p : Past) → (step p).owed ≡ p.owed

same_owed : (n : ℕ) (gs : List GivenItems) (k : LoneConnection) (p : Past) → p.owed ≡ k.past.owed → IsOwed n gs k →
    IsOwed n gs (record k { past = p })
same_owed n gs k p same h s = ap (items_owed_on s) same ∙ h s

pub quiet_owed : (c base : ℕ) (step : Past → Past) (gs : List GivenItems) (ks : List LoneConnection) → OwesNone step → OwedFrom base gs ks →
    OwedFrom base gs (at_open c step ks)
quiet_owed c base step gs [] none h = tt
quiet_owed c base step gs (k ∷ ks) none h = choose (OwedFrom base gs) (is_open_at c k) (record k { past = step k.past } ∷ ks)
    (k ∷ at_open c step ks) (λ _. (same_owed base gs k (step k.past) (none k.past) h.0, h.1))
    (λ _. (h.0, quiet_owed c (suc base) step gs ks none h.1))

pub all_owed : (base : ℕ) (step : Past → Past) (gs : List GivenItems) (ks : List LoneConnection) → OwesNone step → OwedFrom base gs ks →
    OwedFrom base gs (at_all_open step ks)
all_owed base step gs [] none h = tt
all_owed base step gs (k ∷ ks) none h = (
  choose (IsOwed base gs) k.is_open (record k { past = step k.past }) k
      (λ _. same_owed base gs k (step k.past) (none k.past) h.0) (λ _. h.0),
  all_owed (suc base) step gs ks none h.1,
)

pub closed_owed : (c base : ℕ) (gs : List GivenItems) (ks : List LoneConnection) → OwedFrom base gs ks → OwedFrom base gs (with_closed c ks)
closed_owed c base gs [] h = tt
closed_owed c base gs (k ∷ ks) h = choose (OwedFrom base gs) (is_open_at c k) (record k { is_open = false } ∷ ks) (k ∷ with_closed c ks)
    (λ _. h) (λ _. (h.0, closed_owed c (suc base) gs ks h.1))

-- ---- a new connection

abbrev pub AreBelow : ℕ → List GivenItems → Type 0
AreBelow n gs = AllByRecursion (λ (g : GivenItems). g.place < n) gs

none_above : (n s : ℕ) (gs : List GivenItems) → AreBelow n gs → items_on n s gs ≡ []
none_above n s [] h = refl
none_above n s (g ∷ gs) h =
    ap (λ b. cond (b && g.stream == s) g.items [] ++ items_on n s gs) (differs g.place n h.0) ∙ none_above n s gs h.1

pub opened_owed : (base : ℕ) (gs : List GivenItems) (ks : List LoneConnection) (k : LoneConnection) → k.past.owed ≡ [] →
    AreBelow (base + length ks) gs → OwedFrom base gs ks → OwedFrom base gs (ks ++ k ∷ [])
opened_owed base gs [] k none low h =
    let low' : AreBelow base gs = subst (λ (m : ℕ). AreBelow m gs) (omega arith) low in
    (λ s. ap (items_owed_on s) none ∙ sym (none_above base s gs low'), tt)
opened_owed base gs (j ∷ ks) k none low h = (
  h.0,
  opened_owed (suc base) gs ks k none
      (subst (λ (m : ℕ). AreBelow m gs) (omega arith) low) h.1,
)

-- ---- places

pub place_below : (c : ℕ) (ks : List LoneConnection) (p : Past) → open_at c ks ≡ Some p → connection_place c ks < length ks
place_below c [] p is = cc
place_below c (k ∷ ks) p is = elim (cases_Bool (is_open_at c k)) [
  | inl here ↦ rw here (omega arith)
  | inr other ↦ let is' : open_at c ks ≡ Some p = rw other at is in let low = place_below c ks p is' in rw other (omega (arith, low))
]

pub same_length : (c : ℕ) (step : Past → Past) (ks : List LoneConnection) → length (at_open c step ks) ≡ length ks
same_length c step [] = refl
same_length c step (k ∷ ks) = choose (λ (js : List LoneConnection). length js ≡ suc (length ks)) (is_open_at c k)
    (record k { past = step k.past } ∷ ks) (k ∷ at_open c step ks) (λ _. refl) (λ _. ap suc (same_length c step ks))

pub all_length : (step : Past → Past) (ks : List LoneConnection) → length (at_all_open step ks) ≡ length ks
all_length step [] = refl
all_length step (k ∷ ks) = ap suc (all_length step ks)

pub closed_length : (c : ℕ) (ks : List LoneConnection) → length (with_closed c ks) ≡ length ks
closed_length c [] = refl
closed_length c (k ∷ ks) = choose (λ (js : List LoneConnection). length js ≡ suc (length ks)) (is_open_at c k)
    (record k { is_open = false } ∷ ks) (k ∷ with_closed c ks) (λ _. refl) (λ _. ap suc (closed_length c ks))

pub below_more : (n m : ℕ) (gs : List GivenItems) → n < suc m → AreBelow n gs → AreBelow m gs
below_more n m [] low h = tt
below_more n m (g ∷ gs) low h = (omega (arith, h.0), below_more n m gs low h.1)

pub given_below : (n m : ℕ) (xs : List Gift) → n < m → AreBelow m (map (give n) xs)
given_below n m [] low = tt
given_below n m (x ∷ xs) low = (low, given_below n m xs low)

pub same_place : (c d : ℕ) (step : Past → Past) (ks : List LoneConnection) → connection_place c (at_open d step ks) ≡ connection_place c ks
same_place c d step [] = refl
same_place c d step (k ∷ ks) = elim (cases_Bool (is_open_at d k)) [
  | inl here ↦ rw here refl
  | inr other ↦ rw other (ap (λ n. cond (is_open_at c k) 0 (suc n)) (same_place c d step ks))
]

-- what is open after a step
pub open_step : (c : ℕ) (step : Past → Past) (ks : List LoneConnection) (p : Past) → open_at c ks ≡ Some p →
    open_at c (at_open c step ks) ≡ Some (step p)
open_step c step [] p is = cc
open_step c step (k ∷ ks) p is = elim (cases_Bool (is_open_at c k)) [
  | inl here ↦ let is' : Some k.past ≡ Some p = rw here at is in let e = some_is k.past p is' in
      rw here (rw here (ap (λ (q : Past). Some (step q)) e))
  | inr other ↦ let is' : open_at c ks ≡ Some p = rw other at is in rw other (rw other (open_step c step ks p is'))
]

pub none_open : (c : ℕ) (step : Past → Past) (ks : List LoneConnection) → open_at c ks ≡ None → open_at c (at_open c step ks) ≡ None
none_open c step [] is = refl
none_open c step (k ∷ ks) is = elim (cases_Bool (is_open_at c k)) [
  | inl here ↦ let is' : Some k.past ≡ None = rw here at is in cc
  | inr other ↦ let is' : open_at c ks ≡ None = rw other at is in rw other (rw other (none_open c step ks is'))
]

pub open_has : (P : Past → Type 0) (c : ℕ) (ks : List LoneConnection) (p : Past) → open_at c ks ≡ Some p →
    AllByRecursion (λ (k : LoneConnection). P k.past) ks → P p
open_has P c [] p is h = cc
open_has P c (k ∷ ks) p is h = elim (cases_Bool (is_open_at c k)) [
  | inl here ↦ let is' : Some k.past ≡ Some p = rw here at is in subst P (some_is k.past p is') h.0
  | inr other ↦ let is' : open_at c ks ≡ Some p = rw other at is in open_has P c ks p is' h.1
]
