-- Maps and filters of lists, and the numbers that rise in one.
use Rattle.std.proofs.Common.{◌≡◌, ℕ, ◌<◌, ◌≤◌, List, [], ◌∷◌, ◌++◌, refl, ap, arith, inl, inr}
use Rattle.std.specs.Prelude.{map, filter, fold, max, Bool, ◌&&◌, ◌||◌, cond, nat_lt}
use Rattle.std.specs.List.{list_any}
use Rattle.std.proofs.lemmas.Bool.{cases_Bool, ltb-true, ltb-false}
use Rattle.http2_streams.specs.History.{rising_numbers}

pub max_from : (n : ℕ) (xs : List ℕ) → n ≤ fold max n xs
max_from n [] = omega arith
max_from n (x ∷ xs) = omega (arith, max_from (max n x) xs)

abbrev pub Agree : {A : Type 0} → (ℕ → A) → (ℕ → A) → ℕ → List ℕ → Type 0
Agree f g m xs = (t : ℕ) → m < t → t ≤ fold max m xs → f t ≡ g t

-- of the rising numbers, only those above the first and up to the highest matter
pub map_rising_agree : {A : Type 0} (f g : ℕ → A) (p q : ℕ → Bool) (m : ℕ) (xs : List ℕ) → Agree f g m xs → Agree p q m xs →
    map f (filter p (rising_numbers m xs)) ≡ map g (filter q (rising_numbers m xs))
map_rising_agree f g p q m [] hf hp = refl
map_rising_agree f g p q m (x ∷ xs) hf hp = elim (cases_Bool (nat_lt m x)) [
  | inl higher ↦
      let above : m < x = ltb-true m x higher in
      let e : max m x ≡ x = omega arith in
      let hf' : Agree f g x xs = λ t a b. hf t (omega arith) (rw e b) in
      let hp' : Agree p q x xs = λ t a b. hp t (omega arith) (rw e b) in
      let here : f x ≡ g x = hf x above (rw e (max_from x xs)) in
      let here' : p x ≡ q x = hp x above (rw e (max_from x xs)) in
      let rest = map_rising_agree f g p q x xs hf' hp' in
      rw higher (grind arith)
  | inr not_above ↦
      let below = ltb-false m x not_above in
      let e : max m x ≡ m = omega arith in
      let hf' : Agree f g m xs = λ t a b. hf t a (rw e b) in
      let hp' : Agree p q m xs = λ t a b. hp t a (rw e b) in
      rw not_above (map_rising_agree f g p q m xs hf' hp')
]

-- one more number
pub rising_numbers-push : (m s : ℕ) (xs : List ℕ) →
    rising_numbers m (xs ++ s ∷ []) ≡ rising_numbers m xs ++ cond (nat_lt (fold max m xs) s) (s ∷ []) []
rising_numbers-push m s [] = refl
rising_numbers-push m s (x ∷ xs) = elim (cases_Bool (nat_lt m x)) [
  | inl higher ↦
      let above : m < x = ltb-true m x higher in
      let e : max m x ≡ x = omega arith in
      rw (higher, e) (ap (λ ys. x ∷ ys) (rising_numbers-push x s xs))
  | inr not_above ↦
      let below = ltb-false m x not_above in
      let e : max m x ≡ m = omega arith in
      rw (not_above, e) (rising_numbers-push m s xs)
]

pub filter-map : {A B : Type 0} (p : B → Bool) (f : A → B) (xs : List A) → filter p (map f xs) ≡ map f (filter (λ x. p (f x)) xs)
filter-map p f [] = refl
filter-map p f (x ∷ xs) = grind (arith, filter-map p f xs)

pub filter-filter : {A : Type 0} (p q : A → Bool) (xs : List A) → filter p (filter q xs) ≡ filter (λ x. q x && p x) xs
filter-filter p q [] = refl
filter-filter p q (x ∷ xs) = grind (arith, filter-filter p q xs)

pub map-map : {A B C : Type 0} (g : B → C) (f : A → B) (xs : List A) → map g (map f xs) ≡ map (λ x. g (f x)) xs
map-map g f [] = refl
map-map g f (x ∷ xs) = ap (λ ys. g (f x) ∷ ys) (map-map g f xs)

pub map-append : {A B : Type 0} (f : A → B) (xs ys : List A) → map f (xs ++ ys) ≡ map f xs ++ map f ys
map-append f [] ys = refl
map-append f (x ∷ xs) ys = ap (λ zs. f x ∷ zs) (map-append f xs ys)

pub append-nil : {A : Type 0} (xs : List A) → xs ++ [] ≡ xs
append-nil [] = refl
append-nil (x ∷ xs) = ap (λ ys. x ∷ ys) (append-nil xs)

pub any-push : {A : Type 0} (p : A → Bool) (xs : List A) (x : A) → list_any p (xs ++ x ∷ []) ≡ (list_any p xs || p x)
any-push p [] x = grind arith
any-push p (y ∷ ys) x = grind (arith, any-push p ys x)
