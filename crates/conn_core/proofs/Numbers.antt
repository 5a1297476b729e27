-- Lists of stream numbers.
use Rattle.std.proofs.Common.{◌≡◌, ℕ, List, [], ◌∷◌, ◌++◌, refl, ap, ◌∙◌, sym, inl, inr, arith}
use Rattle.std.specs.Prelude.{Bool, true, false, filter, ◌&&◌, ◌||◌, ◌==◌, not}
use Rattle.std.specs.List.{list_any}
use Rattle.std.proofs.lemmas.Bool.{and_parts, cases_Bool, eqb-true}
use Rattle.std.proofs.lemmas.Bool.Decides.{nat_tests}
use Rattle.conn_core.specs.StandsFor.{members_of}

pub false_both : (b : Bool) → (b && false) ≡ false
false_both true = refl
false_both false = refl

true_and : (b : Bool) → b ≡ (b && true)
true_and true = refl
true_and false = refl

pub or_none : (b : Bool) → (b || false) ≡ b
or_none true = refl
or_none false = refl

pub any_first : (b c : Bool) → b ≡ true → (b || c) ≡ true
any_first true c h = refl
any_first false c h = cc

pub any_later : (b c : Bool) → c ≡ true → (b || c) ≡ true
any_later true c h = refl
any_later false c h = h

pub any_kept : (p : ℕ → Bool) (s : ℕ) (ss : List ℕ) → list_any (λ t. t == s) (filter p ss) ≡ (list_any (λ t. t == s) ss && p s)
any_kept p s [] = refl
any_kept p s (t ∷ ss) = elim (cases_Bool (p t)) [
  | inl kept ↦ elim (cases_Bool (t == s)) [
    | inl same ↦ let e : t ≡ s = eqb-true t s same in let k : p s ≡ true = ap p (sym e) ∙ kept in rw (kept, same, k) refl
    | inr other ↦ rw (kept, other) (any_kept p s ss)
  ]
  | inr left ↦ elim (cases_Bool (t == s)) [
    | inl same ↦ let e : t ≡ s = eqb-true t s same in let k : p s ≡ false = ap p (sym e) ∙ left in
        rw (left, same) (any_kept p s ss ∙ ap (λ b. list_any (λ u. u == s) ss && b) k ∙ false_both (list_any (λ u. u == s) ss) ∙ sym k)
    | inr other ↦ rw (left, other) (any_kept p s ss)
  ]
]

pub same_number : (x : ℕ) → (x == x) ≡ true
same_number x = grind (arith, nat_tests)

and_turned : (a b : Bool) → (a && b) ≡ (b && a)
and_turned true b = true_and b
and_turned false b = sym (false_both b)

-- tests that agree on the members
pub filter_agree : (p q : ℕ → Bool) (xs : List ℕ) → ((t : ℕ) → list_any (λ u. u == t) xs ≡ true → p t ≡ q t) → filter p xs ≡ filter q xs
filter_agree p q [] h = refl
filter_agree p q (x ∷ xs) h =
    let self : (x == x) ≡ true = same_number x in
    let here : p x ≡ q x = h x (any_first (x == x) (list_any (λ u. u == x) xs) self) in
    let later : (t : ℕ) → list_any (λ u. u == t) xs ≡ true → p t ≡ q t = λ t k. h t (any_later (x == t) (list_any (λ u. u == t) xs) k) in
    let rest = filter_agree p q xs later in
    elim (cases_Bool (q x)) [
      | inl kept ↦ let k : p x ≡ true = here ∙ kept in rw (k, kept) (ap (λ (ys : List ℕ). x ∷ ys) rest)
      | inr left ↦ let k : p x ≡ false = here ∙ left in rw (k, left) rest
    ]

filter_twice : (p q : ℕ → Bool) (xs : List ℕ) → filter p (filter q xs) ≡ filter (λ x. q x && p x) xs
filter_twice p q [] = refl
filter_twice p q (x ∷ xs) = grind (arith, filter_twice p q xs)

filter_turned : (p q : ℕ → Bool) (xs : List ℕ) → filter p (filter q xs) ≡ filter q (filter p xs)
filter_turned p q xs = filter_twice p q xs ∙ filter_agree (λ x. q x && p x) (λ x. p x && q x) xs (λ t h. and_turned (q t) (p t))
    ∙ sym (filter_twice q p xs)

-- of the numbers, those that stay
pub sifted : (q c c' : ℕ → Bool) (os xs : List ℕ) → members_of os xs ≡ filter c os → ((t : ℕ) → c' t ≡ c t) →
    members_of (filter q os) xs ≡ filter c' (filter q os)
sifted q c c' os xs order same =
    filter_agree (λ t. list_any (λ u. u == t) (filter q os)) (λ t. list_any (λ u. u == t) os && q t) xs (λ t h. any_kept q t os)
    ∙ sym (filter_twice q (λ t. list_any (λ u. u == t) os) xs)
    ∙ ap (λ (ys : List ℕ). filter q ys) order
    ∙ filter_turned q c os
    ∙ filter_agree c c' (filter q os) (λ t h. sym (same t))

pub in_others : (s t : ℕ) (os : List ℕ) → list_any (λ u. u == t) (filter (λ u. not (u == s)) os) ≡ true → not (t == s) ≡ true
in_others s t os h = (and_parts (list_any (λ u. u == t) os) (not (t == s)) (sym (any_kept (λ n. not (n == s)) t os) ∙ h)).1

-- of two tests the stricter one
pub filter_less : (q r : ℕ → Bool) (xs : List ℕ) → ((s : ℕ) → q s ≡ true → r s ≡ true) → filter q (filter r xs) ≡ filter q xs
filter_less q r [] h = refl
filter_less q r (x ∷ xs) h = elim (cases_Bool (q x)) [
  | inl stays ↦ let k : r x ≡ true = h x stays in rw (k, stays) (ap (λ (ys : List ℕ). x ∷ ys) (filter_less q r xs h))
  | inr goes ↦ elim (cases_Bool (r x)) [
    | inl k ↦ rw (k, goes) (filter_less q r xs h)
    | inr k ↦ rw (k, goes) (filter_less q r xs h)
  ]
]

pub filter-append : (p : ℕ → Bool) (xs ys : List ℕ) → filter p (xs ++ ys) ≡ filter p xs ++ filter p ys
filter-append p [] ys = refl
filter-append p (x ∷ xs) ys = elim (cases_Bool (p x)) [
  | inl k ↦ rw k (ap (λ (zs : List ℕ). x ∷ zs) (filter-append p xs ys))
  | inr k ↦ rw k (filter-append p xs ys)
]
