-- What some holders have alone, counted slot by slot and by a list in rising order.
use Rattle.std.proofs.Common.{◌≡◌, ℕ, zero, suc, ◌+◌, ◌<◌, ◌≤◌, ◌==◌, Bool, true, false, cond, List, [], ◌∷◌, length, drop, Option, Some, None, refl, ap, ◌∙◌, arith, get_or, leb, leb-true, leb-false}
use Rattle.std.specs.Prelude.{◌≢◌, slice_get}
use Rattle.std.specs.List.Sorted.{IsPermutation, IsNonDecreasing, IsPartitionPoint}
use Rattle.std.proofs.lemmas.List.Sorted.{sum_by-IsPermutation}
use Rattle.std.proofs.lemmas.Option.{get_or_from_slice_get, slice_get_within}
use Rattle.std.proofs.lemmas.Bool.Decides.{nat_tests}
use Rattle.std.proofs.lemmas.List.Sums.{sum_by-cons}
use Rattle.blob_pool.specs.Slots.{HeldText, Slots, held_text_at, text_at, text_in, count_at, count_in}
use Rattle.blob_pool.specs.Moves.{Holders}
use Rattle.blob_pool.specs.Alone.{bytes_alone, holders_at}

abbrev if_number : Bool → ℕ → ℕ
if_number b n = cond b n 0

if_same : (b : Bool) → if_number b 0 ≡ 0
if_same true = refl
if_same false = refl

if_more : (b : Bool) (c : ℕ) → cond b 1 0 + cond b c 0 ≡ cond b (suc c) 0
if_more true c = omega arith
if_more false c = omega arith

-- ---- slot by slot

pub alone_same : (h i : Holders) → ((k : ℕ) → h k ≡ i k) → (k : ℕ) (p : Slots) → bytes_alone h k p ≡ bytes_alone i k p
alone_same h i same k [] = refl
alone_same h i same k (o ∷ p) =
    let first : cond (count_in o == h k) (length (text_in o)) 0 ≡ cond (count_in o == i k) (length (text_in o)) 0 =
    ap (λ (n : ℕ). cond (count_in o == n) (length (text_in o)) 0) (same k) in
    omega (arith, first, alone_same h i same (k + 1) p)

nobody : (o : Option HeldText) → (o ≢ None → 0 < count_in o) → (n : ℕ) → n ≡ 0 → cond (count_in o == n) (length (text_in o)) 0 ≡ 0
nobody None some n none = if_same (0 == n)
nobody (Some x) some n none =
    let held : 0 < x.count = some (λ e. cc) in
    let test : (x.count == n) ≡ false = grind (arith, nat_tests, held, none) in
    ap (λ (b : Bool). cond b (length x.text) 0) test

pub alone_none : (h : Holders) → ((k : ℕ) → h k ≡ 0) → (k : ℕ) (p : Slots) → ((j : ℕ) → held_text_at p j ≢ None → 0 < count_at p j) →
    bytes_alone h k p ≡ 0
alone_none h none k [] held = refl
alone_none h none k (o ∷ p) held = omega (arith, nobody o (held 0) (h k) (none k), alone_none h none (k + 1) p (λ j. held (suc j)))

alone_past : (h i : Holders) (k : ℕ) → ((j : ℕ) → j ≢ k → h j ≡ i j) → (n : ℕ) (p : Slots) → k < n → bytes_alone h n p ≡ bytes_alone i n p
alone_past h i k others n [] lt = refl
alone_past h i k others n (o ∷ p) lt =
    let first : cond (count_in o == h n) (length (text_in o)) 0 ≡ cond (count_in o == i n) (length (text_in o)) 0 =
    ap (λ (m : ℕ). cond (count_in o == m) (length (text_in o)) 0) (others n (λ e. omega (arith, lt, e))) in
    omega (arith, first, alone_past h i k others (n + 1) p (omega (arith, lt)))

-- the holders of slot k, and all others
pub alone_step : (h i : Holders) (k : ℕ) → i k ≡ 0 → ((j : ℕ) → j ≢ k → h j ≡ i j) → (m n : ℕ) (p : Slots) → n + m ≡ k →
    ((j : ℕ) → held_text_at p j ≢ None → 0 < count_at p j)
    → bytes_alone h n p ≡ cond (count_at p m == h k) (length (text_at p m)) 0 + bytes_alone i n p
alone_step h i k gone others m n [] at held = omega (arith, if_same (0 == h k))
alone_step h i k gone others zero n (o ∷ p) at held =
    let here : n ≡ k = omega (arith, at) in
    let first : cond (count_in o == h n) (length (text_in o)) 0 ≡ cond (count_in o == h k) (length (text_in o)) 0 =
    ap (λ (j : ℕ). cond (count_in o == h j) (length (text_in o)) 0) here in
    let second = nobody o (held 0) (i n) (ap i here ∙ gone) in
    omega (arith, first, second, alone_past h i k others (n + 1) p (omega (arith, here)))
alone_step h i k gone others (suc m) n (o ∷ p) at held =
    let first : cond (count_in o == h n) (length (text_in o)) 0 ≡ cond (count_in o == i n) (length (text_in o)) 0 =
    ap (λ (j : ℕ). cond (count_in o == j) (length (text_in o)) 0) (others n (λ e. omega (arith, at, e))) in
    omega (arith, first, alone_step h i k gone others m (n + 1) p (omega (arith, at)) (λ j. held (suc j)))

-- ---- by a list in rising order

counted : (x : ℕ) (xs : List ℕ) (n : ℕ) → holders_at (x ∷ xs) n ≡ cond (x == n) 1 0 + holders_at xs n
counted x xs n = sum_by-cons (λ (y : ℕ). cond (y == n) 1 0) x xs

above_all : (xs : List ℕ) (k : ℕ) → ((j : ℕ) → j < length xs → k < get_or xs j 0) → holders_at xs k ≡ 0
above_all [] k all = refl
above_all (x ∷ xs) k all =
    let first : k < x = all 0 (omega arith) in
    let test : (x == k) ≡ false = grind (arith, nat_tests, first) in
    let here : if_number (x == k) 1 ≡ 0 = ap (λ (b : Bool). if_number b 1) test in
    omega (arith, counted x xs k, here, above_all xs k (λ j lt. all (suc j) (omega (arith, lt))))

run : (xs : List ℕ) (c k : ℕ) → c ≤ length xs → ((j : ℕ) → j < c → get_or xs j 0 ≡ k) → (n : ℕ) →
    holders_at xs n ≡ cond (k == n) c 0 + holders_at (drop c xs) n
run xs zero k le all n = omega (arith, if_same (k == n))
run [] (suc c) k le all n = absurd (omega (arith, le))
run (x ∷ xs) (suc c) k le all n =
    let first : x ≡ k = all 0 (omega arith) in
    let here : if_number (x == n) 1 ≡ if_number (k == n) 1 = ap (λ (y : ℕ). if_number (y == n) 1) first in
    omega (arith, counted x xs n, here, if_more (k == n) c, run xs c k (omega (arith, le)) (λ j lt. all (suc j) (omega (arith, lt))) n)

rest_above : (xs : List ℕ) (c k : ℕ) → ((j : ℕ) → c ≤ j → j < length xs → k < get_or xs j 0) → (j : ℕ) → j < length (drop c xs) →
    k < get_or (drop c xs) j 0
rest_above xs zero k all j lt = all j (omega arith) lt
rest_above [] (suc c) k all j lt = absurd (omega (arith, lt))
rest_above (x ∷ xs) (suc c) k all j lt = rest_above xs c k (λ i le most. all (suc i) (omega (arith, le)) (omega (arith, most))) j lt

-- the first c are slot k, and those behind them are above it
alone_run : (p : Slots) (xs : List ℕ) (c k : ℕ) → ((j : ℕ) → held_text_at p j ≢ None → 0 < count_at p j) → c ≤ length xs →
    ((j : ℕ) → j < c → get_or xs j 0 ≡ k) → ((j : ℕ) → c ≤ j → j < length xs → k < get_or xs j 0)
    → bytes_alone (holders_at xs) 0 p ≡ cond (count_at p k == c) (length (text_at p k)) 0 + bytes_alone (holders_at (drop c xs)) 0 p
alone_run p xs c k held le run_of above =
    let gone : holders_at (drop c xs) k ≡ 0 = above_all (drop c xs) k (rest_above xs c k above) in
    let at : holders_at xs k ≡ c =
    let same : (k == k) ≡ true = grind (arith, nat_tests) in
    let number : cond (k == k) c 0 ≡ c = ap (λ (b : Bool). cond b c 0) same in
    omega (arith, run xs c k le run_of k, number, gone)
    in
    let others : (j : ℕ) → j ≢ k → holders_at xs j ≡ holders_at (drop c xs) j = λ j other.
    let apart : (k == j) ≡ false = grind (arith, nat_tests, other) in
    let number : cond (k == j) c 0 ≡ 0 = ap (λ (b : Bool). cond b c 0) apart in
    omega (arith, run xs c k le run_of j, number)
    in
    let here : cond (count_at p k == holders_at xs k) (length (text_at p k)) 0 ≡ cond (count_at p k == c) (length (text_at p k)) 0 =
    ap (λ (n : ℕ). cond (count_at p k == n) (length (text_at p k)) 0) at in
    omega (arith, alone_step (holders_at xs) (holders_at (drop c xs)) k gone others k 0 p (omega arith) held, here)

-- ---- as the code goes on

pub alone_sorted : (p : Slots) (xs ys zs : List ℕ) → IsPermutation xs ys → zs ≡ ys →
    bytes_alone (holders_at zs) 0 p ≡ bytes_alone (holders_at xs) 0 p
alone_sorted p xs ys zs moved is = alone_same (holders_at zs) (holders_at xs)
    (λ k. ap (λ (ns : List ℕ). holders_at ns k) is ∙ sum_by-IsPermutation (λ (n : ℕ). cond (n == k) 1 0) xs ys moved) 0 p

pub next_some : (xs : List ℕ) (c k : ℕ) → slice_get xs 0 ≡ Some k →
    IsPartitionPoint (λ (y : ℕ). leb y k ≡ true) (λ (y : ℕ). leb y k ≡ false) xs c → 0 < c
next_some xs zero k head parted =
    let first : get_or xs 0 0 ≡ k = get_or_from_slice_get xs 0 k 0 head in
    let above : k < get_or xs 0 0 = leb-false (get_or xs 0 0) k (parted.1 0 0 (omega arith) (slice_get_within xs 0 k head)) in
    absurd (omega (arith, first, above))
next_some xs (suc c) k head parted = omega arith

pub alone_next : (p : Slots) (xs : List ℕ) (c k : ℕ) → ((j : ℕ) → held_text_at p j ≢ None → 0 < count_at p j) → IsNonDecreasing xs →
    slice_get xs 0 ≡ Some k → c ≤ length xs
    → IsPartitionPoint (λ (y : ℕ). leb y k ≡ true) (λ (y : ℕ). leb y k ≡ false) xs c →
    bytes_alone (holders_at xs) 0 p ≡ cond (count_at p k == c) (length (text_at p k)) 0 + bytes_alone (holders_at (drop c xs)) 0 p
alone_next p xs c k held rising head le parted =
    let first : get_or xs 0 0 ≡ k = get_or_from_slice_get xs 0 k 0 head in
    let equal : (j : ℕ) → j < c → get_or xs j 0 ≡ k = λ j lt.
    let most : get_or xs j 0 ≤ k = leb-true (get_or xs j 0) k (parted.0 j 0 (omega arith) lt) in
    omega (arith, first, most, rising 0 j 0 (omega arith) (omega (arith, lt, le)))
    in
    alone_run p xs c k held le equal (λ j from within. leb-false (get_or xs j 0) k (parted.1 j 0 from within))

pub alone_over : (p : Slots) (xs : List ℕ) → slice_get xs 0 ≡ None → ((j : ℕ) → held_text_at p j ≢ None → 0 < count_at p j) →
    bytes_alone (holders_at xs) 0 p ≡ 0
alone_over p [] over held = alone_none (holders_at []) (λ k. refl) 0 p held
alone_over p (x ∷ xs) over held = absurd (cc)

pub if_short : (b : Bool) (n m : ℕ) → n ≤ m → cond b n 0 ≤ m
if_short true n m le = le
if_short false n m le = omega arith

drop_most : (n : ℕ) (xs : List ℕ) → length (drop n xs) ≤ length xs
drop_most zero xs = omega arith
drop_most (suc n) [] = omega arith
drop_most (suc n) (x ∷ xs) = omega (arith, drop_most n xs)

pub drop_less : (n : ℕ) (xs : List ℕ) → 0 < n → 0 < length xs → length (drop n xs) < length xs
drop_less zero xs some any = absurd (omega (arith, some))
drop_less (suc n) [] some any = absurd (omega (arith, any))
drop_less (suc n) (x ∷ xs) some any = omega (arith, drop_most n xs)
