-- A canonical code is a prefix code.
use Rattle.std.proofs.Common.{◌≡◌, ℕ, zero, suc, ◌+◌, ◌-◌, ◌*◌, ◌/◌, ◌^◌, ◌==◌, ◌<◌, ◌≤◌, nat_le, nat_lt, Bool, true, List, [], ◌∷◌, ◌++◌, length, take, replicate, slice_index, if◌then◌else◌, refl, sym, ap, ◌∙◌, arith, inl, inr}
use Rattle.std.proofs.Math.Nat.{pow-suc}
use Rattle.std.proofs.lemmas.Bool.{and_parts, leb-true, ltb-true, cases_lt, cases_order, eq-eqb}
use Rattle.std.proofs.lemmas.List.{length-append, take_at, take-take}
use Rattle.std.proofs.lemmas.List.Sums.{sum_by-take-le, count_by_more_yes}
use Rattle.std.proofs.lemmas.Nat.{pow_pos, le-div, shr_below, mul-le}
use Rattle.hpack_huffman.specs.Lengths.{lengths}
use Rattle.hpack_huffman.specs.Code.{eos, bits, code_length, count_of, first_code, code_value, code}
use Rattle.hpack_huffman.specs.Table.{all_below}
use Rattle.hpack_huffman.proofs.BitLists.{length-bits, bits-add, bits_ones, same_from_bits}

-- ---- what the checker computes from the table

pub all_below_at : (p : ℕ → Bool) (n k : ℕ) → all_below p n ≡ true → k < n → p k ≡ true
all_below_at p zero k h lt = absurd (omega arith)
all_below_at p (suc n) k h lt =
    let parts = and_parts (p n) (all_below p n) h in
    elim (cases_lt k n) [
      | inl below ↦ all_below_at p n k parts.1 below
      | inr top ↦ let e : k ≡ n = omega arith in rw e parts.0
    ]

pub length-lengths : length lengths ≡ 257
unfolding lengths
length-lengths = refl

-- there are not more codes of a length than its bits can tell apart
abbrev fits : ℕ → Bool
fits symbol = nat_lt (code_value symbol) (2 ^ code_length symbol)

all_fit : all_below fits 257 ≡ true
unfolding lengths code_length count_of first_code code_value
all_fit = refl

pub code_fits : (symbol : ℕ) → symbol ≤ eos → code_value symbol < 2 ^ code_length symbol
code_fits symbol le = ltb-true (code_value symbol) (2 ^ code_length symbol) (all_below_at fits 257 symbol all_fit (omega arith))

pub eos_is : (code_length 256 ≡ 30) × (code_value 256 ≡ 2 ^ 30 - 1)
unfolding lengths code_length count_of first_code code_value
eos_is = (refl, refl)

-- ---- ranks

rank_step : (n symbol : ℕ) (ls : List ℕ) → symbol < length ls → slice_index ls symbol ≡ n →
    count_of n (take (symbol + 1) ls) ≡ count_of n (take symbol ls) + 1
unfolding count_of
rank_step n symbol ls lt e = count_by_more_yes (λ (l : ℕ). l == n) ls symbol 0 lt (eq-eqb (slice_index ls symbol) n e)

count_of-take-le : (n k : ℕ) (ls : List ℕ) → count_of n (take k ls) ≤ count_of n ls
unfolding count_of
count_of-take-le n k ls = sum_by-take-le (λ (l : ℕ). if l == n then 1 else 0) ls k

count_of_more : (n j k : ℕ) (ls : List ℕ) → j ≤ k → count_of n (take j ls) ≤ count_of n (take k ls)
count_of_more n j k ls le = rw (← take-take j k ls le) (count_of-take-le n j (take k ls))

-- a lower symbol of the same length has a lower code
lower_code : (s t : ℕ) → s < t → t ≤ eos → code_length s ≡ code_length t → code_value s < code_value t
unfolding code_value code_length
lower_code s t lt le same =
    let len = length-lengths in
    let one = rank_step (slice_index lengths t) s lengths (omega arith) same in
    let more = count_of_more (slice_index lengths t) (s + 1) t lengths (omega arith) in
    rw same (omega arith)

same_length : (s t : ℕ) → s ≤ eos → t ≤ eos → code_length s ≡ code_length t → code_value s ≡ code_value t → s ≡ t
same_length s t p q len num = elim (cases_order s t) [
  | inl e ↦ e
  | inr (inl lt) ↦ absurd (let h = lower_code s t lt q len in omega arith)
  | inr (inr gt) ↦ absurd (let h = lower_code t s gt p (sym len) in omega arith)
]

-- a symbol's code is below what comes after the last code of its length
code_below : (symbol : ℕ) → symbol ≤ eos → code_value symbol + 1 ≤ first_code (code_length symbol) + count_of (code_length symbol) lengths
unfolding code_value code_length
code_below symbol le =
    let len = length-lengths in
    let one = rank_step (slice_index lengths symbol) symbol lengths (omega arith) refl in
    let most = count_of-take-le (slice_index lengths symbol) (symbol + 1) lengths in
    omega arith

-- longer codes begin after the shorter ones
first_grows : (n more : ℕ) → 2 ^ more * (2 * (first_code n + count_of n lengths)) ≤ first_code (n + suc more)
unfolding first_code
first_grows n zero = let e : n + 1 ≡ suc n = omega arith in rw e (omega arith)
first_grows n (suc more) =
    let e : n + suc (suc more) ≡ suc (n + suc more) = omega arith in
    let power = pow-suc 2 more in
    let h = first_grows n more in
    rw (e, power) (omega arith)

-- so no code begins with a shorter one
not_shorter : (s t more : ℕ) → s ≤ eos → code_length t ≡ code_length s + suc more → code_value t / 2 ^ suc more ≡ code_value s → ⊥
unfolding code_value
not_shorter s t more le len e =
    let end = first_code (code_length s) + count_of (code_length s) lengths in
    let power = pow-suc 2 more in
    let turned : end * 2 ^ suc more ≡ 2 ^ more * (2 * end) = rw power (omega arith) in
    let scaled : (code_value s + 1) * 2 ^ suc more ≤ end * 2 ^ suc more =
    mul-le (code_value s + 1) (2 ^ suc more) end (2 ^ suc more) (code_below s le) (omega arith) in
    let grows : 2 ^ more * (2 * end) ≤ first_code (code_length t) = rw len (first_grows (code_length s) more) in
    let there : (code_value s + 1) * 2 ^ suc more ≤ code_value t = omega arith in
    let high = le-div (code_value s + 1) (code_value t) (2 ^ suc more) (pow_pos (suc more)) there in
    omega arith

high_bits : (s t : ℕ) (rest : List ℕ) → s ≤ eos → t ≤ eos → code_length t ≡ code_length s + length rest → code t ≡ code s ++ rest →
    code_value t / 2 ^ length rest ≡ code_value s
unfolding code
high_bits s t rest p q len e =
    let n = code_length s in
    let low = code_value t / 2 ^ length rest in
    let split : code t ≡ bits n low ++ bits (length rest) (code_value t) =
    ap (λ (k : ℕ). bits k (code_value t)) len ∙ bits-add n (length rest) (code_value t) in
    let front : bits n low ≡ bits n (code_value s) =
    sym (take_at (bits n low) (bits (length rest) (code_value t)) n (length-bits n low)) ∙ ap (take n) (sym split ∙ e)
    ∙ take_at (bits n (code_value s)) rest n (length-bits n (code_value s)) in
    let fits : code_value t < 2 ^ (n + length rest) = rw (← len) (code_fits t q) in
    same_from_bits n low (code_value s) (shr_below (code_value t) n (length rest) fits) (code_fits s p) front

pub length-code : (symbol : ℕ) → length (code symbol) ≡ code_length symbol
unfolding code
length-code symbol = length-bits (code_length symbol) (code_value symbol)

pub prefix_free : (s t : ℕ) → s ≤ eos → t ≤ eos → (rest : List ℕ) → code t ≡ code s ++ rest → s ≡ t
prefix_free s t p q rest e =
    let len : code_length t ≡ code_length s + length rest =
    sym (length-code t) ∙ ap length e ∙ length-append (code s) rest ∙ ap (λ (k : ℕ). k + length rest) (length-code s) in
    go rest len (high_bits s t rest p q len e)
  where
    go : (rest : List ℕ) → code_length t ≡ code_length s + length rest → code_value t / 2 ^ length rest ≡ code_value s → s ≡ t
    go [] len high = same_length s t p q (omega arith) (omega arith)
    go (b ∷ bs) len high = absurd (not_shorter s t (length bs) p len high)

-- ---- whose code begins a list

abbrev is_least : ℕ → Bool
is_least symbol = nat_le 5 (code_length symbol)

all_least : all_below is_least 257 ≡ true
unfolding lengths code_length
all_least = refl

-- no code is shorter than five bits
pub code_length_least : (symbol : ℕ) → symbol ≤ eos → 5 ≤ code_length symbol
code_length_least symbol le = leb-true 5 (code_length symbol) (all_below_at is_least 257 symbol all_least (omega arith))

pub code-eos : code 256 ≡ replicate 30 1
unfolding code
code-eos = ap (λ (k : ℕ). bits k (code_value 256)) eos_is.0 ∙ ap (bits 30) eos_is.1 ∙ bits_ones 30

front_of_longer : (xs ys us vs : List ℕ) → xs ++ us ≡ ys ++ vs → length xs ≤ length ys → (rest : List ℕ) × (ys ≡ xs ++ rest)
front_of_longer [] ys us vs e le = (ys, refl)
front_of_longer (x ∷ xs) [] us vs e le = absurd (omega arith)
front_of_longer (x ∷ xs) (y ∷ ys) us vs e le =
    let head : x ≡ y = cc in
    let tails : xs ++ us ≡ ys ++ vs = cc in
    let more = front_of_longer xs ys us vs tails (omega arith) in
    (more.0, rw head (ap (λ (zs : List ℕ). y ∷ zs) more.1))

-- at most one code begins a list
pub one_symbol : (s t : ℕ) → s ≤ eos → t ≤ eos → (us vs : List ℕ) → code s ++ us ≡ code t ++ vs → s ≡ t
one_symbol s t p q us vs e = elim (cases_lt (length (code t)) (length (code s))) [
  | inl shorter ↦ let h = front_of_longer (code t) (code s) vs us (sym e) (omega arith) in sym (prefix_free t s q p h.0 h.1)
  | inr longer ↦ let h = front_of_longer (code s) (code t) us vs e longer in prefix_free s t p q h.0 h.1
]
