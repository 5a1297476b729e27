-- A number's bits as a list.
use Rattle.std.proofs.Common.{◌≡◌, ℕ, zero, suc, ◌+◌, ◌-◌, ◌*◌, ◌/◌, ◌%◌, ◌^◌, ◌<◌, ◌≤◌, List, [], ◌∷◌, ◌++◌, length, replicate, refl, sym, ap, ◌∙◌, arith}
use Rattle.std.proofs.Math.Nat.{pow-suc, mod-eq_of_lt, mul_assoc}
use Rattle.std.proofs.lemmas.Nat.{pow_pos, pow-add, shr-shr, mod-pow-add, shr_high, shr_split}
use Rattle.hpack_huffman.specs.Code.{bits}

pub length-bits : (count n : ℕ) → length (bits count n) ≡ count
unfolding bits
length-bits zero n = refl
length-bits (suc count) n = let rest = length-bits count n in omega arith

-- the high bits, and then the low ones
pub bits-add : (high low n : ℕ) → bits (high + low) n ≡ bits high (n / 2 ^ low) ++ bits low n
unfolding bits
bits-add zero low n = let e : 0 + low ≡ low = omega arith in ap (λ (k : ℕ). bits k n) e
bits-add (suc high) low n =
    let one : suc high + low ≡ suc (high + low) = omega arith in
    let order : low + high ≡ high + low = omega arith in
    let first : n / 2 ^ low / 2 ^ high ≡ n / 2 ^ (high + low) = shr-shr n low high ∙ ap (λ (k : ℕ). n / 2 ^ k) order in
    ap (λ (k : ℕ). bits k n) one ∙ rw first (ap (λ (xs : List ℕ). n / 2 ^ (high + low) % 2 ∷ xs) (bits-add high low n))

-- what stands above the bits does not count
pub bits_low : (count high low : ℕ) → bits count (high * 2 ^ count + low) ≡ bits count low
unfolding bits
bits_low zero high low = refl
bits_low (suc count) high low =
    let power = pow-suc 2 count in
    let positive = pow_pos count in
    let split : high * 2 ^ suc count + low ≡ (2 * high + low / 2 ^ count) * 2 ^ count + low % 2 ^ count =
    rw power (omega (arith, shr_split low count)) in
    let quotient : (high * 2 ^ suc count + low) / 2 ^ count ≡ 2 * high + low / 2 ^ count =
    rw split (shr_high (2 * high + low / 2 ^ count) count (low % 2 ^ count) (omega arith)) in
    let first : (high * 2 ^ suc count + low) / 2 ^ count % 2 ≡ low / 2 ^ count % 2 = rw quotient (omega arith) in
    let twice : high * 2 ^ suc count + low ≡ (2 * high) * 2 ^ count + low = rw power (omega arith) in
    rw first (ap (λ (xs : List ℕ). low / 2 ^ count % 2 ∷ xs) (ap (bits count) twice ∙ bits_low count (2 * high) low))

pub bits_mod : (count k n : ℕ) → count ≤ k → bits count (n % 2 ^ k) ≡ bits count n
bits_mod count k n le =
    let power : 2 ^ k ≡ 2 ^ (k - count) * 2 ^ count =
    ap (λ (j : ℕ). 2 ^ j) (let e : k ≡ (k - count) + count = omega arith in e) ∙ pow-add 2 (k - count) count in
    let split : n / 2 ^ k * 2 ^ k + n % 2 ^ k ≡ n = shr_split n k in
    let high : n / 2 ^ k * 2 ^ k ≡ (n / 2 ^ k * 2 ^ (k - count)) * 2 ^ count =
    ap (λ (p : ℕ). n / 2 ^ k * p) power ∙ sym (mul_assoc (n / 2 ^ k) (2 ^ (k - count)) (2 ^ count)) in
    sym (bits_low count (n / 2 ^ k * 2 ^ (k - count)) (n % 2 ^ k)) ∙ ap (bits count) (ap (λ (p : ℕ). p + n % 2 ^ k) (sym high) ∙ split)

-- bits as a number
unfoldable value_of : List ℕ → ℕ
value_of [] = 0
value_of (b ∷ bs) = b * 2 ^ length bs + value_of bs

value_of-bits : (count n : ℕ) → value_of (bits count n) ≡ n % 2 ^ count
unfolding bits value_of
value_of-bits zero n = omega arith
value_of-bits (suc count) n =
    let rest = value_of-bits count n in
    let len = length-bits count n in
    let whole = mod-pow-add n 1 count in
    let power : 1 + count ≡ suc count = omega arith in
    rw (len, rest) (sym whole ∙ ap (λ (k : ℕ). n % 2 ^ k) power)

small_mod : (count n : ℕ) → n < 2 ^ count → n % 2 ^ count ≡ n
small_mod count n lt = mod-eq_of_lt lt

pub same_from_bits : (count m n : ℕ) → m < 2 ^ count → n < 2 ^ count → bits count m ≡ bits count n → m ≡ n
same_from_bits count m n p q e = sym (small_mod count m p) ∙ sym (value_of-bits count m) ∙ ap value_of e ∙ value_of-bits count n
    ∙ small_mod count n q

-- a number below a power of two that is one less than it has only ones
pub bits_ones : (count : ℕ) → bits count (2 ^ count - 1) ≡ replicate count 1
unfolding bits
bits_ones zero = refl
bits_ones (suc count) =
    let power = pow-suc 2 count in
    let positive = pow_pos count in
    let split : 2 ^ suc count - 1 ≡ 1 * 2 ^ count + (2 ^ count - 1) = omega arith in
    let first : (2 ^ suc count - 1) / 2 ^ count ≡ 1 = rw split (shr_high 1 count (2 ^ count - 1) (omega arith)) in
    let one : (2 ^ suc count - 1) / 2 ^ count % 2 ≡ 1 = rw first refl in
    rw one (ap (λ (xs : List ℕ). 1 ∷ xs) (ap (bits count) split ∙ bits_low count 1 (2 ^ count - 1) ∙ bits_ones count))
