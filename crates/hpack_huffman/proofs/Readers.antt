-- A reader's fields as the bits that are left.
use Rattle.std.proofs.Common.{◌≡◌, ℕ, ◌+◌, ◌-◌, ◌*◌, ◌/◌, ◌%◌, ◌^◌, ◌<◌, ◌≤◌, List, [], ◌∷◌, ◌++◌, length, take, drop, get_or, replicate, refl, sym, ap, ◌∙◌, arith}
use Rattle.std.specs.Prelude.{bit_or}
use Rattle.std.proofs.lemmas.List.{append_assoc, append-nil, drop_more, length-append, length-replicate, replicate-append-replicate, take_at, take_rest}
use Rattle.std.proofs.lemmas.Nat.{pow_pos, pow-add, one_shl, mod_below, mul-le, or_shifted, shr_high}
use Rattle.hpack_huffman.specs.Code.{bits, bits_of}
use Rattle.hpack_huffman.specs.Left.{window_of}
use Rattle.hpack_huffman.proofs.BitLists.{length-bits, bits-add, bits_low, bits_ones, bits_mod}

pub bits_of-cons : (octet : ℕ) (octets : List ℕ) → bits_of (octet ∷ octets) ≡ bits 8 octet ++ bits_of octets
unfolding bits_of
bits_of-cons octet octets = refl

-- an octet is taken into the buffer
pub push_octet : (held buffer octet : ℕ) → held + 8 ≤ 64 → octet < 2 ^ 8 →
    bits (held + 8) (bit_or (buffer * 2 ^ 8 % 2 ^ 64) octet) ≡ bits held buffer ++ bits 8 octet
push_octet held buffer octet fits lt =
    let shifted : buffer * 2 ^ 8 % 2 ^ 64 ≡ (buffer % 2 ^ 56) * 2 ^ 8 = omega arith in
    let joined : bit_or (buffer * 2 ^ 8 % 2 ^ 64) octet ≡ (buffer % 2 ^ 56) * 2 ^ 8 + octet =
    rw shifted (or_shifted (buffer % 2 ^ 56) 8 octet lt) in
    let high : ((buffer % 2 ^ 56) * 2 ^ 8 + octet) / 2 ^ 8 ≡ buffer % 2 ^ 56 = shr_high (buffer % 2 ^ 56) 8 octet lt in
    ap (bits (held + 8)) joined ∙ bits-add held 8 ((buffer % 2 ^ 56) * 2 ^ 8 + octet)
    ∙ ap (λ (n : ℕ). bits held n ++ bits 8 ((buffer % 2 ^ 56) * 2 ^ 8 + octet)) high
    ∙ ap (λ (xs : List ℕ). xs ++ bits 8 ((buffer % 2 ^ 56) * 2 ^ 8 + octet)) (bits_mod held 56 buffer (omega arith))
    ∙ ap (λ (xs : List ℕ). bits held buffer ++ xs) (bits_low 8 (buffer % 2 ^ 56) octet)

-- a window of bits that are all held
pub window_full : (held buffer : ℕ) (rest : List ℕ) → 30 ≤ held →
    bits 30 (buffer / 2 ^ (held - 30) % 2 ^ 30) ≡ window_of (bits held buffer ++ rest)
unfolding window_of
window_full held buffer rest le =
    let n = buffer / 2 ^ (held - 30) in
    let low = bits (held - 30) buffer in
    let split : bits held buffer ≡ bits 30 n ++ low =
    ap (λ (k : ℕ). bits k buffer) (let e : held ≡ 30 + (held - 30) = omega arith in e) ∙ bits-add 30 (held - 30) buffer in
    let parts : (bits held buffer ++ rest) ++ replicate 30 1 ≡ bits 30 n ++ (low ++ (rest ++ replicate 30 1)) =
    append_assoc (bits held buffer) rest (replicate 30 1) ∙ ap (λ (xs : List ℕ). xs ++ (rest ++ replicate 30 1)) split
    ∙ append_assoc (bits 30 n) low (rest ++ replicate 30 1) in
    bits_mod 30 30 n (omega arith) ∙ sym (ap (take 30) parts ∙ take_at (bits 30 n) (low ++ (rest ++ replicate 30 1)) 30 (length-bits 30 n))

-- a window of fewer bits
window_short : (bs : List ℕ) (missing : ℕ) → length bs + missing ≡ 30 → window_of bs ≡ bs ++ replicate missing 1
unfolding window_of
window_short bs missing e =
    let whole : 30 ≡ missing + length bs = omega arith in
    let long : length (bs ++ replicate missing 1) ≡ 30 =
    length-append bs (replicate missing 1) ∙ ap (λ (k : ℕ). length bs + k) (length-replicate missing 1) ∙ e in
    ap (λ (k : ℕ). take 30 (bs ++ replicate k 1)) whole
    ∙ ap (λ (xs : List ℕ). take 30 (bs ++ xs)) (sym (replicate-append-replicate missing (length bs) 1))
    ∙ ap (take 30) (sym (append_assoc bs (replicate missing 1) (replicate (length bs) 1)))
    ∙ take_at (bs ++ replicate missing 1) (replicate (length bs) 1) 30 long

-- a number with ones below it
bits_padded : (held missing low : ℕ) → 30 ≡ held + missing → bits 30 ((low + 1) * 2 ^ missing - 1) ≡ bits held low ++ replicate missing 1
bits_padded held missing low whole =
    let positive = pow_pos missing in
    let number : (low + 1) * 2 ^ missing - 1 ≡ low * 2 ^ missing + (2 ^ missing - 1) = omega arith in
    let high : (low * 2 ^ missing + (2 ^ missing - 1)) / 2 ^ missing ≡ low = shr_high low missing (2 ^ missing - 1) (omega arith) in
    let ones : bits missing (low * 2 ^ missing + (2 ^ missing - 1)) ≡ replicate missing 1 =
    bits_low missing low (2 ^ missing - 1) ∙ bits_ones missing in
    rw (number, whole, bits-add held missing (low * 2 ^ missing + (2 ^ missing - 1)), high, ones) refl

pub window_end : (held buffer : ℕ) (octets : List ℕ) → held < 30 → octets ≡ [] →
    bits 30 ((buffer % 2 ^ held + 1) * 2 ^ (30 - held) - 1) ≡ window_of (bits held buffer ++ bits_of octets)
unfolding bits_of
window_end held buffer octets lt none =
    let whole : 30 ≡ held + (30 - held) = omega arith in
    let long : length (bits held buffer) + (30 - held) ≡ 30 = let l = length-bits held buffer in omega arith in
    bits_padded held (30 - held) (buffer % 2 ^ held) whole
    ∙ ap (λ (xs : List ℕ). xs ++ replicate (30 - held) 1) (bits_mod held held buffer (omega arith))
    ∙ sym (window_short (bits held buffer) (30 - held) long)
    ∙ ap window_of (sym (append-nil (bits held buffer)) ∙ ap (λ (xs : List ℕ). bits held buffer ++ bits_of xs) (sym none))

pub taken : (held buffer octet : ℕ) (octets : List ℕ) → held + 8 ≤ 64 → octet < 2 ^ 8 → 0 < length octets → octet ≡ get_or octets 0 0
    → bits (held + 8) (bit_or (buffer * 2 ^ 8 % 2 ^ 64) octet) ++ bits_of (take (length octets - 1) (drop 1 octets)) ≡ bits held buffer
    ++ bits_of octets
taken held buffer octet octets fits lt some first =
    let left : take (length octets - 1) (drop 1 octets) ≡ drop 1 octets = take_rest octets 1 in
    let whole : octets ≡ octet ∷ drop 1 octets = drop_more octets 0 0 some ∙ ap (λ (b : ℕ). b ∷ drop 1 octets) (sym first) in
    ap (λ (xs : List ℕ). bits (held + 8) (bit_or (buffer * 2 ^ 8 % 2 ^ 64) octet) ++ bits_of xs) left
    ∙ ap (λ (xs : List ℕ). xs ++ bits_of (drop 1 octets)) (push_octet held buffer octet fits lt)
    ∙ append_assoc (bits held buffer) (bits 8 octet) (bits_of (drop 1 octets))
    ∙ ap (λ (xs : List ℕ). bits held buffer ++ xs) (sym (bits_of-cons octet (drop 1 octets)))
    ∙ ap (λ (xs : List ℕ). bits held buffer ++ bits_of xs) (sym whole)

-- the number that stands for the end, as the code computes it
abbrev pub end_number : ℕ → ℕ → ℕ
end_number held buffer = (buffer % (1 * 2 ^ held % 2 ^ 64) + 1) * 2 ^ (30 - held) % 2 ^ 64 - 1

pub record IsEnd (held buffer : ℕ) : Type 0 where
  pub value : end_number held buffer ≡ (buffer % 2 ^ held + 1) * 2 ^ (30 - held) - 1
  pub small : end_number held buffer < 2 ^ 30

pub end_is : (held buffer : ℕ) → held < 30 → IsEnd held buffer
end_is held buffer lt =
    let one : 1 * 2 ^ held % 2 ^ 64 ≡ 2 ^ held = one_shl held 64 (omega arith) in
    let positive = pow_pos held in
    let whole : 2 ^ held * 2 ^ (30 - held) ≡ 2 ^ 30 =
    sym (pow-add 2 held (30 - held)) ∙ ap (λ (k : ℕ). 2 ^ k) (let e : held + (30 - held) ≡ 30 = omega arith in e) in
    let low : buffer % 2 ^ held + 1 ≤ 2 ^ held = let h = mod_below buffer (2 ^ held) positive in omega arith in
    let most : (buffer % 2 ^ held + 1) * 2 ^ (30 - held) ≤ 2 ^ held * 2 ^ (30 - held) =
    mul-le (buffer % 2 ^ held + 1) (2 ^ (30 - held)) (2 ^ held) (2 ^ (30 - held)) low (omega arith) in
    let product = (buffer % 2 ^ held + 1) * 2 ^ (30 - held) in
    let bound : product ≤ 2 ^ 30 = omega arith in
    let kept : product % 2 ^ 64 ≡ product = omega arith in
    record { value = rw (one, kept) refl; small = rw (one, kept) (omega arith) }
