-- Digits in lower case, and the one word that writes some bytes.
use Rattle.std.proofs.Common.{◌≡◌, ℕ, zero, suc, ◌+◌, ◌-◌, ◌*◌, ◌/◌, ◌%◌, ◌<◌, ◌≤◌, ◌==◌, Bool, true, false, ◌&&◌, ◌⊎◌, cond, List, [], ◌∷◌, slice_index, Option, Some, None, Result, Ok, Err, codes, refl, sym, ap, ◌∙◌, inl, inr, arith}
use Rattle.std.specs.Prelude.{nat_lt, nat_le}
use Rattle.std.proofs.lemmas.Bool.{and_parts, cases_lt, cases_Bool, eqb-true}
use Rattle.std.proofs.lemmas.Bool.Decides.{nat_tests}
use Rattle.std.proofs.lemmas.Slice.Eq.{bytes_eq-Decides}
use Rattle.std.specs.List.{list_all}
use Rattle.std.specs.Result.{result_ok, result_unwrap_or}
use Rattle.std.specs.Str.{bytes_eq}
use Rattle.hex.specs.Hex.{◌>>=◌, IsBytes, decode_of, decode_pairs, digit_or_error, encode_lower, encode_with, hex_digit_value, lower_digits, pair_value, value_at}
use Rattle.hex.specs.declared.error.FromHexError.{FromHexError}
use Rattle.hex.proofs.HexLemmas.{decode_of-encode_lower, decode_of-even, decode_of-ok}
use Rattle.script.proofs.SplitLemmas.{Lacks, Lacks-passing}
use Rattle.script.specs.Hexadecimal.{is_lower_hex_digit, hex_word, digits_bytes, bytes_of_hex}

-- the digit of a value below 16
abbrev digit_of : ℕ → ℕ
digit_of value = cond (nat_lt value 10) (48 + value) (87 + value)

-- the test of the first n places of the table of digits, which computes
abbrev digits_agree : ℕ → Bool
digits_agree zero = true
digits_agree (suc n) = (slice_index lower_digits n == digit_of n) && digits_agree n

digits_agree-at : (n value : ℕ) → digits_agree n ≡ true → value < n → slice_index lower_digits value ≡ digit_of value
digits_agree-at zero value h lt = absurd (omega arith)
digits_agree-at (suc n) value h lt =
    let parts = and_parts (slice_index lower_digits n == digit_of n) (digits_agree n) h in
    elim (cases_lt value n) [
      | inl below ↦ digits_agree-at n value parts.1 below
      | inr top ↦
          let e : value ≡ n = omega arith in
          rw e (eqb-true (slice_index lower_digits n) (digit_of n) parts.0)
    ]

lower_digit_at : (value : ℕ) → value < 16 → slice_index lower_digits value ≡ digit_of value
lower_digit_at value lt = digits_agree-at 16 value refl lt

lower_ranges : (byte : ℕ) → is_lower_hex_digit byte ≡ true → ((48 ≤ byte) × (byte ≤ 57)) ⊎ ((97 ≤ byte) × (byte ≤ 102))
lower_ranges byte h =
    elim (cases_Bool (nat_le 48 byte && nat_le byte 57)) [
      | inl digit ↦
          let parts = and_parts (nat_le 48 byte) (nat_le byte 57) digit in
          let low = parts.0 in let high = parts.1 in
          inl (grind (arith, nat_tests), grind (arith, nat_tests))
      | inr other ↦
          let letter = rw other at h in
          let parts = and_parts (nat_le 97 byte) (nat_le byte 102) letter in
          let low = parts.0 in let high = parts.1 in
          inr (grind (arith, nat_tests), grind (arith, nat_tests))
    ]

value_of_digit : (byte : ℕ) → 48 ≤ byte → byte ≤ 57 → hex_digit_value byte ≡ Some (byte - 48)
value_of_digit byte low high = grind (arith, nat_tests)

value_of_letter : (byte : ℕ) → 97 ≤ byte → byte ≤ 102 → hex_digit_value byte ≡ Some (byte - 87)
value_of_letter byte low high = grind (arith, nat_tests)

some_same : (a b : ℕ) → Some a ≡ Some b → a ≡ b
some_same a b e = cc

-- a digit in lower case is the digit of its value
digit_of-value : (byte value : ℕ) → is_lower_hex_digit byte ≡ true → hex_digit_value byte ≡ Some value →
    (value < 16) × (digit_of value ≡ byte)
digit_of-value byte value h e =
    elim (lower_ranges byte h) [
      | inl digit ↦
          let worth = value_of_digit byte digit.0 digit.1 in
          let same : byte - 48 ≡ value = some_same (byte - 48) value (sym worth ∙ e) in
          let low = digit.0 in
          let high = digit.1 in
          let below : nat_lt value 10 ≡ true = grind (arith, nat_tests) in
          (omega arith, rw below (omega arith))
      | inr letter ↦
          let worth = value_of_letter byte letter.0 letter.1 in
          let same : byte - 87 ≡ value = some_same (byte - 87) value (sym worth ∙ e) in
          let low = letter.0 in
          let high = letter.1 in
          let above : nat_lt value 10 ≡ false = grind (arith, nat_tests) in
          (omega arith, rw above (omega arith))
    ]

-- each digit of the table is one in lower case
lower_digit_is_lower : (value : ℕ) → value < 16 → is_lower_hex_digit (slice_index lower_digits value) ≡ true
lower_digit_is_lower value lt = rw (lower_digit_at value lt) (grind (arith, nat_tests))

pub list_all-encode_lower : (bytes : List ℕ) → IsBytes bytes → list_all is_lower_hex_digit (encode_lower bytes) ≡ true
unfolding encode_with
list_all-encode_lower [] h = refl
list_all-encode_lower (byte ∷ bytes) h =
    let fits : byte < 256 = h 0 in
    let high : byte / 16 < 16 = omega arith in
    let low : byte % 16 < 16 = omega arith in
    rw (lower_digit_is_lower (byte / 16) high, lower_digit_is_lower (byte % 16) low) (list_all-encode_lower bytes (λ k. h (suc k)))

-- a word of digits is not `-`
not_dash : (word : List ℕ) → list_all is_lower_hex_digit word ≡ true → bytes_eq word (codes "-") ≡ false
not_dash [] h = refl
not_dash (byte ∷ word) h =
    let parts = and_parts (is_lower_hex_digit byte) (list_all is_lower_hex_digit word) h in
    let range = lower_ranges byte parts.0 in
    let other : (byte == 45) ≡ false = elim range
    [ inl digit ↦ (let low = digit.0 in grind (arith, nat_tests)) | inr letter ↦ (let low = letter.0 in grind (arith, nat_tests)) ] in
    rw other refl

-- a word of digits is read as what it decodes to
bytes_of_hex-digits : (byte : ℕ) (word bytes : List ℕ) → list_all is_lower_hex_digit (byte ∷ word) ≡ true →
    decode_of (byte ∷ word) ≡ Ok bytes
    → bytes_of_hex (byte ∷ word) ≡ Some bytes
bytes_of_hex-digits byte word bytes lower read =
    ap (λ b. cond b (Some []) (digits_bytes (byte ∷ word))) (not_dash (byte ∷ word) lower)
    ∙ ap (λ b. cond b (result_ok (decode_of (byte ∷ word))) None) lower ∙ ap result_ok read

-- what is written is read back
pub bytes_of_hex-hex_word : (bytes : List ℕ) → IsBytes bytes → bytes_of_hex (hex_word bytes) ≡ Some bytes
unfolding encode_with
bytes_of_hex-hex_word [] h = refl
bytes_of_hex-hex_word (byte ∷ bytes) h =
    bytes_of_hex-digits (slice_index lower_digits (byte / 16)) (slice_index lower_digits (byte % 16) ∷ encode_lower bytes) (byte ∷ bytes)
    (list_all-encode_lower (byte ∷ bytes) h) (decode_of-encode_lower (byte ∷ bytes) h)

-- ---- and no other word is read as those bytes

-- what an `Ok` after `>>=` shows
bind_ok : {A B : Type 0} (r : Result A FromHexError) (f : A → Result B FromHexError) (y : B)
    → (r >>= f) ≡ Ok y → (x : A) × (r ≡ Ok x) × (f x ≡ Ok y)
bind_ok (Ok x) f y h = (x, refl, h)
bind_ok (Err e) f y h = cc h

digit_read : (c i : ℕ) (o : Option ℕ) (v : ℕ) → digit_or_error c i o ≡ Ok v → o ≡ Some v
digit_read c i (Some w) v h = ap Some (ap (λ (r : Result ℕ FromHexError). result_unwrap_or r 0) h)
digit_read c i None v h = cc h

-- a digit in lower case stands in the table at its value
digit_at : (byte i value : ℕ) → is_lower_hex_digit byte ≡ true → value_at byte i ≡ Ok value
    → (value < 16) × (slice_index lower_digits value ≡ byte)
digit_at byte i value lower read =
    let same = digit_of-value byte value lower (digit_read byte i (hex_digit_value byte) value read) in
    (same.0, lower_digit_at value same.0 ∙ same.1)

-- digits in lower case are written for the bytes that they decode to
encode_lower-decode_pairs : (i : ℕ) (word bytes : List ℕ) → list_all is_lower_hex_digit word ≡ true → decode_pairs i word ≡ Ok bytes
    → word ≡ encode_lower bytes
unfolding encode_with decode_pairs
encode_lower-decode_pairs i [] [] lower h = refl
encode_lower-decode_pairs i [] (byte ∷ bytes) lower h = cc
encode_lower-decode_pairs i (digit ∷ []) bytes lower h = cc
encode_lower-decode_pairs i (high ∷ low ∷ rest) bytes lower h =
    let first = and_parts (is_lower_hex_digit high) (list_all is_lower_hex_digit (low ∷ rest)) lower in
    let second = and_parts (is_lower_hex_digit low) (list_all is_lower_hex_digit rest) first.1 in
    let p0 = bind_ok (pair_value high low i) _ bytes h in
    let p1 = bind_ok (value_at high i) _ p0.0 p0.1 in
    let p2 = bind_ok (value_at low (i + 1)) _ p0.0 p1.2 in
    let p3 = bind_ok (decode_pairs (i + 2) rest) _ bytes p0.2 in
    let later = encode_lower-decode_pairs (i + 2) rest p3.0 second.1 p3.1 in
    let whole : p0.0 ∷ p3.0 ≡ bytes = ap (λ (r : Result (List ℕ) FromHexError). result_unwrap_or r []) p3.2 in
    let byte : p1.0 * 16 + p2.0 ≡ p0.0 = ap (λ (r : Result ℕ FromHexError). result_unwrap_or r 0) p2.2 in
    let a = digit_at high i p1.0 first.0 p1.1 in
    let b = digit_at low (i + 1) p2.0 second.0 p2.1 in
    let upper : p0.0 / 16 ≡ p1.0 = let la = a.0 in let lb = b.0 in omega arith in
    let under : p0.0 % 16 ≡ p2.0 = let la = a.0 in let lb = b.0 in omega arith in
    rw (← whole, upper, under, a.1, b.1, ← later) refl

-- the same of whole words
encode_lower-decode_of : (word bytes : List ℕ) → list_all is_lower_hex_digit word ≡ true → decode_of word ≡ Ok bytes →
    word ≡ encode_lower bytes
encode_lower-decode_of word bytes lower h =
    let even = (decode_of-ok word bytes h).0 in
    encode_lower-decode_pairs 0 word bytes lower (sym (decode_of-even word even) ∙ h)

-- a word with a digit is written for some bytes
hex_word-some : (byte : ℕ) (word bytes : List ℕ) → byte ∷ word ≡ encode_lower bytes → byte ∷ word ≡ hex_word bytes
unfolding encode_with
hex_word-some byte word [] h = cc
hex_word-some byte word (first ∷ bytes) h = h

some_ok : (r : Result (List ℕ) FromHexError) (bytes : List ℕ) → result_ok r ≡ Some bytes → r ≡ Ok bytes
some_ok (Ok read) bytes h = cc
some_ok (Err e) bytes h = cc

pub hex_word-bytes_of_hex : (word bytes : List ℕ) → bytes_of_hex word ≡ Some bytes → word ≡ hex_word bytes
hex_word-bytes_of_hex [] bytes h = cc
hex_word-bytes_of_hex (byte ∷ word) bytes h =
    go (bytes_eq (byte ∷ word) (codes "-")) refl (list_all is_lower_hex_digit (byte ∷ word)) refl h
  where
    go : (dash : Bool) → bytes_eq (byte ∷ word) (codes "-") ≡ dash
        → (lower : Bool) → list_all is_lower_hex_digit (byte ∷ word) ≡ lower
        → cond dash (Some []) (cond lower (result_ok (decode_of (byte ∷ word))) None) ≡ Some bytes
        → byte ∷ word ≡ hex_word bytes
    go true d lower l h =
        let none : [] ≡ bytes = cc in
        (bytes_eq-Decides (byte ∷ word) (codes "-")).0 d ∙ ap hex_word none
    go false d true l h =
        hex_word-some byte word bytes (encode_lower-decode_of (byte ∷ word) bytes l (some_ok (decode_of (byte ∷ word)) bytes h))
    go false d false l h = cc

-- what is read is bytes
pub IsBytes-bytes_of_hex : (word bytes : List ℕ) → bytes_of_hex word ≡ Some bytes → IsBytes bytes
IsBytes-bytes_of_hex [] bytes h = cc
IsBytes-bytes_of_hex (byte ∷ word) bytes h = go (bytes_eq (byte ∷ word) (codes "-")) (list_all is_lower_hex_digit (byte ∷ word)) h
  where
    go : (dash lower : Bool) → cond dash (Some []) (cond lower (result_ok (decode_of (byte ∷ word))) None) ≡ Some bytes → IsBytes bytes
    go true lower h =
        let none : [] ≡ bytes = cc in
        rw (← none) (λ i. omega arith)
    go false true h = (decode_of-ok (byte ∷ word) bytes (some_ok (decode_of (byte ∷ word)) bytes h)).3
    go false false h = cc

-- no word that writes bytes has a space in it
pub Lacks_space-hex_word : (bytes : List ℕ) → IsBytes bytes → Lacks 32 (hex_word bytes)
Lacks_space-hex_word [] h = Lacks-passing (λ byte. byte == 45) 32 refl (codes "-") refl
Lacks_space-hex_word (byte ∷ bytes) h =
    Lacks-passing is_lower_hex_digit 32 refl (encode_lower (byte ∷ bytes)) (list_all-encode_lower (byte ∷ bytes) h)
