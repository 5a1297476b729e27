-- Digests as names write them.
use Rattle.std.proofs.Common.{◌≡◌, ℕ, ◌<◌, ◌==◌, ◌^◌, Bool, true, false, not, cond, ◌&&◌, ◌||◌, List, [], ◌∷◌, ◌++◌, length, get_or, Option, Some, None, Ok, refl, sym, ap, subst, ◌∙◌, arith, inl, inr}
use Rattle.std.specs.Prelude.{nat_lt, nat_eq, codes}
use Rattle.std.specs.List.{list_all}
use Rattle.std.specs.Str.{bytes_eq}
use Rattle.std.specs.Str.Parse.{AllDigits, digits_value}
use Rattle.std.specs.Fmt.{decimal}
use Rattle.std.proofs.lemmas.Bool.{and_parts, cases_eq}
use Rattle.std.proofs.lemmas.Bool.Decides.{nat_tests}
use Rattle.std.proofs.lemmas.Str.Parse.{IsNumeralModel, tells_digits, numerals_by_value, digit_from_value}
use Rattle.std.proofs.lemmas.Fmt.{decimal-digits_value, digits_value-decimal, digits_decimal, decimal_digit, decimal_nonempty, first_decimal}
use Rattle.digest.specs.declared.Digest.{Digest}
use Rattle.digest.specs.declared.Hash.{Hash}
use Rattle.digest.specs.Text.{hash_text, hash_in, is_lower_hex_digit}
use Rattle.digest.proofs.Writings.{hash_found, hash_read}
use Rattle.resource_names.specs.declared.name.NameError.TheVariants as Fault
use Rattle.resource_names.specs.Names.{◌>>=◌, or_fault, digest_of_segments}
use Rattle.numerals.specs.Number.{is_decimal_digit}
use Rattle.numerals.proofs.NumberLemmas.{AllDigits-from_list_all}
use Rattle.resource_names.specs.Size.{is_numeral, size_in}
use Rattle.resource_names.specs.Written.{HasNoSlash, IsNameable, digest_text}
use Rattle.resource_names.proofs.SizeLemmas.{numeral_digits}

-- where no slash passes a test, a byte that does is none
no_slash : (test : ℕ → Bool) → test 47 ≡ false → (byte : ℕ) → test byte ≡ true → (byte == 47) ≡ false
no_slash test none byte passes = go (byte == 47) refl where
  go : (b : Bool) → (byte == 47) ≡ b → b ≡ false
  go false is = refl
  go true is =
      let same : byte ≡ 47 = grind (arith, nat_tests) in
      sym passes ∙ ap test same ∙ none

clean_of : (test : ℕ → Bool) → test 47 ≡ false → (text : List ℕ) → list_all test text ≡ true → HasNoSlash text
clean_of test none [] h = tt
clean_of test none (byte ∷ text) h =
    let parts = and_parts (test byte) (list_all test text) h in
    (no_slash test none byte parts.0, clean_of test none text parts.1)

-- a text is the written form of a size
record IsSizeText (text : List ℕ) (size : ℕ) : Type 0 where
  text_is : text ≡ decimal size
  most : size < 2 ^ 63
  clean : HasNoSlash text

own : IsNumeralModel (AllDigits 10) (digits_value 10)
own = numerals_by_value (AllDigits 10) tells_digits

not_numeral : (some all : Bool) → (false || (some && false && all)) ≡ true → ⊥
not_numeral true all h = cc
not_numeral false all h = cc

-- a numeral of several digits does not begin with `0`
leading : (text : List ℕ) → is_numeral text ≡ true → get_or text 0 0 ≡ 48 → length text ≡ 1
leading [] h z = cc
leading (byte ∷ []) h z = refl
leading (byte ∷ next ∷ text) h z =
    let numeral = subst (λ (b : ℕ). is_numeral (b ∷ next ∷ text) ≡ true) z h in
    absurd (not_numeral (not (length (48 ∷ next ∷ text) == 0)) (list_all is_decimal_digit (48 ∷ next ∷ text)) numeral)

size_found : (text : List ℕ) (size : ℕ) → size_in text ≡ Some size → IsSizeText text size
size_found text size h = go (is_numeral text) (nat_lt (digits_value 10 text) (2 ^ 63)) refl refl h where
  go : (a b : Bool) → is_numeral text ≡ a → nat_lt (digits_value 10 text) (2 ^ 63) ≡ b →
      cond (a && b) (Some (digits_value 10 text)) None ≡ Some size → IsSizeText text size
  go true true numeral fits e =
      let same : digits_value 10 text ≡ size = cc in
      let below : digits_value 10 text < 2 ^ 63 = grind (arith, nat_tests) in
      let digits = numeral_digits text numeral in
      let written : decimal (digits_value 10 text) ≡ text =
      decimal-digits_value own text (AllDigits-from_list_all text digits.1) digits.0 (leading text numeral) (omega arith) in
      record { text_is = sym written ∙ ap decimal same; most = rw (← same) below; clean = clean_of is_decimal_digit refl text digits.1 }
  go true false numeral fits e = cc
  go false b numeral fits e = cc

list_all-digits : (text : List ℕ) → AllDigits 10 text → list_all is_decimal_digit text ≡ true
list_all-digits [] h = refl
list_all-digits (byte ∷ text) h =
    let range = digit_from_value byte h.0 in
    let digit : is_decimal_digit byte ≡ true = grind (arith, nat_tests, range.0, range.1) in
    rw (digit, list_all-digits text h.1) refl

or_true : (a : Bool) → (a || true) ≡ true
or_true true = refl
or_true false = refl

numeral_first : (text : List ℕ) → 0 < length text → 48 < get_or text 0 0 → AllDigits 10 text → is_numeral text ≡ true
numeral_first [] some first digits = absurd (omega arith)
numeral_first (byte ∷ text) some first digits =
    let other : nat_eq 48 byte ≡ false = grind (arith, nat_tests) in
    let filled : (length (byte ∷ text) == 0) ≡ false = grind (arith, nat_tests) in
    let all = list_all-digits (byte ∷ text) digits in
    rw (other, filled, all) (or_true (bytes_eq (byte ∷ text) (codes "0")))

decimal_numeral : (n : ℕ) → n < 2 ^ 64 → is_numeral (decimal n) ≡ true
decimal_numeral n lt = elim (cases_eq n 0) [
  | inl none ↦ rw (none, decimal_digit 0 (omega arith)) refl
  | inr some ↦ numeral_first (decimal n) (decimal_nonempty n lt) (first_decimal n (omega arith) lt) (digits_decimal own n lt)
]

size_read : (n : ℕ) → n < 2 ^ 63 → size_in (decimal n) ≡ Some n
size_read n lt =
    let wide : n < 2 ^ 64 = omega arith in
    let value = digits_value-decimal own n wide in
    let below : nat_lt n (2 ^ 63) ≡ true = grind (arith, nat_tests) in
    rw (decimal_numeral n wide, value, below) refl

-- two segments are the written form of a digest
pub record IsDigestText (hash size : List ℕ) (d : Digest) : Type 0 where
  pub hash_is : hash ≡ hash_text d
  pub size_is : size ≡ decimal d.size
  pub nameable : IsNameable d
  pub hash_clean : HasNoSlash hash
  pub size_clean : HasNoSlash size

pub same_digest : (hash size : List ℕ) (d : Digest) → IsDigestText hash size d → hash ++ 47 ∷ size ≡ digest_text d
same_digest hash size d w = rw (w.hash_is, w.size_is) refl

pub digest_found : (hash size : List ℕ) (d : Digest) → digest_of_segments hash size ≡ Ok d → IsDigestText hash size d
digest_found hash size d e = go (hash_in hash) (size_in size) refl refl e where
  go : (h : Option Hash) (n : Option ℕ) → hash_in hash ≡ h → size_in size ≡ n
      → (or_fault Fault.Hash h >>= λ bytes. or_fault Fault.Size n >>= λ count. Ok (record { hash = bytes; size = count })) ≡ Ok d →
      IsDigestText hash size d
  go (Some bytes) (Some count) h n same' =
      let same : d ≡ record { hash = bytes; size = count } = cc in
      let a = hash_found hash bytes h in
      let b = size_found size count n in
      rw same (record {
        hash_is = a.text_is;
        size_is = b.text_is;
        nameable = record { hash = a.hash; size = b.most };
        hash_clean = clean_of is_lower_hex_digit refl hash a.lower;
        size_clean = b.clean;
      })
  go (Some bytes) None h n same' = cc
  go None n' h n same' = cc

pub digest_read : (d : Digest) → IsNameable d → digest_of_segments (hash_text d) (decimal d.size) ≡ Ok d
digest_read d n = rw (hash_read d.hash n.hash, size_read d.size n.size) refl

pub written_digest : (d : Digest) → IsNameable d → IsDigestText (hash_text d) (decimal d.size) d
written_digest d n = digest_found (hash_text d) (decimal d.size) d (digest_read d n)
