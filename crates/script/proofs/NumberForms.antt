-- Numbers, exit codes and files have their forms exactly.
use Rattle.std.proofs.Common.{◌≡◌, ℕ, ℤ, pos, neg_ℤ, ◌+◌, ◌^◌, ◌<◌, ◌==◌, Bool, true, false, inl, inr, cond, List, [], ◌∷◌, Some, None, refl, sym, ap, ◌∙◌, arith}
use Rattle.std.proofs.lemmas.Bool.{and_parts}
use Rattle.std.proofs.lemmas.Bool.Decides.{nat_tests}
use Rattle.std.specs.List.{list_all}
use Rattle.std.specs.Prelude.{nat_lt, option_map, option_and_then}
use Rattle.numerals.specs.Number.{decimal_of, is_decimal_digit}
use Rattle.numerals.proofs.NumberLemmas.{digits-decimal_of}
use Rattle.script.specs.Arguments.{decimal_below, exit_code_of}
use Rattle.script.specs.ReplayLines.{IsNumber, IsExitCode}
use Rattle.script.proofs.Somes.{mapped, chained, chosen}

pub IsNumber-decimal_below : (limit : ℕ) (word : List ℕ) (number : ℕ) → decimal_below limit word ≡ Some number → IsNumber limit word number
IsNumber-decimal_below limit word number h =
    let read = chained (λ n. cond (nat_lt n limit) (Some n) None) (decimal_of word) number h in
    let found = chosen (nat_lt read.0 limit) read.0 number read.2 in
    let fits = found.0 in
    let less : read.0 < limit = grind (arith, nat_tests) in
    record { decimal = read.1 ∙ ap Some found.1; small = rw (← found.1) less }

pub decimal_below-IsNumber : (limit : ℕ) (word : List ℕ) (number : ℕ) → IsNumber limit word number → decimal_below limit word ≡ Some number
decimal_below-IsNumber limit word number h =
    let less = h.small in
    let fits : nat_lt number limit ≡ true = grind (arith, nat_tests) in
    ap (option_and_then (λ n. cond (nat_lt n limit) (Some n) None)) h.decimal ∙ ap (λ b. cond b (Some number) None) fits

pub IsExitCode-from_Some : (word : List ℕ) (code : ℤ) → exit_code_of word ≡ Some code → IsExitCode word code
IsExitCode-from_Some [] code h = cc
IsExitCode-from_Some (byte ∷ word) code h = go (byte == 45) refl h
  where
    go : (minus : Bool) → (byte == 45) ≡ minus
        → cond minus (option_map (λ number. neg_ℤ (pos number)) (decimal_below (2 ^ 31 + 1) word))
        (option_map pos (decimal_below (2 ^ 31) (byte ∷ word))) ≡ Some code
        → IsExitCode (byte ∷ word) code
    go true e h =
        let read = mapped (λ number. neg_ℤ (pos number)) (decimal_below (2 ^ 31 + 1) word) code h in
        let minus : byte ≡ 45 = grind (arith, nat_tests) in
        inr (word, read.0, ap (λ b. b ∷ word) minus, IsNumber-decimal_below (2 ^ 31 + 1) word read.0 read.1, sym read.2)
    go false e h =
        let read = mapped pos (decimal_below (2 ^ 31) (byte ∷ word)) code h in
        inl (read.0, IsNumber-decimal_below (2 ^ 31) (byte ∷ word) read.0 read.1, sym read.2)

no_minus : (byte : ℕ) → is_decimal_digit byte ≡ true → (byte == 45) ≡ false
no_minus byte h = grind (arith, nat_tests)

pub Some-from_IsExitCode : (word : List ℕ) (code : ℤ) → IsExitCode word code → exit_code_of word ≡ Some code
Some-from_IsExitCode [] code (inl h) = let none : None ≡ Some h.0 = h.1.decimal in cc
Some-from_IsExitCode (byte ∷ word) code (inl h) =
    let digits = digits-decimal_of (byte ∷ word) h.0 h.1.decimal in
    let digit = no_minus byte (and_parts (is_decimal_digit byte) (list_all is_decimal_digit word) digits).0 in
    ap (λ b. cond b (option_map (λ number. neg_ℤ (pos number)) (decimal_below (2 ^ 31 + 1) word))
    (option_map pos (decimal_below (2 ^ 31) (byte ∷ word)))) digit
    ∙ ap (option_map pos) (decimal_below-IsNumber (2 ^ 31) (byte ∷ word) h.0 h.1) ∙ ap Some (sym h.2)
Some-from_IsExitCode word code (inr h) =
    ap exit_code_of h.2 ∙ ap (option_map (λ number. neg_ℤ (pos number))) (decimal_below-IsNumber (2 ^ 31 + 1) h.0 h.1 h.3)
    ∙ ap Some (sym h.4)
