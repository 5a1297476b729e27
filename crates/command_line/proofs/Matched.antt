-- What is read from the matches of a command line.
use Rattle.std.proofs.Common.{◌≡◌, ◌∙◌, ◌^◌, ◌<◌, ◌==◌, ◌&&◌, not, arith, ap, sym, refl, ℕ, Bool, List, [], ◌∷◌, length, true, false, Option, Some, None, Result, Ok, Err}
use Rattle.std.specs.Prelude.{nat_lt, option_and_then}
use Rattle.std.specs.Char.{digit_value}
use Rattle.std.specs.List.{list_all}
use Rattle.std.specs.Result.{result_ok}
use Rattle.std.specs.Str.Parse.{AllDigits, ParsesUnsigned, without_leading_plus}
use Rattle.std.proofs.lemmas.Bool.{lt-ltb, ltb-true}
use Rattle.std.proofs.lemmas.Bool.Decides.{nat_tests}
use Rattle.numerals.specs.Number.{decimal_value, is_decimal, is_decimal_digit}
use Rattle.numerals.proofs.NumberLemmas.{AllDigits-from_list_all}
use Rattle.clap.specs.Words.{App, Text, is_simple, one_text, rows_of, subcommand_of, subcommand_rows_of, HasMatchesOf}
use Rattle.clap.specs.Matches.{ReadsOne}
use Rattle.clap.proofs.WalkLemmas.{both, one_text-rows}
use Rattle.clap.specs.declared.parser.matches.ArgMatches.{ArgMatches}
use Rattle.clap.specs.declared.parser.matches.Found.{Found}
use Rattle.command_line.specs.CommandLine.{command_line, number_below, number_of, invocation_of}
use Rattle.command_line.specs.Shown.{invocation_asked}

digit_passes : (digit : ℕ) → digit_value digit < 10 → is_decimal_digit digit ≡ true
digit_passes digit below = grind (arith, nat_tests)

digits_pass : (digits : List ℕ) → AllDigits 10 digits → list_all is_decimal_digit digits ≡ true
digits_pass [] all = refl
digits_pass (digit ∷ digits) all = rw (digit_passes digit all.0) (digits_pass digits all.1)

some_pass : (digits : List ℕ) → 0 < length digits → not (length digits == 0) ≡ true
some_pass digits some = grind (arith, nat_tests)

some_from : (digits : List ℕ) → not (length digits == 0) ≡ true → 0 < length digits
some_from digits pass = grind (arith, nat_tests)

-- what is parsed is the number that the text writes
number_parsed : {E : Type 0} (bits : ℕ) (text : List ℕ) (r : Result ℕ E) → ParsesUnsigned bits 10 text r →
    result_ok r ≡ number_below (2 ^ bits) text
number_parsed bits text (Ok n) parsed =
    let digits = without_leading_plus text in
    rw (some_pass digits parsed.0.0.0, digits_pass digits parsed.0.0.1, lt-ltb (decimal_value digits) (2 ^ bits) parsed.0.1)
    (ap (λ (x : ℕ). Some x) parsed.1)
number_parsed bits text (Err e) parsed = go (is_decimal (without_leading_plus text)
    && nat_lt (decimal_value (without_leading_plus text)) (2 ^ bits)) refl
  where
    go : (b : Bool) → (is_decimal (without_leading_plus text) && nat_lt (decimal_value (without_leading_plus text)) (2 ^ bits)) ≡ b →
        None ≡ number_below (2 ^ bits) text
    go false test = rw test refl
    go true test =
        let outer = both _ _ test in
        let inner = both _ _ outer.0 in
        absurd (parsed ((some_from _ inner.0, AllDigits-from_list_all (without_leading_plus text) inner.1), ltb-true _ _ outer.1))

-- what `get_one` gives is the number of the text that it reads
pub number_given : (E : Type 0) (G : List ℕ → Result ℕ E → Type 0) (f : Found) (name : Text) (r : Option ℕ)
    → ((u : List ℕ) (x : Result ℕ E) → G u x → ParsesUnsigned 64 10 u x)
    → (one_text f name ≡ None → r ≡ None) → ((t : List ℕ) → one_text f name ≡ Some t → ReadsOne G t r)
    → r ≡ number_of name (rows_of f)
number_given E G f name r only none value = go (one_text f name) refl ∙ ap (option_and_then (number_below (2 ^ 64))) (one_text-rows f name)
  where
    read : (r : Option ℕ) (t : List ℕ) → ReadsOne G t r → r ≡ number_below (2 ^ 64) t
    read (Some n) t gave = number_parsed {E = E} 64 t (Ok n) (only t (Ok n) gave)
    read None t gave = number_parsed {E = E} 64 t (Err gave.0) (only t (Err gave.0) gave.1)

    go : (o : Option Text) → one_text f name ≡ o → r ≡ option_and_then (number_below (2 ^ 64)) (one_text f name)
    go None is = none is ∙ ap (option_and_then (number_below (2 ^ 64))) (sym is)
    go (Some t) is = read r t (value t is) ∙ ap (option_and_then (number_below (2 ^ 64))) (sym is)

is_simple_command : is_simple command_line ≡ true
is_simple_command = refl

-- what the words ask for is what their matches do
pub asked_is : (app : App) (words : List Text) (m : ArgMatches) → app ≡ command_line → HasMatchesOf app words m
    → invocation_asked words ≡ invocation_of (subcommand_rows_of m)
asked_is app words m is has =
    sym (ap invocation_of ((has (ap is_simple is ∙ is_simple_command)).1 ∙ ap (λ (a : App). subcommand_of a words) is))
