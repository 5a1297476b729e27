-- The words after the first of a line.
use Rattle.std.specs.Prelude.{ℕ, ℤ, pos, neg_ℤ, ◌+◌, ◌^◌, ◌==◌, nat_lt, if◌then◌else◌, List, [], ◌∷◌, Option, Some, None, option_map, option_and_then}
use Rattle.std.specs.Char.{is_ascii}
use Rattle.std.specs.List.{list_all}
use Rattle.numerals.specs.Number.{decimal_of}

-- ---- numbers

-- the number below a limit that a word writes in decimal
abbrev pub decimal_below : ℕ → List ℕ → Option ℕ
decimal_below limit word =
    option_and_then (λ number. if nat_lt number limit then Some number else None) (decimal_of word)

-- connections, instances, slots and counts of bytes are numbers below this limit, of 32 bits
abbrev pub number_limit : ℕ
number_limit = 2 ^ 32

-- the number below it that a word writes in decimal
abbrev pub number_of : List ℕ → Option ℕ
number_of word = decimal_below number_limit word

-- exit codes are below this limit, and no less than its negative: numbers of 32 bits with a sign
abbrev pub exit_code_limit : ℕ
exit_code_limit = 2 ^ 31

-- the exit code that a word writes in decimal, perhaps with a minus (byte 45) before it
abbrev pub exit_code_of : List ℕ → Option ℤ
exit_code_of [] = None
exit_code_of (byte ∷ word) =
    if byte == 45
    then option_map (λ number. neg_ℤ (pos number)) (decimal_below (exit_code_limit + 1) word)
    else option_map pos (decimal_below exit_code_limit (byte ∷ word))

-- ---- so many words

abbrev pub one_of : List (List ℕ) → Option (List ℕ)
one_of (only ∷ []) = Some only
one_of _ = None

abbrev pub two_of : List (List ℕ) → Option (List ℕ × List ℕ)
two_of (first ∷ second ∷ []) = Some (first, second)
two_of _ = None

abbrev pub three_of : List (List ℕ) → Option (List ℕ × List ℕ × List ℕ)
three_of (first ∷ second ∷ third ∷ []) = Some (first, second, third)
three_of _ = None

abbrev pub three_or_four_of : List (List ℕ) → Option (List ℕ × List ℕ × List ℕ × Option (List ℕ))
three_or_four_of (first ∷ second ∷ third ∷ []) = Some (first, second, third, None)
three_or_four_of (first ∷ second ∷ third ∷ fourth ∷ []) = Some (first, second, third, Some fourth)
three_or_four_of _ = None

-- the number of the only word
abbrev pub only_number_of : List (List ℕ) → Option ℕ
only_number_of words = option_and_then number_of (one_of words)

-- ---- words of ASCII

abbrev pub ascii_of : List ℕ → Option (List ℕ)
ascii_of word = if list_all is_ascii word then Some word else None
