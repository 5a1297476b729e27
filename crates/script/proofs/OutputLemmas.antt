-- The files of words.
use Rattle.std.proofs.Common.{◌≡◌, ◌≢◌, ℕ, ◌+◌, ◌<◌, ◌≤◌, ◌==◌, take, drop, lit<, true, List, [], ◌∷◌, ◌++◌, length, Option, Some, None, refl, sym, ap, ◌∙◌, arith, append_assoc}
use Rattle.std.proofs.lemmas.Bool.Decides.{nat_tests}
use Rattle.std.proofs.lemmas.List.Sums.{AllPass-from_list_all}
use Rattle.std.proofs.lemmas.Str.{IsUtf8-from_ascii, encode_ascii}
use Rattle.std.proofs.lemmas.Str.Ascii.{IsAscii-from_reads}
use Rattle.std.specs.Char.{is_ascii}
use Rattle.std.specs.List.{list_all}
use Rattle.std.specs.Prelude.{option_map, option_and_then}
use Rattle.std.specs.Str.{IsUtf8, NoCharPasses}
use Rattle.std.specs.Borrow.{Bor}
use Rattle.std.specs.Option.{MatchOption}
use Rattle.std.specs.Str.Pattern.{RFindsChar}
use Rattle.std.proofs.lemmas.List.{take-append-drop}
use Rattle.std.proofs.lemmas.List.Elements.{All-head, All-tail}
use Rattle.std.proofs.lemmas.Str.Pattern.{NoCharPasses-char}
use Rattle.std.proofs.lemmas.Grind.{get_or_default_zero}
use Rattle.script.proofs.SplitLemmas.{Lacks, other_byte, same_byte}
use Rattle.run_calls.specs.Outcomes.{OutputValue}
use Rattle.script.specs.ReplayEvents.{at_last, output_of, outputs_of}

ascii_byte : (byte : ℕ) → is_ascii byte ≡ true → byte < 128
ascii_byte byte h = grind (arith, nat_tests)

-- a word of ASCII is text
pub IsUtf8-ascii : (word : List ℕ) → list_all is_ascii word ≡ true → IsUtf8 word
IsUtf8-ascii word h =
    IsUtf8-from_ascii word (IsAscii-from_reads word (length word) (omega arith)
    (λ k lt. ascii_byte _ (AllPass-from_list_all is_ascii word h k 0 lt)))

-- ---- the last `=`

pub at_last-none : (separator : ℕ) (text : List ℕ) → Lacks separator text → at_last separator text ≡ None
at_last-none separator [] h = refl
at_last-none separator (byte ∷ text) h =
    rw (
      at_last-none separator text (All-tail (λ b. b ≢ separator) byte text h),
      other_byte separator byte
          (All-head (λ b. b ≢ separator) byte text h),
    ) refl

pub at_last-some : (separator : ℕ) (front back : List ℕ) → Lacks separator back →
    at_last separator (front ++ separator ∷ back) ≡ Some (front, back)
at_last-some separator [] back h = rw (at_last-none separator back h, same_byte separator) refl
at_last-some separator (byte ∷ front) back h = rw (at_last-some separator front back h) refl

lacks_equals : (text : List ℕ) → NoCharPasses (λ d. d == 61) text → Lacks 61 text
lacks_equals text h k d lt same =
    NoCharPasses-char 61 text k h (lit< tt) lt (sym (get_or_default_zero text k d lt) ∙ same)

-- what `rsplit_once` answers
pub split_at_last : (text : List ℕ) (r : Option (Bor (List ℕ) × Bor (List ℕ)))
    → MatchOption r (RFindsChar 61 text None) (λ x. (i : ℕ) × (j : ℕ) × RFindsChar 61 text (Some (i, j)) × (x.0.now ≡ take i text)
    × (x.1.now ≡ drop j text) × (i ≤ j) × (length x.0.now ≡ i) × (length x.1.now + j ≡ length text))
    → option_map (λ x. (x.0.now, x.1.now)) r ≡ at_last 61 text
split_at_last text None h = sym (at_last-none 61 text (lacks_equals text h))
split_at_last text (Some x) h =
    let whole : take h.0 text ++ 61 ∷ drop h.1 text ≡ text =
    ap (λ back. take h.0 text ++ back) (ap (λ c. c ++ drop h.1 text) (sym (encode_ascii 61 (lit< tt))) ∙ sym h.2.1.split)
    ∙ take-append-drop h.0 text in
    let found = at_last-some 61 (take h.0 text) (drop h.1 text) (lacks_equals (drop h.1 text) h.2.0) in
    rw (h.3, h.4) (sym found ∙ ap (at_last 61) whole)

-- ---- the files of some words, after others

abbrev pub outputs_after : List OutputValue → List (List ℕ) → Option (List OutputValue)
outputs_after outputs words = option_map (λ more. outputs ++ more) (outputs_of words)

one_more : (outputs : List OutputValue) (output : OutputValue) (r : Option (List OutputValue))
    → option_map (λ more. outputs ++ more) (option_map (λ more. output ∷ more) r) ≡ option_map (λ more. (outputs ++ output ∷ []) ++ more) r
one_more outputs output None = refl
one_more outputs output (Some more) = ap Some (sym (append_assoc outputs (output ∷ []) more))

pub outputs_after-some : (outputs : List OutputValue) (word : List ℕ) (words : List (List ℕ)) (output : OutputValue)
    → output_of word ≡ Some output → outputs_after outputs (word ∷ words) ≡ outputs_after (outputs ++ output ∷ []) words
outputs_after-some outputs word words output h =
    ap (λ r. option_map (λ more. outputs ++ more) (option_and_then (λ o. option_map (λ os. o ∷ os) (outputs_of words)) r)) h
    ∙ one_more outputs output (outputs_of words)
