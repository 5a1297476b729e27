-- A word is a file exactly where it has its form.
use Rattle.std.proofs.Common.{◌≡◌, ◌==◌, ◌≤◌, ℕ, Bool, true, false, cond, List, [], ◌∷◌, ◌++◌, length, Option, Some, None, refl, sym, ap, ◌∙◌, arith, codes}
use Rattle.std.proofs.lemmas.Bool.Decides.{nat_tests}
use Rattle.std.proofs.lemmas.List.Sums.{AllPass-from_list_all, list_all-from_AllPass}
use Rattle.std.specs.Char.{is_ascii}
use Rattle.std.specs.List.{list_all}
use Rattle.std.specs.Option.{option_or}
use Rattle.std.specs.Prelude.{nat_le, option_map, option_and_then}
use Rattle.script.specs.Hexadecimal.{IsBytes, bytes_of_hex, hex_word, is_lower_hex_digit}
use Rattle.script.proofs.HexadecimalLemmas.{IsBytes-bytes_of_hex, bytes_of_hex-hex_word, hex_word-bytes_of_hex, list_all-encode_lower}
use Rattle.script.proofs.SplitLemmas.{Lacks, Lacks-passing}
use Rattle.run_calls.specs.Outcomes.{OutputValue}
use Rattle.script.specs.ReplayEvents.{at_last, content_if_short, content_limit, content_of, output_of, outputs_of, path_and_content_of, plain_file}
use Rattle.script.specs.ReplayLines.{AreFiles, IsContent, IsFile}
use Rattle.script.proofs.OutputLemmas.{at_last-some}
use Rattle.script.proofs.Somes.{mapped, chained, chosen, if_some}

-- ---- the last `=`

-- what stands before and after it gives the text back
at_last-split : (separator : ℕ) (text : List ℕ) (split : List ℕ × List ℕ) → at_last separator text ≡ Some split →
    text ≡ split.0 ++ separator ∷ split.1
at_last-split separator [] split h = cc
at_last-split separator (byte ∷ text) split h =
    go (λ inner e. at_last-split separator text inner e) (at_last separator text) refl (byte == separator) refl h
  where
    go : ((inner : List ℕ × List ℕ) → at_last separator text ≡ Some inner → text ≡ inner.0 ++ separator ∷ inner.1)
        → (r : Option (List ℕ × List ℕ)) → at_last separator text ≡ r → (here : Bool) → (byte == separator) ≡ here
        → option_or (option_map (λ inner. (byte ∷ inner.0, inner.1)) r) (cond here (Some ([], text)) None) ≡ Some split
        → byte ∷ text ≡ split.0 ++ separator ∷ split.1
    go later (Some inner) e here t h =
        let whole : List ℕ × List ℕ = (byte ∷ inner.0, inner.1) in
        let same : whole ≡ split = cc in
        rw (← same) (ap (λ rest. byte ∷ rest) (later inner e))
    go later None e true t h =
        let whole : List ℕ × List ℕ = ([], text) in
        let same : whole ≡ split = cc in
        let this : byte ≡ separator = grind (arith, nat_tests) in
        rw (← same) (ap (λ b. b ∷ text) this)
    go later None e false t h = cc

-- ---- texts

-- a word that is read as a text writes it
pub IsContent-from_Some : (word text : List ℕ) → content_of word ≡ Some text
    → (word ≡ hex_word text) × IsContent text
IsContent-from_Some word text h =
    let read = chained content_if_short (bytes_of_hex word) text h in
    let found = chosen (nat_le (length read.0) content_limit) read.0 text read.2 in
    let fits = found.0 in
    let short : length read.0 ≤ content_limit = grind (arith, nat_tests) in
    let same = hex_word-bytes_of_hex word read.0 read.1 in
    let bytes = IsBytes-bytes_of_hex word read.0 read.1 in
    rw (← found.1) (same, record { bytes = bytes; short = short })

pub Some-from_IsContent : (text : List ℕ) → IsContent text → content_of (hex_word text) ≡ Some text
Some-from_IsContent text h =
    let most = h.short in
    let fits : nat_le (length text) content_limit ≡ true = grind (arith, nat_tests) in
    ap (option_and_then content_if_short) (bytes_of_hex-hex_word text h.bytes)
    ∙ ap (λ b. cond b (Some text) None) fits

-- ---- one file

pub IsFile-from_Some : (word : List ℕ) (output : OutputValue) → output_of word ≡ Some output → IsFile word output
IsFile-from_Some word output h =
    let parted = chained (λ split. option_map (plain_file split.0) (content_of split.1)) (path_and_content_of word) output h in
    let read = mapped (plain_file parted.0.0) (content_of parted.0.1) output parted.2 in
    let ascii = if_some (list_all is_ascii word) (at_last 61 word) parted.0 parted.1 in
    let spelled = IsContent-from_Some parted.0.1 read.0 read.1 in
    record {
      path = parted.0.0;
      content = read.0;
      form = at_last-split 61 word parted.0 ascii.1
          ∙ ap (λ digits. parted.0.0 ++ 61 ∷ digits) spelled.0;
      ascii = AllPass-from_list_all is_ascii word ascii.0;
      text = spelled.1;
      file = sym read.2;
    }

Lacks_equals-hex_word : (bytes : List ℕ) → IsBytes bytes → Lacks 61 (hex_word bytes)
Lacks_equals-hex_word [] h = Lacks-passing (λ byte. byte == 45) 61 refl (codes "-") refl
Lacks_equals-hex_word (byte ∷ bytes) h =
    Lacks-passing is_lower_hex_digit 61 refl _ (list_all-encode_lower (byte ∷ bytes) h)

pub Some-from_IsFile : (word : List ℕ) (output : OutputValue) → IsFile word output → output_of word ≡ Some output
Some-from_IsFile word output h =
    let split : at_last 61 word ≡ Some (h.path, hex_word h.content) =
    ap (at_last 61) h.form
    ∙ at_last-some 61 h.path (hex_word h.content) (Lacks_equals-hex_word h.content h.text.bytes) in
    let file : List ℕ × List ℕ → Option OutputValue =
    λ s. option_map (plain_file s.0) (content_of s.1) in
    let ascii = list_all-from_AllPass is_ascii word h.ascii in
    ap (λ b. option_and_then file (cond b (at_last 61 word) None)) ascii
    ∙ ap (option_and_then file) split
    ∙ ap (option_map (plain_file h.path)) (Some-from_IsContent h.content h.text)
    ∙ ap Some (sym h.file)

-- ---- several

pub AreFiles-from_Some : (words : List (List ℕ)) (outputs : List OutputValue) → outputs_of words ≡ Some outputs → AreFiles words outputs
AreFiles-from_Some [] [] h = tt
AreFiles-from_Some [] (output ∷ outputs) h = cc
AreFiles-from_Some (word ∷ words) outputs h =
    let first = chained (λ o. option_map (λ os. o ∷ os) (outputs_of words)) (output_of word) outputs h in
    let rest = mapped (λ os. first.0 ∷ os) (outputs_of words) outputs first.2 in
    rw (← rest.2) (IsFile-from_Some word first.0 first.1, AreFiles-from_Some words rest.0 rest.1)

pub Some-from_AreFiles : (words : List (List ℕ)) (outputs : List OutputValue) → AreFiles words outputs → outputs_of words ≡ Some outputs
Some-from_AreFiles [] [] h = refl
Some-from_AreFiles [] (output ∷ outputs) h = absurd h
Some-from_AreFiles (word ∷ words) [] h = absurd h
Some-from_AreFiles (word ∷ words) (output ∷ outputs) h =
    ap (option_and_then (λ o. option_map (λ os. o ∷ os) (outputs_of words))) (Some-from_IsFile word output h.0)
    ∙ ap (option_map (λ os. output ∷ os)) (Some-from_AreFiles words outputs h.1)
