-- Parts and the separators between them.
use Rattle.std.proofs.Common.{◌≡◌, ◌≢◌, ℕ, ◌==◌, Bool, true, false, List, [], ◌∷◌, sym, ap, ◌∙◌, inl, inr, arith}
use Rattle.std.proofs.lemmas.Bool.{cases_Bool}
use Rattle.std.proofs.lemmas.Bool.Decides.{nat_tests}
use Rattle.std.proofs.lemmas.List.Elements.{All-nil, All-cons, All-head, All-tail}
use Rattle.std.proofs.lemmas.List.Splits.{slice_split_none, slice_split_at, slice_split-cons_yes, slice_split-cons_no}
use Rattle.std.proofs.lemmas.List.Sums.{AllPass-from_list_all}
use Rattle.std.specs.List.{All, join_with_byte, list_all, onto_first}
use Rattle.script.specs.Parts.{parts_of}

-- the separator is not in the part
abbrev pub Lacks : ℕ → List ℕ → Type 0
Lacks separator part = All (λ byte. byte ≢ separator) part

pub other_byte : (separator byte : ℕ) → byte ≢ separator → (byte == separator) ≡ false
other_byte separator byte h = grind (arith, nat_tests)

no_test : (separator : ℕ) (part : List ℕ) → Lacks separator part → All (λ byte. (byte == separator) ≡ false) part
no_test separator part h = λ k d lt. other_byte separator _ (h k d lt)

pub same_byte : (separator : ℕ) → (separator == separator) ≡ true
same_byte separator = grind (arith, nat_tests)

-- parts without the separator are the parts of the text in which it stands between them
pub parts_of-join : (separator : ℕ) (part : List ℕ) (parts : List (List ℕ)) → All (Lacks separator) (part ∷ parts)
    → parts_of separator (join_with_byte separator (part ∷ parts)) ≡ part ∷ parts
parts_of-join separator part [] h =
    slice_split_none (λ byte. byte == separator) part (no_test separator part (All-head (Lacks separator) part [] h))
parts_of-join separator part (next ∷ parts) h =
    slice_split_at (λ byte. byte == separator) part separator (join_with_byte separator (next ∷ parts))
    (no_test separator part (All-head (Lacks separator) part (next ∷ parts) h)) (same_byte separator)
    ∙ ap (λ rest. part ∷ rest) (parts_of-join separator next parts (All-tail (Lacks separator) part (next ∷ parts) h))

-- the first part with a byte before it
Lacks-onto_first : (separator byte : ℕ) (parts : List (List ℕ)) → byte ≢ separator → All (Lacks separator) parts
    → All (Lacks separator) (onto_first byte parts)
Lacks-onto_first separator byte [] h k =
    All-cons (Lacks separator) (byte ∷ []) [] (All-cons (λ b. b ≢ separator) byte [] h (All-nil _)) (All-nil _)
Lacks-onto_first separator byte (part ∷ parts) h k =
    All-cons (Lacks separator) (byte ∷ part) parts
    (All-cons (λ b. b ≢ separator) byte part h (All-head (Lacks separator) part parts k)) (All-tail (Lacks separator) part parts k)

-- no part has the separator in it
pub Lacks-parts_of : (separator : ℕ) (text : List ℕ) → All (Lacks separator) (parts_of separator text)
Lacks-parts_of separator [] = All-cons (Lacks separator) [] [] (All-nil _) (All-nil _)
Lacks-parts_of separator (byte ∷ text) =
    elim (cases_Bool (byte == separator)) [
      | inl same ↦ rw (slice_split-cons_yes (λ b. b == separator) byte text same)
          (All-cons (Lacks separator) [] _ (All-nil _) (Lacks-parts_of separator text))
      | inr other ↦
          let differs : byte ≢ separator = grind (arith, nat_tests) in
          rw (slice_split-cons_no (λ b. b == separator) byte text other)
          (Lacks-onto_first separator byte _ differs (Lacks-parts_of separator text))
    ]

-- where each byte passes a test that the separator fails
pub Lacks-passing : (test : ℕ → Bool) (separator : ℕ) → test separator ≡ false → (part : List ℕ) → list_all test part ≡ true →
    Lacks separator part
Lacks-passing test separator fails part passes k d lt same =
    let here = AllPass-from_list_all test part passes k d lt in
    let clash : true ≡ false = sym here ∙ ap test same ∙ fails in
    cc
