-- The test of an instance name, as a fact.
use Rattle.std.proofs.Common.{◌≡◌, ℕ, ◌<◌, ◌==◌, Bool, true, false, not, ◌&&◌, List, length, IsTrue, refl, sym, ap, ◌∙◌, arith}
use Rattle.std.specs.Prelude.{◌↔◌, nat_le}
use Rattle.std.proofs.lemmas.Bool.Decides.{nat_tests}
use Rattle.std.proofs.lemmas.List.Sums.{AllPass-from_list_all, list_all-from_AllPass}
use Rattle.std.proofs.lemmas.Cmp.{nat_list_eq_equiv}
use Rattle.std.proofs.lemmas.Map.Views.{list_any-from_Contains, Contains-from_any}
use Rattle.std.proofs.lemmas.Slice.Eq.{bytes_eq-Decides}
use Rattle.std.proofs.lemmas.Str.{IsUtf8-from_ascii}
use Rattle.std.proofs.lemmas.Str.Ascii.{IsAscii-from_reads}
use Rattle.std.specs.List.{list_all, list_any}
use Rattle.std.specs.Str.{bytes_eq, IsUtf8}
use Rattle.server_events.specs.Instance.{IsInstanceName, is_instance_name, is_instance_name_byte, resource_words}

same_bytes : (xs ys : List ℕ) → bytes_eq xs ys ≡ true → xs ≡ ys
same_bytes xs ys h = (bytes_eq-Decides xs ys).0 h

four_parts : (a b c d : Bool) → (((a && b) && c) && d) ≡ true → (a ≡ true) × (b ≡ true) × (c ≡ true) × (d ≡ true)
four_parts true true true true h = (refl, refl, refl, refl)
four_parts true true true false h = cc
four_parts true true false d h = cc
four_parts true false c d h = cc
four_parts false b c d h = cc

not_true : (b : Bool) → not b ≡ true → b ≡ true → ⊥
not_true true h k = cc
not_true false h k = cc

absent : (b : Bool) → (b ≡ true → ⊥) → not b ≡ true
absent true h = absurd (h refl)
absent false h = refl

pub IsInstanceName-from_test : (name : List ℕ) → is_instance_name name ≡ true → IsInstanceName name
IsInstanceName-from_test name h =
    let parts = four_parts (not (length name == 0)) (nat_le (length name) 64) (list_all is_instance_name_byte name)
    (not (list_any (bytes_eq name) resource_words)) h in
    let some = parts.0 in
    let few = parts.1 in
    record {
      not_empty = grind (arith, nat_tests);
      short = grind (arith, nat_tests);
      plain = AllPass-from_list_all is_instance_name_byte name parts.2;
      no_resource_word = λ among. not_true _ parts.3 (list_any-from_Contains nat_list_eq_equiv name resource_words among);
    }

pub is_instance_name-true : (name : List ℕ) → IsInstanceName name → is_instance_name name ≡ true
is_instance_name-true name h =
    let some : not (length name == 0) ≡ true = grind (arith, nat_tests) in
    let few : nat_le (length name) 64 ≡ true = grind (arith, nat_tests) in
    let plain = list_all-from_AllPass is_instance_name_byte name h.plain in
    let free = absent (list_any (bytes_eq name) resource_words)
    (λ k. h.no_resource_word (Contains-from_any same_bytes name resource_words k)) in
    ap (λ b. ((b && nat_le (length name) 64) && list_all is_instance_name_byte name) && not (list_any (bytes_eq name) resource_words)) some
    ∙ ap (λ b. (b && list_all is_instance_name_byte name) && not (list_any (bytes_eq name) resource_words)) few
    ∙ ap (λ b. b && not (list_any (bytes_eq name) resource_words)) plain ∙ free

pub exact_test : (name : List ℕ) (test : Bool) → test ≡ is_instance_name name → IsTrue test ↔ IsInstanceName name
exact_test name true e = (λ _. IsInstanceName-from_test name (sym e), λ _. refl)
exact_test name false e = (λ t. cc, λ h. e ∙ is_instance_name-true name h)

ascii_name_byte : (byte : ℕ) → is_instance_name_byte byte ≡ true → byte < 128
ascii_name_byte byte h = grind (arith, nat_tests)

-- a name is text
pub IsUtf8-instance_name : (name : List ℕ) → IsInstanceName name → IsUtf8 name
IsUtf8-instance_name name h =
    IsUtf8-from_ascii name (IsAscii-from_reads name (length name) (omega arith) (λ k lt. ascii_name_byte _ (h.plain k 0 lt)))
