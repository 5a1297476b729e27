-- The message of a range is written as a record of field 10.
use Rattle.std.proofs.Common.{◌≡◌, ℕ, zero, suc, ◌/◌, ◌<◌, ◌≤◌, List, [], ◌∷◌, ◌++◌, length, refl, ap, ◌∙◌, sym, arith, inl, inr}
use Rattle.std.specs.Prelude.{true, false, nat_lt, ◌==◌}
use Rattle.std.proofs.lemmas.Bool.{cases_Bool, ltb-true, ltb-false}
use Rattle.std.proofs.lemmas.Bool.Decides.{nat_tests}
use Rattle.protobuf_wire.specs.Writing.{groups_in, varint, records_text, bytes_field}
use Rattle.grpc_sending.specs.Pieces.{length_text, read_message}
use Rattle.grpc_sending.proofs.Histories.{append-nil}

groups_three : (k n : ℕ) → n < 2097152 → groups_in (suc (suc (suc k))) n ≡ length_text n
unfolding groups_in
groups_three k n small = elim (cases_Bool (nat_lt n 128)) [
  | inl one ↦ rw one refl
  | inr more ↦
      let past = ltb-false n 128 more in
      elim (cases_Bool (nat_lt (n / 128) 128)) [
        | inl two ↦
            let less : n / 128 < 128 = ltb-true (n / 128) 128 two in
            let few : n < 16384 = omega (arith, less) in
            let test : nat_lt n 16384 ≡ true = grind (arith, nat_tests) in
            rw (more, two, test) refl
        | inr three ↦
            let many = ltb-false (n / 128) 128 three in
            let past' : 16384 ≤ n = omega (arith, many) in
            let test : nat_lt n 16384 ≡ false = grind (arith, nat_tests) in
            let last : n / 128 / 128 < 128 = omega (arith, small) in
            let end : nat_lt (n / 128 / 128) 128 ≡ true = grind (arith, nat_tests) in
            let same : n / 128 / 128 ≡ n / 16384 = omega arith in
            rw (more, three, test, end, same) refl
      ]
]

varint_is : (n : ℕ) → n < 2097152 → varint n ≡ length_text n
unfolding varint groups_in
varint_is zero small = refl
varint_is (suc zero) small = refl
varint_is (suc (suc zero)) small = refl
varint_is (suc (suc (suc k))) small = groups_three k (suc (suc (suc k))) small

tag_is : varint 82 ≡ 82 ∷ []
unfolding varint groups_in
tag_is = refl

pub read_is : (bytes : List ℕ) → 0 < length bytes → length bytes < 2097152 → read_message bytes ≡ records_text (bytes_field 10 bytes)
read_is bytes some small =
    let full : (length bytes == 0) ≡ false = grind (arith, nat_tests) in
    sym (rw full (append-nil (varint 82 ++ (varint (length bytes) ++ bytes)))
    ∙ ap (λ (t : List ℕ). t ++ (varint (length bytes) ++ bytes)) tag_is
    ∙ ap (λ (t : List ℕ). 82 ∷ (t ++ bytes)) (varint_is (length bytes) small))
