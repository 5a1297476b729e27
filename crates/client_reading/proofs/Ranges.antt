-- The messages of a range bring its bytes.
use Rattle.std.proofs.Common.{◌≡◌, ◌<◌, ◌≤◌, ◌-◌, ℕ, zero, suc, List, [], ◌∷◌, ◌++◌, length, refl, ap, ◌∙◌, arith, take, drop, length-take, inl, inr}
use Rattle.std.specs.Prelude.{nat_lt}
use Rattle.std.proofs.lemmas.Bool.{cases_Bool}
use Rattle.std.proofs.lemmas.Bool.Decides.{nat_tests}
use Rattle.std.proofs.lemmas.List.{length-drop, take-append-drop}
use Rattle.grpc_sending.specs.Pieces.{read_message}
use Rattle.grpc_sending.proofs.Histories.{append-nil}
use Rattle.client_reading.specs.Responses.{messages_cut}
use Rattle.client_reading.specs.Ranges.{BringBytes}

cut_brings : (n k : ℕ) (bytes : List ℕ) → 0 < n → 0 < length bytes → length bytes ≤ k → BringBytes n bytes (messages_cut n k bytes)
cut_brings n zero bytes room some few = absurd (omega (arith, some, few))
cut_brings n (suc k) bytes room some few = elim (cases_Bool (nat_lt n (length bytes))) [
  | inl more ↦
      let long : n < length bytes = grind (arith, nat_tests) in
      let left : length (drop n bytes) ≡ length bytes - n = length-drop n bytes in
      let front = length-take n bytes in
      let rest = cut_brings n k (drop n bytes) room (omega (arith, left, long)) (omega (arith, left, few, room)) in
      rw more (record {
        parts = take n bytes ∷ rest.parts;
        data_of_each = ap (λ (ms : List (List ℕ)). read_message (take n bytes) ∷ ms) rest.data_of_each;
        all_data = ap (λ (later : List ℕ). take n bytes ++ later) rest.all_data ∙ take-append-drop n bytes;
        sizes = ((omega (arith, front, room, some), omega (arith, front)), rest.sizes);
      })
  | inr last ↦
      let short : length bytes ≤ n = grind (arith, nat_tests) in
      rw last (record { parts = bytes ∷ []; data_of_each = refl; all_data = append-nil bytes; sizes = ((some, short), tt) })
]

pub brings : (n : ℕ) (bytes : List ℕ) → 0 < n → BringBytes n bytes (messages_cut n (length bytes) bytes)
brings n [] room = record { parts = []; data_of_each = refl; all_data = refl; sizes = tt }
brings n (b ∷ bs) room = cut_brings n (length (b ∷ bs)) (b ∷ bs) room (omega arith) (omega arith)
