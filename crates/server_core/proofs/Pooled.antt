-- The pool's counts are those of the texts that instances hold.
use Rattle.std.proofs.Common.{◌≡◌, ◌≢◌, ℕ, ◌+◌, ◌<◌, ◌==◌, Bool, true, false, cond, List, [], ◌∷◌, map, refl, sym, ap, ◌∙◌, arith, inl, inr}
use Rattle.std.specs.Prelude.{None}
use Rattle.std.specs.Str.{bytes_eq}
use Rattle.std.proofs.lemmas.Bool.Decides.{nat_tests}
use Rattle.std.proofs.lemmas.Slice.Eq.{bytes_eq-Decides}
use Rattle.blob_pool.specs.Slots.{Slots, held_text_at, text_at, count_at, IsShared}
use Rattle.blob_pool.specs.Moves.{one_at}
use Rattle.served_instance.specs.Sources.{count_of}
use Rattle.served_instance.specs.Slots.{ServedSlots}
use Rattle.server_core.specs.Shared.{all_in, IsServer}
use Rattle.server_core.specs.Stored.{texts_of_all, IsAmong}
use Rattle.server_core.specs.Pooled.{times_in, IsPoolOf}
use Rattle.server_core.proofs.Slots.{slots_of_all, holders_are, texts_are}
use Rattle.server_core.proofs.Storing.{IsHeldAt, all_slot}

-- ---- a slot's holders are those of its text

abbrev number : Bool → ℕ
number b = cond b 1 0

one_same : (p : Slots) (e k : ℕ) → IsShared p → 0 < count_at p e → 0 < count_at p k →
    one_at e k ≡ number (bytes_eq (text_at p e) (text_at p k))
one_same p e k shared here there = go (k == e) (bytes_eq (text_at p e) (text_at p k)) refl refl where
  go : (n t : Bool) → (k == e) ≡ n → bytes_eq (text_at p e) (text_at p k) ≡ t → number n ≡ number t
  go true true slot text = refl
  go true false slot text =
      let same : e ≡ k = grind (arith, nat_tests) in
      let equal : bytes_eq (text_at p e) (text_at p k) ≡ true = (bytes_eq-Decides (text_at p e) (text_at p k)).1 (ap (text_at p) same) in
      cc
  go false true slot text =
      let same : e ≡ k = shared.once e k here there ((bytes_eq-Decides (text_at p e) (text_at p k)).0 text) in
      let equal : (k == e) ≡ true = grind (arith, nat_tests) in
      cc
  go false false slot text = refl

one_own : (k : ℕ) → one_at k k ≡ 1
one_own k = grind (arith, nat_tests)

-- each of these slots has holders
abbrev AreThere : Slots → List ℕ → Type 0
AreThere p ns = (j : ℕ) → 0 < count_of j ns → 0 < count_at p j

slots_same : (p : Slots) (ns : List ℕ) (k : ℕ) → IsShared p → AreThere p ns → 0 < count_at p k →
    count_of k ns ≡ times_in (text_at p k) (map (text_at p) ns)
slots_same p [] k shared there held = refl
slots_same p (n ∷ ns) k shared there held =
    let own : 0 < count_of n (n ∷ ns) = let one = one_own n in omega (arith, one) in
    let first = one_same p n k shared (there n own) held in
    let later = slots_same p ns k shared (λ j some. there j (omega (arith, some))) held in
    ap (λ (m : ℕ). m + count_of k ns) first ∙ ap (λ (m : ℕ). number (bytes_eq (text_at p n) (text_at p k)) + m) later

-- ---- a text that is held is among those of the instances

in_texts : (t : List ℕ) (xs : List (List ℕ)) → 0 < times_in t xs → IsAmong t xs
in_texts t [] some = absurd (omega arith)
in_texts t (x ∷ xs) some = go (bytes_eq x t) refl (in_texts t xs) where
  go : (e : Bool) → bytes_eq x t ≡ e → (0 < times_in t xs → IsAmong t xs) → IsAmong t (x ∷ xs)
  go true is later = inl ((bytes_eq-Decides x t).0 is)
  go false is later =
      let none : number (bytes_eq x t) ≡ number false = ap number is in
      inr (later (omega (arith, some, none)))

pub is_pool_of : (p : Slots) (xs : List ServedSlots) → IsServer p xs → IsShared p → ((k : ℕ) → held_text_at p k ≢ None → 0 < count_at p k) →
    IsPoolOf p (texts_of_all (all_in p xs))
is_pool_of p xs s shared held = record {
  all = λ t some.
      let r : IsHeldAt p (slots_of_all xs) t = all_slot p xs t (in_texts t (texts_of_all (all_in p xs)) some) in
      record { slot = r.slot; held = omega (arith, s.exact r.slot, holders_are xs r.slot, r.some); text = r.text };
  once = shared;
  counts = λ k some.
      let there : AreThere p (slots_of_all xs) = λ j more. omega (arith, s.exact j, holders_are xs j, more) in
      s.exact k ∙ holders_are xs k ∙ slots_same p (slots_of_all xs) k shared there some
      ∙ ap (times_in (text_at p k)) (sym (texts_are p xs));
  only = held;
}
