-- The pool's texts are those that instances hold.
use Rattle.std.proofs.Common.{◌≡◌, ◌≢◌, ℕ, zero, suc, ◌+◌, ◌<◌, ◌==◌, Bool, true, false, cond, List, [], ◌∷◌, length, map, refl, sym, ap, subst, ◌∙◌, arith, inl, inr, nat_lt}
use Rattle.std.specs.Prelude.{Option, Some, None}
use Rattle.std.proofs.lemmas.Bool.Decides.{nat_tests}
use Rattle.std.proofs.lemmas.List.Sums.{sum_by-cons}
use Rattle.blob_pool.specs.Slots.{HeldText, Slots, held_text_at, text_at, count_at, is_held, IsShared, texts_stored, bytes_stored}
use Rattle.blob_pool.specs.Moves.{one_at}
use Rattle.served_instance.specs.Sources.{count_of}
use Rattle.served_instance.specs.Slots.{ServedSlots}
use Rattle.server_core.specs.Shared.{all_in, all_holders, IsServer}
use Rattle.server_core.specs.Stored.{texts_of_all, IsAmong, AreDistinct, texts_length, AreStored}
use Rattle.server_core.proofs.Slots.{slots_of_all, holders_are, texts_are}

abbrev pub in_slots : Slots → List (List ℕ)
in_slots [] = []
in_slots (None ∷ p) = in_slots p
in_slots (Some h ∷ p) = h.text ∷ in_slots p

record IsAt (p : Slots) (t : List ℕ) : Type 0 where
  slot : ℕ
  some : held_text_at p slot ≢ None
  text : text_at p slot ≡ t

at_slot : (p : Slots) (t : List ℕ) → IsAmong t (in_slots p) → IsAt p t
at_slot [] t h = absurd h
at_slot (None ∷ p) t h = let r = at_slot p t h in record { slot = suc r.slot; some = r.some; text = r.text }
at_slot (Some x ∷ p) t h = elim h [
  | inl here ↦ record { slot = 0; some = λ e. cc; text = here }
  | inr later ↦ let r = at_slot p t later in record { slot = suc r.slot; some = r.some; text = r.text }
]

in_slot : (p : Slots) (k : ℕ) → 0 < count_at p k → IsAmong (text_at p k) (in_slots p)
in_slot [] k h = absurd (omega arith)
in_slot (None ∷ p) zero h = absurd (omega arith)
in_slot (None ∷ p) (suc k) h = in_slot p k h
in_slot (Some x ∷ p) zero h = inl refl
in_slot (Some x ∷ p) (suc k) h = inr (in_slot p k h)

distinct : (p : Slots) → IsShared p → ((k : ℕ) → held_text_at p k ≢ None → 0 < count_at p k) → AreDistinct (in_slots p)
distinct [] s h = tt
distinct (None ∷ p) s h = distinct p (record {
  once = λ j k a b e. let same : suc j ≡ suc k = s.once (suc j) (suc k) a b e in
      omega (arith, same);
}) (λ k. h (suc k))
distinct (Some x ∷ p) s h = (
  λ again. let r = at_slot p x.text again in let same : 0 ≡ suc r.slot =
      s.once 0 (suc r.slot) (h 0 (λ e. cc)) (h (suc r.slot) r.some) (sym r.text) in absurd (omega (arith, same)),
  distinct p (record { once = λ j k a b e. let same : suc j ≡ suc k = s.once (suc j) (suc k) a b e in omega (arith, same) })
      (λ k. h (suc k)),
)

counted : (p : Slots) → ((k : ℕ) → held_text_at p k ≢ None → 0 < count_at p k) → texts_stored p ≡ length (in_slots p)
counted [] h = refl
counted (None ∷ p) h =
    let ih = counted p (λ k. h (suc k)) in
    let cons : texts_stored (None ∷ p) ≡ 0 + texts_stored p = sum_by-cons (λ (o : Option HeldText). cond (is_held o) 1 0) None p in
    omega (arith, ih, cons)
counted (Some x ∷ p) h =
    let ih = counted p (λ k. h (suc k)) in
    let some : 0 < x.count = h 0 (λ e. cc) in
    let test : nat_lt 0 x.count ≡ true = grind (arith, nat_tests) in
    let cons : texts_stored (Some x ∷ p) ≡ cond (nat_lt 0 x.count) 1 0 + texts_stored p =
    sum_by-cons (λ (o : Option HeldText). cond (is_held o) 1 0) (Some x) p in
    let number : Bool → ℕ = λ b. cond b 1 0 in
    let one : number (nat_lt 0 x.count) ≡ number true = ap number test in
    omega (arith, ih, cons, one)

sized : (p : Slots) → bytes_stored p ≡ texts_length (in_slots p)
sized [] = refl
sized (None ∷ p) = let ih = sized p in omega (arith, ih)
sized (Some x ∷ p) = let ih = sized p in omega (arith, ih)

-- ---- slots that are held, and their texts

one_own : (k : ℕ) → one_at k k ≡ 1
one_own k = grind (arith, nat_tests)

-- a text stands in a slot that is held
pub record IsHeldAt (p : Slots) (ns : List ℕ) (t : List ℕ) : Type 0 where
  pub slot : ℕ
  pub some : 0 < count_of slot ns
  pub text : text_at p slot ≡ t

text_slot : (p : Slots) (ns : List ℕ) (t : List ℕ) → IsAmong t (map (text_at p) ns) → IsHeldAt p ns t
text_slot p [] t h = absurd h
text_slot p (n ∷ ns) t h = elim h [
  | inl here ↦ record { slot = n; some = let one = one_own n in omega (arith, one); text = here }
  | inr later ↦ let r = text_slot p ns t later in record { slot = r.slot; some = omega (arith, r.some); text = r.text }
]

slot_text : (p : Slots) (ns : List ℕ) (k : ℕ) → 0 < count_of k ns → IsAmong (text_at p k) (map (text_at p) ns)
slot_text p [] k h = absurd (omega arith)
slot_text p (n ∷ ns) k h = go (k == n) refl (λ later. slot_text p ns k later) where
  go : (b : Bool) → (k == n) ≡ b → (0 < count_of k ns → IsAmong (text_at p k) (map (text_at p) ns)) →
      IsAmong (text_at p k) (map (text_at p) (n ∷ ns))
  go true test ih = let same : n ≡ k = grind (arith, nat_tests) in inl (ap (text_at p) same)
  go false test ih =
      let number : Bool → ℕ = λ b. cond b 1 0 in
      let none : number (k == n) ≡ number false = ap number test in
      inr (ih (omega (arith, h, none)))

pub all_slot : (p : Slots) (xs : List ServedSlots) (t : List ℕ) → IsAmong t (texts_of_all (all_in p xs)) → IsHeldAt p (slots_of_all xs) t
all_slot p xs t h = text_slot p (slots_of_all xs) t (subst (IsAmong t) (texts_are p xs) h)

slot_held : (p : Slots) (xs : List ServedSlots) (k : ℕ) → 0 < all_holders xs k → IsAmong (text_at p k) (texts_of_all (all_in p xs))
slot_held p xs k h =
    let some : 0 < count_of k (slots_of_all xs) = omega (arith, h, holders_are xs k) in
    subst (IsAmong (text_at p k)) (sym (texts_are p xs)) (slot_text p (slots_of_all xs) k some)

pub stored_are : (p : Slots) (xs : List ServedSlots) (n b : ℕ) → IsServer p xs → IsShared p →
    ((k : ℕ) → held_text_at p k ≢ None → 0 < count_at p k) → n ≡ texts_stored p → b ≡ bytes_stored p →
    AreStored (texts_of_all (all_in p xs)) n b
stored_are p xs n b s shared held count bytes = record {
  texts = in_slots p;
  distinct = distinct p shared held;
  all = λ t h. let r = all_slot p xs t h in subst (λ (u : List ℕ). IsAmong u (in_slots p)) r.text
      (in_slot p r.slot (omega (arith, s.exact r.slot, holders_are xs r.slot, r.some)));
  only = λ t h. let r = at_slot p t h in subst (λ (u : List ℕ). IsAmong u (texts_of_all (all_in p xs))) r.text
      (slot_held p xs r.slot (omega (arith, s.exact r.slot, held r.slot r.some)));
  count_is = count ∙ counted p held;
  bytes_is = bytes ∙ sized p;
}
