-- What is noted of open connections, and what an event says of its own changes of it.
use Rattle.std.proofs.Common.{◌≡◌, ℕ, ◌+◌, ◌-◌, List, [], ◌∷◌, ◌++◌, length, refl, ap, ◌∙◌, sym, subst, arith, inl, inr}
use Rattle.std.specs.Prelude.{Bool, true, false, cond, not, map, filter, sum_by, Some, None, ◌&&◌, ◌==◌}
use Rattle.std.specs.Option.{is_some}
use Rattle.std.proofs.lemmas.Bool.{cases_Bool, true≢false, eqb-true}
use Rattle.std.proofs.lemmas.List.{length-drop}
use Rattle.std.proofs.lemmas.List.Sums.{sum_by-append}
use Rattle.served_instance.specs.History.{Entry, Took}
use Rattle.served_instance.specs.Bytes.{bytes_put, count_taken, count_taken_by, untaken_count}
use Rattle.served_instance.specs.Past.{new_past, with_taken}
use Rattle.server_events.specs.Events.{WhatValue, opened, received, took, closed, tick, ended}
use Rattle.served_instance.specs.Connections.{LoneConnection, AreApart, is_open_at, open_at, at_open, with_closed}
use Rattle.served_instance.specs.Lone.{sent_bytes_on}
use Rattle.server_core.specs.declared.record.OpenRecord.{OpenRecord}
use Rattle.server_core.specs.Records.{open_record, open_from}
use Rattle.server_core.specs.Notes.{record_after_taking, open_records_after, sent_bytes_after}
use Rattle.served_instance.proofs.Greeting.{nothing_taken}
use Rattle.served_instance.proofs.Growth.{HasGrown, AreGrown, at_is_open, connections_after}

-- ---- tests

pub pick_true : {A : Type 0} (b : Bool) (x y : A) → b ≡ true → cond b x y ≡ x
pick_true true x y h = refl
pick_true false x y h = absurd (true≢false (sym h))

pub pick_false : {A : Type 0} (b : Bool) (x y : A) → b ≡ false → cond b x y ≡ y
pick_false true x y h = absurd (true≢false h)
pick_false false x y h = refl

pub if_both : {A : Type 0} (b : Bool) (x y z w : A) → (b ≡ true → x ≡ z) → (b ≡ false → y ≡ w) → cond b x y ≡ cond b z w
if_both true x y z w on off = on refl
if_both false x y z w on off = off refl

pub both_true : (a b : Bool) → a ≡ true → b ≡ true → (a && b) ≡ true
both_true true b h k = k
both_true false b h k = absurd (true≢false (sym h))

pub second_true : (a b : Bool) → (a && b) ≡ true → b ≡ true
second_true true b h = h
second_true false b h = absurd (true≢false (sym h))

pub second_false : (a b : Bool) → a ≡ true → (a && b) ≡ false → b ≡ false
second_false true b h k = k
second_false false b h k = absurd (true≢false (sym h))

pub record NoneAt (c : ℕ) (k : LoneConnection) (ks : List LoneConnection) : Type 0 where
  pub here : is_open_at c k ≡ false
  pub later : open_at c ks ≡ None

some_none : {A : Type 0} (x : A) → Some x ≡ None → ⊥
some_none x h = true≢false (ap is_some h)

none_if : (c : ℕ) (k : LoneConnection) (ks : List LoneConnection) (b : Bool) → is_open_at c k ≡ b →
    cond b (Some k.past) (open_at c ks) ≡ None → NoneAt c k ks
none_if c k ks true at h = absurd (some_none k.past h)
none_if c k ks false off h = record { here = off; later = h }

pub none_at : (c : ℕ) (k : LoneConnection) (ks : List LoneConnection) → open_at c (k ∷ ks) ≡ None → NoneAt c k ks
none_at c k ks h = none_if c k ks (is_open_at c k) refl h

other_number : (c : ℕ) (k : LoneConnection) → k.is_open ≡ true → is_open_at c k ≡ false → (k.number == c) ≡ false
other_number c k is off = second_false k.is_open (k.number == c) is off

-- ---- what is noted of open connections, before what an event put is gathered

abbrev pub known_value : ℕ → ℕ × List ℕ → LoneConnection → OpenRecord
known_value place s k = record { number = k.number; place = place; untaken = length s.1 - count_taken k.past.history }

abbrev pub known_from : ℕ → List (ℕ × List ℕ) → List LoneConnection → List OpenRecord
known_from place [] ks = []
known_from place (s ∷ ss) [] = []
known_from place (s ∷ ss) (k ∷ ks) = cond k.is_open (known_value place s k ∷ known_from (place + 1) ss ks) (known_from (place + 1) ss ks)

abbrev Values : Type 0
Values = List OpenRecord

value_same : (p : ℕ) (k : LoneConnection) → known_value p (sent_bytes_on k) k ≡ open_record p k
value_same p k =
    let f : ℕ → OpenRecord = λ n. record { number = k.number; place = p; untaken = n } in
    ap f (sym (length-drop (count_taken k.past.history) (bytes_put k.past.history)))

cons_both : (o q : OpenRecord) (os qs : Values) → o ≡ q → os ≡ qs → o ∷ os ≡ q ∷ qs
cons_both o q os qs h k = cc

pub known_same : (p : ℕ) (ks : List LoneConnection) → known_from p (map sent_bytes_on ks) ks ≡ open_from p ks
known_same p [] = refl
known_same p (k ∷ ks) =
    let later = known_same (p + 1) ks in
    if_both k.is_open _ _ _ _ (λ is. cons_both _ _ _ _ (value_same p k) later) (λ is. later)

abbrev pub new_at : ℕ → ℕ → LoneConnection
new_at window c = record { number = c; past = new_past window; is_open = true }

abbrev new_value : ℕ → ℕ → OpenRecord
new_value c p = record { number = c; place = p; untaken = 0 }

known_opened : (window c p : ℕ) (ks : List LoneConnection) →
    known_from p (map sent_bytes_on ks ++ (c, []) ∷ []) (ks ++ new_at window c ∷ []) ≡ open_from p ks ++ new_value c (p + length ks) ∷ []
known_opened window c p [] =
    let e : p ≡ p + 0 = omega arith in
    let left : ℕ → Values = λ n. let o : OpenRecord = record { number = c; place = p; untaken = 0 - n } in o ∷ [] in
    ap left (nothing_taken window) ∙ ap (λ (n : ℕ). new_value c n ∷ []) e
known_opened window c p (k ∷ ks) =
    let e : p + 1 + length ks ≡ p + length (k ∷ ks) = omega arith in
    let later : known_from (p + 1) (map sent_bytes_on ks ++ (c, []) ∷ []) (ks ++ new_at window c ∷ []) ≡ open_from (p + 1) ks
    ++ new_value c (p + length (k ∷ ks)) ∷ [] =
    known_opened window c (p + 1) ks ∙ ap (λ (n : ℕ). open_from (p + 1) ks ++ new_value c n ∷ []) e in
    let more : Values → Values = λ os. os ++ new_value c (p + length (k ∷ ks)) ∷ [] in
    elim (cases_Bool k.is_open) [
      | inl is ↦ pick_true k.is_open _ _ is ∙ cons_both _ _ _ _ (value_same p k) later
          ∙ sym (ap more (pick_true k.is_open (open_record p k ∷ open_from (p + 1) ks) (open_from (p + 1) ks) is))
      | inr is ↦ pick_false k.is_open _ _ is ∙ later
          ∙ sym (ap more (pick_false k.is_open (open_record p k ∷ open_from (p + 1) ks) (open_from (p + 1) ks) is))
    ]

none_taken : (c n p : ℕ) (ks : List LoneConnection) → open_at c ks ≡ None → map (record_after_taking c n) (open_from p ks) ≡ open_from p ks
none_taken c n p [] h = refl
none_taken c n p (k ∷ ks) h =
    let none = none_at c k ks h in
    let later = none_taken c n (p + 1) ks none.later in
    let here : Values = open_record p k ∷ open_from (p + 1) ks in
    let more : Values → Values = λ os. map (record_after_taking c n) os in
    elim (cases_Bool k.is_open) [
      | inl is ↦ ap more (pick_true k.is_open here (open_from (p + 1) ks) is)
          ∙ cons_both _ _ _ _ (pick_false (k.number == c) _ _ (other_number c k is none.here)) later
          ∙ sym (pick_true k.is_open here (open_from (p + 1) ks) is)
      | inr is ↦ ap more (pick_false k.is_open here (open_from (p + 1) ks) is) ∙ later
          ∙ sym (pick_false k.is_open here (open_from (p + 1) ks) is)
    ]

pub took_more : (d : List Entry) (n : ℕ) → count_taken (d ++ Took n ∷ []) ≡ count_taken d + n
took_more d n = sum_by-append count_taken_by d (Took n ∷ [])
    ∙ (let e : sum_by count_taken_by (Took n ∷ []) ≡ n = omega arith in omega (arith, e))

abbrev after_taken : ℕ → LoneConnection → LoneConnection
after_taken n k = record k { past = with_taken k.past n }

taken_value : (c n p : ℕ) (k : LoneConnection) → (k.number == c) ≡ true →
    known_value p (sent_bytes_on k) (after_taken n k) ≡ record_after_taking c n (open_record p k)
taken_value c n p k same =
    let f : ℕ → OpenRecord = λ m. record { number = k.number; place = p; untaken = m } in
    let e : length (bytes_put k.past.history) - count_taken (k.past.history ++ Took n ∷ []) ≡ untaken_count k.past.history - n =
    omega (arith, took_more k.past.history n, length-drop (count_taken k.past.history) (bytes_put k.past.history)) in
    ap f e ∙ sym (pick_true (k.number == c) _ _ same)

known_took : (c n p : ℕ) (ks : List LoneConnection) → AreApart ks →
    known_from p (map sent_bytes_on ks) (at_open c (λ q. with_taken q n) ks) ≡ map (record_after_taking c n) (open_from p ks)
known_took c n p [] apart = refl
known_took c n p (k ∷ ks) apart =
    let rest : Values = open_from (p + 1) ks in
    let here : Values = open_record p k ∷ rest in
    let more : Values → Values = λ os. map (record_after_taking c n) os in
    let known : List LoneConnection → Values = λ ms. known_from p (sent_bytes_on k ∷ map sent_bytes_on ks) ms in
    let yes = after_taken n k ∷ ks in
    let no = k ∷ at_open c (λ q. with_taken q n) ks in
    elim (cases_Bool (is_open_at c k)) [
      | inl at ↦
          let is = at_is_open c k at in
          let same : (k.number == c) ≡ true = second_true k.is_open (k.number == c) at in
          let none : open_at c ks ≡ None = subst (λ (m : ℕ). open_at m ks ≡ None) (eqb-true k.number c same) (apart.0 is) in
          ap known (pick_true (is_open_at c k) yes no at) ∙ pick_true k.is_open _ _ is
          ∙ cons_both _ _ _ _ (taken_value c n p k same) (known_same (p + 1) ks ∙ sym (none_taken c n (p + 1) ks none))
          ∙ sym (ap more (pick_true k.is_open here rest is))
      | inr off ↦
          let later = known_took c n (p + 1) ks apart.1 in
          ap known (pick_false (is_open_at c k) yes no off) ∙ elim (cases_Bool k.is_open) [
            | inl is ↦ pick_true k.is_open _ _ is ∙ cons_both _ _ _ _
                (value_same p k ∙ sym (pick_false (k.number == c) _ _ (other_number c k is off))) later
                ∙ sym (ap more (pick_true k.is_open here rest is))
            | inr is ↦ pick_false k.is_open _ _ is ∙ later ∙ sym (ap more (pick_false k.is_open here rest is))
          ]
    ]

abbrev others : ℕ → OpenRecord → Bool
others c o = not (o.number == c)

none_gone : (c p : ℕ) (ks : List LoneConnection) → open_at c ks ≡ None → filter (others c) (open_from p ks) ≡ open_from p ks
none_gone c p [] h = refl
none_gone c p (k ∷ ks) h =
    let none = none_at c k ks h in
    let later = none_gone c (p + 1) ks none.later in
    let rest : Values = open_from (p + 1) ks in
    let here : Values = open_record p k ∷ rest in
    let more : Values → Values = λ os. filter (others c) os in
    elim (cases_Bool k.is_open) [
      | inl is ↦ ap more (pick_true k.is_open here rest is)
          ∙ pick_true (others c (open_record p k)) _ _ (ap not (other_number c k is none.here)) ∙ cons_both _ _ _ _ refl later
          ∙ sym (pick_true k.is_open here rest is)
      | inr is ↦ ap more (pick_false k.is_open here rest is) ∙ later ∙ sym (pick_false k.is_open here rest is)
    ]

pub known_closed : (c p : ℕ) (ks : List LoneConnection) → AreApart ks →
    known_from p (map sent_bytes_on ks) (with_closed c ks) ≡ filter (others c) (open_from p ks)
known_closed c p [] apart = refl
known_closed c p (k ∷ ks) apart =
    let rest : Values = open_from (p + 1) ks in
    let here : Values = open_record p k ∷ rest in
    let more : Values → Values = λ os. filter (others c) os in
    let known : List LoneConnection → Values = λ ms. known_from p (sent_bytes_on k ∷ map sent_bytes_on ks) ms in
    let yes = record k { is_open = false } ∷ ks in
    let no = k ∷ with_closed c ks in
    elim (cases_Bool (is_open_at c k)) [
      | inl at ↦
          let is = at_is_open c k at in
          let same : (k.number == c) ≡ true = second_true k.is_open (k.number == c) at in
          let none : open_at c ks ≡ None = subst (λ (m : ℕ). open_at m ks ≡ None) (eqb-true k.number c same) (apart.0 is) in
          ap known (pick_true (is_open_at c k) yes no at)
          ∙ known_same (p + 1) ks ∙ sym (none_gone c (p + 1) ks none)
          ∙ sym (ap more (pick_true k.is_open here rest is) ∙ pick_false (others c (open_record p k)) _ _ (ap not same))
      | inr off ↦
          let later = known_closed c (p + 1) ks apart.1 in
          ap known (pick_false (is_open_at c k) yes no off) ∙ elim (cases_Bool k.is_open) [
            | inl is ↦ pick_true k.is_open _ _ is ∙ cons_both _ _ _ _ (value_same p k) later
                ∙ sym (ap more (pick_true k.is_open here rest is)
                ∙ pick_true (others c (open_record p k)) _ _ (ap not (other_number c k is off)))
            | inr is ↦ pick_false k.is_open _ _ is ∙ later ∙ sym (ap more (pick_false k.is_open here rest is))
          ]
    ]

-- what is noted of open connections follows an event
pub known_after : (window : ℕ) (what : WhatValue) (ks : List LoneConnection) → AreApart ks →
    open_records_after what (length ks) (open_from 0 ks)
    ≡ known_from 0 (sent_bytes_after what (map sent_bytes_on ks)) (connections_after window what ks)
known_after window (opened c) ks apart =
    let e : 0 + length ks ≡ length ks = omega arith in
    sym (known_opened window c 0 ks ∙ ap (λ (n : ℕ). open_from 0 ks ++ new_value c n ∷ []) e)
known_after window (received c bytes) ks apart = sym (known_same 0 ks)
known_after window (took c n) ks apart = sym (known_took c n 0 ks apart)
known_after window (closed c) ks apart = sym (known_closed c 0 ks apart)
known_after window tick ks apart = sym (known_same 0 ks)
known_after window (ended job outcome) ks apart = sym (known_same 0 ks)

pub taken_grown : (k m : LoneConnection) → HasGrown k m → count_taken m.past.history ≡ count_taken k.past.history
taken_grown k m g = ap count_taken g.past.history ∙ sum_by-append count_taken_by k.past.history g.past.more ∙ omega (arith, g.past.quiet)

value_grown : (p : ℕ) (s : ℕ × List ℕ) (k m : LoneConnection) → HasGrown k m → known_value p s m ≡ known_value p s k
value_grown p s k m g =
    let a = g.number in
    let b = taken_grown k m g in
    cc

pub known_grown : (p : ℕ) (ss : List (ℕ × List ℕ)) (ks ms : List LoneConnection) → AreGrown ks ms → known_from p ss ks ≡ known_from p ss ms
known_grown p [] ks ms g = refl
known_grown p (s ∷ ss) [] [] g = refl
known_grown p (s ∷ ss) [] (m ∷ ms) g = absurd g
known_grown p (s ∷ ss) (k ∷ ks) [] g = absurd g
known_grown p (s ∷ ss) (k ∷ ks) (m ∷ ms) g =
    let later = known_grown (p + 1) ss ks ms g.1 in
    let here = value_grown p s k m g.0 in
    let is = g.0.is_open in
    cc
