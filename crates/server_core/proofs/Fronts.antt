-- What is noted of sent bytes is a front of what was put; what is gathered makes it the whole.
use Rattle.std.proofs.Common.{◌≡◌, ℕ, zero, suc, ◌+◌, ◌-◌, ◌≤◌, List, [], ◌∷◌, ◌++◌, length, drop, refl, ap, ◌∙◌, sym, subst, arith, inl, inr, length-append, append_assoc}
use Rattle.std.specs.Prelude.{Bool, true, false, cond, map, Option, Some, None, ◌&&◌, ◌==◌}
use Rattle.std.specs.List.{AllByRecursion, flat_map}
use Rattle.std.specs.Option.{option_map_or, is_some}
use Rattle.std.proofs.lemmas.Bool.{cases_Bool, true≢false, eqb-true, eq-eqb}
use Rattle.std.proofs.lemmas.List.{length-drop, drop-append-le}
use Rattle.std.proofs.Math.Seq.{drop-append_seam}
use Rattle.std.proofs.lemmas.List.Elements.{filter_map-append}
use Rattle.std.proofs.lemmas.Grind.{flat_map-append}
use Rattle.served_instance.specs.Writing.{text_of}
use Rattle.served_instance.specs.History.{Entry, Took, sent_frames, frame_out}
use Rattle.served_instance.specs.Bytes.{bytes_put, count_taken, pending_bytes, untaken_count}
use Rattle.served_instance.proofs.Histories.{append-nil}
use Rattle.served_instance.specs.Past.{Past, new_past, with_taken}
use Rattle.server_events.specs.Events.{WhatValue, opened, received, took, closed, tick, ended}
use Rattle.served_instance.specs.Connections.{LoneConnection, AreApart, is_open_at, open_at, at_open, with_closed, open_ones}
use Rattle.served_instance.specs.Lone.{LoneInstance, sent_bytes_on}
use Rattle.server_core.specs.declared.record.OpenRecord.{OpenRecord}
use Rattle.server_core.specs.Records.{open_record, open_from, IsTakenFrom}
use Rattle.server_core.specs.Notes.{sent_bytes_after, with_more_at, pending_bytes_on, sent_bytes_with, sent_bytes_with_all, record_after_noting}
use Rattle.served_instance.proofs.Growth.{HasGrown, AreGrown, at_is_open, connections_after}
use Rattle.served_instance.proofs.Greeting.{nothing_taken}
use Rattle.server_core.proofs.Changes.{pick_true, pick_false, none_at, known_value, known_from, new_at, took_more, taken_grown, both_true, second_true, second_false}

-- ---- fronts

pub record IsFront (s : ℕ × List ℕ) (k : LoneConnection) : Type 0 where
  pub number : s.0 ≡ k.number
  pub more : List ℕ
  pub bytes : bytes_put k.past.history ≡ s.1 ++ more
  pub within : k.is_open ≡ true → count_taken k.past.history ≤ length s.1
  pub closed : k.is_open ≡ false → bytes_put k.past.history ≡ s.1

abbrev pub AreFronts : List (ℕ × List ℕ) → List LoneConnection → Type 0
AreFronts [] [] = Unit {0}
AreFronts (s ∷ ss) (k ∷ ks) = IsFront s k × AreFronts ss ks
AreFronts ss ks = ⊥

bytes_both : (d es : List Entry) → bytes_put (d ++ es) ≡ bytes_put d ++ bytes_put es
bytes_both d es = ap (flat_map text_of) (filter_map-append frame_out d es) ∙ flat_map-append text_of (sent_frames d) (sent_frames es)

-- no more was taken of an open connection than was put
abbrev IsWithin : LoneConnection → Type 0
IsWithin k = k.is_open ≡ true → IsTakenFrom k

abbrev AreWithin : List LoneConnection → Type 0
AreWithin ks = AllByRecursion IsWithin ks

within_if : (k : LoneConnection) (ks : List LoneConnection) (b : Bool) → k.is_open ≡ b →
    AllByRecursion IsTakenFrom (cond b (k ∷ open_ones ks) (open_ones ks)) → IsWithin k × AllByRecursion IsTakenFrom (open_ones ks)
within_if k ks true is h = (λ e. h.0, h.1)
within_if k ks false is h = (λ e. absurd (true≢false (sym e ∙ is)), h)

pub all_within : (ks : List LoneConnection) → AllByRecursion IsTakenFrom (open_ones ks) → AreWithin ks
all_within [] h = tt
all_within (k ∷ ks) h =
    let both = within_if k ks k.is_open refl h in
    (both.0, all_within ks both.1)

taken_if : (k : LoneConnection) (ks : List LoneConnection) (b : Bool) → k.is_open ≡ b → IsWithin k →
    AllByRecursion IsTakenFrom (open_ones ks) → AllByRecursion IsTakenFrom (cond b (k ∷ open_ones ks) (open_ones ks))
taken_if k ks true is h later = (h is, later)
taken_if k ks false is h later = later

front_taken : (s : ℕ × List ℕ) (k : LoneConnection) → IsFront s k → IsWithin k
front_taken s k f is = omega (arith, f.within is, ap length f.bytes, length-append s.1 f.more)

pub fronts_taken : (ss : List (ℕ × List ℕ)) (ks : List LoneConnection) → AreFronts ss ks → AllByRecursion IsTakenFrom (open_ones ks)
fronts_taken [] [] f = tt
fronts_taken [] (k ∷ ks) f = absurd f
fronts_taken (s ∷ ss) [] f = absurd f
fronts_taken (s ∷ ss) (k ∷ ks) f = taken_if k ks k.is_open refl (front_taken s k f.0) (fronts_taken ss ks f.1)

front_same : (k : LoneConnection) → IsWithin k → IsFront (sent_bytes_on k) k
front_same k h = record { number = refl; more = []; bytes = sym (append-nil (bytes_put k.past.history)); within = h; closed = λ is. refl }

fronts_same : (ks : List LoneConnection) → AreWithin ks → AreFronts (map sent_bytes_on ks) ks
fronts_same [] h = tt
fronts_same (k ∷ ks) h = (front_same k h.0, fronts_same ks h.1)

fronts_opened : (window c : ℕ) (ks : List LoneConnection) → AreWithin ks →
    AreFronts (map sent_bytes_on ks ++ (c, []) ∷ []) (ks ++ new_at window c ∷ [])
fronts_opened window c [] h =
    let f : IsFront (c, []) (new_at window c) = record {
      number = refl;
      more = bytes_put (new_past window).history;
      bytes = refl;
      within = λ is. let none = nothing_taken window in
          omega (arith, none);
      closed = λ is. absurd (true≢false is);
    } in
    (f, tt)
fronts_opened window c (k ∷ ks) h = (front_same k h.0, fronts_opened window c ks h.1)

-- no more is taken than was put and not taken before
abbrev pub MayTake : ℕ → ℕ → List LoneConnection → Type 0
MayTake c n ks = (p : Past) → open_at c ks ≡ Some p → n ≤ untaken_count p.history

front_took : (n : ℕ) (k : LoneConnection) → k.is_open ≡ true → IsWithin k → n ≤ untaken_count k.past.history →
    IsFront (sent_bytes_on k) (record k { past = with_taken k.past n })
front_took n k is h most =
    let d = k.past.history in
    let same : bytes_put (d ++ Took n ∷ []) ≡ bytes_put d ++ [] = bytes_both d (Took n ∷ []) in
    record {
      number = refl;
      more = [];
      bytes = same;
      within = λ e. omega (arith, took_more d n, h is, most, length-drop (count_taken d) (bytes_put d));
      closed = λ e. absurd (true≢false (sym is ∙ e));
    }

fronts_took : (c n : ℕ) (ks : List LoneConnection) → AreWithin ks → MayTake c n ks →
    AreFronts (map sent_bytes_on ks) (at_open c (λ q. with_taken q n) ks)
fronts_took c n [] h may = tt
fronts_took c n (k ∷ ks) h may =
    let yes = record k { past = with_taken k.past n } ∷ ks in
    let no = k ∷ at_open c (λ q. with_taken q n) ks in
    let Fronts : List LoneConnection → Type 0 = λ ms. AreFronts (sent_bytes_on k ∷ map sent_bytes_on ks) ms in
    elim (cases_Bool (is_open_at c k)) [
      | inl at ↦
          let most : n ≤ untaken_count k.past.history = may k.past (pick_true (is_open_at c k) (Some k.past) (open_at c ks) at) in
          subst Fronts (sym (pick_true (is_open_at c k) yes no at)) (front_took n k (at_is_open c k at) h.0 most, fronts_same ks h.1)
      | inr off ↦
          let later : MayTake c n ks = λ p is. may p (pick_false (is_open_at c k) (Some k.past) (open_at c ks) off ∙ is) in
          subst Fronts (sym (pick_false (is_open_at c k) yes no off)) (front_same k h.0, fronts_took c n ks h.1 later)
    ]

front_closed : (k : LoneConnection) → IsFront (sent_bytes_on k) (record k { is_open = false })
front_closed k = record {
  number = refl;
  more = [];
  bytes = sym (append-nil (bytes_put k.past.history));
  within =
      λ is. absurd (true≢false (sym is));
  closed = λ is. refl;
}

pub fronts_closed : (c : ℕ) (ks : List LoneConnection) → AreWithin ks → AreFronts (map sent_bytes_on ks) (with_closed c ks)
fronts_closed c [] h = tt
fronts_closed c (k ∷ ks) h =
    let yes = record k { is_open = false } ∷ ks in
    let no = k ∷ with_closed c ks in
    let Fronts : List LoneConnection → Type 0 = λ ms. AreFronts (sent_bytes_on k ∷ map sent_bytes_on ks) ms in
    elim (cases_Bool (is_open_at c k)) [
      | inl at ↦ subst Fronts (sym (pick_true (is_open_at c k) yes no at)) (front_closed k, fronts_same ks h.1)
      | inr off ↦ subst Fronts (sym (pick_false (is_open_at c k) yes no off)) (front_same k h.0, fronts_closed c ks h.1)
    ]

-- what an event may do, where it is not refused
abbrev pub May : WhatValue → List LoneConnection → Type 0
May (opened c) ks = open_at c ks ≡ None
May (took c n) ks = MayTake c n ks
May _ ks = Unit {0}

pub fronts_after : (window : ℕ) (what : WhatValue) (ks : List LoneConnection) → AreWithin ks → May what ks →
    AreFronts (sent_bytes_after what (map sent_bytes_on ks)) (connections_after window what ks)
fronts_after window (opened c) ks h may = fronts_opened window c ks h
fronts_after window (received c bytes) ks h may = fronts_same ks h
fronts_after window (took c n) ks h may = fronts_took c n ks h may
fronts_after window (closed c) ks h may = fronts_closed c ks h
fronts_after window tick ks h may = fronts_same ks h
fronts_after window (ended job outcome) ks h may = fronts_same ks h

front_grown : (s : ℕ × List ℕ) (k m : LoneConnection) → IsFront s k → HasGrown k m → IsFront s m
front_grown s k m f g = record {
  number = f.number ∙ sym g.number;
  more = f.more ++ bytes_put g.past.more;
  bytes = ap bytes_put g.past.history ∙ bytes_both k.past.history g.past.more ∙ ap (λ (bs : List ℕ). bs ++ bytes_put g.past.more) f.bytes
      ∙ append_assoc s.1 f.more (bytes_put g.past.more);
  within = λ is. omega (arith, taken_grown k m g, f.within (sym g.is_open ∙ is));
  closed = λ is. ap (λ (n : LoneConnection). bytes_put n.past.history) (g.closed (sym g.is_open ∙ is)) ∙ f.closed (sym g.is_open ∙ is);
}

pub fronts_grown : (ss : List (ℕ × List ℕ)) (ks ms : List LoneConnection) → AreFronts ss ks → AreGrown ks ms → AreFronts ss ms
fronts_grown [] [] [] f g = tt
fronts_grown [] [] (m ∷ ms) f g = g
fronts_grown [] (k ∷ ks) ms f g = absurd f
fronts_grown (s ∷ ss) [] ms f g = absurd f
fronts_grown (s ∷ ss) (k ∷ ks) [] f g = absurd g
fronts_grown (s ∷ ss) (k ∷ ks) (m ∷ ms) f g = (front_grown s k m f.0 g.0, fronts_grown ss ks ms f.1 g.1)

-- ---- no two open connections have one number

-- the same numbers, and none open that was not
pub record OpenNoMore (k m : LoneConnection) : Type 0 where
  pub number : m.number ≡ k.number
  pub is_open : m.is_open ≡ true → k.is_open ≡ true

abbrev AllOpenNoMore : List LoneConnection → List LoneConnection → Type 0
AllOpenNoMore [] [] = Unit {0}
AllOpenNoMore (k ∷ ks) (m ∷ ms) = OpenNoMore k m × AllOpenNoMore ks ms
AllOpenNoMore ks ms = ⊥

same_open : (k : LoneConnection) → OpenNoMore k k
same_open k = record { number = refl; is_open = λ is. is }

all_same_open : (ks : List LoneConnection) → AllOpenNoMore ks ks
all_same_open [] = tt
all_same_open (k ∷ ks) = (same_open k, all_same_open ks)

grown_open : (ks ms : List LoneConnection) → AreGrown ks ms → AllOpenNoMore ks ms
grown_open [] [] g = tt
grown_open [] (m ∷ ms) g = g
grown_open (k ∷ ks) [] g = g
grown_open (k ∷ ks) (m ∷ ms) g = (record { number = g.0.number; is_open = λ is. sym g.0.is_open ∙ is }, grown_open ks ms g.1)

at_open_open : (c : ℕ) (step : Past → Past) (ks : List LoneConnection) → AllOpenNoMore ks (at_open c step ks)
at_open_open c step [] = tt
at_open_open c step (k ∷ ks) =
    let yes = record k { past = step k.past } ∷ ks in
    let no = k ∷ at_open c step ks in
    let Of : List LoneConnection → Type 0 = λ ms. AllOpenNoMore (k ∷ ks) ms in
    elim (cases_Bool (is_open_at c k)) [
      | inl at ↦ subst Of (sym (pick_true (is_open_at c k) yes no at)) (record { number = refl; is_open = λ is. is }, all_same_open ks)
      | inr off ↦ subst Of (sym (pick_false (is_open_at c k) yes no off)) (same_open k, at_open_open c step ks)
    ]

closed_open : (c : ℕ) (ks : List LoneConnection) → AllOpenNoMore ks (with_closed c ks)
closed_open c [] = tt
closed_open c (k ∷ ks) =
    let yes = record k { is_open = false } ∷ ks in
    let no = k ∷ with_closed c ks in
    let Of : List LoneConnection → Type 0 = λ ms. AllOpenNoMore (k ∷ ks) ms in
    elim (cases_Bool (is_open_at c k)) [
      | inl at ↦ subst Of (sym (pick_true (is_open_at c k) yes no at))
          (record { number = refl; is_open = λ is. absurd (true≢false (sym is)) }, all_same_open ks)
      | inr off ↦ subst Of (sym (pick_false (is_open_at c k) yes no off)) (same_open k, closed_open c ks)
    ]

first_true : (a b : Bool) → (a && b) ≡ true → a ≡ true
first_true true b h = refl
first_true false b h = absurd (true≢false (sym h))

not_at : (c : ℕ) (k m : LoneConnection) → OpenNoMore k m → is_open_at c k ≡ false → is_open_at c m ≡ false
not_at c k m o off = elim (cases_Bool (is_open_at c m)) [
  | inl at ↦
      let n : (k.number == c) ≡ true = ap (λ (i : ℕ). i == c) (sym o.number) ∙ second_true m.is_open (m.number == c) at in
      absurd (true≢false (sym (both_true k.is_open (k.number == c) (o.is_open (first_true m.is_open (m.number == c) at)) n) ∙ off))
  | inr off ↦ off
]

none_later : (c : ℕ) (ks ms : List LoneConnection) → AllOpenNoMore ks ms → open_at c ks ≡ None → open_at c ms ≡ None
none_later c [] [] o h = refl
none_later c [] (m ∷ ms) o h = absurd o
none_later c (k ∷ ks) [] o h = absurd o
none_later c (k ∷ ks) (m ∷ ms) o h =
    let none = none_at c k ks h in
    pick_false (is_open_at c m) _ _ (not_at c k m o.0 none.here) ∙ none_later c ks ms o.1 none.later

apart_later : (ks ms : List LoneConnection) → AllOpenNoMore ks ms → AreApart ks → AreApart ms
apart_later [] [] o a = tt
apart_later [] (m ∷ ms) o a = absurd o
apart_later (k ∷ ks) [] o a = absurd o
apart_later (k ∷ ks) (m ∷ ms) o a =
    (λ is. ap (λ (c : ℕ). open_at c ms) o.0.number ∙ none_later k.number ks ms o.1 (a.0 (o.0.is_open is)), apart_later ks ms o.1 a.1)

pub apart_grown : (ks ms : List LoneConnection) → AreGrown ks ms → AreApart ks → AreApart ms
apart_grown ks ms g a = apart_later ks ms (grown_open ks ms g) a

false_number : (b c : ℕ) → (b == c) ≡ false → (c == b) ≡ false
false_number b c h = elim (cases_Bool (c == b)) [
  | inl same ↦ absurd (true≢false (sym (eq-eqb b c (sym (eqb-true c b same))) ∙ h))
  | inr other ↦ other
]

none_with : (window b c : ℕ) (ks : List LoneConnection) → (b == c) ≡ false → open_at b ks ≡ None →
    open_at b (ks ++ new_at window c ∷ []) ≡ None
none_with window b c [] h none = pick_false (c == b) _ _ (false_number b c h)
none_with window b c (k ∷ ks) h none =
    let n = none_at b k ks none in
    pick_false (is_open_at b k) _ _ n.here ∙ none_with window b c ks h n.later

apart_opened : (window c : ℕ) (ks : List LoneConnection) → open_at c ks ≡ None → AreApart ks → AreApart (ks ++ new_at window c ∷ [])
apart_opened window c [] none a = (λ is. refl, tt)
apart_opened window c (k ∷ ks) none a =
    let n = none_at c k ks none in
    (λ is. none_with window k.number c ks (second_false k.is_open (k.number == c) is n.here) (a.0 is), apart_opened window c ks n.later a.1)

pub apart_after : (window : ℕ) (what : WhatValue) (ks : List LoneConnection) → May what ks → AreApart ks →
    AreApart (connections_after window what ks)
apart_after window (opened c) ks may a = apart_opened window c ks may a
apart_after window (received c bytes) ks may a = a
apart_after window (took c n) ks may a = apart_later ks (at_open c (λ q. with_taken q n) ks) (at_open_open c (λ q. with_taken q n) ks) a
apart_after window (closed c) ks may a = apart_later ks (with_closed c ks) (closed_open c ks) a
apart_after window tick ks may a = a
apart_after window (ended job outcome) ks may a = a

-- ---- what is gathered

-- an open connection among these is found among all
abbrev AreFound : LoneInstance → List LoneConnection → Type 0
AreFound l ks = (c : ℕ) (p : Past) → open_at c ks ≡ Some p → open_at c l.connections ≡ Some p

some_some : {A : Type 0} (x : A) → None ≡ Some x → ⊥
some_some x h = true≢false (sym (ap is_some h))

same_of_true : (c : ℕ) (k : LoneConnection) → is_open_at c k ≡ true → k.number ≡ c
same_of_true c k at = eqb-true k.number c (second_true k.is_open (k.number == c) at)

later_found : (l : LoneInstance) (k : LoneConnection) (ks : List LoneConnection) → AreApart (k ∷ ks) → AreFound l (k ∷ ks) → AreFound l ks
later_found l k ks a found c p h = elim (cases_Bool (is_open_at c k)) [
  | inl at ↦
      let none : open_at c ks ≡ None = ap (λ (n : ℕ). open_at n ks) (sym (same_of_true c k at)) ∙ a.0 (at_is_open c k at) in
      absurd (some_some p (sym none ∙ h))
  | inr off ↦ found c p (pick_false (is_open_at c k) (Some k.past) (open_at c ks) off ∙ h)
]

pending_found : (l : LoneInstance) (k : LoneConnection) (ks : List LoneConnection) → AreFound l (k ∷ ks) → k.is_open ≡ true →
    pending_bytes_on l k.number ≡ pending_bytes k.past.history
pending_found l k ks found is =
    let at : is_open_at k.number k ≡ true = both_true k.is_open (k.number == k.number) is (eq-eqb k.number k.number refl) in
    ap (λ (o : Option Past). option_map_or (λ (p : Past). pending_bytes p.history) o [])
    (found k.number k.past (pick_true (is_open_at k.number k) (Some k.past) (open_at k.number ks) at))

drop_same : (n : ℕ) (xs ys : List ℕ) → n ≡ length xs → drop n (xs ++ ys) ≡ ys
drop_same n xs ys h = ap (λ (m : ℕ). drop m (xs ++ ys)) h ∙ drop-append_seam xs ys

-- what is new on an open connection
new_bytes : (s : ℕ × List ℕ) (k : LoneConnection) (f : IsFront s k) → k.is_open ≡ true →
    drop (length s.1 - count_taken k.past.history) (pending_bytes k.past.history) ≡ f.more
new_bytes s k f is =
    let n : ℕ = count_taken k.past.history in
    let split : pending_bytes k.past.history ≡ drop n s.1 ++ f.more = ap (drop n) f.bytes ∙ drop-append-le n s.1 f.more (f.within is) in
    ap (drop (length s.1 - n)) split ∙ drop_same (length s.1 - n) (drop n s.1) f.more (sym (length-drop n s.1))

more_between : (p : ℕ) (more : List ℕ) (done ss : List (ℕ × List ℕ)) (s : ℕ × List ℕ) → p ≡ length done →
    with_more_at p more (done ++ s ∷ ss) ≡ done ++ (s.0, s.1 ++ more) ∷ ss
more_between zero more [] ss s h = refl
more_between (suc p) more [] ss s h = absurd (omega (arith, h))
more_between zero more (d ∷ done) ss s h = absurd (omega (arith, h))
more_between (suc p) more (d ∷ done) ss s h = ap (λ (xs : List (ℕ × List ℕ)). d ∷ xs) (more_between p more done ss s (omega (arith, h)))

pair_is : (a b : ℕ) (xs ys : List ℕ) → a ≡ b → xs ≡ ys → ◌≡◌ {A = ℕ × List ℕ} (a, xs) (b, ys)
pair_is a b xs ys h k = cc

whole : (s : ℕ × List ℕ) (k : LoneConnection) (f : IsFront s k) → ◌≡◌ {A = ℕ × List ℕ} (s.0, s.1 ++ f.more) (sent_bytes_on k)
whole s k f = pair_is s.0 k.number (s.1 ++ f.more) (bytes_put k.past.history) f.number (sym f.bytes)

whole_closed : (s : ℕ × List ℕ) (k : LoneConnection) → IsFront s k → k.is_open ≡ false → s ≡ sent_bytes_on k
whole_closed s k f is = pair_is s.0 k.number s.1 (bytes_put k.past.history) f.number (sym (f.closed is))

push_one : (done ss : List (ℕ × List ℕ)) (s : ℕ × List ℕ) → done ++ s ∷ ss ≡ (done ++ s ∷ []) ++ ss
push_one [] ss s = refl
push_one (d ∷ done) ss s = ap (λ (xs : List (ℕ × List ℕ)). d ∷ xs) (push_one done ss s)

pub all_gathered : (l : LoneInstance) (p : ℕ) (done ss : List (ℕ × List ℕ)) (ks : List LoneConnection) → p ≡ length done → AreFronts ss ks →
    AreApart ks → AreFound l ks → sent_bytes_with_all l (known_from p ss ks) (done ++ ss) ≡ done ++ map sent_bytes_on ks
all_gathered l p done [] [] at f a found = refl
all_gathered l p done [] (k ∷ ks) at f a found = absurd f
all_gathered l p done (s ∷ ss) [] at f a found = absurd f
all_gathered l p done (s ∷ ss) (k ∷ ks) at f a found =
    let rest : List OpenRecord = known_from (p + 1) ss ks in
    let o : OpenRecord = known_value p s k in
    let all : List OpenRecord → List (ℕ × List ℕ) = λ os. sent_bytes_with_all l os (done ++ s ∷ ss) in
    let then : List (ℕ × List ℕ) → List (ℕ × List ℕ) = λ xs. sent_bytes_with_all l rest xs in
    let size : p + 1 ≡ length (done ++ sent_bytes_on k ∷ []) = omega (arith, at, length-append done (sent_bytes_on k ∷ [])) in
    let later : sent_bytes_with_all l rest ((done ++ sent_bytes_on k ∷ []) ++ ss) ≡ (done ++ sent_bytes_on k ∷ []) ++ map sent_bytes_on ks =
    all_gathered l (p + 1) (done ++ sent_bytes_on k ∷ []) ss ks size f.1 a.1 (later_found l k ks a found) in
    let after : sent_bytes_with_all l rest (done ++ sent_bytes_on k ∷ ss) ≡ done ++ map sent_bytes_on (k ∷ ks) =
    ap then (push_one done ss (sent_bytes_on k)) ∙ later ∙ sym (push_one done (map sent_bytes_on ks) (sent_bytes_on k)) in
    let between : ℕ × List ℕ → List (ℕ × List ℕ) = λ x. done ++ x ∷ ss in
    elim (cases_Bool k.is_open) [
      | inl is ↦
          let new : drop o.untaken (pending_bytes_on l o.number) ≡ f.0.more =
          ap (drop o.untaken) (pending_found l k ks found is) ∙ new_bytes s k f.0 is in
          let one : sent_bytes_with l (done ++ s ∷ ss) o ≡ done ++ sent_bytes_on k ∷ ss =
          more_between p (drop o.untaken (pending_bytes_on l o.number)) done ss s at
          ∙ ap (λ (m : List ℕ). done ++ (s.0, s.1 ++ m) ∷ ss) new ∙ ap between (whole s k f.0) in
          ap all (pick_true k.is_open (o ∷ rest) rest is) ∙ ap then one ∙ after
      | inr is ↦ ap all (pick_false k.is_open (o ∷ rest) rest is) ∙ ap then (ap between (whole_closed s k f.0 is)) ∙ after
    ]

pub all_counted : (l : LoneInstance) (p : ℕ) (ss : List (ℕ × List ℕ)) (ks : List LoneConnection) → AreFronts ss ks → AreApart ks →
    AreFound l ks → map (record_after_noting l) (known_from p ss ks) ≡ open_from p ks
all_counted l p [] [] f a found = refl
all_counted l p [] (k ∷ ks) f a found = absurd f
all_counted l p (s ∷ ss) [] f a found = absurd f
all_counted l p (s ∷ ss) (k ∷ ks) f a found =
    let rest : List OpenRecord = known_from (p + 1) ss ks in
    let o : OpenRecord = known_value p s k in
    let all : List OpenRecord → List OpenRecord = λ os. map (record_after_noting l) os in
    let later : map (record_after_noting l) rest ≡ open_from (p + 1) ks =
    all_counted l (p + 1) ss ks f.1 a.1 (later_found l k ks a found) in
    let value : List ℕ → OpenRecord = λ bytes. record { number = k.number; place = p; untaken = length bytes } in
    elim (cases_Bool k.is_open) [
      | inl is ↦
          let here : record_after_noting l o ≡ open_record p k = ap value (pending_found l k ks found is) in
          ap all (pick_true k.is_open (o ∷ rest) rest is) ∙ ap (λ (x : OpenRecord). x ∷ map (record_after_noting l) rest) here
          ∙ ap (λ (xs : List OpenRecord). open_record p k ∷ xs) later
          ∙ sym (pick_true k.is_open (open_record p k ∷ open_from (p + 1) ks) (open_from (p + 1) ks) is)
      | inr is ↦ ap all (pick_false k.is_open (o ∷ rest) rest is) ∙ later
          ∙ sym (pick_false k.is_open (open_record p k ∷ open_from (p + 1) ks) (open_from (p + 1) ks) is)
    ]
