-- What was written on connections is a front of what an instance put.
use Rattle.std.proofs.Common.{◌≡◌, ℕ, ◌+◌, List, [], ◌∷◌, ◌++◌, map, length, take, drop, refl, ap, ◌∙◌, sym, subst, arith, inl, inr, append-nil, append_assoc, length-append}
use Rattle.std.specs.Prelude.{◌⊎◌, ◌==◌, ◌&&◌, ◌||◌, not, Bool, true, false, cond, sum_by, Some, None}
use Rattle.std.specs.List.{flat_map}
use Rattle.std.specs.Io.{StartsWith}
use Rattle.std.proofs.lemmas.Bool.{cases_Bool, true≢false, eqb-true, eq-eqb, ne_eqb}
use Rattle.std.proofs.lemmas.Option.{none-some, same_Some}
use Rattle.std.proofs.Math.Seq.{drop-append_seam}
use Rattle.std.proofs.lemmas.List.{take-append-drop}
use Rattle.std.proofs.lemmas.List.Folds.{list_any-append}
use Rattle.std.proofs.lemmas.List.Sums.{sum_by-append}
use Rattle.std.proofs.lemmas.List.Elements.{filter_map-append}
use Rattle.std.proofs.lemmas.Grind.{flat_map-append}
use Rattle.served_instance.specs.Writing.{text_of}
use Rattle.served_instance.specs.History.{Entry, Took, sent_frames, frame_out}
use Rattle.served_instance.specs.Bytes.{bytes_put, count_taken, count_taken_by, pending_bytes}
use Rattle.served_instance.specs.Past.{Past, new_past, with_taken}
use Rattle.served_instance.proofs.Greeting.{nothing_taken}
use Rattle.served_instance.specs.Connections.{LoneConnection, is_open_at, open_at, at_open, with_closed, all_closed}
use Rattle.served_instance.specs.Lone.{sent_bytes_on}
use Rattle.served_instance.proofs.Growth.{HasGrown, AreGrown, at_is_open}
use Rattle.serve.specs.Did.{is_among, with_written, AreFronts}

-- ---- tests

pick_true : {A : Type 0} (b : Bool) (x y : A) → b ≡ true → cond b x y ≡ x
pick_true true x y h = refl
pick_true false x y h = absurd (true≢false (sym h))

pick_false : {A : Type 0} (b : Bool) (x y : A) → b ≡ false → cond b x y ≡ y
pick_false true x y h = absurd (true≢false h)
pick_false false x y h = refl

both_true : (a b : Bool) → a ≡ true → b ≡ true → (a && b) ≡ true
both_true true b h k = k
both_true false b h k = absurd (true≢false (sym h))

second_true : (a b : Bool) → (a && b) ≡ true → b ≡ true
second_true true b h = h
second_true false b h = absurd (true≢false (sym h))

second_false : (a b : Bool) → a ≡ true → (a && b) ≡ false → b ≡ false
second_false true b h k = k
second_false false b h k = absurd (true≢false (sym h))

not_both : (a b : Bool) → b ≡ true → (a && not b) ≡ false
not_both true true h = refl
not_both true false h = absurd (true≢false (sym h))
not_both false b h = refl

or_left : (a b : Bool) → a ≡ true → (a || b) ≡ true
or_left true b h = refl
or_left false b h = absurd (true≢false (sym h))

or_right : (a b : Bool) → b ≡ true → (a || b) ≡ true
or_right true b h = refl
or_right false b h = h

record NoneAt (c : ℕ) (k : LoneConnection) (ks : List LoneConnection) : Type 0 where
  here : is_open_at c k ≡ false
  later : open_at c ks ≡ None

none_if : (c : ℕ) (k : LoneConnection) (ks : List LoneConnection) (b : Bool) → is_open_at c k ≡ b →
    cond b (Some k.past) (open_at c ks) ≡ None → NoneAt c k ks
none_if c k ks true at h = absurd (none-some k.past (sym h))
none_if c k ks false off h = record { here = off; later = h }

none_at : (c : ℕ) (k : LoneConnection) (ks : List LoneConnection) → open_at c (k ∷ ks) ≡ None → NoneAt c k ks
none_at c k ks h = none_if c k ks (is_open_at c k) refl h

-- ---- one connection

abbrev pub Written : Type 0
Written = ℕ × List ℕ

-- what was written on a connection is what was taken of it, and while it is open no other was
-- accepted under its number
pub record IsWrittenOn (w : Written) (ws : List Written) (k : LoneConnection) : Type 0 where
  pub number : w.0 ≡ k.number
  pub more : List ℕ
  pub bytes : bytes_put k.past.history ≡ w.1 ++ more
  pub taken : count_taken k.past.history ≡ length w.1
  pub last : k.is_open ≡ true → is_among k.number ws ≡ false

-- of the connections that were accepted an instance has these; on others nothing was written
abbrev pub Fits : List Written → List LoneConnection → Type 0
Fits [] [] = Unit {0}
Fits [] (k ∷ ks) = ⊥
Fits (w ∷ ws) [] = (w.1 ≡ []) × Fits ws []
Fits (w ∷ ws) (k ∷ ks) = ((w.1 ≡ []) × Fits ws (k ∷ ks)) ⊎ (IsWrittenOn w ws k × Fits ws ks)

skipped : (w : Written) (ws : List Written) (ks : List LoneConnection) → w.1 ≡ [] → Fits ws ks → Fits (w ∷ ws) ks
skipped w ws [] none f = (none, f)
skipped w ws (k ∷ ks) none f = inl (none, f)

fits_open : (c : ℕ) (p : Past) (ws : List Written) (ks : List LoneConnection) → Fits ws ks → open_at c ks ≡ Some p → is_among c ws ≡ true
fits_open c p [] [] f at = absurd (none-some p at)
fits_open c p [] (k ∷ ks) f at = absurd f
fits_open c p (w ∷ ws) [] f at = absurd (none-some p at)
fits_open c p (w ∷ ws) (k ∷ ks) f at = elim f [
  | inl skip ↦ or_right (w.0 == c) (is_among c ws) (fits_open c p ws (k ∷ ks) skip.1 at)
  | inr is ↦ elim (cases_Bool (is_open_at c k)) [
    | inl here ↦ or_left (w.0 == c) (is_among c ws) (ap (λ (n : ℕ). n == c) is.0.number ∙ second_true k.is_open (k.number == c) here)
    | inr off ↦ or_right (w.0 == c) (is_among c ws)
        (fits_open c p ws ks is.1 (sym (pick_false (is_open_at c k) (Some k.past) (open_at c ks) off) ∙ at))
  ]
]

bytes_both : (d es : List Entry) → bytes_put (d ++ es) ≡ bytes_put d ++ bytes_put es
bytes_both d es = ap (flat_map text_of) (filter_map-append frame_out d es) ∙ flat_map-append text_of (sent_frames d) (sent_frames es)

-- ---- histories grow

is_grown : (w : Written) (ws : List Written) (k m : LoneConnection) → HasGrown k m → IsWrittenOn w ws k → IsWrittenOn w ws m
is_grown w ws k m g is = record {
  number = is.number ∙ sym g.number;
  more = is.more ++ bytes_put g.past.more;
  bytes = ap bytes_put g.past.history ∙ bytes_both k.past.history g.past.more ∙ ap (λ (bs : List ℕ). bs ++ bytes_put g.past.more) is.bytes
      ∙ append_assoc w.1 is.more (bytes_put g.past.more);
  taken = ap count_taken g.past.history ∙ sum_by-append count_taken_by k.past.history g.past.more ∙ omega (arith, g.past.quiet, is.taken);
  last = λ open_still. subst (λ (n : ℕ). is_among n ws ≡ false) (sym g.number) (is.last (sym g.is_open ∙ open_still));
}

pub fits_grown : (ws : List Written) (ks ms : List LoneConnection) → AreGrown ks ms → Fits ws ks → Fits ws ms
fits_grown [] [] [] g f = tt
fits_grown [] [] (m ∷ ms) g f = absurd g
fits_grown [] (k ∷ ks) ms g f = absurd f
fits_grown (w ∷ ws) [] [] g f = (f.0, fits_grown ws [] [] g f.1)
fits_grown (w ∷ ws) [] (m ∷ ms) g f = absurd g
fits_grown (w ∷ ws) (k ∷ ks) [] g f = absurd g
fits_grown (w ∷ ws) (k ∷ ks) (m ∷ ms) g f = elim f [
  | inl skip ↦ inl (skip.0, fits_grown ws (k ∷ ks) (m ∷ ms) g skip.1)
  | inr is ↦ inr (is_grown w ws k m g.0 is.0, fits_grown ws ks ms g.1 is.1)
]

-- ---- connections close

abbrev shut_one : LoneConnection → LoneConnection
shut_one k = record k { is_open = false }

is_closed : (w : Written) (ws : List Written) (k : LoneConnection) → IsWrittenOn w ws k → IsWrittenOn w ws (shut_one k)
is_closed w ws k is = record {
  number = is.number;
  more = is.more;
  bytes = is.bytes;
  taken = is.taken;
  last =
      λ open_still. absurd (true≢false (sym open_still));
}

closed_if : (b : Bool) (w : Written) (ws : List Written) (k : LoneConnection) (ks ms : List LoneConnection) → IsWrittenOn w ws k →
    Fits ws ks → Fits ws ms → Fits (w ∷ ws) (cond b (shut_one k ∷ ks) (k ∷ ms))
closed_if true w ws k ks ms is f g = inr (is_closed w ws k is, f)
closed_if false w ws k ks ms is f g = inr (is, g)

pub fits_closed : (c : ℕ) (ws : List Written) (ks : List LoneConnection) → Fits ws ks → Fits ws (with_closed c ks)
fits_closed c [] [] f = tt
fits_closed c [] (k ∷ ks) f = absurd f
fits_closed c (w ∷ ws) [] f = (f.0, fits_closed c ws [] f.1)
fits_closed c (w ∷ ws) (k ∷ ks) f = elim f [
  | inl skip ↦ skipped w ws (with_closed c (k ∷ ks)) skip.0 (fits_closed c ws (k ∷ ks) skip.1)
  | inr is ↦ closed_if (is_open_at c k) w ws k ks (with_closed c ks) is.0 is.1 (fits_closed c ws ks is.1)
]

pub fits_all_closed : (ws : List Written) (ks : List LoneConnection) → Fits ws ks → Fits ws (all_closed ks)
fits_all_closed [] [] f = tt
fits_all_closed [] (k ∷ ks) f = absurd f
fits_all_closed (w ∷ ws) [] f = (f.0, fits_all_closed ws [] f.1)
fits_all_closed (w ∷ ws) (k ∷ ks) f = elim f [
  | inl skip ↦ inl (skip.0, fits_all_closed ws (k ∷ ks) skip.1)
  | inr is ↦ inr (is_closed w ws k is.0, fits_all_closed ws ks is.1)
]

-- ---- one more is accepted

not_equal : (b c : ℕ) → (b == c) ≡ false → (c == b) ≡ false
not_equal b c h = ne_eqb c b (λ same. true≢false (sym (eq-eqb b c (sym same)) ∙ h))

more_after : (c : ℕ) (w : Written) (ws : List Written) (k : LoneConnection) → is_open_at c k ≡ false → IsWrittenOn w ws k →
    IsWrittenOn w (ws ++ (c, []) ∷ []) k
more_after c w ws k off is = record {
  number = is.number;
  more = is.more;
  bytes = is.bytes;
  taken = is.taken;
  last = λ open_still.
      list_any-append (λ (x : Written). x.0 == k.number) ws ((c, []) ∷ [])
      ∙ ap (λ (b : Bool). b || ((c == k.number) || false)) (is.last open_still)
      ∙ ap (λ (b : Bool). b || false) (not_equal k.number c (second_false k.is_open (k.number == c) open_still off));
}

-- .. and refused
pub fits_refused : (c : ℕ) (ws : List Written) (ks : List LoneConnection) → open_at c ks ≡ None → Fits ws ks → Fits (ws ++ (c, []) ∷ []) ks
fits_refused c [] [] none f = (refl, tt)
fits_refused c [] (k ∷ ks) none f = absurd f
fits_refused c (w ∷ ws) [] none f = (f.0, fits_refused c ws [] none f.1)
fits_refused c (w ∷ ws) (k ∷ ks) none f = elim f [
  | inl skip ↦ inl (skip.0, fits_refused c ws (k ∷ ks) none skip.1)
  | inr is ↦ inr (more_after c w ws k (none_at c k ks none).here is.0, fits_refused c ws ks (none_at c k ks none).later is.1)
]

abbrev new_at : ℕ → ℕ → LoneConnection
new_at window c = record { number = c; past = new_past window; is_open = true }

first_at : (window c : ℕ) → IsWrittenOn (c, []) [] (new_at window c)
first_at window c = let none = nothing_taken window in
    record { number = refl; more = bytes_put (new_past window).history; bytes = refl; taken = omega (arith, none); last = λ is. refl }

pub fits_opened : (window c : ℕ) (ws : List Written) (ks : List LoneConnection) → open_at c ks ≡ None → Fits ws ks →
    Fits (ws ++ (c, []) ∷ []) (ks ++ new_at window c ∷ [])
fits_opened window c [] [] none f = inr (first_at window c, tt)
fits_opened window c [] (k ∷ ks) none f = absurd f
fits_opened window c (w ∷ ws) [] none f = inl (f.0, fits_opened window c ws [] none f.1)
fits_opened window c (w ∷ ws) (k ∷ ks) none f = elim f [
  | inl skip ↦ inl (skip.0, fits_opened window c ws (k ∷ ks) none skip.1)
  | inr is ↦ inr (more_after c w ws k (none_at c k ks none).here is.0, fits_opened window c ws ks (none_at c k ks none).later is.1)
]

-- ---- bytes are written

parted_at : (n : ℕ) (xs : List ℕ) → xs ≡ take n xs ++ drop n xs
parted_at n xs = sym (take-append-drop n xs)

taken_here : (bytes : List ℕ) (w : Written) (ws : List Written) (k : LoneConnection) → StartsWith (pending_bytes k.past.history) bytes →
    IsWrittenOn w ws k → IsWrittenOn (w.0, w.1 ++ bytes) ws (record k { past = with_taken k.past (length bytes) })
taken_here bytes w ws k starts is =
    let d : List Entry = k.past.history in
    let n : ℕ = length bytes in
    let waits : pending_bytes d ≡ is.more = ap (λ (m : ℕ). drop m (bytes_put d)) is.taken ∙ ap (drop (length w.1)) is.bytes
    ∙ drop-append_seam w.1 is.more in
    let front : take n is.more ≡ bytes = ap (take n) (sym waits) ∙ starts in
    let whole : is.more ≡ bytes ++ drop n is.more = parted_at n is.more ∙ ap (λ (bs : List ℕ). bs ++ drop n is.more) front in
    record {
      number = is.number;
      more = drop n is.more;
      bytes = bytes_both d (Took n ∷ []) ∙ append-nil (bytes_put d) ∙ is.bytes ∙ ap (λ (bs : List ℕ). w.1 ++ bs) whole
          ∙ sym (append_assoc w.1 bytes (drop n is.more));
      taken = took_more d n ∙ omega (arith, is.taken, length-append w.1 bytes);
      last = is.last;
    }
  where
    took_more : (d : List Entry) (n : ℕ) → count_taken (d ++ Took n ∷ []) ≡ count_taken d + n
    took_more d n = sum_by-append count_taken_by d (Took n ∷ [])
        ∙ (let e : sum_by count_taken_by (Took n ∷ []) ≡ n = omega arith in omega (arith, e))

among_if : (d c : ℕ) (bytes : List ℕ) (b : Bool) (w : Written) (ws xs : List Written) → is_among d xs ≡ is_among d ws →
    is_among d (cond b ((w.0, w.1 ++ bytes) ∷ ws) (w ∷ xs)) ≡ is_among d (w ∷ ws)
among_if d c bytes true w ws xs same = refl
among_if d c bytes false w ws xs same = ap (λ (t : Bool). (w.0 == d) || t) same

among_same : (d c : ℕ) (bytes : List ℕ) (ws : List Written) → is_among d (with_written c bytes ws) ≡ is_among d ws
among_same d c bytes [] = refl
among_same d c bytes (w ∷ ws) = among_if d c bytes ((w.0 == c) && not (is_among c ws)) w ws (with_written c bytes ws)
    (among_same d c bytes ws)

is_elsewhere : (c : ℕ) (bytes : List ℕ) (w : Written) (ws : List Written) (k : LoneConnection) → IsWrittenOn w ws k →
    IsWrittenOn w (with_written c bytes ws) k
is_elsewhere c bytes w ws k is = record {
  number = is.number;
  more = is.more;
  bytes = is.bytes;
  taken = is.taken;
  last =
      λ open_still. among_same k.number c bytes ws ∙ is.last open_still;
}

-- it is not this one
passed_over : (c : ℕ) (bytes : List ℕ) (w : Written) (ws : List Written) → is_among c ws ≡ true →
    with_written c bytes (w ∷ ws) ≡ w ∷ with_written c bytes ws
passed_over c bytes w ws among = pick_false ((w.0 == c) && not (is_among c ws)) ((w.0, w.1 ++ bytes) ∷ ws) (w ∷ with_written c bytes ws)
    (not_both (w.0 == c) (is_among c ws) among)

pub fits_taken : (c : ℕ) (bytes : List ℕ) (p : Past) (ws : List Written) (ks : List LoneConnection) → open_at c ks ≡ Some p →
    StartsWith (pending_bytes p.history) bytes → Fits ws ks →
    Fits (with_written c bytes ws) (at_open c (λ q. with_taken q (length bytes)) ks)
fits_taken c bytes p [] [] at starts f = absurd (none-some p at)
fits_taken c bytes p [] (k ∷ ks) at starts f = absurd f
fits_taken c bytes p (w ∷ ws) [] at starts f = absurd (none-some p at)
fits_taken c bytes p (w ∷ ws) (k ∷ ks) at starts f =
    let step : Past → Past = λ q. with_taken q (length bytes) in
    let now : LoneConnection = record k { past = step k.past } in
    elim f [
      | inl skip ↦
          subst (λ (xs : List Written). Fits xs (at_open c step (k ∷ ks)))
          (sym (passed_over c bytes w ws (fits_open c p ws (k ∷ ks) skip.1 at)))
          (skipped w (with_written c bytes ws) (at_open c step (k ∷ ks)) skip.0 (fits_taken c bytes p ws (k ∷ ks) at starts skip.1))
      | inr is ↦ elim (cases_Bool (is_open_at c k)) [
        | inl here ↦
            let is_open : k.is_open ≡ true = at_is_open c k here in
            let same : (k.number == c) ≡ true = second_true k.is_open (k.number == c) here in
            let number : (w.0 == c) ≡ true = ap (λ (n : ℕ). n == c) is.0.number ∙ same in
            let none : is_among c ws ≡ false = subst (λ (n : ℕ). is_among n ws ≡ false) (eqb-true k.number c same) (is.0.last is_open) in
            let past : k.past ≡ p = same_Some k.past p (sym (pick_true (is_open_at c k) (Some k.past) (open_at c ks) here) ∙ at) in
            let first : with_written c bytes (w ∷ ws) ≡ (w.0, w.1 ++ bytes) ∷ ws =
            pick_true ((w.0 == c) && not (is_among c ws)) ((w.0, w.1 ++ bytes) ∷ ws) (w ∷ with_written c bytes ws)
            (both_true (w.0 == c) (not (is_among c ws)) number (ap not none)) in
            let it : Fits ((w.0, w.1 ++ bytes) ∷ ws) (now ∷ ks) =
            inr (
              taken_here bytes w ws k (subst (λ (q : Past). StartsWith (pending_bytes q.history) bytes) (sym past) starts) is.0,
              is.1,
            ) in
            subst (λ (xs : List Written). Fits xs (at_open c step (k ∷ ks))) (sym first)
            (subst (λ (ms : List LoneConnection). Fits ((w.0, w.1 ++ bytes) ∷ ws) ms)
            (sym (pick_true (is_open_at c k) (now ∷ ks) (k ∷ at_open c step ks) here)) it)
        | inr off ↦
            let there : open_at c ks ≡ Some p = sym (pick_false (is_open_at c k) (Some k.past) (open_at c ks) off) ∙ at in
            let it : Fits (w ∷ with_written c bytes ws) (k ∷ at_open c step ks) =
            inr (is_elsewhere c bytes w ws k is.0, fits_taken c bytes p ws ks there starts is.1) in
            subst (λ (xs : List Written). Fits xs (at_open c step (k ∷ ks)))
            (sym (passed_over c bytes w ws (fits_open c p ws ks is.1 there)))
            (subst (λ (ms : List LoneConnection). Fits (w ∷ with_written c bytes ws) ms)
            (sym (pick_false (is_open_at c k) (now ∷ ks) (k ∷ at_open c step ks) off)) it)
      ]
    ]

-- ---- at the end

pub fits_fronts : (ws : List Written) (ks : List LoneConnection) → Fits ws ks → AreFronts ws (map sent_bytes_on ks)
fits_fronts [] [] f = tt
fits_fronts [] (k ∷ ks) f = absurd f
fits_fronts (w ∷ ws) [] f = (f.0, fits_fronts ws [] f.1)
fits_fronts (w ∷ ws) (k ∷ ks) f = elim f [
  | inl skip ↦ inl (skip.0, fits_fronts ws (k ∷ ks) skip.1)
  | inr is ↦ inr (record { number = is.0.number; more = is.0.more; bytes = is.0.bytes }, fits_fronts ws ks is.1)
]
