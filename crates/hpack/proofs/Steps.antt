-- Blocks are read step by step: more steps than octets change nothing.
use Rattle.std.proofs.Common.{◌≡◌, ℕ, zero, suc, ◌+◌, ◌-◌, ◌<◌, ◌≤◌, false, true, cond, ltb, List, [], ◌∷◌, ◌++◌, length, Result, Ok, Err, refl, sym, ap, subst, ◌∙◌, append_assoc, append-nil, arith}
use Rattle.std.proofs.lemmas.Bool.{ltb-false, lt-ltb, le-ltb}
use Rattle.std.proofs.lemmas.Bool.Decides.{nat_tests}
use Rattle.std.proofs.lemmas.List.{length-append}
use Rattle.hpack.specs.declared.error.HpackError.{HpackError}
use Rattle.hpack.specs.declared.error.HpackError.TheVariants.{Index, Integer, String as TooShort, Huffman, SizeUpdate, ListTooLarge, NoMemory, Failed}
use Rattle.hpack.specs.Results.{◌>>=◌, Fails}
use Rattle.hpack.specs.Header.{Header, size_of}
use Rattle.hpack.specs.Integer.{IsInteger, integer_at}
use Rattle.hpack.specs.Table.{Table, largest_table, table_after_resize}
use Rattle.hpack.specs.Representation.{field_at}
use Rattle.hpack.specs.Block.{begins_update, update_at, updates_in, updates_of, fields_in, fields_of}
use Rattle.hpack.proofs.Continuations.{checked, put_first}
use Rattle.hpack.proofs.Tools.{bind_ok, passed, ok_is, Fronts}
use Rattle.hpack.proofs.Numbers.{integer_takes}
use Rattle.hpack.proofs.Fields.{field_takes, some_field}

-- ---- size updates

begins_from : (b : ℕ) (bs : List ℕ) → begins_update (b ∷ bs) ≡ true → 32 ≤ b
begins_from b bs h = grind (arith, nat_tests)

pub update_takes : (bytes : List ℕ) (x : ℕ × List ℕ) → begins_update bytes ≡ true → update_at bytes ≡ Ok x →
    (x.0 ≤ largest_table) × Fronts (λ front. IsInteger 32 31 front x.0) bytes x.1
update_takes [] x begins e = absurd cc
update_takes (b ∷ bs) x begins e =
    let from = begins_from b bs begins in
    let a = bind_ok (integer_at 31 (b - 32) bs) checked x e in
    let p = passed (ltb largest_table a.0.0) SizeUpdate (Ok a.0) x a.2 in
    let t = integer_takes 32 31 (b - 32) bs a.0 a.1 in
    let first : 32 + (b - 32) ≡ b = omega arith in
    subst (λ (y : ℕ × List ℕ). (y.0 ≤ largest_table) × Fronts (λ front. IsInteger 32 31 front y.0) (b ∷ bs) y.1) (ok_is a.0 x p.1) (
      ltb-false largest_table a.0.0 p.0,
      record {
        front = b ∷ t.front;
        holds =
            subst (λ (k : ℕ). IsInteger 32 31 (k ∷ t.front) a.0.0) first t.holds;
        parts = ap (λ (y : List ℕ). b ∷ y) t.parts;
      },
    )

pub update_shrinks : (bytes : List ℕ) (x : ℕ × List ℕ) → update_at bytes ≡ Ok x → length x.1 < length bytes
update_shrinks [] x e = absurd cc
update_shrinks (b ∷ bs) x e =
    let a = bind_ok (integer_at 31 (b - 32) bs) checked x e in
    let p = passed (ltb largest_table a.0.0) SizeUpdate (Ok a.0) x a.2 in
    let t = integer_takes 32 31 (b - 32) bs a.0 a.1 in
    let all = ap (length {A = ℕ}) t.parts in
    subst (λ (y : ℕ × List ℕ). length y.1 < length (b ∷ bs)) (ok_is a.0 x p.1) (omega (arith, length-append t.front a.0.1))

updates_more : (j k : ℕ) (table : Table) (t : List ℕ) → length t ≤ j → length t ≤ k → updates_in j table t ≡ updates_in k table t
unfolding updates_in
updates_more zero zero table t p q = refl
updates_more zero (suc k) table [] p q = refl
updates_more (suc j) zero table [] p q = refl
updates_more (suc j) (suc k) table [] p q = refl
updates_more zero (suc k) table (b ∷ bs) p q = absurd (omega arith)
updates_more (suc j) zero table (b ∷ bs) p q = absurd (omega arith)
updates_more (suc j) (suc k) table (b ∷ bs) p q =
    ap (λ (r : Result (Table × List ℕ) HpackError). cond (begins_update (b ∷ bs)) r (Ok (table, b ∷ bs)))
    (go (update_at (b ∷ bs)) refl (λ after u le₁ le₂. updates_more j k after u le₁ le₂)) where
      go : (r : Result (ℕ × List ℕ) HpackError) → update_at (b ∷ bs) ≡ r →
          ((after : Table) (u : List ℕ) → length u ≤ j → length u ≤ k → updates_in j after u ≡ updates_in k after u) →
          (r >>= λ m. updates_in j (table_after_resize m.0 table) m.1) ≡ (r >>= λ m. updates_in k (table_after_resize m.0 table) m.1)
      go (Err e) h same = refl
      go (Ok x) h same = let shorter = update_shrinks (b ∷ bs) x h in same (table_after_resize x.0 table) x.1 (omega arith) (omega arith)

updates_step : (table : Table) (t : List ℕ) → updates_of table t
    ≡ cond (begins_update t) (update_at t >>= λ m. updates_of (table_after_resize m.0 table) m.1) (Ok (table, t))
unfolding updates_in
updates_step table [] = refl
updates_step table (b ∷ bs) = ap (λ (r : Result (Table × List ℕ) HpackError). cond (begins_update (b ∷ bs)) r (Ok (table, b ∷ bs)))
    (go (update_at (b ∷ bs)) refl) where
      go : (r : Result (ℕ × List ℕ) HpackError) → update_at (b ∷ bs) ≡ r →
          (r >>= λ m. updates_in (length bs) (table_after_resize m.0 table) m.1)
          ≡ (r >>= λ m. updates_in (length m.1) (table_after_resize m.0 table) m.1)
      go (Err e) h = refl
      go (Ok x) h = let shorter = update_shrinks (b ∷ bs) x h in
          updates_more (length bs) (length x.1) (table_after_resize x.0 table) x.1 (omega arith) (omega arith)

pub updates_go : (table : Table) (t : List ℕ) → begins_update t ≡ true →
    updates_of table t ≡ (update_at t >>= λ m. updates_of (table_after_resize m.0 table) m.1)
updates_go table t begins = updates_step table t ∙ rw begins refl

pub updates_stop : (table : Table) (t : List ℕ) → begins_update t ≡ false → updates_of table t ≡ Ok (table, t)
updates_stop table t other = updates_step table t ∙ rw other refl

-- ---- header fields

pub field_shrinks : (table : Table) (bytes : List ℕ) (x : Header × Table × List ℕ) → field_at table bytes ≡ Ok x → length x.2 < length bytes
field_shrinks table bytes x e =
    let t = field_takes table bytes x e in
    let some = some_field table t.front x.0 x.1 t.holds in
    let all = ap (length {A = ℕ}) t.parts in
    omega (arith, length-append t.front x.2)

fields_more : (j k : ℕ) (room : ℕ) (table : Table) (t : List ℕ) → length t ≤ j → length t ≤ k →
    fields_in j room table t ≡ fields_in k room table t
unfolding fields_in
fields_more zero zero room table [] p q = refl
fields_more zero (suc k) room table [] p q = refl
fields_more (suc j) zero room table [] p q = refl
fields_more (suc j) (suc k) room table [] p q = refl
fields_more zero k room table (b ∷ bs) p q = absurd (omega arith)
fields_more (suc j) zero room table (b ∷ bs) p q = absurd (omega arith)
fields_more (suc j) (suc k) room table (b ∷ bs) p q =
    go (field_at table (b ∷ bs)) refl (λ left after u le₁ le₂. fields_more j k left after u le₁ le₂) where
      go : (r : Result (Header × Table × List ℕ) HpackError) → field_at table (b ∷ bs) ≡ r →
          ((left : ℕ) (after : Table) (u : List ℕ) → length u ≤ j → length u ≤ k → fields_in j left after u ≡ fields_in k left after u)
          → (r >>= λ f. cond (ltb room (size_of f.0)) (Err ListTooLarge) (put_first f.0 (fields_in j (room - size_of f.0) f.1 f.2)))
          ≡ (r >>= λ f. cond (ltb room (size_of f.0)) (Err ListTooLarge) (put_first f.0 (fields_in k (room - size_of f.0) f.1 f.2)))
      go (Err e) h same = refl
      go (Ok x) h same = let shorter = field_shrinks table (b ∷ bs) x h in
          ap (λ (others : Result (List Header × Table) HpackError). cond (ltb room (size_of x.0)) (Err ListTooLarge) (put_first x.0 others))
          (same (room - size_of x.0) x.1 x.2 (omega arith) (omega arith))

pub fields_step : (room : ℕ) (table : Table) (b : ℕ) (bs : List ℕ) →
    fields_of room table (b ∷ bs) ≡ (field_at table (b ∷ bs) >>= λ f. cond (ltb room (size_of f.0)) (Err ListTooLarge)
    (put_first f.0 (fields_of (room - size_of f.0) f.1 f.2)))
unfolding fields_in
fields_step room table b bs = go (field_at table (b ∷ bs)) refl where
  go : (r : Result (Header × Table × List ℕ) HpackError) → field_at table (b ∷ bs) ≡ r →
      (r >>= λ f. cond (ltb room (size_of f.0)) (Err ListTooLarge) (put_first f.0 (fields_in (length bs) (room - size_of f.0) f.1 f.2)))
      ≡ (r >>= λ f. cond (ltb room (size_of f.0)) (Err ListTooLarge) (put_first f.0 (fields_in (length f.2) (room - size_of f.0) f.1 f.2)))
  go (Err e) h = refl
  go (Ok x) h = let shorter = field_shrinks table (b ∷ bs) x h in
      ap (λ (others : Result (List Header × Table) HpackError). cond (ltb room (size_of x.0)) (Err ListTooLarge) (put_first x.0 others))
      (fields_more (length bs) (length x.2) (room - size_of x.0) x.1 x.2 (omega arith) (omega arith))

pub fields_go : (room : ℕ) (table : Table) (t : List ℕ) → 0 < length t →
    fields_of room table t ≡ (field_at table t >>= λ f. cond (ltb room (size_of f.0)) (Err ListTooLarge)
    (put_first f.0 (fields_of (room - size_of f.0) f.1 f.2)))
fields_go room table [] some = absurd (omega arith)
fields_go room table (b ∷ bs) some = fields_step room table b bs

pub fields_none : (room : ℕ) (table : Table) → fields_of room table [] ≡ Ok ([], table)
unfolding fields_in
fields_none room table = refl

-- ---- what remains to be read after some fields

abbrev pub after_front : List Header → Result (List Header × Table) HpackError → Result (List Header × Table) HpackError
after_front front others = others >>= λ x. Ok (front ++ x.0, x.1)

regrouped : (front : List Header) (h : Header) (others : Result (List Header × Table) HpackError) →
    after_front front (put_first h others) ≡ after_front (front ++ h ∷ []) others
regrouped front h (Ok x) = ap (λ (y : List Header). Ok (y, x.1)) (sym (append_assoc front (h ∷ []) x.0))
regrouped front h (Err e) = refl

pub fields_push : (front : List Header) (room left : ℕ) (table after : Table) (t rest : List ℕ) (h : Header) → 0 < length t →
    field_at table t ≡ Ok (h, after, rest) → size_of h ≤ room → left ≡ room - size_of h
    → after_front front (fields_of room table t) ≡ after_front (front ++ h ∷ []) (fields_of left after rest)
fields_push front room left table after t rest h some read fits is =
    let test : ltb room (size_of h) ≡ false = le-ltb room (size_of h) fits in
    ap (after_front front) (fields_go room table t some ∙ rw (read, test) refl)
    ∙ regrouped front h (fields_of (room - size_of h) after rest)
    ∙ ap (λ (n : ℕ). after_front (front ++ h ∷ []) (fields_of n after rest)) (sym is)

pub fields_over : (front : List Header) (room : ℕ) (table after : Table) (t rest : List ℕ) (h : Header) → 0 < length t →
    field_at table t ≡ Ok (h, after, rest) → room < size_of h → after_front front (fields_of room table t) ≡ Err ListTooLarge
fields_over front room table after t rest h some read over =
    let test : ltb room (size_of h) ≡ true = lt-ltb room (size_of h) over in
    let same : fields_of room table t ≡ Err ListTooLarge = fields_go room table t some ∙ rw (read, test) refl in
    ap (after_front front) same

pub fields_fault : (front : List Header) (room : ℕ) (table : Table) (t : List ℕ) (e : HpackError) → 0 < length t →
    field_at table t ≡ Err e → after_front front (fields_of room table t) ≡ Err e
fields_fault front room table t e some fault =
    let same : fields_of room table t ≡ Err e = fields_go room table t some ∙ rw fault refl in
    ap (after_front front) same

pub fields_done : (front : List Header) (room : ℕ) (table : Table) (t : List ℕ) → length t ≡ 0 →
    after_front front (fields_of room table t) ≡ Ok (front, table)
fields_done front room table [] none = ap (after_front front) (fields_none room table)
    ∙ ap (λ (y : List Header). Ok (y, table)) (append-nil front)
fields_done front room table (b ∷ bs) none = absurd (omega arith)

-- the same of a fault that may be for want of memory
pub fields_fail : (front : List Header) (room : ℕ) (table : Table) (t : List ℕ) (e : HpackError)
    (whole : Result (List Header × Table) HpackError) → 0 < length t → Fails e (field_at table t) →
    after_front front (fields_of room table t) ≡ whole → Fails e whole
fields_fail front room table t Index whole some f is = sym is ∙ fields_fault front room table t Index some f
fields_fail front room table t Integer whole some f is = sym is ∙ fields_fault front room table t Integer some f
fields_fail front room table t TooShort whole some f is = sym is ∙ fields_fault front room table t TooShort some f
fields_fail front room table t Huffman whole some f is = sym is ∙ fields_fault front room table t Huffman some f
fields_fail front room table t SizeUpdate whole some f is = sym is ∙ fields_fault front room table t SizeUpdate some f
fields_fail front room table t ListTooLarge whole some f is = sym is ∙ fields_fault front room table t ListTooLarge some f
fields_fail front room table t NoMemory whole some f is = tt
fields_fail front room table t Failed whole some f is = sym is ∙ fields_fault front room table t Failed some f
