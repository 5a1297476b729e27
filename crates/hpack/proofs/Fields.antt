-- Header fields: what is read is spelled so, and what is spelled so is read.
use Rattle.std.proofs.Common.{◌≡◌, ℕ, ◌+◌, ◌-◌, ◌<◌, ◌≤◌, false, true, cond, ltb, leb, eqb, ◌&&◌, zero, suc, List, [], ◌∷◌, ◌++◌, length, Some, Result, Ok, Err, refl, sym, ap, subst, ◌∙◌, append_assoc, arith, inl, inr}
use Rattle.std.proofs.lemmas.Bool.{ltb-false, lt-ltb, le-ltb, eqb-true}
use Rattle.std.proofs.lemmas.Bool.Decides.{nat_tests}
use Rattle.hpack.specs.declared.error.HpackError.{HpackError}
use Rattle.hpack.specs.Results.{◌>>=◌}
use Rattle.hpack.specs.Header.{Header}
use Rattle.hpack.specs.Integer.{IsInteger, integer_at}
use Rattle.hpack.specs.StringLiteral.{string_at}
use Rattle.hpack.specs.Table.{Table, table_after_insertion, header_at}
use Rattle.hpack.specs.Representation.{IsName, IsLiteral, IsIndexed, IsField, Indexed, Incremental, WithoutIndexing, NeverIndexed, entry_or_fault, name_at, literal_at, indexed_at, field_at}
use Rattle.hpack.specs.Block.{begins_update}
use Rattle.hpack.proofs.Continuations.{entry_name, chosen_name, with_value, entry_of, kept, added, refused}
use Rattle.hpack.proofs.Tools.{bind_ok, chosen, ok_is, there_is, Fronts}
use Rattle.hpack.proofs.Numbers.{integer_takes, integer_again}
use Rattle.hpack.proofs.Strings.{string_takes, string_again}

-- ---- names

name_takes : (table : Table) (flags full prefix : ℕ) (bytes : List ℕ) (x : List ℕ × List ℕ) → name_at table full prefix bytes ≡ Ok x →
    Fronts (λ front. IsName table flags full ((flags + prefix) ∷ front) x.0) bytes x.1
unfolding name_at
name_takes table flags full prefix bytes x e =
    let a = bind_ok (integer_at full prefix bytes) (chosen_name table) x e in
    let n = integer_takes flags full prefix bytes a.0 a.1 in
    elim (chosen (eqb a.0.0 0) (string_at a.0.1) (entry_name table a.0) (Ok x) a.2) [
      | inl h ↦
          let s = string_takes a.0.1 x h.1 in
          let mark : IsInteger flags full ((flags + prefix) ∷ n.front) 0 =
          subst (λ (k : ℕ). IsInteger flags full ((flags + prefix) ∷ n.front) k) (eqb-true a.0.0 0 h.0) n.holds in
          let parts : bytes ≡ (n.front ++ s.front) ++ x.1 =
          n.parts ∙ ap (λ (y : List ℕ). n.front ++ y) s.parts ∙ sym (append_assoc n.front s.front x.1) in
          record {
            front = n.front ++ s.front;
            holds =
                inr (record { mark = (flags + prefix) ∷ n.front; text = s.front; zero_index = mark; spelled = s.holds; parts = refl });
            parts = parts;
          }
      | inr h ↦
          let b = bind_ok (entry_or_fault (header_at table a.0.0)) (λ entry. Ok (entry.name, a.0.1)) x h.1 in
          let at = there_is (header_at table a.0.0) b.0 b.1 in
          subst (λ (y : List ℕ × List ℕ). Fronts (λ front. IsName table flags full ((flags + prefix) ∷ front) y.0) bytes y.1)
          (ok_is (b.0.name, a.0.1) x b.2)
          (record {
            front = n.front;
            holds = inl (record { index = a.0.0; entry = b.0; spelled = n.holds; there = at; name_is = refl });
            parts = n.parts;
          })
    ]

-- index 0 is nothing's
some_index : (table : Table) (index : ℕ) (h : Header) → header_at table index ≡ Some h → eqb index 0 ≡ false
some_index table zero h e = absurd cc
some_index table (suc i) h e = grind (arith, nat_tests)

-- what is spelled is read behind its prefix
record Named (table : Table) (flags full : ℕ) (bytes rest name : List ℕ) : Type 0 where
  prefix : ℕ
  more : List ℕ
  within : prefix ≤ full
  parts : bytes ≡ (flags + prefix) ∷ more
  read : name_at table full prefix (more ++ rest) ≡ Ok (name, rest)

name_again : (table : Table) (flags full : ℕ) (bytes rest name : List ℕ) → IsName table flags full bytes name →
    Named table flags full bytes rest name
unfolding name_at
name_again table flags full bytes rest name (inl h) =
    let p = integer_again flags full bytes rest h.index h.spelled in
    let some = some_index table h.index h.entry h.there in
    record {
      prefix = p.prefix;
      more = p.more;
      within = p.within;
      parts = p.parts;
      read =
          rw (p.read, h.there, some) (ap (λ (y : List ℕ). Ok (y, rest)) (sym h.name_is));
    }
name_again table flags full bytes rest name (inr h) =
    let p = integer_again flags full h.mark (h.text ++ rest) 0 h.zero_index in
    let whole : bytes ≡ (flags + p.prefix) ∷ (p.more ++ h.text) = h.parts ∙ ap (λ (y : List ℕ). y ++ h.text) p.parts in
    record {
      prefix = p.prefix;
      more = p.more ++ h.text;
      within = p.within;
      parts = whole;
      read =
          rw (append_assoc p.more h.text rest, p.read) (string_again h.text rest name h.spelled);
    }

-- ---- literals

literal_takes : (table : Table) (flags full prefix : ℕ) (bytes : List ℕ) (x : Header × List ℕ) → literal_at table full prefix bytes ≡ Ok x →
    Fronts (λ front. IsLiteral table flags full ((flags + prefix) ∷ front) x.0) bytes x.1
unfolding literal_at
literal_takes table flags full prefix bytes x e =
    let a = bind_ok (name_at table full prefix bytes) with_value x e in
    let b = bind_ok (string_at a.0.1) (λ value. Ok (record { name = a.0.0; value = value.0 }, value.1)) x a.2 in
    let n = name_takes table flags full prefix bytes a.0 a.1 in
    let v = string_takes a.0.1 b.0 b.1 in
    let made : Header = record { name = a.0.0; value = b.0.0 } in
    let parts : bytes ≡ (n.front ++ v.front) ++ b.0.1 =
    n.parts ∙ ap (λ (y : List ℕ). n.front ++ y) v.parts ∙ sym (append_assoc n.front v.front b.0.1) in
    subst (λ (y : Header × List ℕ). Fronts (λ front. IsLiteral table flags full ((flags + prefix) ∷ front) y.0) bytes y.1)
    (ok_is (made, b.0.1) x b.2)
    (record {
      front = n.front ++ v.front;
      holds =
          record { name = (flags + prefix) ∷ n.front; value = v.front; named = n.holds; valued = v.holds; parts = refl };
      parts = parts;
    })

record LiteralRead (table : Table) (flags full : ℕ) (bytes rest : List ℕ) (h : Header) : Type 0 where
  prefix : ℕ
  more : List ℕ
  within : prefix ≤ full
  parts : bytes ≡ (flags + prefix) ∷ more
  read : literal_at table full prefix (more ++ rest) ≡ Ok (h, rest)

literal_again : (table : Table) (flags full : ℕ) (bytes rest : List ℕ) (h : Header) → IsLiteral table flags full bytes h →
    LiteralRead table flags full bytes rest h
unfolding literal_at
literal_again table flags full bytes rest h l =
    let n = name_again table flags full l.name (l.value ++ rest) h.name l.named in
    let whole : bytes ≡ (flags + n.prefix) ∷ (n.more ++ l.value) = l.parts ∙ ap (λ (y : List ℕ). y ++ l.value) n.parts in
    record {
      prefix = n.prefix;
      more = n.more ++ l.value;
      within = n.within;
      parts = whole;
      read =
          rw (append_assoc n.more l.value rest, n.read, string_again l.value rest h.value l.valued) refl;
    }

-- ---- indices

indexed_takes : (table : Table) (prefix : ℕ) (bytes : List ℕ) (x : Header × List ℕ) → indexed_at table prefix bytes ≡ Ok x →
    Fronts (λ front. IsIndexed table ((128 + prefix) ∷ front) x.0) bytes x.1
unfolding indexed_at
indexed_takes table prefix bytes x e =
    let a = bind_ok (integer_at 127 prefix bytes) (entry_of table) x e in
    let b = bind_ok (entry_or_fault (header_at table a.0.0)) (λ entry. Ok (entry, a.0.1)) x a.2 in
    let n = integer_takes 128 127 prefix bytes a.0 a.1 in
    let at = there_is (header_at table a.0.0) b.0 b.1 in
    subst (λ (y : Header × List ℕ). Fronts (λ front. IsIndexed table ((128 + prefix) ∷ front) y.0) bytes y.1) (ok_is (b.0, a.0.1) x b.2)
    (record { front = n.front; holds = record { index = a.0.0; spelled = n.holds; there = at }; parts = n.parts })

record IndexRead (table : Table) (bytes rest : List ℕ) (h : Header) : Type 0 where
  prefix : ℕ
  more : List ℕ
  within : prefix ≤ 127
  parts : bytes ≡ (128 + prefix) ∷ more
  read : indexed_at table prefix (more ++ rest) ≡ Ok (h, rest)

indexed_again : (table : Table) (bytes rest : List ℕ) (h : Header) → IsIndexed table bytes h → IndexRead table bytes rest h
unfolding indexed_at
indexed_again table bytes rest h i =
    let p = integer_again 128 127 bytes rest i.index i.spelled in
    record { prefix = p.prefix; more = p.more; within = p.within; parts = p.parts; read = rw (p.read, i.there) refl }

-- ---- fields

abbrev Kept : Table → List ℕ → Header × Table × List ℕ → Type 0
Kept table bytes x = Fronts (λ front. IsField table front x.0 x.1) bytes x.2

-- a literal, whatever becomes of the table
literal_field : (table after : Table) (flags full b : ℕ) (bytes rest : List ℕ) (h : Header) → flags ≤ b →
    ((front : List ℕ) → IsLiteral table flags full front h → IsField table front h after)
    → Fronts (λ front. IsLiteral table flags full ((flags + (b - flags)) ∷ front) h) bytes rest → Kept table (b ∷ bytes) (h, after, rest)
literal_field table after flags full b bytes rest h le is l =
    let first : flags + (b - flags) ≡ b = omega arith in
    record {
      front = b ∷ l.front;
      holds = is (b ∷ l.front) (subst (λ (k : ℕ). IsLiteral table flags full (k ∷ l.front) h) first l.holds);
      parts = ap (λ (y : List ℕ). b ∷ y) l.parts;
    }

never_ok : (r : Result (ℕ × List ℕ) HpackError) (x : Header × Table × List ℕ) → (r >>= refused) ≡ Ok x → ⊥
never_ok (Ok n) x e = cc
never_ok (Err f) x e = cc

pub field_takes : (table : Table) (bytes : List ℕ) (x : Header × Table × List ℕ) → field_at table bytes ≡ Ok x →
    Fronts (λ front. IsField table front x.0 x.1) bytes x.2
unfolding field_at
field_takes table [] x e = absurd cc
field_takes table (b ∷ bs) x e =
    elim (chosen (ltb b 16) (literal_at table 15 b bs >>= kept table)
    (cond (ltb b 32) (literal_at table 15 (b - 16) bs >>= kept table)
    (cond (ltb b 64) (integer_at 31 (b - 32) bs >>= refused)
    (cond (ltb b 128) (literal_at table 63 (b - 64) bs >>= added table) (indexed_at table (b - 128) bs >>= kept table)))) (Ok x) e) [
      | inl h ↦
          let a = bind_ok (literal_at table 15 b bs) (kept table) x h.1 in
          let l = literal_takes table 0 15 b bs a.0 a.1 in
          let zero_less : 0 + b ≡ 0 + (b - 0) = omega arith in
          subst (Kept table (b ∷ bs)) (ok_is (a.0.0, table, a.0.1) x a.2)
          (literal_field table table 0 15 b bs a.0.1 a.0.0 (omega arith) (λ front is. WithoutIndexing is refl)
          (subst (λ (k : ℕ). Fronts (λ front. IsLiteral table 0 15 (k ∷ front) a.0.0) bs a.0.1) zero_less l))
      | inr h ↦ elim (chosen (ltb b 32) (literal_at table 15 (b - 16) bs >>= kept table)
          (cond (ltb b 64) (integer_at 31 (b - 32) bs >>= refused)
          (cond (ltb b 128) (literal_at table 63 (b - 64) bs >>= added table) (indexed_at table (b - 128) bs >>= kept table))) (Ok x) h.1) [
            | inl g ↦
                let from = ltb-false b 16 h.0 in
                let a = bind_ok (literal_at table 15 (b - 16) bs) (kept table) x g.1 in
                subst (Kept table (b ∷ bs)) (ok_is (a.0.0, table, a.0.1) x a.2)
                (literal_field table table 16 15 b bs a.0.1 a.0.0 from (λ front is. NeverIndexed is refl)
                (literal_takes table 16 15 (b - 16) bs a.0 a.1))
            | inr g ↦ elim (chosen (ltb b 64) (integer_at 31 (b - 32) bs >>= refused)
                (cond (ltb b 128) (literal_at table 63 (b - 64) bs >>= added table) (indexed_at table (b - 128) bs >>= kept table)) (Ok x) g.1) [
                  | inl f ↦ absurd (never_ok (integer_at 31 (b - 32) bs) x f.1)
                  | inr f ↦ elim (chosen (ltb b 128) (literal_at table 63 (b - 64) bs >>= added table)
                      (indexed_at table (b - 128) bs >>= kept table) (Ok x) f.1) [
                        | inl d ↦
                            let from = ltb-false b 64 f.0 in
                            let a = bind_ok (literal_at table 63 (b - 64) bs) (added table) x d.1 in
                            subst (Kept table (b ∷ bs)) (ok_is (a.0.0, table_after_insertion a.0.0 table, a.0.1) x a.2)
                            (literal_field table (table_after_insertion a.0.0 table) 64 63 b bs a.0.1 a.0.0 from (λ front is. Incremental is refl)
                            (literal_takes table 64 63 (b - 64) bs a.0 a.1))
                        | inr d ↦
                            let from = ltb-false b 128 d.0 in
                            let a = bind_ok (indexed_at table (b - 128) bs) (kept table) x d.1 in
                            let i = indexed_takes table (b - 128) bs a.0 a.1 in
                            let first : 128 + (b - 128) ≡ b = omega arith in
                            subst (Kept table (b ∷ bs)) (ok_is (a.0.0, table, a.0.1) x a.2)
                            (record {
                              front = b ∷ i.front;
                              holds = Indexed (subst (λ (k : ℕ). IsIndexed table (k ∷ i.front) a.0.0) first i.holds) refl;
                              parts = ap (λ (y : List ℕ). b ∷ y) i.parts;
                            })
                      ]
                ]
          ]
    ]

within : (a b : ℕ) → a < b → ltb a b ≡ true
within a b h = lt-ltb a b h

beyond : (a b : ℕ) → b ≤ a → ltb a b ≡ false
beyond a b h = le-ltb a b h

pub field_again : (table : Table) (bytes rest : List ℕ) (h : Header) (after : Table) → IsField table bytes h after →
    field_at table (bytes ++ rest) ≡ Ok (h, after, rest)
unfolding field_at
field_again table bytes rest h after (Indexed is same) =
    let r = indexed_again table bytes rest h is in
    let w = r.within in
    let k = r.prefix in
    let prefix : 128 + k - 128 ≡ k = omega arith in
    ap (λ (y : List ℕ). field_at table (y ++ rest)) r.parts
    ∙ rw (
      beyond (128 + k) 16 (omega arith),
      beyond (128 + k) 32 (omega arith),
      beyond (128 + k) 64 (omega arith),
      beyond (128 + k) 128
          (omega arith),
      prefix,
      r.read,
    ) (ap (λ (t : Table). Ok (h, t, rest)) (sym same))
field_again table bytes rest h after (Incremental is same) =
    let r = literal_again table 64 63 bytes rest h is in
    let w = r.within in
    let k = r.prefix in
    let prefix : 64 + k - 64 ≡ k = omega arith in
    ap (λ (y : List ℕ). field_at table (y ++ rest)) r.parts
    ∙ rw (
      beyond (64 + k) 16 (omega arith),
      beyond (64 + k) 32 (omega arith),
      beyond (64 + k) 64 (omega arith),
      within (64 + k) 128
          (omega arith),
      prefix,
      r.read,
    ) (ap (λ (t : Table). Ok (h, t, rest)) (sym same))
field_again table bytes rest h after (WithoutIndexing is same) =
    let r = literal_again table 0 15 bytes rest h is in
    let w = r.within in
    let k = r.prefix in
    let prefix : 0 + k ≡ k = omega arith in
    ap (λ (y : List ℕ). field_at table (y ++ rest)) r.parts
    ∙ rw (within (0 + k) 16 (omega arith), prefix, r.read) (ap (λ (t : Table). Ok (h, t, rest)) (sym same))
field_again table bytes rest h after (NeverIndexed is same) =
    let r = literal_again table 16 15 bytes rest h is in
    let w = r.within in
    let k = r.prefix in
    let prefix : 16 + k - 16 ≡ k = omega arith in
    ap (λ (y : List ℕ). field_at table (y ++ rest)) r.parts
    ∙ rw (beyond (16 + k) 16 (omega arith), within (16 + k) 32 (omega arith), prefix, r.read)
    (ap (λ (t : Table). Ok (h, t, rest)) (sym same))

pub some_field : (table : Table) (bytes : List ℕ) (h : Header) (after : Table) → IsField table bytes h after → 0 < length bytes
some_field table bytes h after (Indexed is same) = let n = ap (length {A = ℕ}) (indexed_again table bytes [] h is).parts in omega arith
some_field table bytes h after (Incremental is same) = let n = ap (length {A = ℕ}) (literal_again table 64 63 bytes [] h is).parts in
    omega arith
some_field table bytes h after (WithoutIndexing is same) = let n = ap (length {A = ℕ}) (literal_again table 0 15 bytes [] h is).parts in
    omega arith
some_field table bytes h after (NeverIndexed is same) = let n = ap (length {A = ℕ}) (literal_again table 16 15 bytes [] h is).parts in
    omega arith

high : (b : ℕ) → 64 ≤ b → (leb 32 b && ltb b 64) ≡ false
high b h = grind (arith, nat_tests)

low : (b : ℕ) → b < 32 → (leb 32 b && ltb b 64) ≡ false
low b h = grind (arith, nat_tests)

-- a header field does not begin as a size update does
pub field_begins : (table : Table) (bytes rest : List ℕ) (h : Header) (after : Table) → IsField table bytes h after →
    begins_update (bytes ++ rest) ≡ false
field_begins table bytes rest h after (Indexed is same) =
    let r = indexed_again table bytes rest h is in
    ap (λ (y : List ℕ). begins_update (y ++ rest)) r.parts ∙ high (128 + r.prefix) (omega arith)
field_begins table bytes rest h after (Incremental is same) =
    let r = literal_again table 64 63 bytes rest h is in
    ap (λ (y : List ℕ). begins_update (y ++ rest)) r.parts ∙ high (64 + r.prefix) (omega arith)
field_begins table bytes rest h after (WithoutIndexing is same) =
    let r = literal_again table 0 15 bytes rest h is in
    let w = r.within in
    ap (λ (y : List ℕ). begins_update (y ++ rest)) r.parts ∙ low (0 + r.prefix) (omega arith)
field_begins table bytes rest h after (NeverIndexed is same) =
    let r = literal_again table 16 15 bytes rest h is in
    let w = r.within in
    ap (λ (y : List ℕ). begins_update (y ++ rest)) r.parts ∙ low (16 + r.prefix) (omega arith)
