-- What the encoder writes is a block.
use Rattle.std.proofs.Common.{◌≡◌, ◌⊎◌, ℕ, suc, ◌+◌, ◌-◌, ◌^◌, ◌<◌, ◌≤◌, false, true, Bool, cond, ltb, leb, eqb, ◌&&◌, List, [], ◌∷◌, ◌++◌, length, slice_get, Some, Ok, refl, sym, ap, subst, ◌∙◌, codes, arith, inl, inr}
use Rattle.std.proofs.lemmas.Bool.{lt-ltb, le-ltb, lt-leb, cases_lt}
use Rattle.std.proofs.lemmas.Bool.Decides.{nat_tests}
use Rattle.std.proofs.lemmas.Slice.Eq.{bytes_eq-Decides}
use Rattle.std.proofs.lemmas.List.Concat.{flat_map-cons}
use Rattle.std.specs.List.{flat_map}
use Rattle.std.specs.Str.{bytes_eq}
use Rattle.numerals.proofs.Groups.{groups_are, groups_few}
use Rattle.hpack.specs.Header.{Header, size_of, total_size}
use Rattle.hpack.specs.Integer.{AreGroups, IsInteger, groups, integer_text}
use Rattle.hpack.specs.StringLiteral.{IsString, string_text}
use Rattle.hpack.specs.StaticTable.{static_table, name_index_in, name_index}
use Rattle.hpack.specs.Table.{Table, longest_front, table_after_resize, header_at}
use Rattle.hpack.specs.Representation.{IsName, IsField, Indexed, WithoutIndexing}
use Rattle.hpack.specs.Block.{AreFields, list_limit, block_of}
use Rattle.hpack.specs.Encoding.{name_text, field_text, block_text}
use Rattle.hpack.specs.declared.encoder.Position.TheVariants.{First, Later}
use Rattle.hpack.proofs.Lookups.{static_length, indexed_static}
use Rattle.hpack.proofs.Blocks.{block_read}

-- ---- integers

with_flags : (flags full : ℕ) (bytes : List ℕ) (n beyond : ℕ) → n ≡ full + beyond → AreGroups bytes beyond → length bytes ≤ 5 → n < 2 ^ 32 →
    IsInteger flags full ((flags + full) ∷ bytes) n
with_flags flags full [] n beyond is groups short small = absurd groups
with_flags flags full (c ∷ cs) n beyond is groups short small = (refl, beyond, is, groups, short, small)

pub integer_is : (flags full n : ℕ) → n < 2 ^ 32 → IsInteger flags full (integer_text flags full n) n
unfolding integer_text
integer_is flags full n small = elim (cases_lt n full) [
  | inl lt ↦
      let test : ltb n full ≡ true = lt-ltb n full lt in
      let one : IsInteger flags full ((flags + n) ∷ []) n = (refl, lt) in
      rw test one
  | inr ge ↦
      let test : ltb n full ≡ false = le-ltb n full ge in
      let more : IsInteger flags full ((flags + full) ∷ groups (n - full)) n =
      with_flags flags full (groups (n - full)) n (n - full) (omega arith) (groups_are (n - full))
      (groups_few 5 (n - full) (omega arith) (omega arith)) small in
      rw test more
]

pub string_is : (text : List ℕ) → length text < 2 ^ 32 → IsString (string_text text) text
string_is text short = inl (record { len = integer_text 0 127 (length text); counted = integer_is 0 127 (length text) short; parts = refl })

-- ---- names

bytes_same : (a b : List ℕ) → bytes_eq a b ≡ true → a ≡ b
bytes_same a b h = (bytes_eq-Decides a b).0 h

record Found (rows : List Header) (from index : ℕ) (name : List ℕ) : Type 0 where
  place : ℕ
  row : Header
  at : slice_get rows place ≡ Some row
  index_is : index ≡ from + place
  below : place < length rows
  named : row.name ≡ name

found_in : (rows : List Header) (from : ℕ) (name : List ℕ) →
    (name_index_in rows from name ≡ 0) ⊎ Found rows from (name_index_in rows from name) name
found_in [] from name = inl refl
found_in (row ∷ rows) from name = go (bytes_eq row.name name) refl (found_in rows (from + 1) name) where
  go : (b : Bool) → bytes_eq row.name name ≡ b →
      (name_index_in rows (from + 1) name ≡ 0) ⊎ Found rows (from + 1) (name_index_in rows (from + 1) name) name →
      (cond b from (name_index_in rows (from + 1) name) ≡ 0)
      ⊎ Found (row ∷ rows) from (cond b from (name_index_in rows (from + 1) name)) name
  go true same others = inr (record {
    place = 0;
    row = row;
    at = refl;
    index_is = omega arith;
    below = omega arith;
    named =
        bytes_same row.name name same;
  })
  go false other (inl none) = inl none
  go false other (inr f) = inr (record {
    place = suc f.place;
    row = f.row;
    at = f.at;
    index_is = (let i = f.index_is in omega arith);
    below = (let b = f.below in omega arith);
    named = f.named;
  })

name_is : (table : Table) (name : List ℕ) → length name < 2 ^ 32 → IsName table 0 15 (name_text (name_index name) name) name
unfolding name_index
name_is table name short = elim (found_in static_table 1 name) [
  | inl none ↦
      let zero_index : IsInteger 0 15 (0 ∷ []) 0 = (refl, omega arith) in
      let new : IsName table 0 15 (0 ∷ string_text name) name =
      inr (record { mark = 0 ∷ []; text = string_text name; zero_index = zero_index; spelled = string_is name short; parts = refl }) in
      rw none new
  | inr f ↦
      let long = static_length in
      let index = name_index_in static_table 1 name in
      let i = f.index_is in
      let b = f.below in
      let some : eqb index 0 ≡ false = grind (arith, nat_tests) in
      let place : index - 1 ≡ f.place = omega arith in
      let there : header_at table index ≡ Some f.row =
      indexed_static table.entries index (omega arith) (omega arith) ∙ ap (slice_get static_table) place ∙ f.at in
      let old : IsName table 0 15 (integer_text 0 15 index) name =
      inl (record {
        index = index;
        entry = f.row;
        spelled = integer_is 0 15 index (omega arith);
        there = there;
        name_is =
            sym f.named;
      }) in
      rw some old
]

-- ---- fields

abbrev made : List ℕ → List ℕ → Header
made name value = record { name = name; value = value }

status_200 : (table : Table) → header_at table 8 ≡ Some (record { name = codes ":status"; value = codes "200" })
unfolding static_table
status_200 table = refl

field_is : (table : Table) (h : Header) → size_of h ≤ list_limit → IsField table (field_text h) h table
field_is table h small = go (bytes_eq h.name (codes ":status")) refl (bytes_eq h.value (codes "200")) refl where
  literal : IsField table (name_text (name_index h.name) h.name ++ string_text h.value) h table
  literal = WithoutIndexing (record {
    name = name_text (name_index h.name) h.name;
    value = string_text h.value;
    named =
        name_is table h.name (omega arith);
    valued = string_is h.value (omega arith);
    parts = refl;
  }) refl

  go : (a : Bool) → bytes_eq h.name (codes ":status") ≡ a → (b : Bool) → bytes_eq h.value (codes "200") ≡ b →
      IsField table (cond (a && b) (136 ∷ []) (name_text (name_index h.name) h.name ++ string_text h.value)) h table
  go true p true q =
      let named : h.name ≡ codes ":status" = bytes_same h.name (codes ":status") p in
      let valued : h.value ≡ codes "200" = bytes_same h.value (codes "200") q in
      let is : made (codes ":status") (codes "200") ≡ h =
      ap (λ (n : List ℕ). made n (codes "200")) (sym named) ∙ ap (made h.name) (sym valued) in
      let same : header_at table 8 ≡ Some h = status_200 table ∙ ap (λ (x : Header). Some x) is in
      Indexed (record { index = 8; spelled = (refl, omega arith); there = same }) refl
  go true p false q = literal
  go false p b q = literal

fields_are : (table : Table) (hs : List Header) → total_size hs ≤ list_limit → AreFields (flat_map field_text hs) table hs table
fields_are table [] small = (refl, refl)
fields_are table (h ∷ hs) small = (
  field_text h,
  flat_map field_text hs,
  table,
  flat_map-cons field_text h hs,
  field_is table h
      (omega arith),
  fields_are table hs (omega arith),
)

-- ---- blocks

none_fits : (es : List Header) → longest_front 0 es ≡ []
none_fits [] = refl
none_fits (e ∷ es) = let full : leb (size_of e) 0 ≡ false = lt-leb (size_of e) 0 (omega arith) in rw full refl

pub later_read : (table : Table) (hs : List Header) → total_size hs ≤ list_limit → block_of table (block_text Later hs) ≡ Ok (hs, table)
later_read table hs small = block_read (block_text Later hs) table table hs
    (record { updates = []; maxima = []; fields = flat_map field_text hs; updated = refl; given = fields_are table hs small; parts = refl })
    small

pub first_read : (table : Table) (hs : List Header) → total_size hs ≤ list_limit →
    block_of table (block_text First hs) ≡ Ok (hs, record { maximum = 0; entries = [] })
first_read table hs small =
    let emptied : Table = record { maximum = 0; entries = [] } in
    let cleared : table_after_resize 0 table ≡ emptied =
    ap (λ (es : List Header). record { maximum = 0; entries = es }) (none_fits table.entries) in
    let update : IsInteger 32 31 (32 ∷ []) 0 = (refl, omega arith) in
    let given : AreFields (flat_map field_text hs) (table_after_resize 0 table) hs emptied =
    subst (λ (t : Table). AreFields (flat_map field_text hs) t hs emptied) (sym cleared) (fields_are emptied hs small) in
    block_read (block_text First hs) table emptied hs
    (record {
      updates = 32 ∷ [];
      maxima = 0 ∷ [];
      fields = flat_map field_text hs;
      updated =
          (32 ∷ [], [], refl, update, omega arith, refl);
      given = given;
      parts = refl;
    }) small
