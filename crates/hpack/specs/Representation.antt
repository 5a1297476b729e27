-- Representations of header fields: RFC 7541, section 6.
use Rattle.std.specs.Prelude.{◌≡◌, ℕ, ◌-◌, ◌⊎◌, List, [], ◌∷◌, ◌++◌, Option, Some, None, Result, Ok, Err, nat_lt, ◌==◌, if◌then◌else◌}
use Rattle.hpack.specs.declared.error.HpackError.{HpackError}
use Rattle.hpack.specs.declared.error.HpackError.TheVariants.{Index, SizeUpdate}
use Rattle.hpack.specs.Results.{◌>>=◌}
use Rattle.hpack.specs.Header.{Header}
use Rattle.hpack.specs.Integer.{IsInteger, integer_at}
use Rattle.hpack.specs.StringLiteral.{IsString, string_at}
use Rattle.hpack.specs.Table.{Table, table_after_insertion, header_at}

-- ---- which octets are a header field

-- a name is the index of an entry that has it
pub record IsIndexedName (table : Table) (flags full : ℕ) (bytes name : List ℕ) : Type 0 where
  pub index : ℕ
  pub entry : Header
  pub spelled : IsInteger flags full bytes index
  pub there : header_at table index ≡ Some entry
  pub name_is : name ≡ entry.name

-- or the index 0, and then a string
pub record IsNewName (flags full : ℕ) (bytes name : List ℕ) : Type 0 where
  pub mark : List ℕ
  pub text : List ℕ
  pub zero_index : IsInteger flags full mark 0
  pub spelled : IsString text name
  pub parts : bytes ≡ mark ++ text

abbrev pub IsName : Table → ℕ → ℕ → List ℕ → List ℕ → Type 0
IsName table flags full bytes name =
    IsIndexedName table flags full bytes name ⊎ IsNewName flags full bytes name

-- section 6.2: a name, and then a value
pub record IsLiteral (table : Table) (flags full : ℕ) (bytes : List ℕ) (h : Header) : Type 0 where
  pub name : List ℕ
  pub value : List ℕ
  pub named : IsName table flags full name h.name
  pub valued : IsString value h.value
  pub parts : bytes ≡ name ++ value

-- section 6.1: the index of an entry
pub record IsIndexed (table : Table) (bytes : List ℕ) (h : Header) : Type 0 where
  pub index : ℕ
  pub spelled : IsInteger 128 127 bytes index
  pub there : header_at table index ≡ Some h

-- the octets give the field h, and leave the table `after`
pub data IsField (table : Table) (bytes : List ℕ) (h : Header) (after : Table) : Type 0 where
  -- section 6.1
  Indexed : IsIndexed table bytes h → after ≡ table → IsField table bytes h after
  -- section 6.2.1
  Incremental : IsLiteral table 64 63 bytes h → after ≡ table_after_insertion h table →
      IsField table bytes h after
  -- section 6.2.2
  WithoutIndexing : IsLiteral table 0 15 bytes h → after ≡ table → IsField table bytes h after
  -- section 6.2.3
  NeverIndexed : IsLiteral table 16 15 bytes h → after ≡ table → IsField table bytes h after

-- ---- reading a header field from left to right; given with it is what follows

abbrev pub entry_or_fault : {A : Type 0} → Option A → Result A HpackError
entry_or_fault (Some x) = Ok x
entry_or_fault None = Err Index

unfoldable pub name_at : Table → ℕ → ℕ → List ℕ → Result (List ℕ × List ℕ) HpackError
name_at table full prefix bytes =
    integer_at full prefix bytes >>= λ i.
    if i.0 == 0 then string_at i.1
    else (entry_or_fault (header_at table i.0) >>= λ entry. Ok (entry.name, i.1))

unfoldable pub literal_at : Table → ℕ → ℕ → List ℕ → Result (Header × List ℕ) HpackError
literal_at table full prefix bytes = do
  name ← name_at table full prefix bytes
  value ← string_at name.1
  Ok (record { name = name.0; value = value.0 }, value.1)

unfoldable pub indexed_at : Table → ℕ → List ℕ → Result (Header × List ℕ) HpackError
indexed_at table prefix bytes = do
  index ← integer_at 127 prefix bytes
  entry ← entry_or_fault (header_at table index.0)
  Ok (entry, index.1)

-- the field, the table after it, and what follows
unfoldable pub field_at : Table → List ℕ → Result (Header × Table × List ℕ) HpackError
field_at table [] = Err Index
field_at table (b ∷ bs) =
    if nat_lt b 16 then (literal_at table 15 b bs >>= λ x. Ok (x.0, table, x.1))
    else (if nat_lt b 32 then (literal_at table 15 (b - 16) bs >>= λ x. Ok (x.0, table, x.1))
    else (if nat_lt b 64 then (integer_at 31 (b - 32) bs >>= λ x. Err SizeUpdate)
    else (if nat_lt b 128
    then (literal_at table 63 (b - 64) bs >>= λ x. Ok (x.0, table_after_insertion x.0 table, x.1))
    else (indexed_at table (b - 128) bs >>= λ x. Ok (x.0, table, x.1)))))
