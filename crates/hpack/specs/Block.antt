-- Header blocks: RFC 7541, sections 3.1, 3.2 and 4.2.
use Rattle.std.specs.Prelude.{◌≡◌, ℕ, zero, suc, ◌-◌, ◌<◌, ◌≤◌, Bool, false, ◌&&◌, List, [], ◌∷◌, ◌++◌, length, Option, Some, None, Result, Ok, Err, nat_lt, nat_le, MatchBool, if◌then◌else◌}
use Rattle.hpack.specs.declared.error.HpackError.{HpackError}
use Rattle.hpack.specs.declared.error.HpackError.TheVariants.{SizeUpdate, ListTooLarge, NoMemory, Failed}
use Rattle.hpack.specs.Results.{◌>>=◌}
use Rattle.hpack.specs.Header.{Header, size_of, total_size}
use Rattle.hpack.specs.Integer.{IsInteger, integer_at}
use Rattle.hpack.specs.Table.{Table, largest_table, table_after_resize}
use Rattle.hpack.specs.Representation.{IsField, field_at}

-- the greatest size of a field list that is taken
abbrev pub list_limit : ℕ
list_limit = 65536

-- ---- which octets are a block

-- section 6.3: size updates, one after another, to these maxima
abbrev pub AreUpdates : List ℕ → List ℕ → Type 0
AreUpdates bytes [] = bytes ≡ []
AreUpdates bytes (m ∷ ms) =
    (front : List ℕ) × (rest : List ℕ) × (bytes ≡ front ++ rest) × IsInteger 32 31 front m
    × (m ≤ largest_table) × AreUpdates rest ms

abbrev pub table_after_updates : List ℕ → Table → Table
table_after_updates [] t = t
table_after_updates (m ∷ ms) t = table_after_updates ms (table_after_resize m t)

-- header fields, one after another, which turn the one table into the other
abbrev pub AreFields : List ℕ → Table → List Header → Table → Type 0
AreFields bytes table [] after = (bytes ≡ []) × (after ≡ table)
AreFields bytes table (h ∷ hs) after =
    (front : List ℕ) × (rest : List ℕ) × (between : Table) × (bytes ≡ front ++ rest)
    × IsField table front h between × AreFields rest between hs after

-- a block is size updates and then header fields: it gives the fields hs, and turns the one table
-- into the other
pub record IsBlock (bytes : List ℕ) (table : Table) (hs : List Header)
    (after : Table) : Type 0 where
  pub updates : List ℕ
  pub maxima : List ℕ
  pub fields : List ℕ
  pub updated : AreUpdates updates maxima
  pub given : AreFields fields (table_after_updates maxima table) hs after
  pub parts : bytes ≡ updates ++ fields

-- ---- reading a block from left to right, with the first fault that is met

-- section 6.3: the front is a size update
abbrev pub begins_update : List ℕ → Bool
begins_update [] = false
begins_update (b ∷ bs) = nat_le 32 b && nat_lt b 64

abbrev pub update_at : List ℕ → Result (ℕ × List ℕ) HpackError
update_at [] = Err SizeUpdate
update_at (b ∷ bs) =
    integer_at 31 (b - 32) bs >>= λ m. if nat_lt largest_table m.0 then Err SizeUpdate else Ok m

-- the table after all size updates at the front, of which there are at most so many, and what
-- follows them
unfoldable pub updates_in : ℕ → Table → List ℕ → Result (Table × List ℕ) HpackError
updates_in zero table bytes = Ok (table, bytes)
updates_in (suc more) table bytes =
    if begins_update bytes
    then (update_at bytes >>= λ m. updates_in more (table_after_resize m.0 table) m.1)
    else Ok (table, bytes)

-- the fields, of which there are at most so many as octets and whose sizes together are no more
-- than the room, and the table after them
unfoldable pub fields_in : ℕ → ℕ → Table → List ℕ → Result (List Header × Table) HpackError
fields_in more room table [] = Ok ([], table)
fields_in zero room table (b ∷ bs) = Ok ([], table)
fields_in (suc more) room table (b ∷ bs) = do
  f ← field_at table (b ∷ bs)
  if nat_lt room (size_of f.0) then Err ListTooLarge
      else (fields_in more (room - size_of f.0) f.1 f.2 >>= λ others. Ok (f.0 ∷ others.0, others.1))

abbrev pub updates_of : Table → List ℕ → Result (Table × List ℕ) HpackError
updates_of table bytes = updates_in (length bytes) table bytes

abbrev pub fields_of : ℕ → Table → List ℕ → Result (List Header × Table) HpackError
fields_of room table bytes = fields_in (length bytes) room table bytes

-- the fields of a block, and the table after it
unfoldable pub block_of : Table → List ℕ → Result (List Header × Table) HpackError
block_of table bytes = updates_of table bytes >>= λ u. fields_of list_limit u.0 u.1

-- ---- a decoder stands at a table, or has failed; its answer to a block, and where it stands then

abbrev pub answer_of : Result (List Header × Table) HpackError →
    Result (List Header) HpackError × Option Table
answer_of (Ok x) = (Ok x.0, Some x.1)
answer_of (Err e) = (Err e, None)

abbrev pub step : Option Table → List ℕ → Result (List Header) HpackError × Option Table
step None bytes = (Err Failed, None)
step (Some table) bytes = answer_of (block_of table bytes)

-- ---- refusals

-- the representation at the front of the rest, which comes after these fields, is refused
abbrev pub Refuses : List Header → Table → List ℕ → HpackError → Type 0
Refuses [] table rest e =
    MatchBool (begins_update rest) (update_at rest ≡ Err e) (field_at table rest ≡ Err e)
Refuses (h ∷ hs) table rest e = field_at table rest ≡ Err e

-- a front is a block within the limit, and what follows begins with a representation that is
-- refused
pub record FaultsAt (bytes : List ℕ) (table : Table) (e : HpackError) : Type 0 where
  pub front : List ℕ
  pub rest : List ℕ
  pub hs : List Header
  pub between : Table
  pub read : IsBlock front table hs between
  pub within : total_size hs ≤ list_limit
  pub some : 0 < length rest
  pub fault : Refuses hs between rest e
  pub parts : bytes ≡ front ++ rest

-- a front is a block whose fields are more than the limit
pub record PassesLimit (bytes : List ℕ) (table : Table) : Type 0 where
  pub front : List ℕ
  pub rest : List ℕ
  pub hs : List Header
  pub between : Table
  pub read : IsBlock front table hs between
  pub over : list_limit < total_size hs
  pub parts : bytes ≡ front ++ rest

-- what octets can be refused for by themselves
abbrev pub IsFault : HpackError → Type 0
IsFault NoMemory = ⊥
IsFault Failed = ⊥
IsFault e = Unit {0}
