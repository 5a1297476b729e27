-- The dynamic table: RFC 7541, sections 2.3 and 4.
use Rattle.std.specs.Prelude.{◌≡◌, ℕ, ◌+◌, ◌-◌, ◌<◌, ◌≤◌, List, [], ◌∷◌, ◌++◌, Option, None, slice_get, nat_le, ◌==◌, if◌then◌else◌}
use Rattle.hpack.specs.Header.{Header, size_of, total_size}
use Rattle.hpack.specs.StaticTable.{static_table}

-- the greatest size that it may have, and its entries, the newest first
pub record Table : Type 0 where
  pub maximum : ℕ
  pub entries : List Header

-- the largest maximum, with which a connection begins (RFC 9113, section 6.5.2)
abbrev pub largest_table : ℕ
largest_table = 4096

abbrev pub new_table : Table
new_table = record { maximum = largest_table; entries = [] }

abbrev pub table_size : Table → ℕ
table_size t = total_size t.entries

-- the longest front whose sizes together are no more than the room
abbrev pub longest_front : ℕ → List Header → List Header
longest_front room [] = []
longest_front room (h ∷ hs) =
    if nat_le (size_of h) room then h ∷ longest_front (room - size_of h) hs else []

-- what it is to be that front
pub record IsLongestFront (room : ℕ) (entries front : List Header) : Type 0 where
  pub rest : List Header
  pub parts : entries ≡ front ++ rest
  pub fits : total_size front ≤ room
  pub longest : (h : Header) (hs : List Header) → rest ≡ h ∷ hs →
      room < total_size front + size_of h

-- section 4.3: the oldest entries go until the others fit
abbrev pub table_after_resize : ℕ → Table → Table
table_after_resize maximum t =
    record { maximum = maximum; entries = longest_front maximum t.entries }

-- section 4.4: a new entry, for which the oldest go; one that is too large for the table empties it
abbrev pub table_after_insertion : Header → Table → Table
table_after_insertion h t =
    record { maximum = t.maximum; entries = longest_front t.maximum (h ∷ t.entries) }

-- section 2.3.3: indices begin at 1 with the static table, and go on with the dynamic table
abbrev pub header_by_index : List Header → ℕ → Option Header
header_by_index entries index =
    if index == 0 then None else slice_get (static_table ++ entries) (index - 1)

abbrev pub header_at : Table → ℕ → Option Header
header_at t index = header_by_index t.entries index
