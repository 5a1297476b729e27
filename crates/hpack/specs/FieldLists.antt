-- How a field list is kept: all names and values in one text, and how many octets each of them has.
-- For the code alone, but for `headers_in`, with `header_in`, as which `Headers` and `HeaderIter`
-- are seen, and for `fields_length`, of which their invariants speak.
use Rattle.std.specs.Prelude.{◌≡◌, ℕ, ◌+◌, List, [], ◌∷◌, ◌++◌, length, take, drop}
use Rattle.hpack.specs.declared.headers.FieldLengths.{FieldLengths}
use Rattle.hpack.specs.Header.{Header}

-- the field of these lengths at the front of a text
abbrev pub header_in : FieldLengths → List ℕ → Header
header_in l text = record { name = take l.name text; value = take l.value (drop l.name text) }

-- the fields of these lengths, one after another
abbrev pub headers_in : List FieldLengths → List ℕ → List Header
headers_in [] text = []
headers_in (l ∷ ls) text = header_in l text ∷ headers_in ls (drop l.value (drop l.name text))

abbrev pub fields_length : List FieldLengths → ℕ
fields_length [] = 0
fields_length (l ∷ ls) = l.name + l.value + fields_length ls

-- what stands in a text behind the one that it was before
abbrev pub text_behind : List ℕ → List ℕ → List ℕ
text_behind before text = drop (length before) text

-- a text begins with another
abbrev pub BeginsWith : List ℕ → List ℕ → Type 0
BeginsWith front text = text ≡ front ++ text_behind front text
