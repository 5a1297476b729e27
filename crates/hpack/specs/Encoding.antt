-- The blocks that the encoder writes.
use Rattle.std.specs.Prelude.{ℕ, List, [], ◌∷◌, ◌++◌, Bool, ◌==◌, ◌&&◌, codes, if◌then◌else◌}
use Rattle.std.specs.List.{flat_map}
use Rattle.std.specs.Str.{bytes_eq}
use Rattle.hpack.specs.declared.encoder.Position.{Position}
use Rattle.hpack.specs.declared.encoder.Position.TheVariants.{First, Later}
use Rattle.hpack.specs.Header.{Header}
use Rattle.hpack.specs.Integer.{integer_text}
use Rattle.hpack.specs.StringLiteral.{string_text}
use Rattle.hpack.specs.StaticTable.{name_index}

abbrev pub is_status_200 : Header → Bool
is_status_200 h = bytes_eq h.name (codes ":status") && bytes_eq h.value (codes "200")

-- a name that the static table has is its index; any other is 0 and then a string
abbrev pub name_text : ℕ → List ℕ → List ℕ
name_text index name = if index == 0 then 0 ∷ string_text name else integer_text 0 15 index

-- RFC 7541, section 6.1 with index 8 for a status of 200, and otherwise section 6.2.2
abbrev pub field_text : Header → List ℕ
field_text h =
    if is_status_200 h then 136 ∷ []
    else name_text (name_index h.name) h.name ++ string_text h.value

-- the first block of a connection begins with the size update to 0
abbrev pub block_opening : Position → List ℕ
block_opening First = 32 ∷ []
block_opening Later = []

abbrev pub block_text : Position → List Header → List ℕ
block_text position hs = block_opening position ++ flat_map field_text hs
