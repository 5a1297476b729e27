-- Values of `bytes` fields that do not lie in one place.
use Rattle.std.specs.Prelude.{ℕ, List}
use Rattle.std.specs.List.{flat_map}
use Rattle.protobuf_wire.specs.declared.pieces.Pieces.{Pieces}
use Rattle.protobuf_wire.specs.declared.pieces.Pieces.TheVariants.{One, Several}

-- the bytes of all pieces, one after another
abbrev pub pieces_text : Pieces → List ℕ
pieces_text (One bytes) = bytes.now
pieces_text (Several pieces) = flat_map (λ p. p.now) pieces.items
