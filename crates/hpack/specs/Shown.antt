-- What values of the code stand for.
use Rattle.std.specs.Prelude.{ℕ, List}
use Rattle.std.specs.Borrow.{Bor}
use Rattle.hpack.specs.declared.encoder.Field.{Field}
use Rattle.hpack.specs.Header.{Header}

abbrev pub field_shown : Field → Header
field_shown f = record { name = f.name.now; value = f.value.now }

abbrev pub row_shown : Bor (List ℕ) × Bor (List ℕ) → Header
row_shown row = record { name = row.0.now; value = row.1.now }
