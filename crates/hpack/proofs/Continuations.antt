-- What a reading does after its first step.
use Rattle.std.proofs.Common.{ℕ, cond, ltb, eqb, List, ◌∷◌, Result, Ok, Err}
use Rattle.hpack.specs.declared.error.HpackError.{HpackError}
use Rattle.hpack.specs.declared.error.HpackError.TheVariants.{SizeUpdate}
use Rattle.hpack.specs.Results.{◌>>=◌}
use Rattle.hpack.specs.Header.{Header}
use Rattle.hpack.specs.StringLiteral.{expansion, string_at}
use Rattle.hpack.specs.Table.{Table, largest_table, table_after_insertion, header_at}
use Rattle.hpack.specs.Representation.{entry_or_fault}

abbrev pub finished : List ℕ × List ℕ → Result (List ℕ × List ℕ) HpackError
finished s = expansion s.0 >>= λ text. Ok (text, s.1)

abbrev pub entry_name : Table → ℕ × List ℕ → Result (List ℕ × List ℕ) HpackError
entry_name table i = entry_or_fault (header_at table i.0) >>= λ entry. Ok (entry.name, i.1)

abbrev pub chosen_name : Table → ℕ × List ℕ → Result (List ℕ × List ℕ) HpackError
chosen_name table i = cond (eqb i.0 0) (string_at i.1) (entry_name table i)

abbrev pub with_value : List ℕ × List ℕ → Result (Header × List ℕ) HpackError
with_value name = string_at name.1 >>= λ value. Ok (record { name = name.0; value = value.0 }, value.1)

abbrev pub entry_of : Table → ℕ × List ℕ → Result (Header × List ℕ) HpackError
entry_of table i = entry_or_fault (header_at table i.0) >>= λ entry. Ok (entry, i.1)

abbrev pub kept : Table → Header × List ℕ → Result (Header × Table × List ℕ) HpackError
kept table x = Ok (x.0, table, x.1)

abbrev pub added : Table → Header × List ℕ → Result (Header × Table × List ℕ) HpackError
added table x = Ok (x.0, table_after_insertion x.0 table, x.1)

abbrev pub refused : ℕ × List ℕ → Result (Header × Table × List ℕ) HpackError
refused x = Err SizeUpdate

abbrev pub checked : ℕ × List ℕ → Result (ℕ × List ℕ) HpackError
checked m = cond (ltb largest_table m.0) (Err SizeUpdate) (Ok m)

abbrev pub put_first : Header → Result (List Header × Table) HpackError → Result (List Header × Table) HpackError
put_first h others = others >>= λ others. Ok (h ∷ others.0, others.1)
