-- Where a field stands among a message's records.
use Rattle.std.specs.Prelude.{◌≡◌, ◌≢◌, ◌<◌, ◌^◌, ℕ, List, ◌++◌, length, Result, Ok}
use Rattle.std.specs.List.{AllByRecursion}
use Rattle.protobuf_wire.specs.Record.{Record}
use Rattle.protobuf_wire.specs.declared.error.MessageError.{MessageError}
use Rattle.protobuf_wire.specs.Fields.{value_of_text}
use Rattle.protobuf_wire.specs.Parts.{text_for}

-- none of the records is one of this field
abbrev pub Lacks : ℕ → List Record → Type 0
Lacks field rs = AllByRecursion (λ r. r.number ≢ field) rs

-- a part of the records, and no other is one of this field
pub record HasField (field : ℕ) (part rs : List Record) : Type 0 where
  pub front : List Record
  pub back : List Record
  pub parts : rs ≡ front ++ part ++ back
  pub before : Lacks field front
  pub behind : Lacks field back

-- the text of a value means that value
abbrev pub IsReadAgain : {V : Type 0} → (List Record → Result V MessageError) → (V → List Record) →
    V → Type 0
IsReadAgain value_of records_for v = value_of_text value_of (text_for records_for v) ≡ Ok v

-- each value that fits its types, and whose text can lie in memory, is read again
abbrev pub AreReadAgain : {V : Type 0} → (List Record → Result V MessageError) → (V → List Record) →
    (V → Type 0) → Type 0
AreReadAgain {V} value_of records_for Fits =
    (v : V) → Fits v → length (text_for records_for v) < 2 ^ 64 → IsReadAgain value_of records_for v
