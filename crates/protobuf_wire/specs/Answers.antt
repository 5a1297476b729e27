-- A function's answer beside a definition's, where running out of memory is no meaning.
use Rattle.std.specs.Prelude.{◌≡◌, Result, Ok, Err}
use Rattle.protobuf_wire.specs.declared.field.WireError.{WireError}
use Rattle.protobuf_wire.specs.declared.error.MessageError.{MessageError}
use Rattle.protobuf_wire.specs.declared.error.MessageError.TheVariants.{Wire, NotUtf8, NoMemory}

abbrev pub Fails : {Y : Type 0} → MessageError → Result Y MessageError → Type 0
Fails NoMemory meaning = Unit {0}
Fails (Wire fault) meaning = meaning ≡ Err (Wire fault)
Fails NotUtf8 meaning = meaning ≡ Err NotUtf8

-- a function's answer, seen by view, is the meaning, unless memory ran out
abbrev pub Means : {X Y : Type 0} → (X → Y) → Result X MessageError → Result Y MessageError → Type 0
Means view (Ok x) meaning = meaning ≡ Ok (view x)
Means view (Err e) meaning = Fails e meaning

abbrev pub of_wire : {A : Type 0} → Result A WireError → Result A MessageError
of_wire (Ok x) = Ok x
of_wire (Err fault) = Err (Wire fault)
