-- Embedded messages that fit are read again.
use Rattle.std.proofs.Common.{◌≡◌, ℕ, ◌^◌, ◌<◌, List, [], ◌∷◌, length, Option, Some, None, Result, Ok}
use Rattle.std.specs.Prelude.{IfSome}
use Rattle.std.specs.List.{AllByRecursion}
use Rattle.protobuf_wire.specs.Record.{Record}
use Rattle.protobuf_wire.specs.Writing.{records_text}
use Rattle.protobuf_wire.specs.declared.error.MessageError.{MessageError}
use Rattle.protobuf_wire.specs.Fields.{embedded_value, repeated_values}
use Rattle.protobuf_wire.specs.Parts.{text_for, embedded_field, repeated_field}
use Rattle.protobuf_wire.specs.Again.{HasField, IsReadAgain, AreReadAgain}
use Rattle.protobuf_wire.proofs.ReadAgain.{embedded_again, absent_again, repeated_again}
use Rattle.protobuf_wire.proofs.Lengths.{payload_shorter, payloads_shorter}

module _ {V : Type 0} (value_of : List Record → Result V MessageError) (records_for : V → List Record) (Fits : V → Type 0)
    (again : AreReadAgain value_of records_for Fits) where
  all_again : (vs : List V) → AllByRecursion Fits vs → AllByRecursion (λ v. length (text_for records_for v) < 2 ^ 64) vs →
      AllByRecursion (IsReadAgain value_of records_for) vs
  all_again [] h g = tt
  all_again (v ∷ vs) h g = (again v h.0 g.0, all_again vs h.1 g.1)

  pub repeated_fits : (field : ℕ) (vs : List V) (rs : List Record) → AllByRecursion Fits vs →
      length (records_text (repeated_field records_for field vs)) < 2 ^ 64 → HasField field (repeated_field records_for field vs) rs →
      repeated_values value_of field rs ≡ Ok vs
  repeated_fits field vs rs fit short h = repeated_again value_of records_for field vs rs
      (all_again vs fit (payloads_shorter records_for field vs short)) h

  pub embedded_fits : (field : ℕ) (o : Option V) (rs : List Record) → IfSome o Fits →
      length (records_text (embedded_field records_for field o)) < 2 ^ 64 → HasField field (embedded_field records_for field o) rs →
      embedded_value value_of field rs ≡ Ok o
  embedded_fits field None rs fit short h = absent_again value_of records_for field rs h
  embedded_fits field (Some v) rs fit short h = embedded_again value_of records_for field v rs
      (again v fit (payload_shorter field (text_for records_for v) short)) h
