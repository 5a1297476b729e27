-- google.protobuf.Any and google.rpc.Status
use Rattle.std.specs.Prelude.{ℕ, ℤ, List, ◌++◌, map, Result, Ok, ◌≡◌, true, FitsSigned}
use Rattle.std.specs.Str.{is_utf8}
use Rattle.std.specs.Int.{w32}
use Rattle.std.specs.List.{AllByRecursion}
use Rattle.protobuf_wire.specs.declared.error.MessageError.{MessageError}
use Rattle.protobuf_wire.specs.Results.{◌>>=◌}
use Rattle.protobuf_wire.specs.Record.{Record}
use Rattle.protobuf_wire.specs.Fields.{string, octets, int32, repeated_values}
use Rattle.protobuf_wire.specs.Parts.{string_field, int32_field, repeated_field}
use Rattle.protobuf_wire.specs.Writing.{bytes_field}
use Rattle.reapi_messages.specs.declared.status.Any.{Any}
use Rattle.reapi_messages.specs.declared.status.Status.{Status}

-- type_url 1, value 2
pub record AnyValue : Type 0 where
  pub type_url : List ℕ
  pub value : List ℕ

abbrev pub any_shown : Any → AnyValue
any_shown m = record { type_url = m.type_url.now; value = m.value.now }

unfoldable pub any_of : List Record → Result AnyValue MessageError
any_of rs = do
  type_url ← string 1 rs
  Ok (record { type_url = type_url; value = octets 2 rs })

abbrev pub any_records : AnyValue → List Record
any_records v = string_field 1 v.type_url ++ bytes_field 2 v.value

-- code 1, message 2, details 3 repeated
pub record StatusValue : Type 0 where
  pub code : ℤ
  pub message : List ℕ
  pub details : List AnyValue

abbrev pub status_shown : Status → StatusValue
status_shown m =
    record { code = m.code; message = m.message.now; details = map any_shown m.details.items }

unfoldable pub status_of : List Record → Result StatusValue MessageError
status_of rs = do
  message ← string 2 rs
  details ← repeated_values any_of 3 rs
  Ok (record { code = int32 1 rs; message = message; details = details })

abbrev pub status_records : StatusValue → List Record
status_records v =
    int32_field 1 v.code ++ string_field 2 v.message ++ repeated_field any_records 3 v.details

-- ---- what fits the types of the fields

pub record FitsAny (v : AnyValue) : Type 0 where
  pub type_url : is_utf8 v.type_url ≡ true

pub record FitsStatus (v : StatusValue) : Type 0 where
  pub code : FitsSigned w32 v.code
  pub message : is_utf8 v.message ≡ true
  pub details : AllByRecursion FitsAny v.details
