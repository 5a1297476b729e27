-- google.longrunning.Operation, what executions put into it, and google.rpc.PreconditionFailure
use Rattle.std.specs.Prelude.{Bool, FitsSigned, IfSome, IsOk, List, Ok, Option, Result, map, option_map, true, ℕ, ℤ, ◌++◌, ◌≡◌}
use Rattle.std.specs.Str.{is_utf8}
use Rattle.std.specs.Int.{w32}
use Rattle.std.specs.List.{AllByRecursion}
use Rattle.protobuf_wire.specs.declared.error.MessageError.{MessageError}
use Rattle.protobuf_wire.specs.Results.{◌>>=◌}
use Rattle.protobuf_wire.specs.Record.{Record}
use Rattle.protobuf_wire.specs.Fields.{embedded_value, flag, int32, repeated_values, sent_bytes, string, value_of_text}
use Rattle.protobuf_wire.specs.Parts.{embedded_field, flag_field, int32_field, repeated_field, sent_field, string_field}
use Rattle.execution_messages.specs.declared.operations.ExecuteOperationMetadata.{ExecuteOperationMetadata}
use Rattle.execution_messages.specs.declared.operations.ExecuteResponse.{ExecuteResponse}
use Rattle.execution_messages.specs.declared.operations.Operation.{Operation}
use Rattle.execution_messages.specs.declared.operations.Violation.{Violation}
use Rattle.execution_messages.specs.declared.operations.PreconditionFailure.{PreconditionFailure}
use Rattle.tree_messages.specs.Results.{action_result_of}
use Rattle.reapi_messages.specs.Statuses.{AnyValue, FitsAny, any_shown, any_of, any_records, StatusValue, FitsStatus, status_shown, status_of, status_records}
use Rattle.reapi_messages.specs.Digests.{DigestValue, FitsDigest, digest_shown, digest_of, digest_records}

-- stage 1, action_digest 2
pub record ExecuteOperationMetadataValue : Type 0 where
  pub stage : ℤ
  pub action_digest : Option DigestValue

abbrev pub execute_operation_metadata_shown :
    ExecuteOperationMetadata → ExecuteOperationMetadataValue
execute_operation_metadata_shown m = record {
  stage = m.stage;
  action_digest = option_map digest_shown m.action_digest;
}

unfoldable pub execute_operation_metadata_of :
    List Record → Result ExecuteOperationMetadataValue MessageError
execute_operation_metadata_of rs = do
  action_digest ← embedded_value digest_of 2 rs
  Ok (record { stage = int32 1 rs; action_digest = action_digest })

abbrev pub execute_operation_metadata_records : ExecuteOperationMetadataValue → List Record
execute_operation_metadata_records v =
    int32_field 1 v.stage ++ embedded_field digest_records 2 v.action_digest

-- result 1, cached_result 2, status 3
pub record ExecuteResponseValue : Type 0 where
  pub result : Option (List ℕ)
  pub cached_result : Bool
  pub status : Option StatusValue

abbrev pub execute_response_shown : ExecuteResponse → ExecuteResponseValue
execute_response_shown m = record {
  result = option_map (λ v. v.items) m.result;
  cached_result = m.cached_result;
  status = option_map status_shown m.status;
}

unfoldable pub execute_response_of : List Record → Result ExecuteResponseValue MessageError
execute_response_of rs = do
  result ← sent_bytes action_result_of 1 rs
  status ← embedded_value status_of 3 rs
  Ok (record { result = result; cached_result = flag 2 rs; status = status })

abbrev pub execute_response_records : ExecuteResponseValue → List Record
execute_response_records v =
    sent_field 1 v.result ++ flag_field 2 v.cached_result
    ++ embedded_field status_records 3 v.status

-- name 1, metadata 2, done 3, response 5
pub record OperationValue : Type 0 where
  pub name : List ℕ
  pub metadata : Option AnyValue
  pub done : Bool
  pub response : Option AnyValue

abbrev pub operation_shown : Operation → OperationValue
operation_shown m = record {
  name = m.name.now;
  metadata = option_map any_shown m.metadata;
  done = m.done;
  response = option_map any_shown m.response;
}

unfoldable pub operation_of : List Record → Result OperationValue MessageError
operation_of rs = do
  name ← string 1 rs
  metadata ← embedded_value any_of 2 rs
  response ← embedded_value any_of 5 rs
  Ok (record { name = name; metadata = metadata; done = flag 3 rs; response = response })

abbrev pub operation_records : OperationValue → List Record
operation_records v =
    string_field 1 v.name ++ embedded_field any_records 2 v.metadata ++ flag_field 3 v.done
    ++ embedded_field any_records 5 v.response

-- kind 1, subject 2
pub record ViolationValue : Type 0 where
  pub kind : List ℕ
  pub subject : List ℕ

abbrev pub violation_shown : Violation → ViolationValue
violation_shown m = record { kind = m.kind.now; subject = m.subject.now }

unfoldable pub violation_of : List Record → Result ViolationValue MessageError
violation_of rs = do
  kind ← string 1 rs
  subject ← string 2 rs
  Ok (record { kind = kind; subject = subject })

abbrev pub violation_records : ViolationValue → List Record
violation_records v = string_field 1 v.kind ++ string_field 2 v.subject

-- violations 1 repeated
pub record PreconditionFailureValue : Type 0 where
  pub violations : List ViolationValue

abbrev pub precondition_failure_shown : PreconditionFailure → PreconditionFailureValue
precondition_failure_shown m = record { violations = map violation_shown m.violations.items }

unfoldable pub precondition_failure_of : List Record → Result PreconditionFailureValue MessageError
precondition_failure_of rs = do
  violations ← repeated_values violation_of 1 rs
  Ok (record { violations = violations })

abbrev pub precondition_failure_records : PreconditionFailureValue → List Record
precondition_failure_records v = repeated_field violation_records 1 v.violations

-- ---- what fits the types of the fields

pub record FitsExecuteOperationMetadata (v : ExecuteOperationMetadataValue) : Type 0 where
  pub stage : FitsSigned w32 v.stage
  pub action_digest : IfSome v.action_digest FitsDigest

pub record FitsExecuteResponse (v : ExecuteResponseValue) : Type 0 where
  pub result : IfSome v.result (λ b. IsOk (value_of_text action_result_of b))
  pub status : IfSome v.status FitsStatus

pub record FitsOperation (v : OperationValue) : Type 0 where
  pub name : is_utf8 v.name ≡ true
  pub metadata : IfSome v.metadata FitsAny
  pub response : IfSome v.response FitsAny

pub record FitsViolation (v : ViolationValue) : Type 0 where
  pub kind : is_utf8 v.kind ≡ true
  pub subject : is_utf8 v.subject ≡ true

pub record FitsPreconditionFailure (v : PreconditionFailureValue) : Type 0 where
  pub violations : AllByRecursion FitsViolation v.violations
