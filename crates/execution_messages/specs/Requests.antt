-- ExecuteRequest and WaitExecutionRequest of build.bazel.remote.execution.v2
use Rattle.std.specs.Prelude.{Bool, FitsSigned, IfSome, List, Ok, Option, Result, option_map, true, ℕ, ℤ, ◌++◌, ◌≡◌}
use Rattle.std.specs.Str.{is_utf8}
use Rattle.std.specs.Int.{w32}
use Rattle.protobuf_wire.specs.declared.error.MessageError.{MessageError}
use Rattle.protobuf_wire.specs.Results.{◌>>=◌}
use Rattle.protobuf_wire.specs.Record.{Record}
use Rattle.protobuf_wire.specs.Fields.{embedded_value, flag, int32, string}
use Rattle.protobuf_wire.specs.Parts.{embedded_field, flag_field, int32_field, string_field}
use Rattle.execution_messages.specs.declared.requests.ExecuteRequest.{ExecuteRequest}
use Rattle.execution_messages.specs.declared.requests.WaitExecutionRequest.{WaitExecutionRequest}
use Rattle.reapi_messages.specs.Digests.{DigestValue, FitsDigest, digest_shown, digest_of, digest_records}

-- instance_name 1, skip_cache_lookup 3, action_digest 6, digest_function 9
pub record ExecuteRequestValue : Type 0 where
  pub instance_name : List ℕ
  pub skip_cache_lookup : Bool
  pub action_digest : Option DigestValue
  pub digest_function : ℤ

abbrev pub execute_request_shown : ExecuteRequest → ExecuteRequestValue
execute_request_shown m = record {
  instance_name = m.instance_name.now;
  skip_cache_lookup = m.skip_cache_lookup;
  action_digest = option_map digest_shown m.action_digest;
  digest_function = m.digest_function;
}

unfoldable pub execute_request_of : List Record → Result ExecuteRequestValue MessageError
execute_request_of rs = do
  instance_name ← string 1 rs
  action_digest ← embedded_value digest_of 6 rs
  Ok (record {
    instance_name = instance_name;
    skip_cache_lookup = flag 3 rs;
    action_digest = action_digest;
    digest_function = int32 9 rs;
  })

abbrev pub execute_request_records : ExecuteRequestValue → List Record
execute_request_records v =
    string_field 1 v.instance_name ++ flag_field 3 v.skip_cache_lookup
    ++ embedded_field digest_records 6 v.action_digest ++ int32_field 9 v.digest_function

-- name 1
pub record WaitExecutionRequestValue : Type 0 where
  pub name : List ℕ

abbrev pub wait_execution_request_shown : WaitExecutionRequest → WaitExecutionRequestValue
wait_execution_request_shown m = record { name = m.name.now }

unfoldable pub wait_execution_request_of :
    List Record → Result WaitExecutionRequestValue MessageError
wait_execution_request_of rs = do
  name ← string 1 rs
  Ok (record { name = name })

abbrev pub wait_execution_request_records : WaitExecutionRequestValue → List Record
wait_execution_request_records v = string_field 1 v.name

-- ---- what fits the types of the fields

pub record FitsExecuteRequest (v : ExecuteRequestValue) : Type 0 where
  pub instance_name : is_utf8 v.instance_name ≡ true
  pub action_digest : IfSome v.action_digest FitsDigest
  pub digest_function : FitsSigned w32 v.digest_function

pub record FitsWaitExecutionRequest (v : WaitExecutionRequestValue) : Type 0 where
  pub name : is_utf8 v.name ≡ true
