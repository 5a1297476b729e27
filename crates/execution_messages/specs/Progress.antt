-- Operations (google.longrunning.Operation), by which an execution is told of: it is queued, it is
-- executing, and it is completed, with a response (remote_execution.proto, ExecutionStage).
use Rattle.std.specs.Prelude.{ℕ, ℤ, pos, true, false, List, ◌++◌, Option, Bool, Some, None, option_map, codes}
use Rattle.std.specs.Fmt.{decimal}
use Rattle.protobuf_wire.specs.Parts.{text_for}
use Rattle.digest.specs.declared.Digest.{Digest}
use Rattle.reapi_messages.specs.Digests.{DigestValue}
use Rattle.reapi_messages.specs.Statuses.{AnyValue, StatusValue}
use Rattle.execution_messages.specs.Operations.{ExecuteResponseValue, execute_response_records, execute_operation_metadata_records, operation_records}
use Rattle.execution_messages.specs.declared.fault.Fault.{Fault}
use Rattle.execution_messages.specs.Statuses.{status_of}
use Rattle.execution_messages.specs.Written.{digest_value}

-- ---- how an execution ends

pub data EndValue : Type 0 where
  -- the stored result of the action is found, which is this text
  finds : List ℕ → EndValue
  -- it was run, with this result
  gives : List ℕ → EndValue
  -- there is none, for this fault; and these blobs are missing
  fails : Fault → List Digest → EndValue

-- there is a status in the place of a result
abbrev pub failed_with : StatusValue → ExecuteResponseValue
failed_with status = record { result = None; cached_result = false; status = Some status }

abbrev pub response_of : EndValue → ExecuteResponseValue
response_of (finds text) = record { result = Some text; cached_result = true; status = None }
response_of (gives text) = record { result = Some text; cached_result = false; status = None }
response_of (fails fault missing) = failed_with (status_of fault missing)

abbrev pub response_text : EndValue → List ℕ
response_text e = text_for execute_response_records (response_of e)

-- ---- operations

-- `operations/{number}`
abbrev pub operation_name : ℕ → List ℕ
operation_name n = codes "operations/" ++ decimal n

abbrev pub metadata_url : List ℕ
metadata_url =
    codes "type.googleapis.com/build.bazel.remote.execution.v2.ExecuteOperationMetadata"

abbrev pub response_url : List ℕ
response_url = codes "type.googleapis.com/build.bazel.remote.execution.v2.ExecuteResponse"

-- the stage of the execution of an action
abbrev pub metadata_text : ℤ → DigestValue → List ℕ
metadata_text stage action =
    text_for execute_operation_metadata_records
    (record { stage = stage; action_digest = Some action })

abbrev pub response_any : Option (List ℕ) → Option AnyValue
response_any response =
    option_map (λ text. record { type_url = response_url; value = text }) response

abbrev pub operation_of : List ℕ → List ℕ → Bool → Option (List ℕ) → List ℕ
operation_of name metadata done response = text_for operation_records (record {
  name = name;
  metadata = Some (record { type_url = metadata_url; value = metadata });
  done = done;
  response = response_any response;
})

abbrev pub operation_text : ℕ → ℤ → DigestValue → Bool → Option (List ℕ) → List ℕ
operation_text number stage action done response =
    operation_of (operation_name number) (metadata_text stage action) done response

-- ExecutionStage.Value: QUEUED 2, EXECUTING 3, COMPLETED 4
abbrev pub queued_text : ℕ → Digest → List ℕ
queued_text number action = operation_text number (pos 2) (digest_value action) false None

abbrev pub executing_text : ℕ → Digest → List ℕ
executing_text number action = operation_text number (pos 3) (digest_value action) false None

abbrev pub completed_text : ℕ → Digest → EndValue → List ℕ
completed_text number action e =
    operation_text number (pos 4) (digest_value action) true (Some (response_text e))
