-- The status of an execution that has no result. Blobs that are missing are named by a
-- google.rpc.PreconditionFailure, each once (remote_execution.proto, Execution.Execute).
use Rattle.std.specs.Prelude.{ℕ, pos, List, [], ◌∷◌, ◌++◌, length, map, ◌==◌, codes, if◌then◌else◌}
use Rattle.std.specs.Fmt.{decimal}
use Rattle.std.specs.List.{list_any}
use Rattle.protobuf_wire.specs.Parts.{text_for}
use Rattle.digest.specs.declared.Digest.{Digest}
use Rattle.digest.specs.Naming.{same_digest}
use Rattle.digest.specs.Text.{hash_text}
use Rattle.reapi_messages.specs.Statuses.{AnyValue, StatusValue}
use Rattle.execution_messages.specs.Operations.{ViolationValue, precondition_failure_records}
use Rattle.execution_messages.specs.declared.fault.Fault.{Fault}
use Rattle.execution_messages.specs.Faults.{code_of, text_of}

-- a digest goes last, unless it stands there
abbrev pub with_distinct : List Digest → Digest → List Digest
with_distinct ds d = if list_any (same_digest d) ds then ds else ds ++ d ∷ []

abbrev pub with_all_distinct : List Digest → List Digest → List Digest
with_all_distinct ds [] = ds
with_all_distinct ds (c ∷ cs) = with_all_distinct (with_distinct ds c) cs

-- each digest once, in the order met
abbrev pub distinct : List Digest → List Digest
distinct ds = with_all_distinct [] ds

-- `blobs/{hash}/{size}`
abbrev pub subject_of : Digest → List ℕ
subject_of d = codes "blobs/" ++ hash_text d ++ codes "/" ++ decimal d.size

abbrev pub violation_of : List ℕ → ViolationValue
violation_of subject = record { kind = codes "MISSING"; subject = subject }

abbrev pub failure_text : List Digest → List ℕ
failure_text ds =
    text_for precondition_failure_records
    (record { violations = map violation_of (map subject_of (distinct ds)) })

abbrev pub failure_url : List ℕ
failure_url = codes "type.googleapis.com/google.rpc.PreconditionFailure"

abbrev pub details_of : List Digest → List AnyValue
details_of ds =
    if length ds == 0 then []
    else record { type_url = failure_url; value = failure_text ds } ∷ []

-- the status of a fault, with these details
abbrev pub status_with : Fault → List AnyValue → StatusValue
status_with fault details =
    record { code = pos (code_of fault); message = text_of fault; details = details }

-- the status of a fault; blobs of these digests are missing
abbrev pub status_of : Fault → List Digest → StatusValue
status_of fault missing = status_with fault (details_of missing)
