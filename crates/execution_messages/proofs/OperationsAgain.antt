-- Messages of specs/Operations.antt that are written are read again.
use Rattle.std.proofs.Common.{[], ◌∷◌, refl}
use Rattle.protobuf_wire.specs.Again.{AreReadAgain}
use Rattle.protobuf_wire.proofs.ReadAgain.{flag_again, int32_again, sent_again, string_again}
use Rattle.protobuf_wire.proofs.Fitting.{embedded_fits, repeated_fits}
use Rattle.protobuf_wire.proofs.Messages.{is_written, embedded_part, flag_part, int32_part, repeated_part, sent_part, string_part}
use Rattle.execution_messages.specs.Operations.{execute_operation_metadata_of, execute_operation_metadata_records, FitsExecuteOperationMetadata, execute_response_of, execute_response_records, FitsExecuteResponse, operation_of, operation_records, FitsOperation, violation_of, violation_records, FitsViolation, precondition_failure_of, precondition_failure_records, FitsPreconditionFailure}
use Rattle.tree_messages.specs.Results.{action_result_of}
use Rattle.reapi_messages.specs.Statuses.{any_of, any_records, FitsAny, status_of, status_records, FitsStatus}
use Rattle.reapi_messages.proofs.StatusesAgain.{any_again, status_again}
use Rattle.reapi_messages.specs.Digests.{digest_of, digest_records, FitsDigest}
use Rattle.reapi_messages.proofs.DigestsAgain.{digest_again}

pub execute_operation_metadata_again : AreReadAgain execute_operation_metadata_of execute_operation_metadata_records
    FitsExecuteOperationMetadata
unfolding execute_operation_metadata_of
execute_operation_metadata_again v h short =
    let found = is_written (int32_part 1 v.stage h.stage ∷ embedded_part 2 digest_records v.action_digest ∷ []) refl short in
    rw (
      found.parsed,
      int32_again 1 v.stage _ h.stage found.places.0,
      embedded_fits digest_of digest_records FitsDigest digest_again 2 v.action_digest _ h.action_digest found.shorts.1.0 found.places.1.0,
    ) refl

pub execute_response_again : AreReadAgain execute_response_of execute_response_records FitsExecuteResponse
unfolding execute_response_of
execute_response_again v h short =
    let found = is_written (sent_part 1 v.result ∷ flag_part 2 v.cached_result ∷ embedded_part 3 status_records v.status ∷
    []) refl short in
    rw (
      found.parsed,
      sent_again action_result_of 1 v.result _ h.result found.places.0,
      flag_again 2 v.cached_result _ found.places.1.0,
      embedded_fits status_of status_records FitsStatus status_again 3 v.status _ h.status found.shorts.1.1.0 found.places.1.1.0,
    ) refl

pub operation_again : AreReadAgain operation_of operation_records FitsOperation
unfolding operation_of
operation_again v h short =
    let found = is_written (string_part 1 v.name ∷ embedded_part 2 any_records v.metadata ∷ flag_part 3 v.done ∷
    embedded_part 5 any_records v.response ∷ []) refl short in
    rw (
      found.parsed,
      string_again 1 v.name _ h.name found.places.0,
      embedded_fits any_of any_records FitsAny any_again 2 v.metadata _ h.metadata found.shorts.1.0 found.places.1.0,
      flag_again 3 v.done _ found.places.1.1.0,
      embedded_fits any_of any_records FitsAny any_again 5 v.response _ h.response found.shorts.1.1.1.0 found.places.1.1.1.0,
    ) refl

pub violation_again : AreReadAgain violation_of violation_records FitsViolation
unfolding violation_of
violation_again v h short =
    let found = is_written (string_part 1 v.kind ∷ string_part 2 v.subject ∷ []) refl short in
    rw (found.parsed, string_again 1 v.kind _ h.kind found.places.0, string_again 2 v.subject _ h.subject found.places.1.0) refl

pub precondition_failure_again : AreReadAgain precondition_failure_of precondition_failure_records FitsPreconditionFailure
unfolding precondition_failure_of
precondition_failure_again v h short =
    let found = is_written (repeated_part 1 violation_records v.violations ∷ []) refl short in
    rw (
      found.parsed,
      repeated_fits violation_of violation_records FitsViolation violation_again 1 v.violations _ h.violations found.shorts.0 found.places.0,
    ) refl
