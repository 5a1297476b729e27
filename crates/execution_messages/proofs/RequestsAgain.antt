-- Messages of specs/Requests.antt that are written are read again.
use Rattle.std.proofs.Common.{[], ◌∷◌, refl}
use Rattle.protobuf_wire.specs.Again.{AreReadAgain}
use Rattle.protobuf_wire.proofs.ReadAgain.{flag_again, int32_again, string_again}
use Rattle.protobuf_wire.proofs.Fitting.{embedded_fits}
use Rattle.protobuf_wire.proofs.Messages.{is_written, embedded_part, flag_part, int32_part, string_part}
use Rattle.execution_messages.specs.Requests.{execute_request_of, execute_request_records, FitsExecuteRequest, wait_execution_request_of, wait_execution_request_records, FitsWaitExecutionRequest}
use Rattle.reapi_messages.specs.Digests.{digest_of, digest_records, FitsDigest}
use Rattle.reapi_messages.proofs.DigestsAgain.{digest_again}

pub execute_request_again : AreReadAgain execute_request_of execute_request_records FitsExecuteRequest
unfolding execute_request_of
execute_request_again v h short =
    let found = is_written (string_part 1 v.instance_name ∷ flag_part 3 v.skip_cache_lookup ∷
    embedded_part 6 digest_records v.action_digest ∷ int32_part 9 v.digest_function h.digest_function ∷ []) refl short in
    rw (
      found.parsed,
      string_again 1 v.instance_name _ h.instance_name found.places.0,
      flag_again 3 v.skip_cache_lookup _ found.places.1.0,
      embedded_fits digest_of digest_records FitsDigest digest_again 6 v.action_digest _ h.action_digest found.shorts.1.1.0 found.places.1.1.0,
      int32_again 9 v.digest_function _ h.digest_function found.places.1.1.1.0,
    ) refl

pub wait_execution_request_again : AreReadAgain wait_execution_request_of wait_execution_request_records FitsWaitExecutionRequest
unfolding wait_execution_request_of
wait_execution_request_again v h short =
    let found = is_written (string_part 1 v.name ∷ []) refl short in
    rw (found.parsed, string_again 1 v.name _ h.name found.places.0) refl
