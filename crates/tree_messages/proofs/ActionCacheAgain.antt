-- Messages of specs/ActionCache.antt that are written are read again.
use Rattle.std.proofs.Common.{[], ◌∷◌, refl}
use Rattle.protobuf_wire.specs.Again.{AreReadAgain}
use Rattle.protobuf_wire.proofs.ReadAgain.{int32_again, sent_again, string_again}
use Rattle.protobuf_wire.proofs.Fitting.{embedded_fits}
use Rattle.protobuf_wire.proofs.Messages.{is_written, embedded_part, int32_part, sent_part, string_part}
use Rattle.tree_messages.specs.ActionCache.{get_action_result_request_of, get_action_result_request_records, FitsGetActionResultRequest, update_action_result_request_of, update_action_result_request_records, FitsUpdateActionResultRequest}
use Rattle.reapi_messages.specs.Digests.{digest_of, digest_records, FitsDigest}
use Rattle.reapi_messages.proofs.DigestsAgain.{digest_again}
use Rattle.tree_messages.specs.Results.{action_result_of}

pub get_action_result_request_again : AreReadAgain get_action_result_request_of get_action_result_request_records
    FitsGetActionResultRequest
unfolding get_action_result_request_of
get_action_result_request_again v h short =
    let found = is_written (string_part 1 v.instance_name ∷ embedded_part 2 digest_records v.action_digest ∷
    int32_part 6 v.digest_function h.digest_function ∷ []) refl short in
    rw (
      found.parsed,
      string_again 1 v.instance_name _ h.instance_name found.places.0,
      embedded_fits digest_of digest_records FitsDigest digest_again 2 v.action_digest _ h.action_digest found.shorts.1.0 found.places.1.0,
      int32_again 6 v.digest_function _ h.digest_function found.places.1.1.0,
    ) refl

pub update_action_result_request_again : AreReadAgain update_action_result_request_of update_action_result_request_records
    FitsUpdateActionResultRequest
unfolding update_action_result_request_of
update_action_result_request_again v h short =
    let found = is_written (string_part 1 v.instance_name ∷ embedded_part 2 digest_records v.action_digest ∷ sent_part 3 v.action_result ∷
    int32_part 5 v.digest_function h.digest_function ∷ []) refl short in
    rw (
      found.parsed,
      string_again 1 v.instance_name _ h.instance_name found.places.0,
      embedded_fits digest_of digest_records FitsDigest digest_again 2 v.action_digest _ h.action_digest found.shorts.1.0 found.places.1.0,
      sent_again action_result_of 3 v.action_result _ h.action_result found.places.1.1.0,
      int32_again 5 v.digest_function _ h.digest_function found.places.1.1.1.0,
    ) refl
