-- Messages of specs/FindMissing.antt that are written are read again.
use Rattle.std.proofs.Common.{[], ◌∷◌, refl}
use Rattle.protobuf_wire.specs.Again.{AreReadAgain}
use Rattle.protobuf_wire.proofs.ReadAgain.{int32_again, string_again}
use Rattle.protobuf_wire.proofs.Fitting.{repeated_fits}
use Rattle.protobuf_wire.proofs.Messages.{is_written, int32_part, repeated_part, string_part}
use Rattle.reapi_messages.specs.FindMissing.{find_missing_blobs_request_of, find_missing_blobs_request_records, FitsFindMissingBlobsRequest, find_missing_blobs_response_of, find_missing_blobs_response_records, FitsFindMissingBlobsResponse}
use Rattle.reapi_messages.specs.Digests.{digest_of, digest_records, FitsDigest}
use Rattle.reapi_messages.proofs.DigestsAgain.{digest_again}

pub find_missing_blobs_request_again : AreReadAgain find_missing_blobs_request_of find_missing_blobs_request_records
    FitsFindMissingBlobsRequest
unfolding find_missing_blobs_request_of
find_missing_blobs_request_again v h short =
    let found = is_written (string_part 1 v.instance_name ∷ repeated_part 2 digest_records v.blob_digests ∷
    int32_part 3 v.digest_function h.digest_function ∷ []) refl short in
    rw (
      found.parsed,
      string_again 1 v.instance_name _ h.instance_name found.places.0,
      repeated_fits digest_of digest_records FitsDigest digest_again 2 v.blob_digests _ h.blob_digests found.shorts.1.0 found.places.1.0,
      int32_again 3 v.digest_function _ h.digest_function found.places.1.1.0,
    ) refl

pub find_missing_blobs_response_again : AreReadAgain find_missing_blobs_response_of find_missing_blobs_response_records
    FitsFindMissingBlobsResponse
unfolding find_missing_blobs_response_of
find_missing_blobs_response_again v h short =
    let found = is_written (repeated_part 2 digest_records v.missing_blob_digests ∷ []) refl short in
    rw (
      found.parsed,
      repeated_fits digest_of digest_records FitsDigest digest_again 2 v.missing_blob_digests _ h.missing_blob_digests found.shorts.0 found.places.0,
    ) refl
