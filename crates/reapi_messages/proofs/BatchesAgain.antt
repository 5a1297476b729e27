-- Messages of specs/Batches.antt that are written are read again.
use Rattle.std.proofs.Common.{[], ◌∷◌, refl}
use Rattle.protobuf_wire.specs.Again.{AreReadAgain}
use Rattle.protobuf_wire.proofs.ReadAgain.{int32_again, octets_again, string_again}
use Rattle.protobuf_wire.proofs.Fitting.{embedded_fits, repeated_fits}
use Rattle.protobuf_wire.proofs.Messages.{is_written, embedded_part, int32_part, octets_part, repeated_part, string_part}
use Rattle.reapi_messages.specs.Batches.{update_blob_request_of, update_blob_request_records, FitsUpdateBlobRequest, batch_update_blobs_request_of, batch_update_blobs_request_records, FitsBatchUpdateBlobsRequest, update_blob_response_of, update_blob_response_records, FitsUpdateBlobResponse, batch_update_blobs_response_of, batch_update_blobs_response_records, FitsBatchUpdateBlobsResponse, batch_read_blobs_request_of, batch_read_blobs_request_records, FitsBatchReadBlobsRequest, read_blob_response_of, read_blob_response_records, FitsReadBlobResponse, batch_read_blobs_response_of, batch_read_blobs_response_records, FitsBatchReadBlobsResponse}
use Rattle.reapi_messages.specs.Digests.{digest_of, digest_records, FitsDigest}
use Rattle.reapi_messages.proofs.DigestsAgain.{digest_again}
use Rattle.reapi_messages.specs.Statuses.{status_of, status_records, FitsStatus}
use Rattle.reapi_messages.proofs.StatusesAgain.{status_again}

pub update_blob_request_again : AreReadAgain update_blob_request_of update_blob_request_records FitsUpdateBlobRequest
unfolding update_blob_request_of
update_blob_request_again v h short =
    let found = is_written (embedded_part 1 digest_records v.digest ∷ octets_part 2 v.content ∷ int32_part 3 v.compressor h.compressor ∷
    []) refl short in
    rw (
      found.parsed,
      embedded_fits digest_of digest_records FitsDigest digest_again 1 v.digest _ h.digest found.shorts.0 found.places.0,
      octets_again 2 v.content _ found.places.1.0,
      int32_again 3 v.compressor _ h.compressor found.places.1.1.0,
    ) refl

pub batch_update_blobs_request_again : AreReadAgain batch_update_blobs_request_of batch_update_blobs_request_records
    FitsBatchUpdateBlobsRequest
unfolding batch_update_blobs_request_of
batch_update_blobs_request_again v h short =
    let found = is_written (string_part 1 v.instance_name ∷ repeated_part 2 update_blob_request_records v.requests ∷
    int32_part 5 v.digest_function h.digest_function ∷ []) refl short in
    rw (
      found.parsed,
      string_again 1 v.instance_name _ h.instance_name found.places.0,
      repeated_fits update_blob_request_of update_blob_request_records FitsUpdateBlobRequest update_blob_request_again 2 v.requests _ h.requests found.shorts.1.0 found.places.1.0,
      int32_again 5 v.digest_function _ h.digest_function found.places.1.1.0,
    ) refl

pub update_blob_response_again : AreReadAgain update_blob_response_of update_blob_response_records FitsUpdateBlobResponse
unfolding update_blob_response_of
update_blob_response_again v h short =
    let found = is_written (embedded_part 1 digest_records v.digest ∷ embedded_part 2 status_records v.status ∷ []) refl short in
    rw (
      found.parsed,
      embedded_fits digest_of digest_records FitsDigest digest_again 1 v.digest _ h.digest found.shorts.0 found.places.0,
      embedded_fits status_of status_records FitsStatus status_again 2 v.status _ h.status found.shorts.1.0 found.places.1.0,
    ) refl

pub batch_update_blobs_response_again : AreReadAgain batch_update_blobs_response_of batch_update_blobs_response_records
    FitsBatchUpdateBlobsResponse
unfolding batch_update_blobs_response_of
batch_update_blobs_response_again v h short =
    let found = is_written (repeated_part 1 update_blob_response_records v.responses ∷ []) refl short in
    rw (
      found.parsed,
      repeated_fits update_blob_response_of update_blob_response_records FitsUpdateBlobResponse update_blob_response_again 1 v.responses _ h.responses found.shorts.0 found.places.0,
    ) refl

pub batch_read_blobs_request_again : AreReadAgain batch_read_blobs_request_of batch_read_blobs_request_records FitsBatchReadBlobsRequest
unfolding batch_read_blobs_request_of
batch_read_blobs_request_again v h short =
    let found = is_written (string_part 1 v.instance_name ∷ repeated_part 2 digest_records v.digests ∷
    int32_part 4 v.digest_function h.digest_function ∷ []) refl short in
    rw (
      found.parsed,
      string_again 1 v.instance_name _ h.instance_name found.places.0,
      repeated_fits digest_of digest_records FitsDigest digest_again 2 v.digests _ h.digests found.shorts.1.0 found.places.1.0,
      int32_again 4 v.digest_function _ h.digest_function found.places.1.1.0,
    ) refl

pub read_blob_response_again : AreReadAgain read_blob_response_of read_blob_response_records FitsReadBlobResponse
unfolding read_blob_response_of
read_blob_response_again v h short =
    let found = is_written (embedded_part 1 digest_records v.digest ∷ octets_part 2 v.content ∷ embedded_part 3 status_records v.status ∷
    []) refl short in
    rw (
      found.parsed,
      embedded_fits digest_of digest_records FitsDigest digest_again 1 v.digest _ h.digest found.shorts.0 found.places.0,
      octets_again 2 v.content _ found.places.1.0,
      embedded_fits status_of status_records FitsStatus status_again 3 v.status _ h.status found.shorts.1.1.0 found.places.1.1.0,
    ) refl

pub batch_read_blobs_response_again : AreReadAgain batch_read_blobs_response_of batch_read_blobs_response_records
    FitsBatchReadBlobsResponse
unfolding batch_read_blobs_response_of
batch_read_blobs_response_again v h short =
    let found = is_written (repeated_part 1 read_blob_response_records v.responses ∷ []) refl short in
    rw (
      found.parsed,
      repeated_fits read_blob_response_of read_blob_response_records FitsReadBlobResponse read_blob_response_again 1 v.responses _ h.responses found.shorts.0 found.places.0,
    ) refl
