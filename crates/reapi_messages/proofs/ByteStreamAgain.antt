-- Messages of specs/ByteStream.antt that are written are read again.
use Rattle.std.proofs.Common.{[], ◌∷◌, refl}
use Rattle.protobuf_wire.specs.Again.{AreReadAgain}
use Rattle.protobuf_wire.proofs.ReadAgain.{flag_again, int64_again, octets_again, string_again}
use Rattle.protobuf_wire.proofs.Messages.{is_written, flag_part, int64_part, octets_part, string_part}
use Rattle.reapi_messages.specs.ByteStream.{read_request_of, read_request_records, FitsReadRequest, read_response_of, read_response_records, FitsReadResponse, write_request_of, write_request_records, FitsWriteRequest, write_response_of, write_response_records, FitsWriteResponse, query_write_status_request_of, query_write_status_request_records, FitsQueryWriteStatusRequest, query_write_status_response_of, query_write_status_response_records, FitsQueryWriteStatusResponse}

pub read_request_again : AreReadAgain read_request_of read_request_records FitsReadRequest
unfolding read_request_of
read_request_again v h short =
    let found = is_written (string_part 1 v.resource_name ∷ int64_part 2 v.read_offset h.read_offset ∷
    int64_part 3 v.read_limit h.read_limit ∷ []) refl short in
    rw (
      found.parsed,
      string_again 1 v.resource_name _ h.resource_name found.places.0,
      int64_again 2 v.read_offset _ h.read_offset found.places.1.0,
      int64_again 3 v.read_limit _ h.read_limit found.places.1.1.0,
    ) refl

pub read_response_again : AreReadAgain read_response_of read_response_records FitsReadResponse
unfolding read_response_of
read_response_again v h short =
    let found = is_written (octets_part 10 v.content ∷ []) refl short in
    rw (found.parsed, octets_again 10 v.content _ found.places.0) refl

pub write_request_again : AreReadAgain write_request_of write_request_records FitsWriteRequest
unfolding write_request_of
write_request_again v h short =
    let found = is_written (string_part 1 v.resource_name ∷ int64_part 2 v.write_offset h.write_offset ∷ flag_part 3 v.finish_write ∷
    octets_part 10 v.content ∷ []) refl short in
    rw (
      found.parsed,
      string_again 1 v.resource_name _ h.resource_name found.places.0,
      int64_again 2 v.write_offset _ h.write_offset found.places.1.0,
      flag_again 3 v.finish_write _ found.places.1.1.0,
      octets_again 10 v.content _ found.places.1.1.1.0,
    ) refl

pub write_response_again : AreReadAgain write_response_of write_response_records FitsWriteResponse
unfolding write_response_of
write_response_again v h short =
    let found = is_written (int64_part 1 v.committed_size h.committed_size ∷ []) refl short in
    rw (found.parsed, int64_again 1 v.committed_size _ h.committed_size found.places.0) refl

pub query_write_status_request_again : AreReadAgain query_write_status_request_of query_write_status_request_records
    FitsQueryWriteStatusRequest
unfolding query_write_status_request_of
query_write_status_request_again v h short =
    let found = is_written (string_part 1 v.resource_name ∷ []) refl short in
    rw (found.parsed, string_again 1 v.resource_name _ h.resource_name found.places.0) refl

pub query_write_status_response_again : AreReadAgain query_write_status_response_of query_write_status_response_records
    FitsQueryWriteStatusResponse
unfolding query_write_status_response_of
query_write_status_response_again v h short =
    let found = is_written (int64_part 1 v.committed_size h.committed_size ∷ flag_part 2 v.complete ∷ []) refl short in
    rw (found.parsed, int64_again 1 v.committed_size _ h.committed_size found.places.0, flag_again 2 v.complete _ found.places.1.0) refl
