-- BatchUpdateBlobs and BatchReadBlobs of build.bazel.remote.execution.v2
use Rattle.std.specs.Prelude.{ℕ, ℤ, List, ◌++◌, map, option_map, Option, Result, Ok, ◌≡◌, true, FitsSigned, IfSome}
use Rattle.std.specs.Str.{is_utf8}
use Rattle.std.specs.Int.{w32}
use Rattle.std.specs.List.{AllByRecursion}
use Rattle.protobuf_wire.specs.declared.error.MessageError.{MessageError}
use Rattle.protobuf_wire.specs.Results.{◌>>=◌}
use Rattle.protobuf_wire.specs.Record.{Record}
use Rattle.protobuf_wire.specs.Fields.{string, octets, int32, embedded_value, repeated_values}
use Rattle.protobuf_wire.specs.Parts.{string_field, int32_field, embedded_field, repeated_field}
use Rattle.protobuf_wire.specs.Writing.{bytes_field}
use Rattle.protobuf_wire.specs.Pieces.{pieces_text}
use Rattle.reapi_messages.specs.declared.batches.UpdateBlobRequest.{UpdateBlobRequest}
use Rattle.reapi_messages.specs.declared.batches.BatchUpdateBlobsRequest.{BatchUpdateBlobsRequest}
use Rattle.reapi_messages.specs.declared.batches.ReadBlobResponse.{ReadBlobResponse}
use Rattle.reapi_messages.specs.declared.batches.BatchReadBlobsResponse.{BatchReadBlobsResponse}
use Rattle.reapi_messages.specs.Digests.{DigestValue, FitsDigest, digest_shown, digest_of, digest_records}
use Rattle.reapi_messages.specs.Statuses.{StatusValue, FitsStatus, status_shown, status_of, status_records}

-- ---- BatchUpdateBlobsRequest

-- BatchUpdateBlobsRequest.Request: digest 1, data 2, compressor 3
pub record UpdateBlobRequestValue : Type 0 where
  pub digest : Option DigestValue
  pub content : List ℕ
  pub compressor : ℤ

abbrev pub update_blob_request_shown : UpdateBlobRequest → UpdateBlobRequestValue
update_blob_request_shown m = record {
  digest = option_map digest_shown m.digest;
  content = m.content.now;
  compressor = m.compressor;
}

unfoldable pub update_blob_request_of : List Record → Result UpdateBlobRequestValue MessageError
update_blob_request_of rs = do
  digest ← embedded_value digest_of 1 rs
  Ok (record { digest = digest; content = octets 2 rs; compressor = int32 3 rs })

abbrev pub update_blob_request_records : UpdateBlobRequestValue → List Record
update_blob_request_records v =
    embedded_field digest_records 1 v.digest ++ bytes_field 2 v.content
    ++ int32_field 3 v.compressor

-- instance_name 1, requests 2 repeated, digest_function 5
pub record BatchUpdateBlobsRequestValue : Type 0 where
  pub instance_name : List ℕ
  pub requests : List UpdateBlobRequestValue
  pub digest_function : ℤ

abbrev pub batch_update_blobs_request_shown : BatchUpdateBlobsRequest → BatchUpdateBlobsRequestValue
batch_update_blobs_request_shown m = record {
  instance_name = m.instance_name.now;
  requests = map update_blob_request_shown m.requests.items;
  digest_function = m.digest_function;
}

unfoldable pub batch_update_blobs_request_of : List Record →
    Result BatchUpdateBlobsRequestValue MessageError
batch_update_blobs_request_of rs = do
  instance_name ← string 1 rs
  requests ← repeated_values update_blob_request_of 2 rs
  Ok (record { instance_name = instance_name; requests = requests; digest_function = int32 5 rs })

abbrev pub batch_update_blobs_request_records : BatchUpdateBlobsRequestValue → List Record
batch_update_blobs_request_records v =
    string_field 1 v.instance_name ++ repeated_field update_blob_request_records 2 v.requests
    ++ int32_field 5 v.digest_function

-- ---- BatchUpdateBlobsResponse

-- BatchUpdateBlobsResponse.Response: digest 1, status 2
pub record UpdateBlobResponseValue : Type 0 where
  pub digest : Option DigestValue
  pub status : Option StatusValue

unfoldable pub update_blob_response_of : List Record → Result UpdateBlobResponseValue MessageError
update_blob_response_of rs = do
  digest ← embedded_value digest_of 1 rs
  status ← embedded_value status_of 2 rs
  Ok (record { digest = digest; status = status })

abbrev pub update_blob_response_records : UpdateBlobResponseValue → List Record
update_blob_response_records v =
    embedded_field digest_records 1 v.digest ++ embedded_field status_records 2 v.status

-- responses 1 repeated
pub record BatchUpdateBlobsResponseValue : Type 0 where
  pub responses : List UpdateBlobResponseValue

unfoldable pub batch_update_blobs_response_of : List Record →
    Result BatchUpdateBlobsResponseValue MessageError
batch_update_blobs_response_of rs = do
  responses ← repeated_values update_blob_response_of 1 rs
  Ok (record { responses = responses })

abbrev pub batch_update_blobs_response_records : BatchUpdateBlobsResponseValue → List Record
batch_update_blobs_response_records v = repeated_field update_blob_response_records 1 v.responses

-- ---- BatchReadBlobsRequest

-- instance_name 1, digests 2 repeated, digest_function 4; acceptable_compressors 3 is not read
pub record BatchReadBlobsRequestValue : Type 0 where
  pub instance_name : List ℕ
  pub digests : List DigestValue
  pub digest_function : ℤ

unfoldable pub batch_read_blobs_request_of : List Record →
    Result BatchReadBlobsRequestValue MessageError
batch_read_blobs_request_of rs = do
  instance_name ← string 1 rs
  digests ← repeated_values digest_of 2 rs
  Ok (record { instance_name = instance_name; digests = digests; digest_function = int32 4 rs })

abbrev pub batch_read_blobs_request_records : BatchReadBlobsRequestValue → List Record
batch_read_blobs_request_records v =
    string_field 1 v.instance_name ++ repeated_field digest_records 2 v.digests
    ++ int32_field 4 v.digest_function

-- ---- BatchReadBlobsResponse

-- BatchReadBlobsResponse.Response: digest 1, data 2, status 3
pub record ReadBlobResponseValue : Type 0 where
  pub digest : Option DigestValue
  pub content : List ℕ
  pub status : Option StatusValue

abbrev pub read_blob_response_shown : ReadBlobResponse → ReadBlobResponseValue
read_blob_response_shown m = record {
  digest = option_map digest_shown m.digest;
  content = pieces_text m.content;
  status = option_map status_shown m.status;
}

unfoldable pub read_blob_response_of : List Record → Result ReadBlobResponseValue MessageError
read_blob_response_of rs = do
  digest ← embedded_value digest_of 1 rs
  status ← embedded_value status_of 3 rs
  Ok (record { digest = digest; content = octets 2 rs; status = status })

abbrev pub read_blob_response_records : ReadBlobResponseValue → List Record
read_blob_response_records v =
    embedded_field digest_records 1 v.digest ++ bytes_field 2 v.content
    ++ embedded_field status_records 3 v.status

-- responses 1 repeated
pub record BatchReadBlobsResponseValue : Type 0 where
  pub responses : List ReadBlobResponseValue

abbrev pub batch_read_blobs_response_shown : BatchReadBlobsResponse → BatchReadBlobsResponseValue
batch_read_blobs_response_shown m =
    record { responses = map read_blob_response_shown m.responses.items }

unfoldable pub batch_read_blobs_response_of : List Record →
    Result BatchReadBlobsResponseValue MessageError
batch_read_blobs_response_of rs = do
  responses ← repeated_values read_blob_response_of 1 rs
  Ok (record { responses = responses })

abbrev pub batch_read_blobs_response_records : BatchReadBlobsResponseValue → List Record
batch_read_blobs_response_records v = repeated_field read_blob_response_records 1 v.responses

-- ---- what fits the types of the fields

pub record FitsUpdateBlobRequest (v : UpdateBlobRequestValue) : Type 0 where
  pub digest : IfSome v.digest FitsDigest
  pub compressor : FitsSigned w32 v.compressor

pub record FitsBatchUpdateBlobsRequest (v : BatchUpdateBlobsRequestValue) : Type 0 where
  pub instance_name : is_utf8 v.instance_name ≡ true
  pub requests : AllByRecursion FitsUpdateBlobRequest v.requests
  pub digest_function : FitsSigned w32 v.digest_function

pub record FitsUpdateBlobResponse (v : UpdateBlobResponseValue) : Type 0 where
  pub digest : IfSome v.digest FitsDigest
  pub status : IfSome v.status FitsStatus

pub record FitsBatchUpdateBlobsResponse (v : BatchUpdateBlobsResponseValue) : Type 0 where
  pub responses : AllByRecursion FitsUpdateBlobResponse v.responses

pub record FitsBatchReadBlobsRequest (v : BatchReadBlobsRequestValue) : Type 0 where
  pub instance_name : is_utf8 v.instance_name ≡ true
  pub digests : AllByRecursion FitsDigest v.digests
  pub digest_function : FitsSigned w32 v.digest_function

pub record FitsReadBlobResponse (v : ReadBlobResponseValue) : Type 0 where
  pub digest : IfSome v.digest FitsDigest
  pub status : IfSome v.status FitsStatus

pub record FitsBatchReadBlobsResponse (v : BatchReadBlobsResponseValue) : Type 0 where
  pub responses : AllByRecursion FitsReadBlobResponse v.responses
