-- FindMissingBlobsRequest and FindMissingBlobsResponse of build.bazel.remote.execution.v2
use Rattle.std.specs.Prelude.{ℕ, ℤ, List, ◌++◌, map, Result, Ok, ◌≡◌, true, FitsSigned}
use Rattle.std.specs.Str.{is_utf8}
use Rattle.std.specs.Int.{w32}
use Rattle.std.specs.List.{AllByRecursion}
use Rattle.protobuf_wire.specs.declared.error.MessageError.{MessageError}
use Rattle.protobuf_wire.specs.Results.{◌>>=◌}
use Rattle.protobuf_wire.specs.Record.{Record}
use Rattle.protobuf_wire.specs.Fields.{string, int32, repeated_values}
use Rattle.protobuf_wire.specs.Parts.{string_field, int32_field, repeated_field}
use Rattle.reapi_messages.specs.declared.find_missing.FindMissingBlobsRequest.{FindMissingBlobsRequest}
use Rattle.reapi_messages.specs.Digests.{DigestValue, FitsDigest, digest_shown, digest_of, digest_records}

-- instance_name 1, blob_digests 2 repeated, digest_function 3
pub record FindMissingBlobsRequestValue : Type 0 where
  pub instance_name : List ℕ
  pub blob_digests : List DigestValue
  pub digest_function : ℤ

abbrev pub find_missing_blobs_request_shown : FindMissingBlobsRequest → FindMissingBlobsRequestValue
find_missing_blobs_request_shown m = record {
  instance_name = m.instance_name.now;
  blob_digests = map digest_shown m.blob_digests.items;
  digest_function = m.digest_function;
}

unfoldable pub find_missing_blobs_request_of : List Record →
    Result FindMissingBlobsRequestValue MessageError
find_missing_blobs_request_of rs = do
  instance_name ← string 1 rs
  blob_digests ← repeated_values digest_of 2 rs
  Ok (record {
    instance_name = instance_name;
    blob_digests = blob_digests;
    digest_function = int32 3 rs;
  })

abbrev pub find_missing_blobs_request_records : FindMissingBlobsRequestValue → List Record
find_missing_blobs_request_records v =
    string_field 1 v.instance_name ++ repeated_field digest_records 2 v.blob_digests
    ++ int32_field 3 v.digest_function

-- missing_blob_digests 2 repeated
pub record FindMissingBlobsResponseValue : Type 0 where
  pub missing_blob_digests : List DigestValue

unfoldable pub find_missing_blobs_response_of : List Record →
    Result FindMissingBlobsResponseValue MessageError
find_missing_blobs_response_of rs = do
  missing_blob_digests ← repeated_values digest_of 2 rs
  Ok (record { missing_blob_digests = missing_blob_digests })

abbrev pub find_missing_blobs_response_records : FindMissingBlobsResponseValue → List Record
find_missing_blobs_response_records v = repeated_field digest_records 2 v.missing_blob_digests

-- ---- what fits the types of the fields

pub record FitsFindMissingBlobsRequest (v : FindMissingBlobsRequestValue) : Type 0 where
  pub instance_name : is_utf8 v.instance_name ≡ true
  pub blob_digests : AllByRecursion FitsDigest v.blob_digests
  pub digest_function : FitsSigned w32 v.digest_function

pub record FitsFindMissingBlobsResponse (v : FindMissingBlobsResponseValue) : Type 0 where
  pub missing_blob_digests : AllByRecursion FitsDigest v.missing_blob_digests
