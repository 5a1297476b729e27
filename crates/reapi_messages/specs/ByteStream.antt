-- Messages of google.bytestream
use Rattle.std.specs.Prelude.{◌≡◌, true, ⊤, Bool, ℕ, ℤ, List, ◌++◌, Result, Ok, FitsSigned}
use Rattle.std.specs.Str.{is_utf8}
use Rattle.std.specs.Int.{w64}
use Rattle.protobuf_wire.specs.declared.error.MessageError.{MessageError}
use Rattle.protobuf_wire.specs.Results.{◌>>=◌}
use Rattle.protobuf_wire.specs.Record.{Record}
use Rattle.protobuf_wire.specs.Fields.{flag, int64, octets, string}
use Rattle.protobuf_wire.specs.Parts.{flag_field, int64_field, string_field}
use Rattle.protobuf_wire.specs.Writing.{bytes_field}
use Rattle.reapi_messages.specs.declared.byte_stream.ReadRequest.{ReadRequest}
use Rattle.reapi_messages.specs.declared.byte_stream.WriteRequest.{WriteRequest}
use Rattle.reapi_messages.specs.declared.byte_stream.WriteResponse.{WriteResponse}
use Rattle.reapi_messages.specs.declared.byte_stream.QueryWriteStatusRequest.{QueryWriteStatusRequest}
use Rattle.reapi_messages.specs.declared.byte_stream.QueryWriteStatusResponse.{QueryWriteStatusResponse}

-- resource_name 1, read_offset 2, read_limit 3
pub record ReadRequestValue : Type 0 where
  pub resource_name : List ℕ
  pub read_offset : ℤ
  pub read_limit : ℤ

abbrev pub read_request_shown : ReadRequest → ReadRequestValue
read_request_shown m = record {
  resource_name = m.resource_name.now;
  read_offset = m.read_offset;
  read_limit = m.read_limit;
}

unfoldable pub read_request_of : List Record → Result ReadRequestValue MessageError
read_request_of rs = do
  resource_name ← string 1 rs
  Ok (record { resource_name = resource_name; read_offset = int64 2 rs; read_limit = int64 3 rs })

abbrev pub read_request_records : ReadRequestValue → List Record
read_request_records v =
    string_field 1 v.resource_name ++ int64_field 2 v.read_offset ++ int64_field 3 v.read_limit

-- data 10
pub record ReadResponseValue : Type 0 where
  pub content : List ℕ

unfoldable pub read_response_of : List Record → Result ReadResponseValue MessageError
read_response_of rs = Ok (record { content = octets 10 rs })

abbrev pub read_response_records : ReadResponseValue → List Record
read_response_records v = bytes_field 10 v.content

-- resource_name 1, write_offset 2, finish_write 3, data 10
pub record WriteRequestValue : Type 0 where
  pub resource_name : List ℕ
  pub write_offset : ℤ
  pub finish_write : Bool
  pub content : List ℕ

abbrev pub write_request_shown : WriteRequest → WriteRequestValue
write_request_shown m = record {
  resource_name = m.resource_name.now;
  write_offset = m.write_offset;
  finish_write = m.finish_write;
  content = m.content.now;
}

unfoldable pub write_request_of : List Record → Result WriteRequestValue MessageError
write_request_of rs = do
  resource_name ← string 1 rs
  Ok (record {
    resource_name = resource_name;
    write_offset = int64 2 rs;
    finish_write = flag 3 rs;
    content = octets 10 rs;
  })

abbrev pub write_request_records : WriteRequestValue → List Record
write_request_records v =
    string_field 1 v.resource_name ++ int64_field 2 v.write_offset ++ flag_field 3 v.finish_write
    ++ bytes_field 10 v.content

-- committed_size 1
pub record WriteResponseValue : Type 0 where
  pub committed_size : ℤ

abbrev pub write_response_shown : WriteResponse → WriteResponseValue
write_response_shown m = record { committed_size = m.committed_size }

unfoldable pub write_response_of : List Record → Result WriteResponseValue MessageError
write_response_of rs = Ok (record { committed_size = int64 1 rs })

abbrev pub write_response_records : WriteResponseValue → List Record
write_response_records v = int64_field 1 v.committed_size

-- resource_name 1
pub record QueryWriteStatusRequestValue : Type 0 where
  pub resource_name : List ℕ

abbrev pub query_write_status_request_shown : QueryWriteStatusRequest → QueryWriteStatusRequestValue
query_write_status_request_shown m = record { resource_name = m.resource_name.now }

unfoldable pub query_write_status_request_of : List Record →
    Result QueryWriteStatusRequestValue MessageError
query_write_status_request_of rs = do
  resource_name ← string 1 rs
  Ok (record { resource_name = resource_name })

abbrev pub query_write_status_request_records : QueryWriteStatusRequestValue → List Record
query_write_status_request_records v = string_field 1 v.resource_name

-- committed_size 1, complete 2
pub record QueryWriteStatusResponseValue : Type 0 where
  pub committed_size : ℤ
  pub complete : Bool

abbrev pub query_write_status_response_shown : QueryWriteStatusResponse →
    QueryWriteStatusResponseValue
query_write_status_response_shown m =
    record { committed_size = m.committed_size; complete = m.complete }

unfoldable pub query_write_status_response_of : List Record →
    Result QueryWriteStatusResponseValue MessageError
query_write_status_response_of rs =
    Ok (record { committed_size = int64 1 rs; complete = flag 2 rs })

abbrev pub query_write_status_response_records : QueryWriteStatusResponseValue → List Record
query_write_status_response_records v = int64_field 1 v.committed_size ++ flag_field 2 v.complete

-- ---- what fits the types of the fields

pub record FitsReadRequest (v : ReadRequestValue) : Type 0 where
  pub resource_name : is_utf8 v.resource_name ≡ true
  pub read_offset : FitsSigned w64 v.read_offset
  pub read_limit : FitsSigned w64 v.read_limit

abbrev pub FitsReadResponse : ReadResponseValue → Type 0
FitsReadResponse v = ⊤

pub record FitsWriteRequest (v : WriteRequestValue) : Type 0 where
  pub resource_name : is_utf8 v.resource_name ≡ true
  pub write_offset : FitsSigned w64 v.write_offset

pub record FitsWriteResponse (v : WriteResponseValue) : Type 0 where
  pub committed_size : FitsSigned w64 v.committed_size

pub record FitsQueryWriteStatusRequest (v : QueryWriteStatusRequestValue) : Type 0 where
  pub resource_name : is_utf8 v.resource_name ≡ true

pub record FitsQueryWriteStatusResponse (v : QueryWriteStatusResponseValue) : Type 0 where
  pub committed_size : FitsSigned w64 v.committed_size
