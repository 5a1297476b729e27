-- QueryWriteStatus (bytestream.proto): how much of an upload is there.
use Rattle.std.specs.Prelude.{ℕ, pos, true, false, is_some, if◌then◌else◌, List, length, Option, Some, None, Result, Ok, Err}
use Rattle.reapi_messages.specs.Results.{◌>>=◌}
use Rattle.reapi_messages.specs.Fields.{value_of_text}
use Rattle.reapi_messages.specs.Parts.{text_for}
use Rattle.reapi_messages.specs.ByteStream.{QueryWriteStatusResponseValue, query_write_status_request_of, query_write_status_response_records}
use Rattle.rpc.specs.declared.refusal.Refusal.{Refusal}
use Rattle.rpc.specs.declared.refusal.Refusal.TheVariants.{UploadNotFound}
use Rattle.instance_view.specs.Visible.{Blob, visible_text}
use Rattle.cas_service.specs.Requests.{message_or_refusal, instance_check}
use Rattle.resource_names.specs.Names.{WriteNameValue, write_name}
use Rattle.uploads.specs.Uploads.{KeyValue, UploadValue, UploadList, upload_at}
use Rattle.bytestream.specs.Refusals.{name_or_refusal}

-- the upload that a name names
abbrev pub key_of_name : WriteNameValue → KeyValue
key_of_name name = record { uuid = name.uuid; digest = name.digest }

-- the upload that is asked for, or the request's refusal
unfoldable pub query_asked : List ℕ → List ℕ → Result KeyValue Refusal
query_asked own message = do
  request ← message_or_refusal (value_of_text query_write_status_request_of message)
  name ← name_or_refusal (write_name request.resource_name)
  _ ← instance_check own name.instance
  Ok (key_of_name name)

abbrev pub status_of_upload : Option UploadValue → Result QueryWriteStatusResponseValue Refusal
status_of_upload (Some upload) =
    Ok (record { committed_size = pos (length upload.text); complete = false })
status_of_upload None = Err UploadNotFound

-- a blob that is seen is complete
abbrev pub status_of : KeyValue → List Blob → UploadList →
    Result QueryWriteStatusResponseValue Refusal
status_of key visible uploads =
    if is_some (visible_text key.digest visible)
    then Ok (record { committed_size = pos key.digest.size; complete = true })
    else status_of_upload (upload_at key uploads)

-- the reply's message
abbrev pub query_reply : List ℕ → List Blob → UploadList → List ℕ → Result (List ℕ) Refusal
query_reply own visible uploads message = do
  key ← query_asked own message
  status ← status_of key visible uploads
  Ok (text_for query_write_status_response_records status)
