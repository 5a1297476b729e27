-- What a client reads that asks for a blob, from the bytes that it sent to those that it gets
-- (bytestream.proto, Read): no word of the instance's state stands here, nor of its answers.
use Rattle.std.specs.Prelude.{◌≡◌, ℕ, pos, Bool, false, ◌==◌, if◌then◌else◌, List, [], ◌∷◌, ◌++◌, map, Result, Ok, Err}
use Rattle.std.specs.List.{flat_map, list_any}
use Rattle.bytestream.specs.declared.reading.ReadAsked.{ReadAsked}
use Rattle.bytestream.specs.Reading.{read_asked}
use Rattle.conn_core.specs.Event.{Event}
use Rattle.conn_core.specs.Event.TheVariants.{Request}
use Rattle.conn_core.specs.History.{Entry}
use Rattle.conn_core.specs.HeadFault.{HeadFault}
use Rattle.conn_core.specs.Calls.{events, messages_of, stream_text}
use Rattle.conn_core.specs.Past.{Past}
use Rattle.conn_core.specs.Requests.{head_of}
use Rattle.client_reading.specs.Responses.{IsBeginning, ResponsePart, StreamPart, WholeMessage, read_messages, response_of, stream_parts}
use Rattle.instance_core.specs.Method.{Method}
use Rattle.instance_core.specs.Method.TheVariants.{Read}
use Rattle.instance_core.specs.NamedReplies.{bytes_from}
use Rattle.instance_core.specs.Naming.{Names}
use Rattle.instance_core.specs.Refusal.{Refusal}
use Rattle.instance_core.specs.Replies.{begins, ends, refuses}
use Rattle.served_instance.specs.Calls.{item_of}
use Rattle.served_instance.specs.Connections.{LoneConnection}
use Rattle.server_core.specs.Families.{Family, FamilyEvent}
use Rattle.run_reading.specs.Replies.{longest_message, run_connections}

-- ---- what was asked

abbrev pub method_of : Result Method HeadFault → List Method
method_of (Ok method) = method ∷ []
method_of (Err fault) = []

abbrev pub method_on : ℕ → Event → List Method
method_on s (Request t fields end_stream) = if t == s then method_of (head_of fields) else []
method_on s _ = []

-- the methods of the calls that came on stream s
abbrev pub methods_on : List Entry → ℕ → List Method
methods_on d s = flat_map (method_on s) (events d)

-- what came on this stream is a call of Read, and this is its message
pub record AsksToRead (p : Past) (s : ℕ) (message : List ℕ) : Type 0 where
  pub method : methods_on p.history s ≡ Read ∷ []
  pub later : List (List ℕ)
  pub first : (messages_of (stream_text p.history s)).items ≡ message ∷ later

-- ---- what is read

-- bytes of the text that the digest in the resource name names: from read_offset on, and at most
-- read_limit of them
pub record IsPartOfBlob (name message bytes : List ℕ) : Type 0 where
  pub asked : ReadAsked
  pub asks : read_asked name message ≡ Ok asked
  pub text : List ℕ
  pub named : Names asked.digest text
  pub from : ℕ
  pub offset : asked.offset ≡ pos from
  pub part : bytes ≡ bytes_from from asked.limit text

-- nothing yet; a refusal; or those bytes, between the head and the trailers of a response with
-- status OK
pub data IsResponseToRead (name message : List ℕ) (response : List ResponsePart) : Type 0 where
  Unanswered : response ≡ [] → IsResponseToRead name message response
  Refused : (refusal : Refusal) → response ≡ response_of (item_of (refuses refusal) ∷ []) →
      IsResponseToRead name message response
  Given : (bytes : List ℕ) → IsPartOfBlob name message bytes →
      response ≡ response_of (item_of begins ∷ []) ++ (map WholeMessage (read_messages bytes)
      ++ response_of (item_of ends ∷ [])) → IsResponseToRead name message response

-- the client reads a beginning of such a response
pub record ReadsBlob (name message : List ℕ) (received : List StreamPart) : Type 0 where
  pub response : List ResponsePart
  pub right : IsResponseToRead name message response
  pub reads : IsBeginning longest_message received response

-- on each connection of a run whose number none had before, and on each of its streams that asks
-- for a blob
abbrev pub has_number : ℕ → List LoneConnection → Bool
has_number c ks = list_any (λ k. k.number == c) ks

abbrev pub ReadsBlobsAskedFor : Family → List FamilyEvent → Type 0
ReadsBlobsAskedFor family events =
    (before after : List LoneConnection) (k : LoneConnection) (s : ℕ) (message : List ℕ)
    → run_connections family events ≡ before ++ k ∷ after → has_number k.number before ≡ false
    → AsksToRead k.past s message
    → ReadsBlob family.own.name message (stream_parts k.past.history s)
