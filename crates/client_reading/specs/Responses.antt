-- What a client makes of the HEADERS and DATA of a stream: header blocks by HPACK (RFC 7541), and
-- messages by gRPC over HTTP2 (Length-Prefixed-Message). Nothing here reads what the server meant
-- to send.
use Rattle.std.specs.Prelude.{◌≡◌, ◌<◌, ◌≤◌, ◌==◌, if◌then◌else◌, ℕ, zero, suc, nat_lt, take, drop, Bool, true, List, [], ◌∷◌, ◌++◌, length, map, Option, Some, Result, Ok, Err}
use Rattle.std.specs.List.{AllByRecursion, flat_map}
use Rattle.hpack.specs.declared.error.HpackError.{HpackError}
use Rattle.hpack.specs.Header.{Header}
use Rattle.hpack.specs.Table.{Table, new_table}
use Rattle.hpack.specs.Block.{step}
use Rattle.http2_frames.specs.declared.frame.Frame.{Frame}
use Rattle.http2_frames.specs.declared.frame.Frame.TheVariants.{Data, Headers}
use Rattle.http2_streams.specs.History.{Entry, sent_frames}
use Rattle.grpc_messages.specs.declared.error.MessagesError.{MessagesError}
use Rattle.grpc_messages.specs.Wire.{Split}
use Rattle.grpc_messages.specs.Reading.{split}
use Rattle.grpc_messages.specs.Writing.{framed_message}
use Rattle.grpc_calls.specs.Responses.{fields_of, is_last}
use Rattle.grpc_sending.specs.Pieces.{most_read, read_message}
use Rattle.grpc_sending.specs.Owed.{OwedItem, Item, Headed, Message, Range}

-- ---- header blocks and DATA

pub data StreamPart : Type 0 where
  -- a header block, and whether it had END_STREAM
  Fields : Bool → List Header → StreamPart
  -- the bytes of a DATA frame, and whether it had END_STREAM
  Bytes : Bool → List ℕ → StreamPart
  -- a header block that goes on in another frame, or that cannot be decoded
  Garbled : StreamPart

abbrev pub block_part : Bool → Bool → Result (List Header) HpackError → StreamPart
block_part end_stream true (Ok fields) = Fields end_stream fields
block_part end_stream _ _ = Garbled

abbrev pub stream_parts_of : ℕ → Option Table → Frame → List StreamPart
stream_parts_of s table (Headers t end_stream end_headers fragment) =
    if t == s then block_part end_stream end_headers (step table fragment).0 ∷ [] else []
stream_parts_of s table (Data t end_stream bytes) =
    if t == s then Bytes end_stream bytes ∷ [] else []
stream_parts_of s table _ = []

-- one dynamic table for the blocks of all streams (RFC 7541, section 2.2)
abbrev pub table_after_frame : Option Table → Frame → Option Table
table_after_frame table (Headers t end_stream end_headers fragment) = (step table fragment).1
table_after_frame table _ = table

abbrev pub stream_parts_from : ℕ → Option Table → List Frame → List StreamPart
stream_parts_from s table [] = []
stream_parts_from s table (f ∷ fs) =
    stream_parts_of s table f ++ stream_parts_from s (table_after_frame table f) fs

-- what is received on stream s
abbrev pub stream_parts : List Entry → ℕ → List StreamPart
stream_parts d s = stream_parts_from s (Some new_table) (sent_frames d)

-- ---- responses

pub data ResponsePart : Type 0 where
  Block : Bool → List Header → ResponsePart
  WholeMessage : List ℕ → ResponsePart
  -- anything that is no part of a response: what is garbled, messages that are refused or cut off
  -- by a block, DATA with END_STREAM
  Fault : ResponsePart

abbrev pub parts_behind_messages : Result (List ℕ) MessagesError → List ResponsePart
parts_behind_messages (Ok []) = []
parts_behind_messages (Ok (b ∷ bs)) = Fault ∷ []
parts_behind_messages (Err e) = Fault ∷ []

-- the messages of a text to which no more is added
abbrev pub messages_to_end : Split → List ResponsePart
messages_to_end s = map WholeMessage s.items ++ parts_behind_messages s.end

-- adjacent DATA is joined and divided into messages of at most `limit` bytes; `text` stands before
-- what is left
abbrev pub response_from : ℕ → List ℕ → List StreamPart → List ResponsePart
response_from limit text [] = map WholeMessage (split limit text).items
response_from limit text (Bytes end_stream bytes ∷ hs) =
    if end_stream then Fault ∷ [] else response_from limit (text ++ bytes) hs
response_from limit text (Fields end_stream fields ∷ hs) =
    messages_to_end (split limit text) ++ Block end_stream fields ∷ response_from limit [] hs
response_from limit text (Garbled ∷ hs) = Fault ∷ []

-- what stands behind the last whole message
abbrev pub message_rest : ℕ → List ℕ → List StreamPart → Result (List ℕ) MessagesError
message_rest limit text [] = (split limit text).end
message_rest limit text (Bytes end_stream bytes ∷ hs) = message_rest limit (text ++ bytes) hs
message_rest limit text (Fields end_stream fields ∷ hs) = message_rest limit [] hs
message_rest limit text (Garbled ∷ hs) = message_rest limit text hs

-- ---- what is owed, as a client is to read it

-- bytes as google.bytestream.ReadResponse, each with at most n of them; at most so many messages
abbrev pub messages_cut : ℕ → ℕ → List ℕ → List (List ℕ)
messages_cut n zero bytes = []
messages_cut n (suc k) bytes =
    if nat_lt n (length bytes) then read_message (take n bytes) ∷ messages_cut n k (drop n bytes)
    else read_message bytes ∷ []

abbrev pub read_messages : List ℕ → List (List ℕ)
read_messages bytes = messages_cut most_read (length bytes) bytes

abbrev pub response_parts : Item → List ResponsePart
response_parts (Headed block) = Block (is_last block) (fields_of block) ∷ []
response_parts (Message message) = WholeMessage message ∷ []
response_parts (Range digest text from count) =
    map WholeMessage (read_messages (take count (drop from text)))

-- the whole response to a stream that was given these items
abbrev pub response_of : List Item → List ResponsePart
response_of items = flat_map response_parts items

-- nothing, or a true front of the message that comes next
abbrev pub IsMessageFront : Result (List ℕ) MessagesError → List ResponsePart → Type 0
IsMessageFront (Ok []) later = Unit {0}
IsMessageFront (Ok (b ∷ bs)) (WholeMessage message ∷ later) =
    (more : List ℕ) × (0 < length more) × (framed_message message ≡ (b ∷ bs) ++ more)
IsMessageFront _ later = ⊥

-- what is read is a beginning of this response: some of its parts whole, then perhaps a front of
-- the next
pub record IsBeginning (limit : ℕ) (received : List StreamPart)
    (response : List ResponsePart) : Type 0 where
  pub later : List ResponsePart
  pub divided : response ≡ response_from limit [] received ++ later
  pub rest : IsMessageFront (message_rest limit [] received) later

-- ---- the longest message that a client takes

abbrev pub IsPartWithin : ℕ → ResponsePart → Type 0
IsPartWithin limit (WholeMessage message) = length message ≤ limit
IsPartWithin limit _ = Unit {0}

abbrev pub IsItemWithin : ℕ → Item → Type 0
IsItemWithin limit item = AllByRecursion (IsPartWithin limit) (response_parts item)

-- no message that was ever owed is longer
abbrev pub IsTakable : ℕ → List OwedItem → Type 0
IsTakable limit os = AllByRecursion (λ o. IsItemWithin limit o.item) os
