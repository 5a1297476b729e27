-- How the events of a connection's calls reach the instance, and what its replies owe to streams
-- (gRPC over HTTP2).
use Rattle.std.specs.Prelude.{ℕ, ◌-◌, List, [], ◌∷◌, map}
use Rattle.grpc_calls.specs.declared.response.ResponseBlock.TheVariants.{Head as ResponseHead, Trailers, TrailersOnly}
use Rattle.grpc_calls.specs.declared.response.Status.TheVariants.{Success}
use Rattle.grpc_sending.specs.Owed.{Item, Headed, Message, Range}
use Rattle.conn_core.specs.declared.event.CallEvent.{CallEvent}
use Rattle.conn_core.specs.declared.event.CallEvent.TheVariants as Seen
use Rattle.conn_core.specs.Past.{Past, with_item}
use Rattle.instance_core.specs.declared.event.CallId.{CallId}
use Rattle.instance_core.specs.Replies.{ReplyItemValue, begins, says, gives, ends, refuses}
use Rattle.instance_core.specs.Calls.{CallEventValue, head, message, fault, end, cancel}

abbrev pub call_id : ℕ → ℕ → CallId
call_id connection stream = record { connection = connection; stream = stream }

-- an event of a call on connection c
abbrev pub call_event_on : ℕ → CallEvent → CallEventValue
call_event_on c (Seen.Head s method) = head (call_id c s) method
call_event_on c (Seen.Message s bytes) = message (call_id c s) bytes
call_event_on c (Seen.Fault s refusal) = fault (call_id c s) refusal
call_event_on c (Seen.End s) = end (call_id c s)
call_event_on c (Seen.Cancel s) = cancel (call_id c s)

-- Response-Headers, messages, Trailers; or Trailers-Only
abbrev pub item_of : ReplyItemValue → Item
item_of begins = Headed ResponseHead
item_of (says bytes) = Message bytes
item_of (gives source) = Range source.digest source.text source.from (source.until - source.from)
item_of ends = Headed (Trailers Success)
item_of (refuses refusal) = Headed (TrailersOnly refusal)

abbrev pub owed_items : List ReplyItemValue → List Item
owed_items items = map item_of items

-- items that are owed to a stream, one after another
abbrev pub with_items : ℕ → List Item → Past → Past
with_items s [] p = p
with_items s (item ∷ items) p = with_items s items (with_item p s item)
