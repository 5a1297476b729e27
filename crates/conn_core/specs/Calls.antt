-- The calls of a connection (gRPC over HTTP2, Requests), by the whole history.
use Rattle.std.specs.Prelude.{ℕ, ◌==◌, ◌&&◌, if◌then◌else◌, Bool, true, false, List, [], ◌∷◌, ◌++◌, length, map, filter, drop, Result, Ok, Err}
use Rattle.std.specs.List.{list_any, flat_map}
use Rattle.std.specs.Result.{is_ok}
use Rattle.http2_streams.specs.declared.event.Event.{Event}
use Rattle.http2_streams.specs.declared.event.Event.TheVariants.{Nothing, Request, Content, Trailers, Cancel}
use Rattle.http2_streams.specs.History.{Entry, In, live_streams, has_failed}
use Rattle.grpc_messages.specs.declared.error.MessagesError.{MessagesError}
use Rattle.grpc_messages.specs.declared.error.MessagesError.TheVariants.{Compressed, TooLarge}
use Rattle.grpc_messages.specs.declared.reader.TheConstants.{MESSAGE_LIMIT}
use Rattle.grpc_messages.specs.Wire.{Split}
use Rattle.grpc_messages.specs.Reading.{split}
use Rattle.rpc.specs.declared.refusal.Refusal.{Refusal}
use Rattle.rpc.specs.declared.refusal.Refusal.TheVariants.{CompressedMessage, MessageTooLarge, MessageCutOff}
use Rattle.rpc.specs.declared.method.Method.{Method}
use Rattle.grpc_calls.specs.declared.request.HeadFault.{HeadFault}
use Rattle.grpc_calls.specs.Requests.{head_of}
use Rattle.grpc_calls.specs.Responses.{response_to}
use Rattle.grpc_sending.specs.Owed.{Item, Headed}
use Rattle.conn_core.specs.declared.event.CallEvent.{CallEvent}
use Rattle.conn_core.specs.declared.event.CallEvent.TheVariants.{Head, Message, Fault, End, Cancel as CallCancel}
use Rattle.conn_core.specs.Received.{outcome}

-- what an entry brought, behind those before it
abbrev pub events_of_entry : List Entry → Entry → List Event
events_of_entry before (In f) = (outcome before f).event ∷ []
events_of_entry before _ = []

abbrev pub events_of_entries : List Entry → List Entry → List Event
events_of_entries before [] = []
events_of_entries before (e ∷ es) =
    events_of_entry before e ++ events_of_entries (before ++ e ∷ []) es

-- what the received frames brought, in order
abbrev pub events : List Entry → List Event
events d = events_of_entries [] d

abbrev pub begins_call : ℕ → Event → Bool
begins_call s (Request t fields end_stream) = t == s && is_ok (head_of fields)
begins_call s _ = false

-- the request on stream s is a call of a known method
abbrev pub is_call : List Entry → ℕ → Bool
is_call d s = list_any (begins_call s) (events d)

abbrev pub content_on : ℕ → Event → List ℕ
content_on s (Content t bytes end_stream) = if t == s then bytes else []
content_on s _ = []

-- the data of stream s, joined
abbrev pub stream_text : List Entry → ℕ → List ℕ
stream_text d s = flat_map (content_on s) (events d)

-- ---- messages (Length-Prefixed-Message)

-- the longest message that is taken
abbrev pub message_limit : ℕ
message_limit = MESSAGE_LIMIT

abbrev pub messages_of : List ℕ → Split
messages_of bytes = split message_limit bytes

-- a compressed message is refused otherwise than one that is too large; a text of messages has no
-- other fault
abbrev pub message_refusal : MessagesError → Refusal
message_refusal Compressed = CompressedMessage
message_refusal TooLarge = MessageTooLarge
message_refusal _ = MessageCutOff

-- how the request ends, where these bytes are no whole message
abbrev pub events_at_end : ℕ → List ℕ → List CallEvent
events_at_end s [] = End s ∷ []
events_at_end s (b ∷ bs) = Fault s MessageCutOff ∷ []

-- what stands behind the messages
abbrev pub events_behind_messages : ℕ → Bool → Result (List ℕ) MessagesError → List CallEvent
events_behind_messages s end_stream (Ok rest) = if end_stream then events_at_end s rest else []
events_behind_messages s end_stream (Err e) = Fault s (message_refusal e) ∷ []

-- what stands in a text behind a front of it that had so many messages: the messages after these,
-- and then the first fault or the end
abbrev pub events_behind_front : ℕ → Bool → ℕ → Split → List CallEvent
events_behind_front s end_stream count whole =
    map (Message s) (drop count whole.items) ++ events_behind_messages s end_stream whole.end

abbrev pub events_by_end : Result (List ℕ) MessagesError → List CallEvent → List CallEvent
events_by_end (Ok rest) events = events
events_by_end (Err e) events = []

-- after a fault nothing follows
abbrev pub events_unless_fault : Split → List CallEvent → List CallEvent
events_unless_fault before events = events_by_end before.end events

-- what more of the text of a stream brings its call
abbrev pub events_of_content : ℕ → List ℕ → List ℕ → Bool → List CallEvent
events_of_content s before content end_stream =
    events_unless_fault (messages_of before)
    (events_behind_front s end_stream (length (messages_of before).items)
    (messages_of (before ++ content)))

-- ---- the events of calls

abbrev pub events_of_request : ℕ → Bool → Result Method HeadFault → List CallEvent
events_of_request s end_stream (Ok method) = Head s method ∷ events_of_content s [] [] end_stream
events_of_request s end_stream (Err fault) = []

-- what a frame brings to calls; streams whose request is no call have none
abbrev pub call_events_of : List Entry → Event → List CallEvent
call_events_of d Nothing = []
call_events_of d (Request s fields end_stream) = events_of_request s end_stream (head_of fields)
call_events_of d (Content s content end_stream) =
    if is_call d s then events_of_content s (stream_text d s) content end_stream else []
call_events_of d (Trailers s) =
    if is_call d s then events_of_content s (stream_text d s) [] true else []
call_events_of d (Cancel s) = if is_call d s then CallCancel s ∷ [] else []

-- the calls on live streams, which end with the connection; after an error of the connection none
-- is left
abbrev pub calls_left : List Entry → List ℕ
calls_left d = if has_failed d then [] else filter (is_call d) (live_streams d)

abbrev pub cancels : List Entry → List CallEvent
cancels d = if has_failed d then [] else map CallCancel (filter (is_call d) (live_streams d))

abbrev pub answer_to_head : ℕ → Result Method HeadFault → List (ℕ × Item)
answer_to_head s (Ok method) = []
answer_to_head s (Err fault) = (s, Headed (response_to fault)) ∷ []

-- a request that is no call is answered at once
abbrev pub items_at_once : Event → List (ℕ × Item)
items_at_once (Request s fields end_stream) = answer_to_head s (head_of fields)
items_at_once _ = []
