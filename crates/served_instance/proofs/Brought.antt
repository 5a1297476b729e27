-- What a frame brings to calls has no message that is too long.
use Rattle.std.proofs.Common.{◌≡◌, ℕ, zero, suc, ◌≤◌, Bool, true, false, cond, List, [], ◌∷◌, ◌++◌, length, map, drop, Some, Result, Ok, Err, arith}
use Rattle.std.specs.List.{AllByRecursion}
use Rattle.std.specs.Prelude.{filter}
use Rattle.std.proofs.lemmas.List.{length-take}
use Rattle.conn_core.specs.History.{Entry, has_failed, live_streams}
use Rattle.conn_core.specs.MessagesError.{MessagesError}
use Rattle.conn_core.specs.GrpcMessagesWire.{size_of}
use Rattle.conn_core.specs.GrpcMessagesReading.{whole_at, message_at, message_format, split}
use Rattle.conn_core.proofs.Fronts.{whole_is, steady}
use Rattle.conn_core.proofs.Divisions.{all_items}
use Rattle.conn_core.specs.Method.{Method}
use Rattle.conn_core.specs.RawFrame.{RawFrame}
use Rattle.grpc_calls.specs.declared.request.HeadFault.{HeadFault}
use Rattle.grpc_calls.specs.Requests.{head_of}
use Rattle.conn_core.specs.Event.{Event}
use Rattle.conn_core.specs.Event.TheVariants.{Nothing, Request, Content, Trailers, Cancel}
use Rattle.conn_core.specs.ErrorCode.{ErrorCode}
use Rattle.conn_core.specs.FrameError.{FrameError}
use Rattle.conn_core.specs.Past.{Past, with_frame, with_fault}
use Rattle.conn_core.specs.Received.{outcome}
use Rattle.conn_core.specs.declared.event.CallEvent.{CallEvent}
use Rattle.conn_core.specs.declared.event.CallEvent.TheVariants as Seen
use Rattle.conn_core.specs.Calls.{message_limit, messages_of, events_at_end, events_behind_messages, events_behind_front, events_by_end, events_of_content, events_of_request, call_events_of, is_call, stream_text, cancels}
use Rattle.instance_core.specs.Calls.{IsShortRequest, IsShortEvent}
use Rattle.served_instance.specs.Calls.{call_event_on}
use Rattle.instance_core.proofs.NamedTexts.{all_append}

-- a message that comes is no longer than one may be
abbrev pub IsShortCall : CallEvent → Type 0
IsShortCall (Seen.Message s bytes) = IsShortRequest bytes
IsShortCall _ = Unit {0}

pub short_on : (c : ℕ) (e : CallEvent) → IsShortCall e → IsShortEvent (call_event_on c e)
short_on c (Seen.Head s method) h = tt
short_on c (Seen.Message s bytes) h = h
short_on c (Seen.Fault s refusal) h = tt
short_on c (Seen.End s) h = tt
short_on c (Seen.Cancel s) h = tt

-- ---- messages

abbrev AreShort : ℕ → List (List ℕ) → Type 0
AreShort limit ms = AllByRecursion (λ (m : List ℕ). length m ≤ limit) ms

split_short : (limit : ℕ) (bytes : List ℕ) → AreShort limit (split limit bytes).items
split_short limit bytes = all_items (message_format limit) (steady limit) (λ (m : List ℕ). length m ≤ limit) bytes short where
  short : (t : List ℕ) (n : ℕ) → whole_at limit t ≡ Ok (Some n) → length (message_at t) ≤ limit
  short t n is = let w = whole_is limit t n is in omega (arith, w.size, w.short, length-take (size_of t) (drop 5 t))

all_drop : {X : Type 0} (P : X → Type 0) (n : ℕ) (xs : List X) → AllByRecursion P xs → AllByRecursion P (drop n xs)
all_drop P zero xs all = all
all_drop P (suc n) [] all = tt
all_drop P (suc n) (x ∷ xs) all = all_drop P n xs all.1

all_messages : (s : ℕ) (ms : List (List ℕ)) → AreShort message_limit ms → AllByRecursion IsShortCall (map (Seen.Message s) ms)
all_messages s [] short = tt
all_messages s (m ∷ ms) short = (short.0, all_messages s ms short.1)

end_short : (s : ℕ) (rest : List ℕ) → AllByRecursion IsShortCall (events_at_end s rest)
end_short s [] = (tt, tt)
end_short s (b ∷ bs) = (tt, tt)

behind_short : (s : ℕ) (end_stream : Bool) (end : Result (List ℕ) MessagesError) →
    AllByRecursion IsShortCall (events_behind_messages s end_stream end)
behind_short s true (Ok rest) = end_short s rest
behind_short s false (Ok rest) = tt
behind_short s end_stream (Err e) = (tt, tt)

front_short : (s : ℕ) (end_stream : Bool) (count : ℕ) (bytes : List ℕ) →
    AllByRecursion IsShortCall (events_behind_front s end_stream count (messages_of bytes))
front_short s end_stream count bytes =
    let ms : List (List ℕ) = drop count (messages_of bytes).items in
    all_append IsShortCall (map (Seen.Message s) ms) (events_behind_messages s end_stream (messages_of bytes).end)
    (all_messages s ms (all_drop (λ (m : List ℕ). length m ≤ message_limit) count (messages_of bytes).items
    (split_short message_limit bytes)))
    (behind_short s end_stream (messages_of bytes).end)

by_end_short : (end : Result (List ℕ) MessagesError) (events : List CallEvent) → AllByRecursion IsShortCall events →
    AllByRecursion IsShortCall (events_by_end end events)
by_end_short (Ok rest) events short = short
by_end_short (Err e) events short = tt

text_short : (s : ℕ) (before content : List ℕ) (end_stream : Bool) →
    AllByRecursion IsShortCall (events_of_content s before content end_stream)
text_short s before content end_stream =
    by_end_short (messages_of before).end (events_behind_front s end_stream (length (messages_of before).items)
    (messages_of (before ++ content)))
    (front_short s end_stream (length (messages_of before).items) (before ++ content))

request_short : (s : ℕ) (end_stream : Bool) (r : Result Method HeadFault) → AllByRecursion IsShortCall (events_of_request s end_stream r)
request_short s end_stream (Ok method) = (tt, text_short s [] [] end_stream)
request_short s end_stream (Err fault) = tt

either_short : (b : Bool) (these those : List CallEvent) → AllByRecursion IsShortCall these → AllByRecursion IsShortCall those →
    AllByRecursion IsShortCall (cond b these those)
either_short true these those a b = a
either_short false these those a b = b

event_short : (d : List Entry) (e : Event) → AllByRecursion IsShortCall (call_events_of d e)
event_short d Nothing = tt
event_short d (Request s fields end_stream) = request_short s end_stream (head_of fields)
event_short d (Content s content end_stream) =
    either_short (is_call d s) (events_of_content s (stream_text d s) content end_stream) []
    (text_short s (stream_text d s) content end_stream) tt
event_short d (Trailers s) = either_short (is_call d s) (events_of_content s (stream_text d s) [] true) []
    (text_short s (stream_text d s) [] true) tt
event_short d (Cancel s) = either_short (is_call d s) (Seen.Cancel s ∷ []) [] (tt, tt) tt

all_cancels : (ss : List ℕ) → AllByRecursion IsShortCall (map Seen.Cancel ss)
all_cancels [] = tt
all_cancels (s ∷ ss) = (tt, all_cancels ss)

pub cancels_short : (d : List Entry) → AllByRecursion IsShortCall (cancels d)
cancels_short d = either_short (has_failed d) [] (map Seen.Cancel (filter (is_call d) (live_streams d))) tt
    (all_cancels (filter (is_call d) (live_streams d)))

-- ---- what is due on a connection

abbrev pub DueShort : Past → Type 0
DueShort p = AllByRecursion IsShortCall p.due

pub frame_short : (f : RawFrame) (p : Past) → DueShort p → DueShort (with_frame p f)
frame_short f p short =
    all_append IsShortCall p.due (cond (outcome p.history f).fails (cancels p.history)
    (call_events_of p.history (outcome p.history f).event)) short
    (either_short (outcome p.history f).fails (cancels p.history) (call_events_of p.history (outcome p.history f).event)
    (cancels_short p.history) (event_short p.history (outcome p.history f).event))

pub fault_short : (e : FrameError) (code : ErrorCode) (p : Past) → DueShort p → DueShort (with_fault p e code)
fault_short e code p short = all_append IsShortCall p.due (cancels p.history) short (cancels_short p.history)
