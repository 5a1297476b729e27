-- What one step does to the calls that are kept. For the code alone: no public contract speaks of
-- it.
use Rattle.std.specs.Prelude.{◌≡◌, ◌==◌, ℕ, suc, if◌then◌else◌, Bool, false, not, List, [], ◌∷◌, ◌++◌, length, map, filter, Some, None, Result}
use Rattle.std.specs.List.{list_any}
use Rattle.std.specs.Result.{is_ok}
use Rattle.http2_streams.specs.declared.stream.Stream.{Stream}
use Rattle.grpc_messages.specs.declared.error.MessagesError.{MessagesError}
use Rattle.grpc_messages.specs.Reader.{AreMessages}
use Rattle.rpc.specs.declared.method.Method.{Method}
use Rattle.conn_core.specs.declared.call.Call.{Call}
use Rattle.conn_core.specs.declared.event.CallEvent.{CallEvent}
use Rattle.conn_core.specs.declared.event.CallEvent.TheVariants.{Head, Message, Cancel}
use Rattle.conn_core.specs.Calls.{message_limit, messages_of, events_behind_messages, events_of_content}
use Rattle.conn_core.specs.StandsFor.{calls_kept, call_on, call_stream}

-- ---- the text of one call

-- these messages were taken of what is kept, of whatever text it was
pub record GaveMessages (given : List (List ℕ)) (s t : ℕ)
    (old new : Result (List ℕ) MessagesError) (before after : List CallEvent) : Type 0 where
  pub stream : t ≡ s
  pub events : after ≡ before ++ map (Message s) given
  pub stands : (u : List ℕ) (earlier : List (List ℕ)) → AreMessages message_limit old u earlier →
      AreMessages message_limit new u (earlier ++ given)

-- behind those that were given earlier, the others were given
pub record GaveAll (given earlier : List (List ℕ)) (u : List ℕ) (s : ℕ) (is_whole : Bool)
    (new : Result (List ℕ) MessagesError) (before after : List CallEvent) : Type 0 where
  pub all : (messages_of u).items ≡ earlier ++ given
  pub end : new ≡ (messages_of u).end
  pub whole : is_ok (messages_of u).end ≡ is_whole
  pub events : after ≡ before
      ++ (map (Message s) given ++ events_behind_messages s false (messages_of u).end)

-- messages were taken until none was whole, or a fault was met
abbrev pub TakesAll : ℕ → Bool → Result (List ℕ) MessagesError → Result (List ℕ) MessagesError →
    List CallEvent → List CallEvent → Type 0
TakesAll s whole old new before after =
    (u : List ℕ) (earlier : List (List ℕ)) → AreMessages message_limit old u earlier →
    (given : List (List ℕ)) × GaveAll given earlier u s whole new before after

-- ---- one call among others

-- its place, or the number of all calls
abbrev pub call_place : ℕ → List Call → ℕ
call_place s [] = 0
call_place s (c ∷ cs) = if c.stream == s then 0 else suc (call_place s cs)

-- more of the text of the stream was taken, if it has a call
pub record TakesOn (s : ℕ) (content : List ℕ) (end_stream : Bool) (old new : List Call)
    (before after : List CallEvent) : Type 0 where
  pub streams : map call_stream new ≡ map call_stream old
  pub others : (t : ℕ) → (s == t) ≡ false → call_on t new ≡ call_on t old
  pub no_call : call_on s old ≡ None → (call_on s new ≡ None) × (after ≡ before)
  pub call : (u : List ℕ) → call_on s old ≡ Some (messages_of u).end →
      (call_on s new ≡ Some (messages_of (u ++ content)).end)
      × (after ≡ before ++ events_of_content s u content end_stream)

pub record BeginsCall (s : ℕ) (method : Method) (end_stream : Bool) (live : List Stream)
    (old new : List Call) (before after : List CallEvent) : Type 0 where
  pub call : Call
  pub stream : call.stream ≡ s
  pub messages : call.messages ≡ (messages_of []).end
  pub calls : new ≡ calls_kept (length old) live old ++ call ∷ []
  pub events : after ≡ before ++ Head s method ∷ events_of_content s [] [] end_stream

abbrev pub without_call : ℕ → List Call → List Call
without_call s cs = filter (λ c. not (c.stream == s)) cs

abbrev pub cancel_if : Bool → ℕ → List CallEvent
cancel_if begun s = if begun then Cancel s ∷ [] else []

abbrev pub has_call : ℕ → List Call → Bool
has_call s cs = list_any (λ c. c.stream == s) cs
