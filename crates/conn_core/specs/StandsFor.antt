-- What is kept of a connection stands for its past.
use Rattle.std.specs.Prelude.{◌≡◌, ◌==◌, ◌+◌, ◌-◌, ℕ, nat_lt, if◌then◌else◌, Bool, true, false, List, [], ◌∷◌, ◌++◌, length, map, filter, Option, Some, None, Result, Ok, Err, ◌⊎◌}
use Rattle.std.specs.List.{list_any}
use Rattle.http2_frames.specs.declared.reader.TheConstants.{CLIENT_PREFACE}
use Rattle.http2_frames.specs.declared.codes.ErrorCode.{ErrorCode}
use Rattle.http2_frames.specs.declared.error.FrameError.{FrameError}
use Rattle.http2_frames.specs.declared.frame.RawFrame.{RawFrame}
use Rattle.http2_frames.specs.Reading.{split}
use Rattle.http2_frames.specs.Reader.{FrameReaderValue, IsReader, text_left}
use Rattle.http2_streams.specs.History.{Entry, live_streams, is_not_closed, is_ended_by_server, has_failed}
use Rattle.http2_streams.specs.LiveStreams.{has_stream}
use Rattle.http2_streams.specs.declared.stream.Stream.{Stream}
use Rattle.http2_streams.specs.Rules.{reading_fault, number_is}
use Rattle.http2_streams.specs.Standing.{Standing}
use Rattle.http2_streams.specs.StandsFor.{AreStreams}
use Rattle.grpc_messages.specs.declared.error.MessagesError.{MessagesError}
use Rattle.grpc_sending.specs.StandsFor.{Sending, IsSending, pieces_on}
use Rattle.grpc_sending.specs.StoredSending.{SourceTexts, StoredSending, IsStoredSending, ForgetsEnded, stored_on}
use Rattle.grpc_sending.specs.declared.queue.StoredQueue.{StoredQueue}
use Rattle.grpc_sending.specs.Owed.{Item, Range}
use Rattle.grpc_sending.specs.Digest.{Digest}
use Rattle.conn_core.specs.declared.call.Call.{Call}
use Rattle.conn_core.specs.declared.event.CallEvent.{CallEvent}
use Rattle.conn_core.specs.Floods.{resets_since_taking}
use Rattle.conn_core.specs.Received.{received_raw_frames}
use Rattle.conn_core.specs.Calls.{is_call, stream_text, messages_of}
use Rattle.conn_core.specs.Past.{Past, with_frame, with_fault, with_item, with_pumped}

pub record ConnectionValue : Type 0 where
  pub reader : Result FrameReaderValue FrameError
  pub streams : Standing
  pub sending : StoredSending
  -- the calls on live streams, in rising order, perhaps with some whose stream is closed
  pub calls : List Call
  -- the events of calls that were not given out
  pub due : List CallEvent
  -- an error of the connection was met
  pub ended : Bool
  -- how many live streams the client reset since it took bytes last
  pub reset_count : ℕ

-- what is kept of the text of the call on stream s: what stands behind the whole messages
abbrev pub call_on : ℕ → List Call → Option (Result (List ℕ) MessagesError)
call_on s [] = None
call_on s (c ∷ cs) = if c.stream == s then Some c.messages else call_on s cs

abbrev pub IsRestOfCall : List Entry → ℕ → Option (Result (List ℕ) MessagesError) → Type 0
IsRestOfCall d s None = is_call d s ≡ false
IsRestOfCall d s (Some messages) =
    (is_call d s ≡ true) × (messages ≡ (messages_of (stream_text d s)).end)

abbrev pub call_stream : Call → ℕ
call_stream c = c.stream

-- what is still to be read, as a measure
abbrev pub unread_length : ConnectionValue → ℕ
unread_length v = if v.ended then 0 else 1 + length (text_left v.reader)

-- those that are among these
abbrev pub members_of : List ℕ → List ℕ → List ℕ
members_of ss ts = filter (λ t. list_any (λ s. s == t) ss) ts

-- nothing is kept to be put but on live streams
abbrev pub AreForLive : List StoredQueue → List Entry → Type 0
AreForLive qs d = (s : ℕ) → has_stream (live_streams d) s ≡ false → stored_on s qs ≡ []

-- after an error of the connection nothing is kept to be put
abbrev pub ForgetsFailed : List StoredQueue → List Entry → Type 0
ForgetsFailed qs d = has_failed d ≡ true → (s : ℕ) → stored_on s qs ≡ []

-- what is kept while no error of the connection was met
pub record IsAlive (v : ConnectionValue) (p : Past) : Type 0 where
  pub reader : IsReader CLIENT_PREFACE.now v.reader p.text (received_raw_frames p.history)
  pub calls : (s : ℕ) → is_not_closed p.history s ≡ true →
      IsRestOfCall p.history s (call_on s v.calls)
  pub order : members_of (live_streams p.history) (map call_stream v.calls)
      ≡ filter (is_call p.history) (live_streams p.history)
  pub live : AreForLive v.sending.queues p.history
  pub finished : ForgetsEnded v.sending.queues p.history
  pub counted : v.reset_count ≡ resets_since_taking p.history

-- the streams of the calls on live streams
abbrev pub live_numbers : List Stream → List Call → List ℕ
live_numbers live cs = filter (λ s. list_any (number_is s) live) (map call_stream cs)

abbrev pub has_live_stream : List Stream → Call → Bool
has_live_stream live c = list_any (number_is c.stream) live

-- the calls that stay: where fewer streams are live than so many, those on live streams; else all
abbrev pub calls_kept : ℕ → List Stream → List Call → List Call
calls_kept count live cs =
    if nat_lt (length live) count then filter (has_live_stream live) cs else cs

-- the calls that are given up with the connection; after an error of it none is left
abbrev pub live_calls : ConnectionValue → List ℕ
live_calls v = if v.ended then [] else live_numbers v.streams.live v.calls

pub record IsConnection (texts : SourceTexts) (v : ConnectionValue) (p : Past) : Type 0 where
  pub ended : v.ended ≡ has_failed p.history
  pub streams : AreStreams v.streams p.history
  pub sending : IsStoredSending texts v.sending p.history p.owed
  pub due : v.due ≡ p.due
  pub over : ForgetsFailed v.sending.queues p.history
  pub alive : has_failed p.history ≡ false → IsAlive v p

-- ---- as it is seen

-- nothing is seen that is to be put on stream s
abbrev pub SeesNone : Sending → ℕ → Type 0
SeesNone seen s = pieces_on s seen.queues ≡ []

pub record IsSeenAlive (seen : Sending) (v : ConnectionValue) (p : Past) : Type 0 where
  pub reader : IsReader CLIENT_PREFACE.now v.reader p.text (received_raw_frames p.history)
  pub calls : (s : ℕ) → is_not_closed p.history s ≡ true →
      IsRestOfCall p.history s (call_on s v.calls)
  pub order : members_of (live_streams p.history) (map call_stream v.calls)
      ≡ filter (is_call p.history) (live_streams p.history)
  pub live : (s : ℕ) → has_stream (live_streams p.history) s ≡ false → SeesNone seen s
  pub finished : (s : ℕ) → is_ended_by_server p.history s ≡ true →
      (is_not_closed p.history s ≡ false) × SeesNone seen s
  pub counted : v.reset_count ≡ resets_since_taking p.history

-- with what is to be sent seen so, in the place of what is kept of it
pub record IsSeen (seen : Sending) (v : ConnectionValue) (p : Past) : Type 0 where
  pub ended : v.ended ≡ has_failed p.history
  pub streams : AreStreams v.streams p.history
  pub sending : IsSending seen p.history p.owed
  pub due : v.due ≡ p.due
  pub over : has_failed p.history ≡ true → (s : ℕ) → SeesNone seen s
  pub alive : has_failed p.history ≡ false → IsSeenAlive seen v p

-- what is kept stands by the one look-up for all that it stands for by the other
abbrev pub StandsAlike : SourceTexts → SourceTexts → ConnectionValue → Type 0
StandsAlike texts others v = (p : Past) → IsConnection texts v p → IsConnection others v p

-- ---- what a call comes to

-- what is kept of a past goes on to what is kept of this one
abbrev pub Becomes : ConnectionValue → (Past → Past) → ConnectionValue → Type 0
Becomes v step w =
    (texts : SourceTexts) (p : Past) → IsConnection texts v p → IsConnection texts w (step p)

-- an item is owed to stream s
abbrev pub Owes : ℕ → Item → ConnectionValue → ConnectionValue → Type 0
Owes s item v w = Becomes v (λ p. with_item p s item) w

-- the text of a source from a place until another is owed to stream s, by whatever digest names it
abbrev pub OwesRange : ℕ → ℕ → ℕ → ℕ → ConnectionValue → ConnectionValue → Type 0
OwesRange s source from until v w =
    (texts : SourceTexts) (digest : Digest) (p : Past) → IsConnection texts v p →
    IsConnection texts w (with_item p s (Range digest (texts source) from (until - from)))

-- by one look-up, all was put that can be
abbrev pub Pumps : SourceTexts → ConnectionValue → ConnectionValue → Type 0
Pumps texts v w = (p : Past) → IsConnection texts v p → IsConnection texts w (with_pumped p)

-- ---- one step through the received bytes

-- the frame that comes next of the text
abbrev pub IsNextFrame : Past → RawFrame → Type 0
IsNextFrame p f =
    (later : List RawFrame)
    × ((split CLIENT_PREFACE.now p.text).items ≡ received_raw_frames p.history ++ f ∷ later)

-- no frame is left, but a fault
pub record IsNextFault (p : Past) (e : FrameError) (code : ErrorCode) : Type 0 where
  pub read : split CLIENT_PREFACE.now p.text
      ≡ record { items = received_raw_frames p.history; end = Err e }
  pub fault : reading_fault e ≡ Some code

-- no frame is left, and the rest is no whole one
abbrev pub HasNoFrameLeft : Past → Type 0
HasNoFrameLeft p =
    (rest : List ℕ) × (split CLIENT_PREFACE.now p.text
    ≡ record { items = received_raw_frames p.history; end = Ok rest })

abbrev pub StandsAfterNext : SourceTexts → ConnectionValue → Past → Type 0
StandsAfterNext texts v p =
    ((f : RawFrame) × IsNextFrame p f × IsConnection texts v (with_frame p f))
    ⊎ ((e : FrameError) × (code : ErrorCode) × IsNextFault p e code
    × IsConnection texts v (with_fault p e code))

-- an event that was due was given out
abbrev pub StandsAfterEvent : SourceTexts → Past → Option CallEvent → ConnectionValue → Type 0
StandsAfterEvent texts p (Some event) v =
    (rest : List CallEvent) × (p.due ≡ event ∷ rest)
    × IsConnection texts v (record p { due = rest })
StandsAfterEvent texts p None v = (p.due ≡ []) × IsConnection texts v p

-- a step through the received bytes was made, or none is left
abbrev pub StandsAfterReading : SourceTexts → Past → Bool → ConnectionValue → Type 0
StandsAfterReading texts p true v = (has_failed p.history ≡ false) × StandsAfterNext texts v p
StandsAfterReading texts p false v =
    ((has_failed p.history ≡ true) ⊎ HasNoFrameLeft p) × IsConnection texts v p

abbrev pub PopsOne : ConnectionValue → Option CallEvent → ConnectionValue → Type 0
PopsOne v event w =
    (texts : SourceTexts) (p : Past) → IsConnection texts v p → StandsAfterEvent texts p event w

abbrev pub ReadsOneFrame : ConnectionValue → Bool → ConnectionValue → Type 0
ReadsOneFrame v read w =
    (texts : SourceTexts) (p : Past) → IsConnection texts v p → StandsAfterReading texts p read w
