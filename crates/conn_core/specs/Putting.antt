-- What is put for a frame, and what ends with the connection. For the code alone: no public
-- contract speaks of them.
use Rattle.std.specs.Prelude.{◌≡◌, ◌+◌, ◌==◌, ◌||◌, ℕ, Bool, true, false, not, ◌&&◌, List, [], ◌∷◌, ◌++◌, length, map, filter, Option, Some, None, Result, Ok}
use Rattle.std.specs.List.{list_any, flat_map}
use Rattle.http2_frames.specs.declared.codes.ErrorCode.{ErrorCode}
use Rattle.http2_frames.specs.declared.error.FrameError.{FrameError}
use Rattle.http2_frames.specs.declared.reader.TheConstants.{CLIENT_PREFACE}
use Rattle.http2_frames.specs.declared.frame.RawFrame.{RawFrame}
use Rattle.http2_frames.specs.declared.frame.Frame.{Frame}
use Rattle.http2_frames.specs.Reader.{FrameReaderValue, IsReader}
use Rattle.http2_frames.specs.Writing.{text_of}
use Rattle.http2_streams.specs.declared.stream.Stream.{Stream}
use Rattle.http2_streams.specs.declared.event.StreamEvent.{StreamEvent}
use Rattle.http2_streams.specs.History.{Entry, In, Out, has_failed}
use Rattle.conn_core.specs.Floods.{is_flood, resets_since_taking}
use Rattle.http2_streams.specs.Standing.{Standing}
use Rattle.http2_streams.specs.Rules.{number_is, answer_after}
use Rattle.http2_streams.specs.Entries.{entries_of, goaway_frame}
use Rattle.http2_streams.specs.StandsFor.{AreStreams}
use Rattle.grpc_sending.specs.Owed.{OwedItem}
use Rattle.grpc_sending.specs.StoredSending.{SourceTexts, IsStoredSending, stored_on}
use Rattle.conn_core.specs.declared.event.CallEvent.{CallEvent}
use Rattle.conn_core.specs.declared.event.CallEvent.TheVariants.{Cancel as CallCancel}
use Rattle.conn_core.specs.Received.{received_raw_frames, frames_to_put, may_put_all}
use Rattle.conn_core.specs.Past.{Past, with_frame}
use Rattle.conn_core.specs.StandsFor.{IsConnection, ConnectionValue, call_stream}
use Rattle.conn_core.specs.Step.{AreCalls, with_reader}

-- of these frames those were put that fit, and all did or not
pub record Puts (v : ConnectionValue) (fs : List Frame) (fit : Bool)
    (w : ConnectionValue) : Type 0 where
  pub all : fit ≡ may_put_all (length v.sending.pending) fs
  pub sending : (texts : SourceTexts) (d : List Entry) (os : List OwedItem) →
      IsStoredSending texts v.sending d os →
      IsStoredSending texts w.sending
      (d ++ map Out (frames_to_put (length v.sending.pending) fs)) os
  pub size : length w.sending.pending
      ≡ length v.sending.pending + length
      (flat_map text_of (frames_to_put (length v.sending.pending) fs))
  pub queues : w.sending.queues ≡ v.sending.queues
  pub rest : w ≡ record v { sending = w.sending }

abbrev pub is_that : Option ℕ → ℕ → Bool
is_that None s = false
is_that (Some t) s = t == s

-- the calls that end with the connection: those on live streams and on this one
abbrev pub is_ending : List Stream → Option ℕ → ℕ → Bool
is_ending live reset s = list_any (number_is s) live || is_that reset s

abbrev pub ended_calls : List Stream → Option ℕ → List ℕ → List CallEvent
ended_calls live reset ss = map CallCancel (filter (is_ending live reset) ss)

-- of these frames those were put that had room; they count as fit where all had, and there is no
-- flood
pub record PutsUnless (flood : Bool) (v : ConnectionValue) (fs : List Frame) (fit : Bool)
    (w : ConnectionValue) : Type 0 where
  pub all : Bool
  pub puts : Puts v fs all w
  pub is : fit ≡ (all && not flood)

-- GOAWAY was put, and all calls ended
pub record Fails (v : ConnectionValue) (code : ErrorCode) (reset : Option ℕ)
    (w : ConnectionValue) : Type 0 where
  pub ended : w.ended ≡ true
  pub streams : (d : List Entry) → has_failed d ≡ true → AreStreams w.streams d
  pub sending : (texts : SourceTexts) (d : List Entry) (os : List OwedItem) →
      IsStoredSending texts v.sending d os →
      IsStoredSending texts w.sending (d ++ Out (goaway_frame v.streams.highest code) ∷ []) os
  pub due : w.due ≡ v.due ++ ended_calls v.streams.live reset (map call_stream v.calls)
  pub calls : w.calls ≡ []
  pub none : (s : ℕ) → stored_on s w.sending.queues ≡ []

-- the streams took the frame, and its answer is not put yet
pub record AwaitsItsAnswer (texts : SourceTexts) (v : ConnectionValue) (p : Past)
    (f : RawFrame) (a : StreamEvent) (flood : Bool) : Type 0 where
  pub ended : v.ended ≡ false
  pub lives : has_failed p.history ≡ false
  pub causes : answer_after p.history f ≡ Ok a
  -- what was kept of the streams before
  pub before : Standing
  pub stood : AreStreams before p.history
  pub reader : IsReader CLIENT_PREFACE.now v.reader p.text (received_raw_frames p.history ++ f ∷ [])
  pub streams : AreStreams v.streams (p.history ++ entries_of p.history f)
  pub sending : IsStoredSending texts v.sending p.history p.owed
  pub due : v.due ≡ p.due
  pub calls : AreCalls v p.history
  pub floods : flood ≡ is_flood p.history f
  pub counted : flood ≡ false → v.reset_count ≡ resets_since_taking (p.history ++ In f ∷ [])

abbrev pub Answers : ConnectionValue → StreamEvent → Bool → ConnectionValue → Type 0
Answers v a flood w =
    (reader : Result FrameReaderValue FrameError) (texts : SourceTexts) (p : Past) (f : RawFrame) →
    AwaitsItsAnswer texts (with_reader reader v) p f a flood →
    IsConnection texts (with_reader reader w) (with_frame p f)
