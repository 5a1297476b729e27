-- The parts of one step through the received bytes. For the code alone: no public contract speaks
-- of them.
use Rattle.std.specs.Prelude.{◌≡◌, ◌<◌, ◌≤◌, ◌==◌, ℕ, true, false, List, [], ◌∷◌, ◌++◌, map, filter, Result}
use Rattle.std.specs.List.{list_any}
use Rattle.http2_frames.specs.declared.error.FrameError.{FrameError}
use Rattle.http2_frames.specs.declared.frame.RawFrame.{RawFrame}
use Rattle.http2_frames.specs.declared.reader.TheConstants.{CLIENT_PREFACE}
use Rattle.http2_frames.specs.Reader.{FrameReaderValue, IsReader}
use Rattle.http2_streams.specs.declared.event.Event.{Event}
use Rattle.http2_streams.specs.History.{Entry, live_streams, is_not_closed, is_ended_by_server, has_failed, highest_stream}
use Rattle.http2_streams.specs.LiveStreams.{IsOnItsStream, live_after}
use Rattle.http2_streams.specs.StandsFor.{AreStreams}
use Rattle.grpc_sending.specs.StoredSending.{SourceTexts, IsStoredSending, ForgetsEnded}
use Rattle.conn_core.specs.Floods.{resets_since_taking}
use Rattle.conn_core.specs.Received.{received_raw_frames, outcome, frame_entries}
use Rattle.conn_core.specs.Calls.{is_call, stream_text}
use Rattle.conn_core.specs.Past.{Past, with_frame}
use Rattle.conn_core.specs.StandsFor.{IsConnection, AreForLive, ConnectionValue, IsRestOfCall, call_on, members_of, call_stream}

-- what is kept of the calls, by the history before the frame
pub record AreCalls (v : ConnectionValue) (d : List Entry) : Type 0 where
  pub calls : (s : ℕ) → is_not_closed d s ≡ true → IsRestOfCall d s (call_on s v.calls)
  pub order : members_of (live_streams d) (map call_stream v.calls)
      ≡ filter (is_call d) (live_streams d)
  pub live : AreForLive v.sending.queues d
  pub finished : ForgetsEnded v.sending.queues d

-- the frame was read, and nothing else was done yet
pub record IsTaking (texts : SourceTexts) (v : ConnectionValue) (p : Past)
    (f : RawFrame) : Type 0 where
  pub ended : v.ended ≡ false
  pub lives : has_failed p.history ≡ false
  pub reader : IsReader CLIENT_PREFACE.now v.reader p.text (received_raw_frames p.history ++ f ∷ [])
  pub streams : AreStreams v.streams p.history
  pub sending : IsStoredSending texts v.sending p.history p.owed
  pub due : v.due ≡ p.due
  pub calls : AreCalls v p.history
  pub counted : v.reset_count ≡ resets_since_taking p.history

abbrev pub after_frame : Past → RawFrame → List Entry
after_frame p f = p.history ++ frame_entries p.history f

-- what the frame did to the streams
pub record ChangesStreams (d e : List Entry) (brought : Event) : Type 0 where
  pub streams : live_streams e ≡ live_after d brought
  pub falls : (s : ℕ) → is_not_closed e s ≡ true → is_not_closed d s ≡ true
  pub event : IsOnItsStream d brought
  -- nothing was received on a stream that was not opened
  pub idle : (s : ℕ) → highest_stream d < s → (is_call d s ≡ false) × (stream_text d s ≡ [])
  -- a call on a stream that nothing closed is among the live ones
  pub begun : (s : ℕ) → is_call d s ≡ true → is_not_closed d s ≡ true →
      list_any (λ t. t == s) (live_streams d) ≡ true
  -- numbers of live streams are at most the highest
  pub opened : (s : ℕ) → list_any (λ t. t == s) (live_streams d) ≡ true →
      (s ≤ highest_stream d) × (is_not_closed d s ≡ true)

-- the answers of the frame were put, all of them, and it brought this; calls are as before
pub record HasBrought (texts : SourceTexts) (v : ConnectionValue) (p : Past)
    (f : RawFrame) (event : Event) : Type 0 where
  pub ended : v.ended ≡ false
  pub is_event : (outcome p.history f).event ≡ event
  pub fits : (outcome p.history f).fails ≡ false
  pub lives : has_failed (after_frame p f) ≡ false
  pub reader : IsReader CLIENT_PREFACE.now v.reader p.text (received_raw_frames (after_frame p f))
  pub streams : AreStreams v.streams (after_frame p f)
  pub sending : IsStoredSending texts v.sending (after_frame p f) p.owed
  pub due : v.due ≡ p.due
  pub calls : AreCalls v p.history
  pub change : ChangesStreams p.history (after_frame p f) event
  pub counted : v.reset_count ≡ resets_since_taking (after_frame p f)
  -- what is put for a frame ends no stream
  pub ends : (s : ℕ) → is_ended_by_server (after_frame p f) s ≡ is_ended_by_server p.history s

-- the reader that lends the frame is apart from what acts on it, which does the same beside each
abbrev pub with_reader : Result FrameReaderValue FrameError → ConnectionValue → ConnectionValue
with_reader reader v = record v { reader = reader }

abbrev pub TakesFrame : ConnectionValue → RawFrame → ConnectionValue → Type 0
TakesFrame v f w =
    (reader : Result FrameReaderValue FrameError) (texts : SourceTexts) (p : Past) →
    IsTaking texts (with_reader reader v) p f →
    IsConnection texts (with_reader reader w) (with_frame p f)

abbrev pub BringsEvent : ConnectionValue → Event → ConnectionValue → Type 0
BringsEvent v event w =
    (reader : Result FrameReaderValue FrameError) (texts : SourceTexts) (p : Past) (f : RawFrame) →
    HasBrought texts (with_reader reader v) p f event →
    IsConnection texts (with_reader reader w) (with_frame p f)

-- neither what is still to be read nor the streams change
abbrev pub ChangesCalls : ConnectionValue → ConnectionValue → Type 0
ChangesCalls v w = w ≡ record v { sending = w.sending; calls = w.calls; due = w.due }
