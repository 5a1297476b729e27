-- Where an answer is owed to its stream: to any other stream nothing is (grpc_sending,
-- StandsFor.antt).
use Rattle.std.specs.Prelude.{◌≡◌, ℕ, true, false, List, []}
use Rattle.std.specs.List.{AllByRecursion}
use Rattle.http2_frames.specs.declared.frame.RawFrame.{RawFrame}
use Rattle.http2_streams.specs.History.{Entry, live_streams, has_failed}
use Rattle.http2_streams.specs.LiveStreams.{has_stream}
use Rattle.grpc_sending.specs.Owed.{Item}
use Rattle.conn_core.specs.declared.event.CallEvent.{CallEvent}
use Rattle.conn_core.specs.declared.event.CallEvent.TheVariants.{Head, Message, Fault, End, Cancel}
use Rattle.conn_core.specs.Calls.{items_at_once}
use Rattle.conn_core.specs.Past.{Past, with_frame}
use Rattle.conn_core.specs.Received.{outcome}

-- no error of the connection was met, and the stream is open or half-closed
abbrev pub IsAnswerableStream : List Entry → ℕ → Type 0
IsAnswerableStream d s = (has_failed d ≡ false) × (has_stream (live_streams d) s ≡ true)

-- a call that is given up gets no answer
abbrev pub IsAnswerable : List Entry → CallEvent → Type 0
IsAnswerable d (Head s method) = IsAnswerableStream d s
IsAnswerable d (Message s bytes) = IsAnswerableStream d s
IsAnswerable d (Fault s refusal) = IsAnswerableStream d s
IsAnswerable d (End s) = IsAnswerableStream d s
IsAnswerable d (Cancel s) = Unit {0}

-- frames are read still, and no event of a call is due
abbrev pub CanGoOn : Past → Type 0
CanGoOn p = (has_failed p.history ≡ false) × (p.due ≡ [])

abbrev pub AreAnswerableCalls : Past → Type 0
AreAnswerableCalls p = AllByRecursion (IsAnswerable p.history) p.due

abbrev pub IsItemAnswerable : Past → ℕ × Item → Type 0
IsItemAnswerable p x = IsAnswerableStream p.history x.0

-- the streams that are answered at once for a frame
abbrev pub AnswersOnStreams : Past → RawFrame → Type 0
AnswersOnStreams p f =
    AllByRecursion (IsItemAnswerable (with_frame p f)) (items_at_once (outcome p.history f).event)
