-- What acts on a frame does the same beside each reader.
use Rattle.std.proofs.Common.{List, ap}
use Rattle.std.specs.Prelude.{Bool, Option, Result, Ok, Err, OnOk, ℕ}
use Rattle.http2_frames.specs.declared.codes.ErrorCode.{ErrorCode}
use Rattle.http2_frames.specs.declared.error.FrameError.{FrameError}
use Rattle.http2_frames.specs.declared.frame.Frame.{Frame}
use Rattle.http2_frames.specs.Reader.{FrameReaderValue}
use Rattle.grpc_sending.specs.StoredSending.{SourceTexts}
use Rattle.conn_core.specs.StandsFor.{ConnectionValue}
use Rattle.conn_core.specs.Step.{with_reader}
use Rattle.conn_core.specs.Putting.{Puts, PutsUnless, Fails}

abbrev Reader : Type 0
Reader = Result FrameReaderValue FrameError

pub for_all : {T E : Type 0} (P : Reader → SourceTexts → Type 0) (r : Result T E) →
    ((reader : Reader) (texts : SourceTexts) → OnOk r (P reader texts)) → OnOk r ((reader : Reader) (texts : SourceTexts) → P reader texts)
for_all P (Ok x) h = h
for_all P (Err e) h = tt

pub for_this : {T E : Type 0} (P : Reader → SourceTexts → Type 0) (r : Result T E) →
    OnOk r ((reader : Reader) (texts : SourceTexts) → P reader texts) → (reader : Reader) (texts : SourceTexts) → OnOk r (P reader texts)
for_this P (Ok x) h reader texts = h reader texts
for_this P (Err e) h reader texts = tt

pub puts_beside : (reader : Reader) (v w : ConnectionValue) (fs : List Frame) (fit : Bool) → Puts v fs fit w →
    Puts (with_reader reader v) fs fit (with_reader reader w)
puts_beside reader v w fs fit h = record {
  all = h.all;
  sending = h.sending;
  size = h.size;
  queues = h.queues;
  rest =
      ap (with_reader reader) h.rest;
}

pub unless_beside : (reader : Reader) (flood : Bool) (v w : ConnectionValue) (fs : List Frame) (fit : Bool) → PutsUnless flood v fs fit w →
    PutsUnless flood (with_reader reader v) fs fit (with_reader reader w)
unless_beside reader flood v w fs fit h = record { all = h.all; puts = puts_beside reader v w fs h.all h.puts; is = h.is }

pub fails_beside : {T E : Type 0} (reader : Reader) (r : Result T E) (v w : ConnectionValue) (code : ErrorCode) (reset : Option ℕ) →
    OnOk r (Fails v code reset w) → OnOk r (Fails (with_reader reader v) code reset (with_reader reader w))
fails_beside reader (Ok x) v w code reset h = record
    { ended = h.ended; streams = h.streams; sending = h.sending; due = h.due; calls = h.calls; none = h.none }
fails_beside reader (Err e) v w code reset h = tt
