-- The answers of a received frame can be written.
use Rattle.std.proofs.Common.{◌≡◌, ℕ, ◌<◌, ◌≤◌, ◌^◌, List, [], refl, subst, arith, length}
use Rattle.std.specs.Prelude.{Bool, true, false, not, ◌==◌, ◌%◌, nat_lt, nat_le, Option, Some, None, Result, Ok, Err}
use Rattle.std.specs.List.{AllByRecursion, list_any}
use Rattle.std.specs.Option.{option_map_or}
use Rattle.std.proofs.lemmas.Bool.Decides.{nat_tests}
use Rattle.hpack.specs.Header.{Header}
use Rattle.hpack.specs.Table.{Table}
use Rattle.hpack.specs.Block.{step}
use Rattle.hpack.specs.declared.error.HpackError.{HpackError}
use Rattle.http2_frames.specs.declared.codes.ErrorCode.{ErrorCode}
use Rattle.http2_frames.specs.declared.codes.ErrorCode.TheVariants.{NoError, ProtocolError, FlowControlError, StreamClosed, RefusedStream}
use Rattle.http2_frames.specs.declared.frame.RawFrame.{RawFrame}
use Rattle.http2_frames.specs.declared.frame.Frame.{Frame}
use Rattle.http2_frames.specs.declared.frame.Frame.TheVariants.{Data, Headers, Priority, RstStream, Settings, PushPromise, Ping, GoAway, WindowUpdate, Continuation, Unknown}
use Rattle.http2_frames.specs.declared.settings.Setting.{Setting}
use Rattle.http2_frames.specs.Codes.{code_number}
use Rattle.http2_frames.specs.Frames.{frame_of}
use Rattle.http2_frames.specs.Writing.{IsStream, IsWritable}
use Rattle.http2_streams.specs.HeaderBlock.{HeaderBlock, new_block, with_continuation, is_excessive}
use Rattle.http2_streams.specs.declared.header_blocks.HeaderList.{HeaderList}
use Rattle.http2_streams.specs.Decoding.{list_of_block, list_of_continuation, list_of}
use Rattle.http2_streams.specs.Request.{is_well_formed_request}
use Rattle.http2_streams.specs.declared.event.Event.{Event}
use Rattle.http2_streams.specs.declared.event.Event.TheVariants.{Nothing}
use Rattle.http2_streams.specs.declared.event.StreamEvent.{StreamEvent}
use Rattle.http2_streams.specs.History.{Entry}
use Rattle.http2_streams.specs.Standing.{Standing, standing}
use Rattle.http2_streams.specs.Rules.{is_idle, is_live_at, is_receiving, is_remembered, window_update, event_only, no_effect, stream_error, on_data, on_header_list, on_request, on_trailers, on_settings, settings_fault, on_ping, on_connection_update, on_stream_update, overflows, may_grow, on_content, on_frame_of, is_in_turn, answer_to, answer_after}
use Rattle.http2_streams.specs.Entries.{control_frames}
use Rattle.http2_streams.specs.ControlAnswers.{IsControlAnswer}
use Rattle.http2_streams.proofs.ControlLaw.{EachAnswer, IfFrame, answer_elim, answers_are_control, each_answer}
use Rattle.client_reading.specs.Changes.{IsReceivable}
use Rattle.client_reading.proofs.Choices.{choose, OkThen, all_both}
use Rattle.client_reading.proofs.Numbered.{IsNumbered, IsNumberedBlock, IsFramed, frame_numbered, unfinished_numbered}

pub code_low : (code : ErrorCode) → code_number code < 2 ^ 32
code_low NoError = omega arith
code_low _ = omega arith

-- ---- the numbers in answers

abbrev IsFit : Frame → Type 0
IsFit (RstStream s code) = IsStream s × (code < 2 ^ 32)
IsFit (WindowUpdate s n) = (s < 2 ^ 31) × (n < 2 ^ 31)
IsFit _ = Unit {0}

abbrev AreFit : StreamEvent → Type 0
AreFit a = EachAnswer IsFit a

update_fit : (s n : ℕ) → s < 2 ^ 31 → n ≤ 16384 → IfFrame IsFit (window_update s n)
update_fit s n low small = choose (IfFrame IsFit) (n == 0) None (Some (WindowUpdate s n)) (λ _. tt) (λ _. (low, omega arith))

event_fit : (e : Event) → AreFit (event_only e)
event_fit e = record { acknowledgement = tt; connection_update = tt; stream_update = tt; reset = tt }

error_fit : (v : Standing) (s : ℕ) (code : ErrorCode) → IsStream s → AreFit (stream_error v s code)
error_fit v s code h = record { acknowledgement = tt; connection_update = tt; stream_update = tt; reset = (h, code_low code) }

abbrev Fit : Result StreamEvent ErrorCode → Type 0
Fit r = OkThen AreFit r

data_fit : (v : Standing) (n s : ℕ) (e : Bool) (bytes : List ℕ) → n ≤ 16384 → IsStream s → Fit (on_data v n s e bytes)
data_fit v n s e bytes small is =
    choose Fit (is_idle v s) _ _ (λ _. tt)
    (λ _. choose Fit (is_receiving v s) _ _ (λ _. record {
      acknowledgement = tt;
      connection_update = update_fit 0 n (omega arith) small;
      stream_update =
          choose (IfFrame IsFit) e None (window_update s n) (λ _. tt) (λ _. update_fit s n is.1 small);
      reset = tt;
    })
    (λ _. choose Fit (is_remembered v s) _ _ (λ _. record
    { acknowledgement = tt; connection_update = update_fit 0 n (omega arith) small; stream_update = tt; reset = tt })
    (λ _. record {
      acknowledgement = tt;
      connection_update = update_fit 0 n (omega arith) small;
      stream_update = tt;
      reset =
          (is, code_low StreamClosed);
    })))

request_fit : (v : Standing) (block : HeaderList) → IsStream block.stream → AreFit (on_request v block)
request_fit v block is =
    choose AreFit (nat_le 100 (length v.live)) _ _ (λ _. error_fit v block.stream RefusedStream is)
    (λ _. choose AreFit (not (is_well_formed_request block.fields)) _ _ (λ _. error_fit v block.stream ProtocolError is) (λ _. event_fit _))

trailers_fit : (v : Standing) (s : ℕ) (e : Bool) → IsStream s → AreFit (on_trailers v s e)
trailers_fit v s true is = event_fit _
trailers_fit v s false is = error_fit v s ProtocolError is

abbrev OnStream : Option HeaderList → Type 0
OnStream None = Unit {0}
OnStream (Some block) = IsStream block.stream

abbrev Given : Result (Option HeaderList) ErrorCode → Type 0
Given g = OkThen OnStream g

list_given : (s : ℕ) (e : Bool) (r : Result (List Header) HpackError) → IsStream s → Given (list_of s e r)
list_given s e (Ok fields) is = is
list_given s e (Err x) is = tt

block_given : (table : Option Table) (t : Bool) (b : HeaderBlock) → IsStream b.stream → Given (list_of_block table t b)
block_given table t b is =
    choose Given (is_excessive b) _ _ (λ _. tt)
    (λ _. choose Given t _ _ (λ _. list_given b.stream b.end_stream (step table b.fragment).0 is) (λ _. tt))

next_given : (table : Option Table) (u : Option HeaderBlock) (t : Bool) (fragment : List ℕ) → IsNumberedBlock u →
    Given (list_of_continuation table u t fragment)
next_given table None t fragment is = tt
next_given table (Some b) t fragment is = block_given table t (with_continuation fragment b) is

given_fit : (v : Standing) (g : Result (Option HeaderList) ErrorCode) → Given g → Fit (on_header_list v g)
given_fit v (Err code) is = tt
given_fit v (Ok None) is = event_fit Nothing
given_fit v (Ok (Some block)) is =
    choose Fit (block.stream % 2 == 0) _ _ (λ _. tt)
    (λ _. choose Fit (nat_lt v.highest block.stream) _ _ (λ _. request_fit v block is)
    (λ _. choose Fit (is_receiving v block.stream) _ _ (λ _. trailers_fit v block.stream block.end_stream is)
    (λ _. choose Fit (is_remembered v block.stream) _ _ (λ _. event_fit Nothing) (λ _. tt))))

settings_by : (fault : Option ErrorCode) → Fit
    (option_map_or Err fault (Ok (record no_effect { acknowledgement = Some (Settings true []) })))
settings_by None = record { acknowledgement = tt; connection_update = tt; stream_update = tt; reset = tt }
settings_by (Some code) = tt

settings_fit : (v : Standing) (ack : Bool) (settings : List Setting) → Fit (on_settings v ack settings)
settings_fit v true settings = event_fit Nothing
settings_fit v false settings = settings_by (settings_fault v.live settings)

ping_fit : (ack : Bool) (o : List ℕ) → AreFit (on_ping ack o)
ping_fit true o = event_fit Nothing
ping_fit false o = record { acknowledgement = tt; connection_update = tt; stream_update = tt; reset = tt }

stream_update_fit : (v : Standing) (s n : ℕ) → IsStream s → Fit (on_stream_update v s n)
stream_update_fit v s n is =
    choose Fit (is_idle v s) _ _ (λ _. tt)
    (λ _. choose Fit (not (is_live_at v s)) _ _ (λ _. event_fit Nothing)
    (λ _. choose Fit (n == 0) _ _ (λ _. error_fit v s ProtocolError is)
    (λ _. choose Fit (list_any (overflows s n) v.live) _ _ (λ _. error_fit v s FlowControlError is) (λ _. event_fit Nothing))))

connection_update_fit : (v : Standing) (n : ℕ) → Fit (on_connection_update v n)
connection_update_fit v n = choose Fit (n == 0) _ _ (λ _. tt)
    (λ _. choose Fit (may_grow n v.connection_window) _ _ (λ _. event_fit Nothing) (λ _. tt))

above_none : (n : ℕ) → (n == 0) ≡ false → 0 < n
above_none n h = grind (arith, nat_tests)

content_fit : (v : Standing) (n : ℕ) (g : Frame) → n ≤ 16384 → IsNumberedBlock v.unfinished → IsNumbered g → Fit (on_content v n g)
content_fit v n (Data s e bytes) small u is = data_fit v n s e bytes small is
content_fit v n (Headers s e t fragment) small u is =
    given_fit v (list_of_block v.table t (new_block s e fragment)) (block_given v.table t (new_block s e fragment) is)
content_fit v n (Priority s p) small u is = event_fit Nothing
content_fit v n (RstStream s code) small u is = choose Fit (is_idle v s) _ _ (λ _. tt) (λ _. event_fit _)
content_fit v n (Settings ack settings) small u is = settings_fit v ack settings
content_fit v n (PushPromise flags s payload) small u is = tt
content_fit v n (Ping ack o) small u is = ping_fit ack o
content_fit v n (GoAway s code b) small u is = event_fit Nothing
content_fit v n (WindowUpdate s m) small u is =
    choose Fit (s == 0) _ _ (λ _. connection_update_fit v m) (λ some. stream_update_fit v s m (above_none s some, is))
content_fit v n (Continuation s t fragment) small u is =
    given_fit v (list_of_continuation v.table v.unfinished t fragment) (next_given v.table v.unfinished t fragment u)
content_fit v n (Unknown k f s p) small u is = event_fit Nothing

frame_fit : (v : Standing) (n : ℕ) (r : Result Frame ErrorCode) → n ≤ 16384 → IsNumberedBlock v.unfinished → OkThen IsNumbered r →
    Fit (on_frame_of v n r)
frame_fit v n (Ok g) small u is = content_fit v n g small u is
frame_fit v n (Err code) small u is = tt

answer_fit : (v : Standing) (f : RawFrame) → IsReceivable f → IsNumberedBlock v.unfinished → Fit (answer_to v f)
answer_fit v f is u =
    choose Fit v.failed _ _ (λ _. event_fit Nothing)
    (λ _. choose Fit (is_in_turn v f) _ _ (λ _. frame_fit v (length f.payload) (frame_of f) is.0 u (frame_numbered f is.1)) (λ _. tt))

-- ---- answers are written

answer_writable : (g : Frame) → IsControlAnswer g → IsFit g → IsWritable g
answer_writable = answer_elim (λ g. IsFit g → IsWritable g) (λ ack settings h fit. rw h.1 (tt, omega arith, λ (e : ack ≡ true). refl))
    (λ ack o h fit. h.1) (λ s n fit. fit) (λ s code fit. fit)

pub answers_writable : (d : List Entry) (f : RawFrame) (a : StreamEvent) → AllByRecursion IsFramed d → IsReceivable f →
    answer_after d f ≡ Ok a → AllByRecursion IsWritable (control_frames a)
answers_writable d f a framed is h =
    let fit : AreFit a = subst Fit h (answer_fit (standing d) f is (unfinished_numbered d framed)) in
    all_both IsControlAnswer IsFit IsWritable (control_frames a) answer_writable (answers_are_control (standing d) f a h)
    (each_answer IsFit a fit)
