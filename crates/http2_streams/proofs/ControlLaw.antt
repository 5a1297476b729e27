-- The frames that answer received ones.
use Rattle.std.proofs.Common.{◌≡◌, ℕ, ◌≤◌, List, [], ◌∷◌, ◌++◌, refl, subst, arith, length}
use Rattle.std.specs.Prelude.{Bool, true, false, not, ◌&&◌, ◌==◌, ◌%◌, nat_lt, nat_le, Option, Some, None, Result, Ok, Err}
use Rattle.std.specs.List.{AllByRecursion, list_any}
use Rattle.std.specs.Option.{option_map_or, option_to_list}
use Rattle.std.proofs.lemmas.Bool.{eqb-true}
use Rattle.http2_frames.specs.declared.codes.frame_type.TheConstants.{DATA, HEADERS, PRIORITY, RST_STREAM, SETTINGS, PUSH_PROMISE, PING, GOAWAY, WINDOW_UPDATE, CONTINUATION}
use Rattle.http2_frames.specs.declared.codes.ErrorCode.{ErrorCode}
use Rattle.http2_frames.specs.declared.codes.ErrorCode.TheVariants.{ProtocolError, RefusedStream, FlowControlError}
use Rattle.http2_frames.specs.declared.frame.RawFrame.{RawFrame}
use Rattle.http2_frames.specs.declared.frame.Frame.{Frame}
use Rattle.http2_frames.specs.declared.frame.Frame.TheVariants.{Data, Headers, Priority, RstStream, Settings, PushPromise, Ping, GoAway, WindowUpdate, Continuation, Unknown}
use Rattle.http2_frames.specs.declared.settings.Setting.{Setting}
use Rattle.http2_frames.specs.Frames.{frame_of, content_of, is_misaddressed, is_missized, is_overpadded}
use Rattle.http2_frames.specs.Writing.{raw_of}
use Rattle.http2_streams.specs.HeaderBlock.{new_block}
use Rattle.http2_streams.specs.declared.header_blocks.HeaderList.{HeaderList}
use Rattle.http2_streams.specs.Decoding.{list_of_block, list_of_continuation}
use Rattle.http2_streams.specs.Request.{is_well_formed_request}
use Rattle.http2_streams.specs.declared.event.Event.{Event}
use Rattle.http2_streams.specs.declared.event.Event.TheVariants.{Nothing}
use Rattle.http2_streams.specs.declared.event.StreamEvent.{StreamEvent}
use Rattle.http2_streams.specs.Standing.{Standing}
use Rattle.http2_streams.specs.Rules.{is_idle, is_live_at, is_receiving, is_remembered, window_update, event_only, no_effect, stream_error, on_data, on_header_list, on_request, on_trailers, on_settings, settings_fault, on_ping, on_connection_update, on_stream_update, overflows, may_grow, on_content, on_frame_of, is_in_turn, answer_to}
use Rattle.http2_streams.specs.Entries.{control_frames}
use Rattle.http2_streams.specs.ControlAnswers.{IsControlAnswer}
use Rattle.http2_streams.proofs.Bools.{not_false, or_parts}
use Rattle.http2_streams.proofs.Law.{OkThen, split}

-- ---- the content of PING is of 8 bytes

abbrev IsSized : Frame → Type 0
IsSized (Ping ack o) = length o ≡ 8
IsSized _ = Unit {0}

ping_sized : (f : RawFrame) → is_missized f ≡ false → (f.kind == PING) ≡ true → length f.payload ≡ 8
ping_sized f sized ping =
    let unpadded = (or_parts _ _ sized).0 in
    let unset = (or_parts _ _ unpadded).0 in
    let before = (or_parts _ _ unset).0 in
    let own : ((f.kind == PING) && not (length f.payload == 8)) ≡ false = (or_parts _ _ before).1 in
    let eight : not (length f.payload == 8) ≡ false = rw ping at own in
    eqb-true (length f.payload) 8 (not_false (length f.payload == 8) eight)

content_sized : (f : RawFrame) → is_missized f ≡ false → IsSized (content_of f)
content_sized f sized =
    split IsSized (f.kind == DATA) _ _ (λ _. tt)
    (λ _. split IsSized (f.kind == HEADERS) _ _ (λ _. tt)
    (λ _. split IsSized (f.kind == PRIORITY) _ _ (λ _. tt)
    (λ _. split IsSized (f.kind == RST_STREAM) _ _ (λ _. tt)
    (λ _. split IsSized (f.kind == SETTINGS) _ _ (λ _. tt)
    (λ _. split IsSized (f.kind == PUSH_PROMISE) _ _ (λ _. tt)
    (λ _. split IsSized (f.kind == PING) _ _ (λ ping. ping_sized f sized ping)
    (λ _. split IsSized (f.kind == GOAWAY) _ _ (λ _. tt)
    (λ _. split IsSized (f.kind == WINDOW_UPDATE) _ _ (λ _. tt)
    (λ _. split IsSized (f.kind == CONTINUATION) _ _ (λ _. tt) (λ _. tt))))))))))

frame_sized : (f : RawFrame) → OkThen IsSized (frame_of f)
frame_sized f =
    split (OkThen IsSized) (is_misaddressed f) _ _ (λ _. tt)
    (λ _. split (OkThen IsSized) (is_missized f) _ _ (λ _. tt)
    (λ sized. split (OkThen IsSized) (is_overpadded f) _ _ (λ _. tt) (λ _. content_sized f sized)))

-- ---- answers

-- what holds of a frame, if there is one
abbrev pub IfFrame : (Frame → Type 0) → Option Frame → Type 0
IfFrame P None = Unit {0}
IfFrame P (Some f) = P f

-- what holds of each frame that answers
pub record EachAnswer (P : Frame → Type 0) (a : StreamEvent) : Type 0 where
  pub acknowledgement : IfFrame P a.acknowledgement
  pub connection_update : IfFrame P a.connection_update
  pub stream_update : IfFrame P a.stream_update
  pub reset : IfFrame P a.reset

with_frame : (P : Frame → Type 0) (o : Option Frame) (fs : List Frame) → IfFrame P o → AllByRecursion P fs →
    AllByRecursion P (option_to_list o ++ fs)
with_frame P None fs h hs = hs
with_frame P (Some f) fs h hs = (h, hs)

one_frame : (P : Frame → Type 0) (o : Option Frame) → IfFrame P o → AllByRecursion P (option_to_list o)
one_frame P None h = tt
one_frame P (Some f) h = (h, tt)

pub each_answer : (P : Frame → Type 0) (a : StreamEvent) → EachAnswer P a → AllByRecursion P (control_frames a)
each_answer P a h =
    with_frame P a.acknowledgement _ h.acknowledgement (with_frame P a.connection_update _ h.connection_update
    (with_frame P a.stream_update _ h.stream_update (one_frame P a.reset h.reset)))

abbrev IsControl : StreamEvent → Type 0
IsControl a = EachAnswer IsControlAnswer a

update_control : (s n : ℕ) → IfFrame IsControlAnswer (window_update s n)
update_control s n = split (IfFrame IsControlAnswer) (n == 0) None (Some (WindowUpdate s n)) (λ _. tt) (λ _. tt)

event_control : (e : Event) → IsControl (event_only e)
event_control e = record { acknowledgement = tt; connection_update = tt; stream_update = tt; reset = tt }

error_control : (v : Standing) (s : ℕ) (code : ErrorCode) → IsControl (stream_error v s code)
error_control v s code = record { acknowledgement = tt; connection_update = tt; stream_update = tt; reset = tt }

abbrev AreControl : Result StreamEvent ErrorCode → Type 0
AreControl r = OkThen IsControl r

data_control : (v : Standing) (n s : ℕ) (e : Bool) (bytes : List ℕ) → AreControl (on_data v n s e bytes)
data_control v n s e bytes =
    split AreControl (is_idle v s) _ _ (λ _. tt)
    (λ _. split AreControl (is_receiving v s) _ _
    (λ _. record {
      acknowledgement = tt;
      connection_update = update_control 0 n;
      stream_update =
          split (IfFrame IsControlAnswer) e None (window_update s n) (λ _. tt) (λ _. update_control s n);
      reset = tt;
    })
    (λ _. split AreControl (is_remembered v s) _ _
    (λ _. record { acknowledgement = tt; connection_update = update_control 0 n; stream_update = tt; reset = tt })
    (λ _. record { acknowledgement = tt; connection_update = update_control 0 n; stream_update = tt; reset = tt })))

request_control : (v : Standing) (block : HeaderList) → IsControl (on_request v block)
request_control v block =
    split IsControl (nat_le 100 (length v.live)) _ _ (λ _. error_control v block.stream RefusedStream)
    (λ _. split IsControl (not (is_well_formed_request block.fields)) _ _ (λ _. error_control v block.stream ProtocolError)
    (λ _. event_control _))

trailers_control : (v : Standing) (s : ℕ) (e : Bool) → IsControl (on_trailers v s e)
trailers_control v s true = event_control _
trailers_control v s false = error_control v s ProtocolError

given_control : (v : Standing) (g : Result (Option HeaderList) ErrorCode) → AreControl (on_header_list v g)
given_control v (Err code) = tt
given_control v (Ok None) = event_control Nothing
given_control v (Ok (Some block)) =
    split AreControl (block.stream % 2 == 0) _ _ (λ _. tt)
    (λ _. split AreControl (nat_lt v.highest block.stream) _ _ (λ _. request_control v block)
    (λ _. split AreControl (is_receiving v block.stream) _ _ (λ _. trailers_control v block.stream block.end_stream)
    (λ _. split AreControl (is_remembered v block.stream) _ _ (λ _. event_control Nothing) (λ _. tt))))

settings_by : (fault : Option ErrorCode) → AreControl
    (option_map_or Err fault (Ok (record no_effect { acknowledgement = Some (Settings true []) })))
settings_by None = record { acknowledgement = (refl, refl); connection_update = tt; stream_update = tt; reset = tt }
settings_by (Some code) = tt

settings_control : (v : Standing) (ack : Bool) (settings : List Setting) → AreControl (on_settings v ack settings)
settings_control v true settings = event_control Nothing
settings_control v false settings = settings_by (settings_fault v.live settings)

ping_control : (ack : Bool) (o : List ℕ) → length o ≡ 8 → IsControl (on_ping ack o)
ping_control true o eight = event_control Nothing
ping_control false o eight = record { acknowledgement = (refl, eight); connection_update = tt; stream_update = tt; reset = tt }

stream_update_control : (v : Standing) (s n : ℕ) → AreControl (on_stream_update v s n)
stream_update_control v s n =
    split AreControl (is_idle v s) _ _ (λ _. tt)
    (λ _. split AreControl (not (is_live_at v s)) _ _ (λ _. event_control Nothing)
    (λ _. split AreControl (n == 0) _ _ (λ _. error_control v s ProtocolError)
    (λ _. split AreControl (list_any (overflows s n) v.live) _ _ (λ _. error_control v s FlowControlError) (λ _. event_control Nothing))))

connection_update_control : (v : Standing) (n : ℕ) → AreControl (on_connection_update v n)
connection_update_control v n = split AreControl (n == 0) _ _ (λ _. tt)
    (λ _. split AreControl (may_grow n v.connection_window) _ _ (λ _. event_control Nothing) (λ _. tt))

content_control : (v : Standing) (n : ℕ) (g : Frame) → IsSized g → AreControl (on_content v n g)
content_control v n (Data s e bytes) sized = data_control v n s e bytes
content_control v n (Headers s e end_headers fragment) sized = given_control v (list_of_block v.table end_headers (new_block s e fragment))
content_control v n (Priority s p) sized = event_control Nothing
content_control v n (RstStream s code) sized = split AreControl (is_idle v s) _ _ (λ _. tt) (λ _. event_control _)
content_control v n (Settings ack settings) sized = settings_control v ack settings
content_control v n (PushPromise flags s payload) sized = tt
content_control v n (Ping ack o) sized = ping_control ack o sized
content_control v n (GoAway s code b) sized = event_control Nothing
content_control v n (WindowUpdate s m) sized =
    split AreControl (s == 0) _ _ (λ _. connection_update_control v m) (λ _. stream_update_control v s m)
content_control v n (Continuation s end_headers fragment) sized =
    given_control v (list_of_continuation v.table v.unfinished end_headers fragment)
content_control v n (Unknown k f s p) sized = event_control Nothing

frame_control : (v : Standing) (n : ℕ) (r : Result Frame ErrorCode) → OkThen IsSized r → AreControl (on_frame_of v n r)
frame_control v n (Ok g) sized = content_control v n g sized
frame_control v n (Err code) sized = tt

answer_control : (v : Standing) (f : RawFrame) → AreControl (answer_to v f)
answer_control v f =
    split AreControl v.failed _ _ (λ _. event_control Nothing)
    (λ _. split AreControl (is_in_turn v f) _ _ (λ _. frame_control v (length f.payload) (frame_of f) (frame_sized f)) (λ _. tt))

pub answers_are_control : (v : Standing) (f : RawFrame) (a : StreamEvent) → answer_to v f ≡ Ok a →
    AllByRecursion IsControlAnswer (control_frames a)
answers_are_control v f a is = each_answer IsControlAnswer a (subst AreControl is (answer_control v f))

-- ---- their payloads

abbrev pub IsShort : Frame → Type 0
IsShort g = length (raw_of g).payload ≤ 8

-- by the four frames that answer
pub answer_elim : (P : Frame → Type 0) → ((ack : Bool) (settings : List Setting) → IsControlAnswer (Settings ack settings) →
    P (Settings ack settings)) → ((ack : Bool) (o : List ℕ) → IsControlAnswer (Ping ack o) → P (Ping ack o))
    → ((s n : ℕ) → P (WindowUpdate s n)) → ((s code : ℕ) → P (RstStream s code)) → (g : Frame) → IsControlAnswer g → P g
answer_elim P settings ping update reset (Settings ack list) h = settings ack list h
answer_elim P settings ping update reset (Ping ack o) h = ping ack o h
answer_elim P settings ping update reset (WindowUpdate s n) h = update s n
answer_elim P settings ping update reset (RstStream s code) h = reset s code
answer_elim P settings ping update reset (Data s e b) h = absurd h
answer_elim P settings ping update reset (Headers s e x b) h = absurd h
answer_elim P settings ping update reset (Priority s p) h = absurd h
answer_elim P settings ping update reset (PushPromise f s p) h = absurd h
answer_elim P settings ping update reset (GoAway s c b) h = absurd h
answer_elim P settings ping update reset (Continuation s x b) h = absurd h
answer_elim P settings ping update reset (Unknown k f s p) h = absurd h

pub answer_is_short : (g : Frame) → IsControlAnswer g → IsShort g
answer_is_short = answer_elim IsShort (λ ack settings h. rw h.1 (omega arith)) (λ ack o h. rw h.1 (omega arith)) (λ s n. omega arith)
    (λ s code. omega arith)

all_short : (fs : List Frame) → AllByRecursion IsControlAnswer fs → AllByRecursion IsShort fs
all_short [] h = tt
all_short (f ∷ fs) h = (answer_is_short f h.0, all_short fs h.1)

pub answers_are_short : (v : Standing) (f : RawFrame) (a : StreamEvent) → answer_to v f ≡ Ok a → AllByRecursion IsShort (control_frames a)
answers_are_short v f a is = all_short (control_frames a) (answers_are_control v f a is)
