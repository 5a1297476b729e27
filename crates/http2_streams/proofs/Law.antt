-- What is kept after a frame stands for the history with the frame and what is put for it.
use Rattle.std.proofs.Common.{◌≡◌, ℕ, ◌<◌, ◌≤◌, List, [], ◌∷◌, ◌++◌, refl, ap, ◌∙◌, sym, subst, arith, length, append_assoc, inl, inr}
use Rattle.std.specs.Prelude.{map, cond, Bool, true, false, not, ◌&&◌, ◌||◌, ◌==◌, ◌%◌, nat_lt, nat_le, Option, Some, None, Result, Ok, Err}
use Rattle.std.specs.List.{filter_map, list_any}
use Rattle.std.specs.Option.{option_map_or, option_to_list}
use Rattle.std.specs.Result.{is_err, IfOk}
use Rattle.std.proofs.lemmas.Bool.{cases_Bool, ltb-false, true≢false, eqb-true}
use Rattle.std.proofs.lemmas.Bool.Decides.{nat_tests}
use Rattle.std.proofs.lemmas.List.Elements.{filter_map-append}
use Rattle.std.proofs.lemmas.List.Folds.{list_any-append}
use Rattle.http2_frames.specs.declared.codes.ErrorCode.{ErrorCode}
use Rattle.http2_frames.specs.declared.codes.ErrorCode.TheVariants.{ProtocolError, RefusedStream, FlowControlError}
use Rattle.http2_frames.specs.declared.frame.RawFrame.{RawFrame}
use Rattle.http2_frames.specs.declared.frame.Frame.{Frame}
use Rattle.http2_frames.specs.declared.frame.Frame.TheVariants.{Data, Headers, Priority, RstStream, Settings, PushPromise, Ping, GoAway, WindowUpdate, Continuation, Unknown}
use Rattle.http2_frames.specs.declared.settings.Setting.{Setting}
use Rattle.http2_frames.specs.Frames.{frame_of}
use Rattle.http2_streams.specs.HeaderBlock.{HeaderBlock, new_block, with_continuation}
use Rattle.http2_streams.specs.declared.header_blocks.HeaderList.{HeaderList}
use Rattle.http2_streams.specs.declared.fault.ConnectionFault.{ConnectionFault}
use Rattle.http2_streams.specs.declared.fault.ConnectionFault.TheVariants.{Connection, NoMemory}
use Rattle.http2_streams.specs.Decoding.{list_of_block, state_after_block, list_of_continuation, state_after_continuation, Gives}
use Rattle.http2_streams.specs.Request.{is_well_formed_request}
use Rattle.http2_streams.specs.declared.event.Event.{Event}
use Rattle.http2_streams.specs.declared.event.Event.TheVariants.{Nothing}
use Rattle.http2_streams.specs.declared.event.StreamEvent.{StreamEvent}
use Rattle.http2_streams.specs.History.{Entry, In, Out, blocks_after, blocks_with, frame_in, frame_out, received_frames, sent_frames, has_failed, is_goaway, highest_stream}
use Rattle.http2_streams.specs.Standing.{Standing, standing}
use Rattle.http2_streams.specs.Rules.{is_idle, is_receiving, is_remembered, is_live_at, window_update, stream_error, event_only, no_effect, on_data, on_header_list, on_block, on_request, on_trailers, on_settings, settings_fault, on_ping, on_reset, on_connection_update, on_stream_update, overflows, may_grow, on_content, is_in_turn, on_frame_of, on_raw_frame, answer_to, answer_after}
use Rattle.http2_streams.specs.Entries.{control_frames, frames_put, entries_of}
use Rattle.http2_streams.specs.StandsFor.{IsUntouched, IsStandingOf, AreStreams, InMemory}
use Rattle.http2_streams.specs.Step.{after_frame_in, after_frame_out, after_block, after_header_list, with_headers, after_client_end, after_answer, after_begin, after_content, step_by}
use Rattle.http2_streams.proofs.Lists.{append-nil}
use Rattle.http2_streams.proofs.Bools.{or_parts, or_true, and_false}
use Rattle.http2_streams.proofs.Sides.{top, std_of, Idle, blocks_in}
use Rattle.http2_streams.proofs.Received.{IsQuiet, IsAside, quiet, idle_taken, reset_taken, data_taken, settings_taken, update_taken}
use Rattle.http2_streams.proofs.ReceivedBlocks.{IsFragment, fragment_taken, idle_fragment}
use Rattle.http2_streams.proofs.Put.{IsQuietPut, quiet_put, reset_is_put, idle_put}

-- ---- the control frames of an answer

abbrev IsQuietOption : Option Frame → Type 0
IsQuietOption None = Unit {0}
IsQuietOption (Some f) = IsQuietPut f

-- at most an RST_STREAM, on a stream number up to the highest
abbrev IsReset : ℕ → Option Frame → Type 0
IsReset h None = Unit {0}
IsReset h (Some (RstStream s code)) = s ≤ h
IsReset h (Some f) = ⊥

record IsLawful (h : ℕ) (a : StreamEvent) : Type 0 where
  acknowledgement : IsQuietOption a.acknowledgement
  connection_update : IsQuietOption a.connection_update
  stream_update : IsQuietOption a.stream_update
  reset : IsReset h a.reset

quiet_option : (rs ss : List Frame) (x : Option Frame) → IsQuietOption x → Idle rs ss →
    (std_of rs (ss ++ option_to_list x) ≡ std_of rs ss) × Idle rs (ss ++ option_to_list x)
quiet_option rs ss None q idle = rw (append-nil ss) (refl, idle)
quiet_option rs ss (Some f) q idle = (
  quiet_put rs ss f q,
  idle_put rs ss f idle
      (λ t _. record { unreset = q.unreset t; unended = q.unended t; unspent = q.unspent t }),
)

abbrev WithReset : List Frame → List Frame → Option Frame → Type 0
WithReset rs ss x = (std_of rs (ss ++ option_to_list x) ≡ option_map_or (after_frame_out (std_of rs ss)) x (std_of rs ss))
    × Idle rs (ss ++ option_to_list x)

reset_option : (rs ss : List Frame) (x : Option Frame) → IsReset (top rs) x → Idle rs ss → WithReset rs ss x
reset_option rs ss None q idle = rw (append-nil ss) (refl, idle)
reset_option rs ss (Some (RstStream s code)) low idle = (
  reset_is_put rs ss s code,
  idle_put rs ss (RstStream s code) idle
      (λ t above. let differs : (s == t) ≡ false = grind (arith, nat_tests) in record { unreset = differs; unended = refl; unspent = refl }),
)
reset_option rs ss (Some (Data s e b)) q idle = absurd q
reset_option rs ss (Some (Headers s e h b)) q idle = absurd q
reset_option rs ss (Some (Priority s p)) q idle = absurd q
reset_option rs ss (Some (Settings a ss')) q idle = absurd q
reset_option rs ss (Some (PushPromise f s p)) q idle = absurd q
reset_option rs ss (Some (Ping a o)) q idle = absurd q
reset_option rs ss (Some (GoAway s c b)) q idle = absurd q
reset_option rs ss (Some (WindowUpdate s n)) q idle = absurd q
reset_option rs ss (Some (Continuation s h b)) q idle = absurd q
reset_option rs ss (Some (Unknown k f s p)) q idle = absurd q

abbrev Answered : List Frame → List Frame → StreamEvent → Type 0
Answered rs ss a = (std_of rs (ss ++ control_frames a) ≡ after_answer a (std_of rs ss)) × Idle rs (ss ++ control_frames a)

lawful_answer : (rs ss : List Frame) (a : StreamEvent) → IsLawful (top rs) a → Idle rs ss → Answered rs ss a
lawful_answer rs ss a lawful idle =
    let o1 = option_to_list a.acknowledgement in
    let o2 = option_to_list a.connection_update in
    let o3 = option_to_list a.stream_update in
    let o4 = option_to_list a.reset in
    let first = quiet_option rs ss a.acknowledgement lawful.acknowledgement idle in
    let second = quiet_option rs (ss ++ o1) a.connection_update lawful.connection_update first.1 in
    let third = quiet_option rs (ss ++ o1 ++ o2) a.stream_update lawful.stream_update second.1 in
    let fourth = reset_option rs (ss ++ o1 ++ o2 ++ o3) a.reset lawful.reset third.1 in
    let joined : ss ++ (o1 ++ (o2 ++ (o3 ++ o4))) ≡ ss ++ o1 ++ o2 ++ o3 ++ o4 = simp append_assoc in
    let same : std_of rs (ss ++ o1 ++ o2 ++ o3) ≡ std_of rs ss = third.0 ∙ second.0 ∙ first.0 in
    rw joined (fourth.0 ∙ ap (λ (v : Standing). option_map_or (after_frame_out v) a.reset v) same, fourth.1)

-- ---- the answers of the rules

abbrev pub OkThen : {A : Type 0} → (A → Type 0) → Result A ErrorCode → Type 0
OkThen P (Ok a) = P a
OkThen P (Err code) = Unit {0}

pub split : {A : Type 0} (P : A → Type 0) (b : Bool) (x y : A) → (b ≡ true → P x) → (b ≡ false → P y) → P (cond b x y)
split P true x y h k = h refl
split P false x y h k = k refl

then_map : {A : Type 0} (P Q : A → Type 0) → ((a : A) → P a → Q a) → (r : Result A ErrorCode) → OkThen P r → OkThen Q r
then_map P Q f (Ok a) h = f a h
then_map P Q f (Err code) h = tt

quiet_window : (s n : ℕ) → IsQuietPut (WindowUpdate s n)
quiet_window s n = record {
  goes_on = refl;
  unreset = λ t. refl;
  unended = λ t. refl;
  unspent = λ t. refl;
  no_data = refl;
  resets_none =
      refl;
}

quiet_settings : (ack : Bool) (ss : List Setting) → IsQuietPut (Settings ack ss)
quiet_settings ack ss = record {
  goes_on = refl;
  unreset = λ t. refl;
  unended = λ t. refl;
  unspent = λ t. refl;
  no_data = refl;
  resets_none = refl;
}

quiet_ping : (ack : Bool) (o : List ℕ) → IsQuietPut (Ping ack o)
quiet_ping ack o = record {
  goes_on = refl;
  unreset = λ t. refl;
  unended = λ t. refl;
  unspent = λ t. refl;
  no_data = refl;
  resets_none =
      refl;
}

quiet_update : (s n : ℕ) → IsQuietOption (window_update s n)
quiet_update s n = split IsQuietOption (n == 0) None (Some (WindowUpdate s n)) (λ _. tt) (λ _. quiet_window s n)

lawful_event : (h : ℕ) (e : Event) → IsLawful h (event_only e)
lawful_event h e = record { acknowledgement = tt; connection_update = tt; stream_update = tt; reset = tt }

lawful_error : (h : ℕ) (v : Standing) (s : ℕ) (code : ErrorCode) → s ≤ h → IsLawful h (stream_error v s code)
lawful_error h v s code low = record { acknowledgement = tt; connection_update = tt; stream_update = tt; reset = low }

low_of : (v : Standing) (s : ℕ) → is_idle v s ≡ false → s ≤ v.highest
low_of v s known = ltb-false v.highest s (or_parts (nat_lt v.highest s) (s % 2 == 0 && not (s == 0)) known).0

abbrev IsLawfulOn : Standing → ℕ → StreamEvent → Type 0
IsLawfulOn v s a = IsLawful v.highest a × (s ≤ v.highest)

data_lawful : (v : Standing) (n s : ℕ) (end_stream : Bool) (bytes : List ℕ) → OkThen (IsLawfulOn v s) (on_data v n s end_stream bytes)
data_lawful v n s end_stream bytes =
    let P : Result StreamEvent ErrorCode → Type 0 = OkThen (IsLawfulOn v s) in
    split P (is_idle v s) _ _ (λ _. tt) (λ known.
    let low = low_of v s known in
    split P (is_receiving v s) _ _
    (λ _. (
      record {
        acknowledgement = tt;
        connection_update = quiet_update 0 n;
        stream_update =
            split IsQuietOption end_stream None (window_update s n) (λ _. tt) (λ _. quiet_update s n);
        reset = tt;
      },
      low,
    ))
    (λ _. split P (is_remembered v s) _ _
    (λ _. (record { acknowledgement = tt; connection_update = quiet_update 0 n; stream_update = tt; reset = tt }, low))
    (λ _. (record { acknowledgement = tt; connection_update = quiet_update 0 n; stream_update = tt; reset = low }, low))))

-- a block's stream is at most the highest after it
block_below : (w : Standing) (s : ℕ) (e : Bool) → s ≤ (after_block w s e).highest
block_below w s e =
    let P : Standing → Type 0 = λ x. s ≤ x.highest in
    split P (nat_lt w.highest s) _ _ (λ _. omega arith) (λ stays.
    let low = ltb-false w.highest s stays in
    split P (e && is_receiving w s) _ _ (λ _. low) (λ _. low))

request_lawful : (v : Standing) (h : ℕ) (block : HeaderList) → block.stream ≤ h → IsLawful h (on_request v block)
request_lawful v h block low =
    split (IsLawful h) (nat_le 100 (length v.live)) _ _ (λ _. lawful_error h v block.stream RefusedStream low)
    (λ _. split (IsLawful h) (not (is_well_formed_request block.fields)) _ _ (λ _. lawful_error h v block.stream ProtocolError low)
    (λ _. lawful_event h _))

trailers_lawful : (v : Standing) (h s : ℕ) (end_stream : Bool) → s ≤ h → IsLawful h (on_trailers v s end_stream)
trailers_lawful v h s end_stream low = split (IsLawful h) end_stream _ _ (λ _. lawful_event h _) (λ _. lawful_error h v s ProtocolError low)

block_lawful : (v : Standing) (h : ℕ) (block : HeaderList) → block.stream ≤ h → OkThen (IsLawful h) (on_block v block)
block_lawful v h block low =
    let P : Result StreamEvent ErrorCode → Type 0 = OkThen (IsLawful h) in
    split P (block.stream % 2 == 0) _ _ (λ _. tt)
    (λ _. split P (nat_lt v.highest block.stream) _ _ (λ _. request_lawful v h block low)
    (λ _. split P (is_receiving v block.stream) _ _ (λ _. trailers_lawful v h block.stream block.end_stream low)
    (λ _. split P (is_remembered v block.stream) _ _ (λ _. lawful_event h Nothing) (λ _. tt))))

given_lawful : (v w : Standing) (g : Result (Option HeaderList) ErrorCode) →
    OkThen (IsLawful (after_header_list w g).highest) (on_header_list v g)
given_lawful v w (Err code) = tt
given_lawful v w (Ok None) = lawful_event w.highest Nothing
given_lawful v w (Ok (Some block)) = block_lawful v (after_block w block.stream block.end_stream).highest block
    (block_below w block.stream block.end_stream)

fault_lawful : (h : ℕ) (o : Option ErrorCode) →
    OkThen (IsLawful h) (option_map_or Err o (Ok (record no_effect { acknowledgement = Some (Settings true []) })))
fault_lawful h None = record { acknowledgement = quiet_settings true []; connection_update = tt; stream_update = tt; reset = tt }
fault_lawful h (Some code) = tt

settings_lawful : (v : Standing) (h : ℕ) (ack : Bool) (settings : List Setting) → OkThen (IsLawful h) (on_settings v ack settings)
settings_lawful v h true settings = lawful_event h Nothing
settings_lawful v h false settings = fault_lawful h (settings_fault v.live settings)

ping_lawful : (h : ℕ) (ack : Bool) (o : List ℕ) → IsLawful h (on_ping ack o)
ping_lawful h true o = lawful_event h Nothing
ping_lawful h false o = record { acknowledgement = quiet_ping true o; connection_update = tt; stream_update = tt; reset = tt }

reset_lawful : (v : Standing) (s : ℕ) → OkThen (IsLawfulOn v s) (on_reset v s)
reset_lawful v s =
    let P : Result StreamEvent ErrorCode → Type 0 = OkThen (IsLawfulOn v s) in
    split P (is_idle v s) _ _ (λ _. tt) (λ known. (lawful_event v.highest _, low_of v s known))

connection_update_lawful : (v : Standing) (h n : ℕ) → OkThen (IsLawful h) (on_connection_update v n)
connection_update_lawful v h n =
    let P : Result StreamEvent ErrorCode → Type 0 = OkThen (IsLawful h) in
    split P (n == 0) _ _ (λ _. tt) (λ _. split P (may_grow n v.connection_window) _ _ (λ _. lawful_event h Nothing) (λ _. tt))

stream_update_lawful : (v : Standing) (s n : ℕ) → OkThen (IsLawfulOn v s) (on_stream_update v s n)
stream_update_lawful v s n =
    let P : Result StreamEvent ErrorCode → Type 0 = OkThen (IsLawfulOn v s) in
    split P (is_idle v s) _ _ (λ _. tt) (λ known.
    let low = low_of v s known in
    split P (not (is_live_at v s)) _ _ (λ _. (lawful_event v.highest Nothing, low))
    (λ _. split P (n == 0) _ _ (λ _. (lawful_error v.highest v s ProtocolError low, low))
    (λ _. split P (list_any (overflows s n) v.live) _ _ (λ _. (lawful_error v.highest v s FlowControlError low, low))
    (λ _. (lawful_event v.highest Nothing, low)))))

-- ---- a frame and its answer

abbrev Follows : List Frame → List Frame → Frame → StreamEvent → Type 0
Follows rs ss g a = (std_of (rs ++ g ∷ []) (ss ++ control_frames a) ≡ after_begin (after_answer a (after_frame_in (std_of rs ss) g)))
    × Idle (rs ++ g ∷ []) (ss ++ control_frames a)

begun_answered : (h : ℕ) (w : Standing) (x : Option Frame) → IsReset h x →
    option_map_or (after_frame_out (after_begin w)) x (after_begin w) ≡ after_begin (option_map_or (after_frame_out w) x w)
begun_answered h w None q = refl
begun_answered h w (Some (RstStream s code)) q = refl
begun_answered h w (Some (Data s e b)) q = absurd q
begun_answered h w (Some (Headers s e h' b)) q = absurd q
begun_answered h w (Some (Priority s p)) q = absurd q
begun_answered h w (Some (Settings a ss')) q = absurd q
begun_answered h w (Some (PushPromise f s p)) q = absurd q
begun_answered h w (Some (Ping a o)) q = absurd q
begun_answered h w (Some (GoAway s c b)) q = absurd q
begun_answered h w (Some (WindowUpdate s n)) q = absurd q
begun_answered h w (Some (Continuation s h' b)) q = absurd q
begun_answered h w (Some (Unknown k f s p)) q = absurd q

follows : (rs ss : List Frame) (g : Frame) (a : StreamEvent) (w : Standing) → std_of (rs ++ g ∷ []) ss ≡ after_begin w →
    Idle (rs ++ g ∷ []) ss → IsLawful w.highest a
    → (std_of (rs ++ g ∷ []) (ss ++ control_frames a) ≡ after_begin (after_answer a w)) × Idle (rs ++ g ∷ []) (ss ++ control_frames a)
follows rs ss g a w is idle lawful =
    let high : top (rs ++ g ∷ []) ≡ w.highest = ap (λ (v : Standing). v.highest) is in
    let there = lawful_answer (rs ++ g ∷ []) ss a (rw high lawful) idle in
    (there.0 ∙ ap (λ (v : Standing). after_answer a v) is ∙ begun_answered w.highest w a.reset lawful.reset, there.1)

-- a frame that has to do with stream s alone is no matter to the streams above the highest
quiet_follows : (rs ss : List Frame) (g : Frame) (a : StreamEvent) → Idle rs ss → IsQuiet g → IsLawful (top rs) a →
    (std_of (rs ++ g ∷ []) (ss ++ control_frames a) ≡ after_begin (after_answer a (std_of rs ss)))
    × Idle (rs ++ g ∷ []) (ss ++ control_frames a)
quiet_follows rs ss g a idle q lawful = follows rs ss g a (std_of rs ss) (quiet rs ss g q)
    (idle_taken rs ss g idle q.none (λ t _. record { unreset = q.unreset t; unended = q.unended t; ungranted = q.ungranted t })) lawful

highest_ends : (v : Standing) (s : ℕ) (e : Bool) → (after_client_end v s e).highest ≡ v.highest
highest_ends v s e = let P : Standing → Type 0 = λ x. x.highest ≡ v.highest in split P (e && is_receiving v s) _ _ (λ _. refl) (λ _. refl)

data_follows : (rs ss : List Frame) (n s : ℕ) (end_stream : Bool) (bytes : List ℕ) → Idle rs ss →
    OkThen (Follows rs ss (Data s end_stream bytes)) (on_data (std_of rs ss) n s end_stream bytes)
data_follows rs ss n s end_stream bytes idle =
    let g = Data s end_stream bytes in
    let v = std_of rs ss in
    then_map (IsLawfulOn v s) (Follows rs ss g) (λ a l. follows rs ss g a (after_client_end v s end_stream)
    (data_taken rs ss s end_stream bytes)
    (idle_taken rs ss g idle (λ bs. refl) (λ t above. let differs : (s == t) ≡ false = grind (arith, nat_tests, l.1) in
    record { unreset = refl; unended = ap (λ b. end_stream && b) differs ∙ and_false end_stream; ungranted = refl }))
    (rw (highest_ends v s end_stream) l.0))
    (on_data v n s end_stream bytes) (data_lawful v n s end_stream bytes)

reset_follows : (rs ss : List Frame) (s code : ℕ) → Idle rs ss → OkThen (Follows rs ss (RstStream s code)) (on_reset (std_of rs ss) s)
reset_follows rs ss s code idle =
    let g = RstStream s code in
    let v = std_of rs ss in
    then_map (IsLawfulOn v s) (Follows rs ss g) (λ a l. follows rs ss g a (after_frame_in v g) (reset_taken rs ss s code)
    (idle_taken rs ss g idle (λ bs. refl) (λ t above. let differs : (s == t) ≡ false = grind (arith, nat_tests, l.1) in
    record { unreset = differs; unended = refl; ungranted = refl }))
    l.0)
    (on_reset v s) (reset_lawful v s)

settings_follows : (rs ss : List Frame) (ack : Bool) (settings : List Setting) → Idle rs ss →
    OkThen (Follows rs ss (Settings ack settings)) (on_settings (std_of rs ss) ack settings)
settings_follows rs ss ack settings idle =
    let g = Settings ack settings in
    let v = std_of rs ss in
    then_map (IsLawful (after_frame_in v g).highest) (Follows rs ss g)
    (λ a l. follows rs ss g a (after_frame_in v g) (settings_taken rs ss ack settings)
    (idle_taken rs ss g idle (λ bs. refl) (λ t _. record { unreset = refl; unended = refl; ungranted = refl }))
    l)
    (on_settings v ack settings) (settings_lawful v (after_frame_in v g).highest ack settings)

update_highest : (v : Standing) (s n : ℕ) → (after_frame_in v (WindowUpdate s n)).highest ≡ v.highest
update_highest v s n = let P : Standing → Type 0 = λ x. x.highest ≡ v.highest in split P (s == 0) _ _ (λ _. refl) (λ _. refl)

update_follows : (rs ss : List Frame) (s n : ℕ) → Idle rs ss →
    OkThen (Follows rs ss (WindowUpdate s n)) (cond (s == 0) (on_connection_update (std_of rs ss) n) (on_stream_update (std_of rs ss) s n))
update_follows rs ss s n idle =
    let g = WindowUpdate s n in
    let v = std_of rs ss in
    let P : Result StreamEvent ErrorCode → Type 0 = OkThen (Follows rs ss g) in
    let aside : s ≤ top rs → (t : ℕ) → top rs < t → IsAside g t = λ low t above.
    let differs : (s == t) ≡ false = grind (arith, nat_tests) in
    record { unreset = refl; unended = refl; ungranted = ap (λ b. cond b n 0) differs } in
    let step : (a : StreamEvent) → IsLawful (top rs) a → s ≤ top rs → Follows rs ss g a = λ a l low.
    follows rs ss g a (after_frame_in v g) (update_taken rs ss s n) (idle_taken rs ss g idle (λ bs. refl) (aside low))
    (rw (update_highest v s n) l) in
    split P (s == 0) _ _
    (λ whole. then_map (IsLawful (top rs)) (Follows rs ss g) (λ a l. step a l (let e = eqb-true s 0 whole in omega arith))
    (on_connection_update v n) (connection_update_lawful v (top rs) n))
    (λ _. then_map (IsLawfulOn v s) (Follows rs ss g) (λ a l. step a l.0 l.1) (on_stream_update v s n) (stream_update_lawful v s n))

-- a part of a header block
fragment_follows : (rs ss : List Frame) (g : Frame) (end_headers : Bool) (b : HeaderBlock) (r : Result (Option HeaderList) ErrorCode) →
    Idle rs ss → IsFragment g → blocks_after (blocks_in rs) g ≡ blocks_with (blocks_in rs).finished end_headers b
    → list_of_block (std_of rs ss).table end_headers b ≡ r
    → OkThen (λ a. (std_of (rs ++ g ∷ []) (ss ++ control_frames a)
    ≡ after_begin (after_answer a (after_header_list
    (with_headers (std_of rs ss) (state_after_block (std_of rs ss).table end_headers b)) r)))
    × Idle (rs ++ g ∷ []) (ss ++ control_frames a)) (on_header_list (std_of rs ss) r)
fragment_follows rs ss g end_headers b (Err code) idle q is given-is = tt
fragment_follows rs ss g end_headers b (Ok x) idle q is given-is =
    let v = std_of rs ss in
    let w = with_headers v (state_after_block v.table end_headers b) in
    let there : std_of (rs ++ g ∷ []) ss ≡ after_begin (after_header_list w (Ok x)) =
    fragment_taken rs ss g end_headers b x idle q is given-is
    ∙ ap (λ (r : Result (Option HeaderList) ErrorCode). after_begin (after_header_list w r)) given-is in
    then_map (IsLawful (after_header_list w (Ok x)).highest) _
    (λ a l. follows rs ss g a (after_header_list w (Ok x)) there (idle_fragment rs ss g end_headers b idle q is) l)
    (on_header_list v (Ok x)) (given_lawful v w (Ok x))

headers_follows : (rs ss : List Frame) (s : ℕ) (end_stream end_headers : Bool) (fragment : List ℕ) → Idle rs ss →
    OkThen (Follows rs ss (Headers s end_stream end_headers fragment))
    (on_header_list (std_of rs ss) (list_of_block (std_of rs ss).table end_headers (new_block s end_stream fragment)))
headers_follows rs ss s end_stream end_headers fragment idle =
    fragment_follows rs ss (Headers s end_stream end_headers fragment) end_headers (new_block s end_stream fragment) _ idle
    (record { unreset = λ t. refl; unended = λ t. refl; ungranted = λ t. refl; unsized = λ n. refl }) refl refl

continuation_by : (rs ss : List Frame) (s : ℕ) (end_headers : Bool) (fragment : List ℕ) (u : Option HeaderBlock) →
    (blocks_in rs).unfinished ≡ u → Idle rs ss
    → OkThen (λ a. (std_of (rs ++ Continuation s end_headers fragment ∷ []) (ss ++ control_frames a)
    ≡ after_begin (after_answer a (after_header_list
    (with_headers (std_of rs ss) (state_after_continuation (std_of rs ss).table u end_headers fragment))
    (list_of_continuation (std_of rs ss).table u end_headers fragment))))
    × Idle (rs ++ Continuation s end_headers fragment ∷ []) (ss ++ control_frames a))
    (on_header_list (std_of rs ss) (list_of_continuation (std_of rs ss).table u end_headers fragment))
continuation_by rs ss s end_headers fragment None is idle = tt
continuation_by rs ss s end_headers fragment (Some b) is idle =
    fragment_follows rs ss (Continuation s end_headers fragment) end_headers (with_continuation fragment b) _ idle
    (record { unreset = λ t. refl; unended = λ t. refl; ungranted = λ t. refl; unsized = λ n. refl })
    (ap (λ (o : Option HeaderBlock). option_map_or (λ x. blocks_with (blocks_in rs).finished end_headers (with_continuation fragment x)) o
    (blocks_in rs)) is) refl

content_follows : (rs ss : List Frame) (n : ℕ) (g : Frame) → Idle rs ss → OkThen (Follows rs ss g) (on_content (std_of rs ss) n g)
content_follows rs ss n (Data s end_stream bytes) idle = data_follows rs ss n s end_stream bytes idle
content_follows rs ss n (Headers s end_stream end_headers fragment) idle = headers_follows rs ss s end_stream end_headers fragment idle
content_follows rs ss n (Priority s p) idle = quiet_follows rs ss (Priority s p) no_effect idle
    (record { none = λ bs. refl; unreset = λ t. refl; unended = λ t. refl; ungranted = λ t. refl; unsized = λ m. refl })
    (lawful_event (top rs) Nothing)
content_follows rs ss n (RstStream s code) idle = reset_follows rs ss s code idle
content_follows rs ss n (Settings ack settings) idle = settings_follows rs ss ack settings idle
content_follows rs ss n (PushPromise flags s payload) idle = tt
content_follows rs ss n (Ping ack o) idle = quiet_follows rs ss (Ping ack o) (on_ping ack o) idle
    (record { none = λ bs. refl; unreset = λ t. refl; unended = λ t. refl; ungranted = λ t. refl; unsized = λ m. refl })
    (ping_lawful (top rs) ack o)
content_follows rs ss n (GoAway s code b) idle =
    quiet_follows rs ss (GoAway s code b) no_effect idle
    (record { none = λ bs. refl; unreset = λ t. refl; unended = λ t. refl; ungranted = λ t. refl; unsized = λ m. refl })
    (lawful_event (top rs) Nothing)
content_follows rs ss n (WindowUpdate s m) idle = update_follows rs ss s m idle
content_follows rs ss n (Continuation s end_headers fragment) idle =
    continuation_by rs ss s end_headers fragment (blocks_in rs).unfinished refl idle
content_follows rs ss n (Unknown k f s p) idle =
    quiet_follows rs ss (Unknown k f s p) no_effect idle
    (record { none = λ bs. refl; unreset = λ t. refl; unended = λ t. refl; ungranted = λ t. refl; unsized = λ m. refl })
    (lawful_event (top rs) Nothing)

-- ---- the history with the frame and what is put for it

none_received : (fs : List Frame) → filter_map frame_in (map Out fs) ≡ []
none_received [] = refl
none_received (f ∷ fs) = none_received fs

pub all_sent : (fs : List Frame) → filter_map frame_out (map Out fs) ≡ fs
all_sent [] = refl
all_sent (f ∷ fs) = ap (λ xs. f ∷ xs) (all_sent fs)

received_more : (d : List Entry) (f : RawFrame) (g : Frame) (fs : List Frame) → frame_of f ≡ Ok g →
    received_frames (d ++ In f ∷ map Out fs) ≡ received_frames d ++ g ∷ []
received_more d f g fs says =
    let one : filter_map frame_in (In f ∷ map Out fs) ≡ g ∷ [] = rw (says, none_received fs) refl in
    filter_map-append frame_in d (In f ∷ map Out fs) ∙ ap (λ xs. received_frames d ++ xs) one

sent_more : (d : List Entry) (f : RawFrame) (fs : List Frame) → sent_frames (d ++ In f ∷ map Out fs) ≡ sent_frames d ++ fs
sent_more d f fs = filter_map-append frame_out d (In f ∷ map Out fs) ∙ ap (λ xs. sent_frames d ++ xs) (all_sent fs)

pub has_failed-append : (d es : List Entry) → has_failed (d ++ es) ≡ (has_failed d || has_failed es)
has_failed-append d es = ap (list_any is_goaway) (filter_map-append frame_out d es)
    ∙ list_any-append is_goaway (sent_frames d) (sent_frames es)

abbrev pub IsIdle : List Entry → Type 0
IsIdle d = (s : ℕ) → highest_stream d < s → IsUntouched d s

pub idle_of : (d : List Entry) → IsIdle d → Idle (received_frames d) (sent_frames d)
idle_of d idle s above = let u = idle s above in
    record {
      unreset = u.unreset;
      unended_c = u.unended_by_client;
      unended_s = u.unended_by_server;
      ungranted = u.granted;
      unspent =
          u.spent;
    }

idle_by : (d : List Entry) (rs ss : List Frame) → received_frames d ≡ rs → sent_frames d ≡ ss → Idle rs ss → IsIdle d
idle_by d rs ss r-is s-is idle s above =
    let P : List Frame → Type 0 = λ xs. Idle xs ss in
    let Q : List Frame → Type 0 = λ xs. Idle (received_frames d) xs in
    let here : Idle (received_frames d) (sent_frames d) = subst Q (sym s-is) (subst P (sym r-is) idle) in
    let u = here s above in
    record {
      unreset = u.unreset;
      unended_by_client = u.unended_c;
      unended_by_server = u.unended_s;
      granted = u.ungranted;
      spent =
          u.unspent;
    }

-- a state that is that of two lists of frames stands for a history with these frames
pub stands_by : (d : List Entry) (v : Standing) (rs ss : List Frame) → received_frames d ≡ rs → sent_frames d ≡ ss → std_of rs ss ≡ v →
    Idle rs ss → AreStreams v d
stands_by d v rs ss r-is s-is is idle =
    let same : standing d ≡ v = ap (λ xs. std_of xs (sent_frames d)) r-is ∙ ap (λ xs. std_of rs xs) s-is ∙ is in
    record {
      fault = ap (λ (w : Standing). w.failed) (sym same);
      state =
          λ _. record { is = sym same; idle = idle_by d rs ss r-is s-is idle };
    }

-- after a connection error only that there was one is kept
pub stands_failed : (d : List Entry) (v : Standing) → v.failed ≡ true → has_failed d ≡ true → AreStreams v d
stands_failed d v bad failed = record { fault = bad ∙ sym failed; state = λ fine. absurd (true≢false (sym failed ∙ fine)) }

frame_law : (d : List Entry) (f : RawFrame) (g : Frame) (a : StreamEvent) → IsIdle d → frame_of f ≡ Ok g →
    on_content (standing d) (length f.payload) g ≡ Ok a →
    AreStreams (after_begin (after_answer a (after_frame_in (standing d) g))) (d ++ In f ∷ map Out (control_frames a))
frame_law d f g a idle says causes-is =
    let P : Result StreamEvent ErrorCode → Type 0 = OkThen (Follows (received_frames d) (sent_frames d) g) in
    let there : Follows (received_frames d) (sent_frames d) g a =
    subst P causes-is (content_follows (received_frames d) (sent_frames d) (length f.payload) g (idle_of d idle)) in
    stands_by (d ++ In f ∷ map Out (control_frames a)) _ (received_frames d ++ g ∷ []) (sent_frames d ++ control_frames a)
    (received_more d f g (control_frames a) says) (sent_more d f (control_frames a)) there.0 there.1

-- what the tests before the frame's content leave
read_law : (d : List Entry) (f : RawFrame) (r : Result Frame ErrorCode) (a : StreamEvent) → IsIdle d → frame_of f ≡ r →
    on_frame_of (standing d) (length f.payload) r ≡ Ok a →
    AreStreams (after_content (standing d) a r) (d ++ In f ∷ map Out (control_frames a))
read_law d f (Ok g) a idle says h = frame_law d f g a idle says h
read_law d f (Err code) a idle says h = cc

turn_law : (d : List Entry) (f : RawFrame) (a : StreamEvent) (b : Bool) → IsIdle d →
    cond b (on_frame_of (standing d) (length f.payload) (frame_of f)) (Err ProtocolError) ≡ Ok a →
    AreStreams (after_content (standing d) a (frame_of f)) (d ++ In f ∷ map Out (control_frames a))
turn_law d f a true idle h = read_law d f (frame_of f) a idle refl h
turn_law d f a false idle h = cc

pub cond_is_true : {A : Type 0} (b : Bool) (x y : A) → b ≡ true → cond b x y ≡ x
cond_is_true true x y h = refl
cond_is_true false x y h = cc

pub cond_is_false : {A : Type 0} (b : Bool) (x y : A) → b ≡ false → cond b x y ≡ y
cond_is_false true x y h = cc
cond_is_false false x y h = refl

pub at_law : (d : List Entry) (f : RawFrame) (a : StreamEvent) → has_failed d ≡ false → IsIdle d → answer_after d f ≡ Ok a →
    AreStreams (step_by (standing d) f a) (d ++ entries_of d f)
at_law d f a fine idle h =
    let caused-is : on_raw_frame (standing d) f ≡ Ok a =
    sym (cond_is_false (has_failed d) (Ok no_effect) (on_raw_frame (standing d) f) fine) ∙ h in
    let there = turn_law d f a (is_in_turn (standing d) f) idle caused-is in
    let P : Standing → Type 0 = λ w. AreStreams w (d ++ In f ∷ map Out (control_frames a)) in
    let Q : Result StreamEvent ErrorCode → Type 0 =
    λ r. AreStreams (step_by (standing d) f a) (d ++ In f ∷ map Out (frames_put (standing d) r)) in
    subst Q (sym h) (subst P (sym (cond_is_false (has_failed d) (standing d) (after_content (standing d) a (frame_of f)) fine)) there)

-- a state that stands for a history before a connection error is that of the history
pub before_failure : (v : Standing) (d : List Entry) → AreStreams v d → v.failed ≡ false → (has_failed d ≡ false) × IsStandingOf v d
before_failure v d h fine = let same : has_failed d ≡ false = sym h.fault ∙ fine in (same, h.state same)

step_law : (v : Standing) (d : List Entry) (f : RawFrame) (a : StreamEvent) → AreStreams v d → answer_to v f ≡ Ok a →
    AreStreams (step_by v f a) (d ++ entries_of d f)
step_law v d f a h good = elim (cases_Bool v.failed) [
  | inl bad ↦
      let P : Standing → Type 0 = λ w. AreStreams w (d ++ entries_of d f) in
      subst P (sym (cond_is_true v.failed v (after_content v a (frame_of f)) bad))
      (stands_failed (d ++ entries_of d f) v bad (has_failed-append d (entries_of d f)
      ∙ ap (λ b. b || has_failed (entries_of d f)) (sym h.fault ∙ bad)))
  | inr fine ↦
      let at = before_failure v d h fine in
      let P : Standing → Type 0 = λ w. answer_to w f ≡ Ok a in
      let Q : Standing → Type 0 = λ w. AreStreams (step_by w f a) (d ++ entries_of d f) in
      subst Q (sym at.1.is) (at_law d f a at.0 at.1.idle (subst P at.1.is good))
]

-- a connection error, which is put
failure_law : (v w : Standing) (d : List Entry) (f : RawFrame) (code : ErrorCode) → AreStreams v d → answer_to v f ≡ Err code →
    w.failed ≡ true → AreStreams w (d ++ entries_of d f)
failure_law v w d f code h bad failed = elim (cases_Bool v.failed) [
  | inl before ↦ let wrong = rw before at bad in cc
  | inr fine ↦
      let at = before_failure v d h fine in
      let P : Standing → Type 0 = λ x. answer_to x f ≡ Err code in
      let causes-is : answer_after d f ≡ Err code = subst P at.1.is bad in
      let put : has_failed (entries_of d f) ≡ true = ap (λ r. has_failed (In f ∷ map Out (frames_put (standing d) r))) causes-is in
      stands_failed (d ++ entries_of d f) w failed
      (has_failed-append d (entries_of d f) ∙ ap (λ b. has_failed d || b) put ∙ or_true (has_failed d))
]

-- ---- the same of a call's result

abbrev Stands : Standing → Standing → RawFrame → Type 0
Stands v w f = (d : List Entry) → AreStreams v d → AreStreams w (d ++ entries_of d f)

pub stands_after_ok : (r : Result StreamEvent ConnectionFault) (v w : Standing) (f : RawFrame) → Gives r (answer_to v f) →
    IfOk r (λ a. w ≡ step_by v f a) → is_err r ≡ false → InMemory r (Stands v w f)
stands_after_ok (Ok a) v w f gives is fine = λ d h. rw is (step_law v d f a h gives)
stands_after_ok (Err e) v w f gives is fine = cc

pub stands_after_err : (r : Result StreamEvent ConnectionFault) (v w : Standing) (f : RawFrame) → Gives r (answer_to v f) →
    is_err r ≡ true → w.failed ≡ true → InMemory r (Stands v w f)
stands_after_err (Ok a) v w f gives bad failed = cc
stands_after_err (Err (Connection code)) v w f gives bad failed = λ d h. failure_law v w d f code h gives failed
stands_after_err (Err NoMemory) v w f gives bad failed = tt
