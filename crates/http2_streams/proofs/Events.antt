-- What a frame's event says of the streams that are kept before and after it.
use Rattle.std.proofs.Common.{◌≡◌, ℕ, ◌<◌, List, [], ◌∷◌, ◌++◌, refl, ap, ◌∙◌, sym, arith, inl, inr}
use Rattle.std.specs.Prelude.{map, filter, fold, cond, max, Bool, true, false, not, ◌&&◌, ◌==◌, ◌%◌, nat_lt, nat_le, Option, Some, None, Result, Ok, Err}
use Rattle.std.specs.List.{list_any}
use Rattle.std.specs.Option.{option_map_or}
use Rattle.std.proofs.lemmas.Bool.{cases_Bool, ltb-true, or_cases, and_parts}
use Rattle.hpack.specs.declared.error.HpackError.{HpackError}
use Rattle.hpack.specs.Header.{Header}
use Rattle.hpack.specs.Table.{Table}
use Rattle.hpack.specs.Block.{step}
use Rattle.http2_frames.specs.declared.codes.ErrorCode.{ErrorCode}
use Rattle.http2_frames.specs.declared.codes.ErrorCode.TheVariants.{ProtocolError, RefusedStream, FlowControlError}
use Rattle.http2_frames.specs.declared.frame.Frame.{Frame}
use Rattle.http2_frames.specs.declared.frame.Frame.TheVariants.{Data, Headers, Priority, RstStream, Settings, PushPromise, Ping, GoAway, WindowUpdate, Continuation, Unknown}
use Rattle.http2_frames.specs.declared.settings.Setting.{Setting}
use Rattle.http2_streams.specs.HeaderBlock.{HeaderBlock, new_block, with_continuation, is_excessive}
use Rattle.http2_streams.specs.declared.header_blocks.HeaderList.{HeaderList}
use Rattle.http2_streams.specs.Decoding.{HeaderState, list_of_block, state_after_block, list_of_continuation, state_after_continuation, list_of}
use Rattle.http2_streams.specs.Request.{is_well_formed_request}
use Rattle.http2_streams.specs.declared.stream.Stream.{Stream}
use Rattle.http2_streams.specs.declared.event.Event.{Event}
use Rattle.http2_streams.specs.declared.event.Event.TheVariants.{Nothing, Request, Content, Trailers, Cancel}
use Rattle.http2_streams.specs.declared.event.StreamEvent.{StreamEvent}
use Rattle.http2_streams.specs.History.{Blocks, blocks_after, blocks_with, stream_of}
use Rattle.http2_streams.specs.Standing.{Standing}
use Rattle.http2_streams.specs.Rules.{number_is, is_live_at, is_idle, receives, is_receiving, is_remembered, cancel_event, stream_error, no_effect, on_data, on_header_list, on_block, on_request, on_trailers, on_settings, settings_fault, on_ping, on_reset, on_connection_update, on_stream_update, overflows, may_grow, on_content}
use Rattle.http2_streams.specs.declared.stream.Side.TheVariants.{Client}
use Rattle.http2_streams.specs.Step.{without_stream, after_client_end, with_end, stream_after_grant, stream_after_resize, new_stream, after_block, after_header_list, with_headers, after_frame_in, after_answer, size_after_setting}
use Rattle.http2_streams.proofs.Lists.{map-map, map-append}
use Rattle.http2_streams.proofs.StreamLists.{without_granted, without_fresh}
use Rattle.http2_streams.proofs.Sides.{blocks_in, top, std_of, in-blocks}
use Rattle.http2_streams.proofs.ReceivedBlocks.{top_more}
use Rattle.http2_streams.proofs.Law.{OkThen, split}

abbrev pub number_of : Stream → ℕ
number_of x = x.number

abbrev pub numbers_of : List Stream → List ℕ
numbers_of xs = map number_of xs

-- those that the client's END_STREAM on s does not close
abbrev pub unclosed : ℕ → List Stream → List Stream
unclosed s xs = filter (λ x. not (x.number == s && x.ended_by_server)) xs

-- the numbers of the live streams after the event
abbrev pub numbers_after : Standing → Event → List ℕ
numbers_after v Nothing = numbers_of v.live
numbers_after v (Request s fields end_stream) = numbers_of v.live ++ s ∷ []
numbers_after v (Content s content end_stream) = cond end_stream (numbers_of (unclosed s v.live)) (numbers_of v.live)
numbers_after v (Trailers s) = numbers_of (unclosed s v.live)
numbers_after v (Cancel s) = numbers_of (without_stream s v.live)

-- where the event's stream stands; h is the highest number after the frame
abbrev pub IsOnAt : Standing → ℕ → Event → Type 0
IsOnAt v h Nothing = Unit {0}
IsOnAt v h (Request s fields end_stream) = (v.highest < s) × (h ≡ s)
IsOnAt v h (Content s content end_stream) = is_live_at v s ≡ true
IsOnAt v h (Trailers s) = is_live_at v s ≡ true
IsOnAt v h (Cancel s) = is_live_at v s ≡ true

-- w is what is kept after the frame and before what is put for it
pub record Told (v : Standing) (h : ℕ) (w : Standing) (a : StreamEvent) : Type 0 where
  pub stream : IsOnAt v h a.event
  pub live : numbers_of (after_answer a w).live ≡ numbers_after v a.event

-- ---- lists of streams

receiving_lives : (s : ℕ) (xs : List Stream) → list_any (receives s) xs ≡ true → list_any (number_is s) xs ≡ true
receiving_lives s [] h = h
receiving_lives s (x ∷ xs) h = elim (or_cases (receives s x) (list_any (receives s) xs) h) [
  | inl here ↦ let p = and_parts (x.number == s) (not x.ended_by_client) here in rw p.0 refl
  | inr later ↦ let r = receiving_lives s xs later in grind arith
]

none_without : (s : ℕ) (xs : List Stream) → list_any (number_is s) xs ≡ false → without_stream s xs ≡ xs
none_without s [] h = refl
none_without s (x ∷ xs) h = grind (arith, none_without s xs)

marked_numbers : (s : ℕ) (xs : List Stream) → numbers_of (map (with_end Client s) xs) ≡ numbers_of xs
marked_numbers s [] = refl
marked_numbers s (x ∷ xs) = elim (cases_Bool (x.number == s)) [
  | inl same ↦ rw same (ap (λ ys. x.number ∷ ys) (marked_numbers s xs))
  | inr other ↦ rw other (ap (λ ys. x.number ∷ ys) (marked_numbers s xs))
]

granted_numbers : (s n : ℕ) (xs : List Stream) → numbers_of (map (stream_after_grant s n) xs) ≡ numbers_of xs
granted_numbers s n [] = refl
granted_numbers s n (x ∷ xs) = elim (cases_Bool (x.number == s)) [
  | inl same ↦ rw same (ap (λ ys. x.number ∷ ys) (granted_numbers s n xs))
  | inr other ↦ rw other (ap (λ ys. x.number ∷ ys) (granted_numbers s n xs))
]

resized_numbers : (i : ℕ) (xs : List Stream) → numbers_of (map (stream_after_resize i) xs) ≡ numbers_of xs
resized_numbers i xs = map-map number_of (stream_after_resize i) xs

-- ---- the end of a request

shut_stays : (v : Standing) (s : ℕ) (e : Bool) → is_receiving v s ≡ false → after_client_end v s e ≡ v
shut_stays v s true shut = rw shut refl
shut_stays v s false shut = refl

end_numbers : (v : Standing) (s : ℕ) (e : Bool) → is_receiving v s ≡ true →
    numbers_of (after_client_end v s e).live ≡ cond e (numbers_of (unclosed s v.live)) (numbers_of v.live)
end_numbers v s false open_to = refl
end_numbers v s true open_to = rw open_to (marked_numbers s (unclosed s v.live))

ends_live : (v : Standing) (hs : HeaderState) (s : ℕ) (e : Bool) →
    (after_client_end (with_headers v hs) s e).live ≡ (after_client_end v s e).live
ends_live v hs s e = elim (cases_Bool (e && list_any (receives s) v.live)) [
  | inl ends ↦ rw ends refl
  | inr stays ↦ rw stays refl
]

-- ---- a stream that is reset

cancelled_on : (v : Standing) (h s : ℕ) → IsOnAt v h (cancel_event v s)
cancelled_on v h s = split (IsOnAt v h) (is_live_at v s) (Cancel s) Nothing (λ lives. lives) (λ _. tt)

cancelled_numbers : (v : Standing) (s : ℕ) → numbers_of (without_stream s v.live) ≡ numbers_after v (cancel_event v s)
cancelled_numbers v s = split (λ e. numbers_of (without_stream s v.live) ≡ numbers_after v e) (is_live_at v s) (Cancel s) Nothing
    (λ _. refl) (λ none. ap numbers_of (none_without s v.live none))

error_told : (v w : Standing) (h s : ℕ) (code : ErrorCode) → without_stream s w.live ≡ without_stream s v.live →
    Told v h w (stream_error v s code)
error_told v w h s code same = record { stream = cancelled_on v h s; live = ap numbers_of same ∙ cancelled_numbers v s }

nothing_told : (v w : Standing) (h : ℕ) → numbers_of w.live ≡ numbers_of v.live → Told v h w no_effect
nothing_told v w h same = record { stream = tt; live = same }

-- ---- each kind of frame

data_told : (v : Standing) (h n s : ℕ) (e : Bool) (bytes : List ℕ) → OkThen (Told v h (after_client_end v s e)) (on_data v n s e bytes)
data_told v h n s e bytes =
    let P : Result StreamEvent ErrorCode → Type 0 = OkThen (Told v h (after_client_end v s e)) in
    split P (is_idle v s) _ _ (λ _. tt)
    (λ _. split P (is_receiving v s) _ _ (λ open_to. record { stream = receiving_lives s v.live open_to; live = end_numbers v s e open_to })
    (λ shut. split P (is_remembered v s) _ _ (λ _. record
    { stream = tt; live = ap (λ (w : Standing). numbers_of w.live) (shut_stays v s e shut) })
    (λ _. record {
      stream = cancelled_on v h s;
      live =
          ap (λ (w : Standing). numbers_of (without_stream s w.live)) (shut_stays v s e shut) ∙ cancelled_numbers v s;
    })))

request_told : (v w : Standing) (h : ℕ) (block : HeaderList) → v.highest < block.stream → h ≡ max v.highest block.stream →
    w.live ≡ v.live ++ new_stream v.initial_window_size block.stream block.end_stream ∷ [] → Told v h w (on_request v block)
request_told v w h block above high_is is =
    let s = block.stream in
    let x = new_stream v.initial_window_size s block.end_stream in
    let same : without_stream s w.live ≡ without_stream s v.live =
    ap (without_stream s) is ∙ without_fresh s v.initial_window_size block.end_stream v.live in
    split (Told v h w) (nat_le 100 _) _ _ (λ _. error_told v w h s RefusedStream same)
    (λ _. split (Told v h w) (not (is_well_formed_request block.fields)) _ _ (λ _. error_told v w h s ProtocolError same)
    (λ _. record { stream = (above, omega (arith, above, high_is)); live = ap numbers_of is ∙ map-append number_of v.live (x ∷ []) }))

trailers_told : (v w : Standing) (h s : ℕ) (e : Bool) → is_receiving v s ≡ true → w.live ≡ (after_client_end v s e).live →
    Told v h w (on_trailers v s e)
trailers_told v w h s true open_to is = record
    { stream = receiving_lives s v.live open_to; live = ap numbers_of is ∙ end_numbers v s true open_to }
trailers_told v w h s false open_to is = error_told v w h s ProtocolError (ap (without_stream s) is)

-- a whole block
block_told : (v : Standing) (hs : HeaderState) (h : ℕ) (block : HeaderList) → h ≡ max v.highest block.stream →
    OkThen (Told v h (after_block (with_headers v hs) block.stream block.end_stream)) (on_block v block)
block_told v hs h block high_is =
    let s = block.stream in
    let e = block.end_stream in
    let x = with_headers v hs in
    let P : Result StreamEvent ErrorCode → Type 0 = OkThen (Told v h (after_block x s e)) in
    split P (s % 2 == 0) _ _ (λ _. tt)
    (λ _. split P (nat_lt v.highest s) _ _
    (λ opens. request_told v (after_block x s e) h block (ltb-true v.highest s opens) high_is (rw opens refl))
    (λ stays. split P (is_receiving v s) _ _ (λ open_to. trailers_told v (after_block x s e) h s e open_to (rw stays (ends_live v hs s e)))
    (λ shut. split P (is_remembered v s) _ _ (λ _. nothing_told v (after_block x s e) h
    (rw stays (ap (λ (w : Standing). numbers_of w.live) (shut_stays x s e shut)))) (λ _. tt))))

given_told : (v : Standing) (hs : HeaderState) (h : ℕ) (g : Result (Option HeaderList) ErrorCode) →
    ((block : HeaderList) → g ≡ Ok (Some block) → h ≡ max v.highest block.stream) →
    OkThen (Told v h (after_header_list (with_headers v hs) g)) (on_header_list v g)
given_told v hs h (Err code) high_is = tt
given_told v hs h (Ok None) high_is = nothing_told v (with_headers v hs) h refl
given_told v hs h (Ok (Some block)) high_is = block_told v hs h block (high_is block refl)

-- the block's stream is that of the frame
abbrev stream_given : Result (Option HeaderList) ErrorCode → ℕ
stream_given (Ok (Some block)) = block.stream
stream_given _ = 0

listed_stream : (s : ℕ) (e : Bool) (r : Result (List Header) HpackError) (block : HeaderList) → list_of s e r ≡ Ok (Some block) →
    block.stream ≡ s
listed_stream s e (Ok fields) block is = sym (ap stream_given is)
listed_stream s e (Err x) block is = cc

top_by : (rs : List Frame) (g : Frame) (table : Option Table) (end_headers : Bool) (b : HeaderBlock) (block : HeaderList) →
    blocks_after (blocks_in rs) g ≡ blocks_with (blocks_in rs).finished end_headers b →
    cond end_headers (list_of b.stream b.end_stream (step table b.fragment).0) (Ok None) ≡ Ok (Some block) →
    top (rs ++ g ∷ []) ≡ max (top rs) block.stream
top_by rs g table true b block is gives =
    let high : top (rs ++ g ∷ []) ≡ max (top rs) b.stream =
    ap (λ (x : Blocks). fold max 0 (map stream_of x.finished)) (in-blocks rs g ∙ is) ∙ top_more rs b in
    let own = listed_stream b.stream b.end_stream (step table b.fragment).0 block gives in
    high ∙ ap (max (top rs)) (sym own)
top_by rs g table false b block is gives = cc

given_top : (rs : List Frame) (g : Frame) (table : Option Table) (end_headers : Bool) (b : HeaderBlock) (block : HeaderList) →
    blocks_after (blocks_in rs) g ≡ blocks_with (blocks_in rs).finished end_headers b →
    list_of_block table end_headers b ≡ Ok (Some block) → top (rs ++ g ∷ []) ≡ max (top rs) block.stream
given_top rs g table end_headers b block is gives = elim (cases_Bool (is_excessive b)) [
  | inl excessive ↦ let bad = rw excessive at gives in cc
  | inr fine ↦ let good : cond end_headers (list_of b.stream b.end_stream (step table b.fragment).0) (Ok None) ≡ Ok (Some block) =
      rw fine at gives in top_by rs g table end_headers b block is good
]

headers_told : (rs ss : List Frame) (g : Frame) (end_headers : Bool) (b : HeaderBlock) →
    blocks_after (blocks_in rs) g ≡ blocks_with (blocks_in rs).finished end_headers b
    → OkThen (Told (std_of rs ss) (top (rs ++ g ∷ []))
    (after_header_list (with_headers (std_of rs ss) (state_after_block (std_of rs ss).table end_headers b))
    (list_of_block (std_of rs ss).table end_headers b)))
    (on_header_list (std_of rs ss) (list_of_block (std_of rs ss).table end_headers b))
headers_told rs ss g end_headers b is =
    let v = std_of rs ss in
    given_told v (state_after_block v.table end_headers b) (top (rs ++ g ∷ [])) (list_of_block v.table end_headers b)
    (λ block gives. given_top rs g v.table end_headers b block is gives)

continuation_told : (rs ss : List Frame) (s : ℕ) (end_headers : Bool) (fragment : List ℕ) (u : Option HeaderBlock) →
    (blocks_in rs).unfinished ≡ u
    → OkThen (Told (std_of rs ss) (top (rs ++ Continuation s end_headers fragment ∷ []))
    (after_header_list (with_headers (std_of rs ss) (state_after_continuation (std_of rs ss).table u end_headers fragment))
    (list_of_continuation (std_of rs ss).table u end_headers fragment)))
    (on_header_list (std_of rs ss) (list_of_continuation (std_of rs ss).table u end_headers fragment))
continuation_told rs ss s end_headers fragment None is = tt
continuation_told rs ss s end_headers fragment (Some b) is =
    headers_told rs ss (Continuation s end_headers fragment) end_headers (with_continuation fragment b)
    (ap (λ (o : Option HeaderBlock). option_map_or (λ x. blocks_with (blocks_in rs).finished end_headers (with_continuation fragment x)) o
    (blocks_in rs)) is)

settings_by : (v : Standing) (h : ℕ) (size : Option ℕ) (fault : Option ErrorCode) →
    OkThen (Told v h (option_map_or (λ i. record v { initial_window_size = i; live = map (stream_after_resize i) v.live }) size v))
    (option_map_or Err fault (Ok (record no_effect { acknowledgement = Some (Settings true []) })))
settings_by v h size (Some code) = tt
settings_by v h None None = record { stream = tt; live = refl }
settings_by v h (Some i) None = record { stream = tt; live = resized_numbers i v.live }

settings_told : (v : Standing) (h : ℕ) (ack : Bool) (settings : List Setting) →
    OkThen (Told v h (after_frame_in v (Settings ack settings))) (on_settings v ack settings)
settings_told v h true settings = nothing_told v v h refl
settings_told v h false settings = settings_by v h (fold size_after_setting None settings) (settings_fault v.live settings)

ping_told : (v : Standing) (h : ℕ) (ack : Bool) (o : List ℕ) → Told v h v (on_ping ack o)
ping_told v h true o = nothing_told v v h refl
ping_told v h false o = record { stream = tt; live = refl }

reset_told : (v : Standing) (h s code : ℕ) → OkThen (Told v h (after_frame_in v (RstStream s code))) (on_reset v s)
reset_told v h s code =
    split (OkThen (Told v h (after_frame_in v (RstStream s code)))) (is_idle v s) _ _ (λ _. tt)
    (λ _. record { stream = cancelled_on v h s; live = cancelled_numbers v s })

stream_update_told : (v w : Standing) (h s n : ℕ) → w.live ≡ map (stream_after_grant s n) v.live →
    OkThen (Told v h w) (on_stream_update v s n)
stream_update_told v w h s n is =
    let P : Result StreamEvent ErrorCode → Type 0 = OkThen (Told v h w) in
    let same : numbers_of w.live ≡ numbers_of v.live = ap numbers_of is ∙ granted_numbers s n v.live in
    let others : without_stream s w.live ≡ without_stream s v.live = ap (without_stream s) is ∙ without_granted s n v.live in
    split P (is_idle v s) _ _ (λ _. tt)
    (λ _. split P (not (is_live_at v s)) _ _ (λ _. nothing_told v w h same)
    (λ _. split P (n == 0) _ _ (λ _. error_told v w h s ProtocolError others)
    (λ _. split P (list_any (overflows s n) v.live) _ _ (λ _. error_told v w h s FlowControlError others) (λ _. nothing_told v w h same))))

connection_update_told : (v w : Standing) (h n : ℕ) → w.live ≡ v.live → OkThen (Told v h w) (on_connection_update v n)
connection_update_told v w h n is =
    let P : Result StreamEvent ErrorCode → Type 0 = OkThen (Told v h w) in
    split P (n == 0) _ _ (λ _. tt) (λ _. split P (may_grow n v.connection_window) _ _ (λ _. nothing_told v w h (ap numbers_of is))
    (λ _. tt))

update_told : (v : Standing) (h s n : ℕ) → OkThen (Told v h (after_frame_in v (WindowUpdate s n)))
    (cond (s == 0) (on_connection_update v n) (on_stream_update v s n))
update_told v h s n =
    let w = after_frame_in v (WindowUpdate s n) in
    split (OkThen (Told v h w)) (s == 0) _ _
    (λ whole. connection_update_told v w h n (rw whole refl))
    (λ other. stream_update_told v w h s n (rw other refl))

pub content_told : (rs ss : List Frame) (n : ℕ) (g : Frame) →
    OkThen (Told (std_of rs ss) (top (rs ++ g ∷ [])) (after_frame_in (std_of rs ss) g)) (on_content (std_of rs ss) n g)
content_told rs ss n (Data s e bytes) = data_told (std_of rs ss) _ n s e bytes
content_told rs ss n (Headers s e end_headers fragment) =
    headers_told rs ss (Headers s e end_headers fragment) end_headers (new_block s e fragment) refl
content_told rs ss n (Priority s p) = nothing_told (std_of rs ss) (std_of rs ss) _ refl
content_told rs ss n (RstStream s code) = reset_told (std_of rs ss) _ s code
content_told rs ss n (Settings ack settings) = settings_told (std_of rs ss) _ ack settings
content_told rs ss n (PushPromise flags s payload) = tt
content_told rs ss n (Ping ack o) = ping_told (std_of rs ss) _ ack o
content_told rs ss n (GoAway s code b) = nothing_told (std_of rs ss) (std_of rs ss) _ refl
content_told rs ss n (WindowUpdate s m) = update_told (std_of rs ss) _ s m
content_told rs ss n (Continuation s end_headers fragment) = continuation_told rs ss s end_headers fragment (blocks_in rs).unfinished refl
content_told rs ss n (Unknown k f s p) = nothing_told (std_of rs ss) (std_of rs ss) _ refl
