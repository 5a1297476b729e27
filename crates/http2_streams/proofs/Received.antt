-- One more frame received.
use Rattle.std.proofs.Common.{◌≡◌, ℕ, ◌+◌, ◌<◌, List, [], ◌∷◌, ◌++◌, refl, ap, ◌∙◌, sym, subst, arith, inl, inr, add-zero}
use Rattle.std.specs.Prelude.{map, filter, fold, max, sum_by, cond, Bool, true, false, not, ◌&&◌, ◌||◌, ◌==◌, Option, Some, None, pos, ◌-ℤ◌, ◌+ℤ◌, ℤ}
use Rattle.std.specs.List.{list_any}
use Rattle.std.specs.Option.{option_map_or, unwrap_or}
use Rattle.std.proofs.lemmas.Bool.{cases_Bool, eqb-true, and_parts}
use Rattle.std.proofs.lemmas.List.Elements.{filter_agree}
use Rattle.std.proofs.lemmas.Bool.Decides.{nat_tests}
use Rattle.std.proofs.lemmas.Int.{ints}
use Rattle.hpack.specs.Table.{new_table}
use Rattle.http2_flow.specs.Credit.{Credit}
use Rattle.http2_frames.specs.declared.frame.Frame.{Frame}
use Rattle.http2_frames.specs.declared.frame.Frame.TheVariants.{Data, RstStream, Settings, WindowUpdate}
use Rattle.http2_frames.specs.declared.codes.setting.TheConstants.{INITIAL_WINDOW_SIZE}
use Rattle.http2_frames.specs.declared.settings.Setting.{Setting}
use Rattle.http2_streams.specs.declared.stream.Stream.{Stream}
use Rattle.http2_streams.specs.History.{Blocks, blocks_after, stream_of, rising_numbers, resets, data_ends, size_after, size_set, increment_for, data_length, table_after_block}
use Rattle.http2_streams.specs.Rules.{receives, is_receiving}
use Rattle.http2_streams.specs.declared.stream.Side.TheVariants.{Client}
use Rattle.http2_streams.specs.Step.{without_stream, streams_after_end, after_client_end, with_end, stream_after_grant, stream_after_resize, after_frame_in, after_begin, with_live, after_resize, size_after_setting, after_window_update}
use Rattle.http2_streams.proofs.Lists.{Agree, map_rising_agree}
use Rattle.http2_streams.proofs.Bools.{eq_sym, or_false, or_true, ended_alive, reset_alive, not_false, not_true, or_parts}
use Rattle.http2_streams.proofs.Sides.{blocks_in, numbers, top, reset_in, ended_c, ended_s, alive, size, granted_in, spent_in, stream_by, at, streams_in, connection, std_of, Idle, sum-push, in-blocks, in-reset, in-ended, in-size, begun_after, kept_streams, changed_streams, kept_and_changed}

-- ---- frames that are no part of a header block

abbrev pub IsNoBlock : Frame → Type 0
IsNoBlock g = (bs : Blocks) → blocks_after bs g ≡ bs

-- what such a frame leaves, by what it does to the streams, the initial size and the connection's window
taken : (rs ss : List Frame) (g : Frame) (l : List Stream) (i : ℕ) (c : Credit) → IsNoBlock g
    → streams_in (rs ++ g ∷ []) ss ≡ l → size (rs ++ g ∷ []) ≡ i → connection (rs ++ g ∷ []) ss ≡ c
    → std_of (rs ++ g ∷ []) ss ≡ record (after_begin (std_of rs ss)) { live = l; initial_window_size = i; connection_window = c }
taken rs ss g l i c none l-is i-is c-is =
    let same : blocks_in (rs ++ g ∷ []) ≡ blocks_in rs = in-blocks rs g ∙ none (blocks_in rs) in
    let b = begun_after rs g in
    let h : top (rs ++ g ∷ []) ≡ top rs = ap (λ (bs : Blocks). fold max 0 (map stream_of bs.finished)) same in
    let u : (blocks_in (rs ++ g ∷ [])).unfinished ≡ (blocks_in rs).unfinished = ap (λ (bs : Blocks). bs.unfinished) same in
    let t : fold table_after_block (Some new_table) (blocks_in (rs ++ g ∷ [])).finished
    ≡ fold table_after_block (Some new_table) (blocks_in rs).finished =
    ap (λ (bs : Blocks). fold table_after_block (Some new_table) bs.finished) same in
    cc

-- the streams, number by number
streams_taken : (rs ss : List Frame) (g : Frame) (f : ℕ → Stream) (p : ℕ → Bool) → IsNoBlock g
    → Agree (at (rs ++ g ∷ []) ss) f 0 (numbers rs) → Agree (alive (rs ++ g ∷ []) ss) p 0 (numbers rs)
    → streams_in (rs ++ g ∷ []) ss ≡ map f (filter p (rising_numbers 0 (numbers rs)))
streams_taken rs ss g f p none hf hp =
    let same : blocks_in (rs ++ g ∷ []) ≡ blocks_in rs = in-blocks rs g ∙ none (blocks_in rs) in
    ap (λ (bs : Blocks). map (at (rs ++ g ∷ []) ss) (filter (alive (rs ++ g ∷ []) ss) (rising_numbers 0 (map stream_of bs.finished)))) same
    ∙ map_rising_agree (at (rs ++ g ∷ []) ss) f (alive (rs ++ g ∷ []) ss) p 0 (numbers rs) hf hp

-- one stream after the frame
at_taken : (rs ss : List Frame) (g : Frame) (t : ℕ) → IsNoBlock g →
    at (rs ++ g ∷ []) ss t ≡ stream_by t (ended_c rs t || data_ends t g) (ended_s ss t) (size_after (size rs) g)
    (granted_in rs t + increment_for t g) (spent_in ss t)
at_taken rs ss g t none =
    let c = in-ended rs g t (none (blocks_in rs)) in
    let i = in-size rs g in
    let n = sum-push (increment_for t) rs g in
    cc

alive_taken : (rs ss : List Frame) (g : Frame) (t : ℕ) → IsNoBlock g →
    alive (rs ++ g ∷ []) ss t ≡ (not (reset_in rs ss t || resets t g) && not ((ended_c rs t || data_ends t g) && ended_s ss t))
alive_taken rs ss g t none =
    let c = in-ended rs g t (none (blocks_in rs)) in
    let r = in-reset rs ss g t in
    cc

connection_taken : (rs ss : List Frame) (g : Frame) → increment_for 0 g ≡ 0 → connection (rs ++ g ∷ []) ss ≡ connection rs ss
connection_taken rs ss g zero_for =
    let n : sum_by (increment_for 0) (rs ++ g ∷ []) ≡ sum_by (increment_for 0) rs = sum-push (increment_for 0) rs g ∙ omega arith in
    cc

-- a frame that changes nothing
pub record IsQuiet (g : Frame) : Type 0 where
  pub none : IsNoBlock g
  pub unreset : (t : ℕ) → resets t g ≡ false
  pub unended : (t : ℕ) → data_ends t g ≡ false
  pub ungranted : (t : ℕ) → increment_for t g ≡ 0
  pub unsized : (n : ℕ) → size_after n g ≡ n

pub quiet : (rs ss : List Frame) (g : Frame) → IsQuiet g → std_of (rs ++ g ∷ []) ss ≡ after_begin (std_of rs ss)
quiet rs ss g q =
    let each : (t : ℕ) → at (rs ++ g ∷ []) ss t ≡ at rs ss t = λ t.
    let n : granted_in rs t + increment_for t g ≡ granted_in rs t = omega (arith, q.ungranted t) in
    let c : (ended_c rs t || data_ends t g) ≡ ended_c rs t = ap (λ b. ended_c rs t || b) (q.unended t) ∙ or_false (ended_c rs t) in
    at_taken rs ss g t q.none ∙ (let i = q.unsized (size rs) in cc) in
    let lives : (t : ℕ) → alive (rs ++ g ∷ []) ss t ≡ alive rs ss t = λ t.
    let c : (ended_c rs t || data_ends t g) ≡ ended_c rs t = ap (λ b. ended_c rs t || b) (q.unended t) ∙ or_false (ended_c rs t) in
    let r : (reset_in rs ss t || resets t g) ≡ reset_in rs ss t =
    ap (λ b. reset_in rs ss t || b) (q.unreset t) ∙ or_false (reset_in rs ss t) in
    alive_taken rs ss g t q.none ∙ (cc) in
    taken rs ss g (streams_in rs ss) (size rs) (connection rs ss) q.none
    (streams_taken rs ss g (at rs ss) (alive rs ss) q.none (λ t _ _. each t) (λ t _ _. lives t))
    (in-size rs g ∙ q.unsized (size rs))
    (connection_taken rs ss g (q.ungranted 0))

-- RST_STREAM
pub reset_taken : (rs ss : List Frame) (s code : ℕ) →
    std_of (rs ++ RstStream s code ∷ []) ss ≡ after_begin (with_live (std_of rs ss) (without_stream s (streams_in rs ss)))
reset_taken rs ss s code =
    let g = RstStream s code in
    let none : IsNoBlock g = λ bs. refl in
    let each : (t : ℕ) → at (rs ++ g ∷ []) ss t ≡ at rs ss t = λ t.
    let n : granted_in rs t + 0 ≡ granted_in rs t = omega arith in
    at_taken rs ss g t none ∙ (let c = or_false (ended_c rs t) in cc) in
    let lives : (t : ℕ) → alive (rs ++ g ∷ []) ss t ≡ (alive rs ss t && not (t == s)) = λ t.
    alive_taken rs ss g t none
    ∙ (let c = or_false (ended_c rs t) in let e = eq_sym s t in
    ap (λ b. not (reset_in rs ss t || (s == t)) && not (b && ended_s ss t)) c
    ∙ ap (λ b. not (reset_in rs ss t || b) && not (ended_c rs t && ended_s ss t)) e)
    ∙ reset_alive (reset_in rs ss t) (not (ended_c rs t && ended_s ss t)) (t == s) in
    taken rs ss g _ _ _ none
    (streams_taken rs ss g (at rs ss) (λ t. alive rs ss t && not (t == s)) none (λ t _ _. each t) (λ t _ _. lives t)
    ∙ sym (kept_streams rs ss (λ x. not (x.number == s)) (rising_numbers 0 (numbers rs))))
    (in-size rs g)
    (connection_taken rs ss g refl)

-- ---- END_STREAM of the client

-- no stream is open to the client under the number
pub unmarked : (s : ℕ) (x : Stream) → receives s x ≡ false → (x.ended_by_client && x.ended_by_server) ≡ false →
    (with_end Client s x ≡ x) × (not (x.number == s && x.ended_by_server) ≡ true)
unmarked s x shut sound = elim (cases_Bool (x.number == s)) [
  | inl same ↦
      let ended : x.ended_by_client ≡ true = not_false x.ended_by_client (rw same at shut) in
      let other : x.ended_by_server ≡ false = rw ended at sound in
      (rw same (ap (λ b. record x { ended_by_client = b }) (sym ended)), rw (same, other) refl)
  | inr others ↦ (rw others refl, rw others refl)
]

alive_sound : (rs ss : List Frame) (t : ℕ) → alive rs ss t ≡ true → (ended_c rs t && ended_s ss t) ≡ false
alive_sound rs ss t h = not_true (ended_c rs t && ended_s ss t)
    (and_parts (not (reset_in rs ss t)) (not (ended_c rs t && ended_s ss t)) h).1

pub none_ended : (rs ss : List Frame) (s : ℕ) (xs : List ℕ) → list_any (receives s) (map (at rs ss) (filter (alive rs ss) xs)) ≡ false →
    streams_after_end Client s (map (at rs ss) (filter (alive rs ss) xs)) ≡ map (at rs ss) (filter (alive rs ss) xs)
none_ended rs ss s [] h = refl
none_ended rs ss s (x ∷ xs) h = elim (cases_Bool (alive rs ss x)) [
  | inl lives ↦
      let both = rw lives at h in
      let parts = or_parts (receives s (at rs ss x)) (list_any (receives s) (map (at rs ss) (filter (alive rs ss) xs))) both in
      let here = unmarked s (at rs ss x) parts.0 (alive_sound rs ss x lives) in
      let rest = none_ended rs ss s xs parts.1 in
      rw lives (rw (here.1) (rw (here.0) (ap (λ ys. at rs ss x ∷ ys) rest)))
  | inr gone ↦
      let h' : list_any (receives s) (map (at rs ss) (filter (alive rs ss) xs)) ≡ false = rw gone at h in
      rw gone (none_ended rs ss s xs h')
]

-- the streams where the client's END_STREAM on s is one more
pub marked_streams : (rs ss : List Frame) (s : ℕ) (xs : List ℕ) →
    streams_after_end Client s (map (at rs ss) (filter (alive rs ss) xs))
    ≡ map (λ t. with_end Client s (at rs ss t)) (filter
    (λ t. not (reset_in rs ss t) && not ((ended_c rs t || (s == t)) && ended_s ss t)) xs)
marked_streams rs ss s xs =
    kept_and_changed rs ss (with_end Client s) (λ x. not (x.number == s && x.ended_by_server)) xs
    ∙ ap (map (λ t. with_end Client s (at rs ss t)))
    (filter_agree _ _ (λ t. sym (ap (λ b. not (reset_in rs ss t) && not ((ended_c rs t || b) && ended_s ss t)) (eq_sym s t)
    ∙ ended_alive (reset_in rs ss t) (ended_c rs t) (ended_s ss t) (t == s))) xs)

pub marked : (rs ss : List Frame) (s t : ℕ) → stream_by t (ended_c rs t || (s == t)) (ended_s ss t) (size rs) (granted_in rs t)
    (spent_in ss t) ≡ with_end Client s (at rs ss t)
marked rs ss s t = elim (cases_Bool (t == s)) [
  | inl same ↦ rw (eq_sym s t, same) (ap (λ b. stream_by t b (ended_s ss t) (size rs) (granted_in rs t) (spent_in ss t))
      (or_true (ended_c rs t)))
  | inr others ↦ rw (eq_sym s t, others) (ap (λ b. stream_by t b (ended_s ss t) (size rs) (granted_in rs t) (spent_in ss t))
      (or_false (ended_c rs t)))
]

-- DATA
data_end_taken : (rs ss : List Frame) (s : ℕ) (bytes : List ℕ) →
    std_of (rs ++ Data s true bytes ∷ []) ss ≡ after_begin (with_live (std_of rs ss) (streams_after_end Client s (streams_in rs ss)))
data_end_taken rs ss s bytes =
    let g = Data s true bytes in
    let none : IsNoBlock g = λ bs. refl in
    let each : (t : ℕ) → at (rs ++ g ∷ []) ss t ≡ with_end Client s (at rs ss t) = λ t.
    let n : granted_in rs t + 0 ≡ granted_in rs t = omega arith in
    at_taken rs ss g t none ∙ ap (λ m. stream_by t (ended_c rs t || (s == t)) (ended_s ss t) (size rs) m (spent_in ss t)) n
    ∙ marked rs ss s t in
    let lives : (t : ℕ) → alive (rs ++ g ∷ []) ss t ≡ (not (reset_in rs ss t) && not ((ended_c rs t || (s == t)) && ended_s ss t)) = λ t.
    alive_taken rs ss g t none ∙ ap (λ b. not b && not ((ended_c rs t || (s == t)) && ended_s ss t)) (or_false (reset_in rs ss t)) in
    taken rs ss g _ _ _ none
    (streams_taken rs ss g (λ t. with_end Client s (at rs ss t)) _ none (λ t _ _. each t) (λ t _ _. lives t)
    ∙ sym (marked_streams rs ss s (rising_numbers 0 (numbers rs))))
    (in-size rs g)
    (connection_taken rs ss g refl)

-- ending what is not open changes nothing
pub client_ends_always : (rs ss : List Frame) (s : ℕ) →
    with_live (std_of rs ss) (streams_after_end Client s (streams_in rs ss)) ≡ after_client_end (std_of rs ss) s true
client_ends_always rs ss s = elim (cases_Bool (is_receiving (std_of rs ss) s)) [
  | inl open_to ↦ rw open_to refl
  | inr shut ↦ rw shut (ap (λ xs. with_live (std_of rs ss) xs) (none_ended rs ss s (rising_numbers 0 (numbers rs)) shut))
]

pub data_taken : (rs ss : List Frame) (s : ℕ) (end_stream : Bool) (bytes : List ℕ) →
    std_of (rs ++ Data s end_stream bytes ∷ []) ss ≡ after_begin (after_client_end (std_of rs ss) s end_stream)
data_taken rs ss s true bytes = data_end_taken rs ss s bytes ∙ ap after_begin (client_ends_always rs ss s)
data_taken rs ss s false bytes = quiet rs ss (Data s false bytes)
    (record { none = λ bs. refl; unreset = λ t. refl; unended = λ t. refl; ungranted = λ t. refl; unsized = λ n. refl })

-- ---- SETTINGS

sizes : (n : ℕ) (size' : Option ℕ) (ss : List Setting) →
    fold size_set (unwrap_or size' n) ss ≡ unwrap_or (fold size_after_setting size' ss) n
sizes n size' [] = refl
sizes n size' (x ∷ xs) = elim (cases_Bool (x.identifier == INITIAL_WINDOW_SIZE)) [
  | inl sets ↦ rw sets (sizes n (Some x.value) xs)
  | inr others ↦ rw others (sizes n size' xs)
]

resized_taken : (rs ss : List Frame) (settings : List Setting) (i : ℕ) → fold size_set (size rs) settings ≡ i →
    std_of (rs ++ Settings false settings ∷ []) ss ≡ after_begin (after_resize (std_of rs ss) i)
resized_taken rs ss settings i is =
    let g = Settings false settings in
    let none : IsNoBlock g = λ bs. refl in
    let each : (t : ℕ) → at (rs ++ g ∷ []) ss t ≡ stream_after_resize i (at rs ss t) = λ t.
    let n : granted_in rs t + 0 ≡ granted_in rs t = omega arith in
    at_taken rs ss g t none ∙ (let c = or_false (ended_c rs t) in cc) in
    let lives : (t : ℕ) → alive (rs ++ g ∷ []) ss t ≡ alive rs ss t = λ t.
    alive_taken rs ss g t none ∙ (let c = or_false (ended_c rs t) in let r = or_false (reset_in rs ss t) in cc) in
    taken rs ss g _ _ _ none
    (streams_taken rs ss g (λ t. stream_after_resize i (at rs ss t)) (alive rs ss) none (λ t _ _. each t) (λ t _ _. lives t)
    ∙ sym (changed_streams rs ss (stream_after_resize i) (rising_numbers 0 (numbers rs))))
    (in-size rs g ∙ is)
    (connection_taken rs ss g refl)

unresized : (rs ss : List Frame) → after_resize (std_of rs ss) (size rs) ≡ std_of rs ss
unresized rs ss = ap (λ xs. record (std_of rs ss) { live = xs })
    (changed_streams rs ss (stream_after_resize (size rs)) (rising_numbers 0 (numbers rs)))

settings_by : (rs ss : List Frame) (settings : List Setting) (o : Option ℕ) → fold size_after_setting None settings ≡ o →
    std_of (rs ++ Settings false settings ∷ []) ss ≡ after_begin (option_map_or (after_resize (std_of rs ss)) o (std_of rs ss))
settings_by rs ss settings None is = resized_taken rs ss settings (size rs)
    (sizes (size rs) None settings ∙ ap (λ o. unwrap_or o (size rs)) is) ∙ ap after_begin (unresized rs ss)
settings_by rs ss settings (Some i) is = resized_taken rs ss settings i (sizes (size rs) None settings ∙ ap (λ o. unwrap_or o (size rs)) is)

pub settings_taken : (rs ss : List Frame) (ack : Bool) (settings : List Setting) →
    std_of (rs ++ Settings ack settings ∷ []) ss ≡ after_begin (after_frame_in (std_of rs ss) (Settings ack settings))
settings_taken rs ss true settings = quiet rs ss (Settings true settings)
    (record { none = λ bs. refl; unreset = λ t. refl; unended = λ t. refl; ungranted = λ t. refl; unsized = λ n. refl })
settings_taken rs ss false settings = settings_by rs ss settings (fold size_after_setting None settings) refl ∙ refl

-- ---- WINDOW_UPDATE

more : (g s n : ℕ) → pos (g + n) -ℤ pos s ≡ (pos g -ℤ pos s) +ℤ pos n
more g s n = omega (arith, ints)

update_lives : (rs ss : List Frame) (s n t : ℕ) → alive (rs ++ WindowUpdate s n ∷ []) ss t ≡ alive rs ss t
update_lives rs ss s n t = alive_taken rs ss (WindowUpdate s n) t (λ bs. refl)
    ∙ (let c = or_false (ended_c rs t) in let r = or_false (reset_in rs ss t) in cc)

connection_updated : (rs ss : List Frame) (n : ℕ) →
    std_of (rs ++ WindowUpdate 0 n ∷ []) ss ≡ after_begin (after_window_update (std_of rs ss) 0 n)
connection_updated rs ss n =
    let g = WindowUpdate 0 n in
    let none : IsNoBlock g = λ bs. refl in
    let each : (t : ℕ) → 0 < t → at (rs ++ g ∷ []) ss t ≡ at rs ss t = λ t above.
    let differs : (0 == t) ≡ false = grind (arith, nat_tests) in
    let m : granted_in rs t + increment_for t g ≡ granted_in rs t = rw differs (omega arith) in
    at_taken rs ss g t none ∙ (let c = or_false (ended_c rs t) in cc) in
    taken rs ss g _ _ _ none
    (streams_taken rs ss g (at rs ss) (alive rs ss) none (λ t a _. each t a) (λ t _ _. update_lives rs ss 0 n t))
    (in-size rs g)
    (let e = sum-push (increment_for 0) rs g in let m = more (sum_by (increment_for 0) rs) (sum_by data_length ss) n in cc)

stream_updated : (rs ss : List Frame) (s n : ℕ) → (s == 0) ≡ false →
    std_of (rs ++ WindowUpdate s n ∷ []) ss ≡ after_begin (with_live (std_of rs ss) (map (stream_after_grant s n) (streams_in rs ss)))
stream_updated rs ss s n other =
    let g = WindowUpdate s n in
    let none : IsNoBlock g = λ bs. refl in
    let each : (t : ℕ) → at (rs ++ g ∷ []) ss t ≡ stream_after_grant s n (at rs ss t) = λ t.
    at_taken rs ss g t none ∙ ap (λ b. stream_by t b (ended_s ss t) (size rs) (granted_in rs t + increment_for t g) (spent_in ss t))
    (or_false (ended_c rs t))
    ∙ elim (cases_Bool (t == s)) [
      | inl same ↦ rw (eq_sym s t, same) (ap (λ (z : ℤ). record
          { number = t; ended_by_client = ended_c rs t; ended_by_server = ended_s ss t; window = record { initial = size rs; change = z } })
          (more (granted_in rs t) (spent_in ss t) n))
      | inr others ↦ rw (eq_sym s t, others) (ap (λ m. stream_by t (ended_c rs t) (ended_s ss t) (size rs) m (spent_in ss t))
          (add-zero (granted_in rs t)))
    ] in
    taken rs ss g _ _ _ none
    (streams_taken rs ss g (λ t. stream_after_grant s n (at rs ss t)) (alive rs ss) none (λ t _ _. each t)
    (λ t _ _. update_lives rs ss s n t)
    ∙ sym (changed_streams rs ss (stream_after_grant s n) (rising_numbers 0 (numbers rs))))
    (in-size rs g)
    (connection_taken rs ss g (ap (λ b. cond b n 0) other))

pub update_taken : (rs ss : List Frame) (s n : ℕ) →
    std_of (rs ++ WindowUpdate s n ∷ []) ss ≡ after_begin (after_window_update (std_of rs ss) s n)
update_taken rs ss s n = elim (cases_Bool (s == 0)) [
  | inl whole ↦ subst (λ (u : ℕ). std_of (rs ++ WindowUpdate u n ∷ []) ss ≡ after_begin (after_window_update (std_of rs ss) u n))
      (sym (eqb-true s 0 whole)) (connection_updated rs ss n)
  | inr other ↦ rw other (stream_updated rs ss s n other)
]

-- ---- what was never opened stays untouched

-- the frame has nothing to do with stream t
pub record IsAside (g : Frame) (t : ℕ) : Type 0 where
  pub unreset : resets t g ≡ false
  pub unended : data_ends t g ≡ false
  pub ungranted : increment_for t g ≡ 0

pub idle_taken : (rs ss : List Frame) (g : Frame) → Idle rs ss → IsNoBlock g → ((t : ℕ) → top rs < t → IsAside g t) → Idle (rs ++ g ∷ []) ss
idle_taken rs ss g idle none aside t above =
    let high : top (rs ++ g ∷ []) ≡ top rs = ap (λ (x : Blocks). fold max 0 (map stream_of x.finished))
    (in-blocks rs g ∙ none (blocks_in rs)) in
    let far : top rs < t = rw (← high) above in
    let before = idle t far in
    let a = aside t far in
    record {
      unreset = in-reset rs ss g t ∙ ap (λ c. reset_in rs ss t || c) a.unreset ∙ or_false (reset_in rs ss t) ∙ before.unreset;
      unended_c = in-ended rs g t (none (blocks_in rs)) ∙ ap (λ c. ended_c rs t || c) a.unended ∙ or_false (ended_c rs t)
          ∙ before.unended_c;
      unended_s = before.unended_s;
      ungranted = sum-push (increment_for t) rs g ∙ omega (arith, a.ungranted, before.ungranted);
      unspent = before.unspent;
    }
