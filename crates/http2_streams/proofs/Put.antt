-- One more frame put.
use Rattle.std.proofs.Common.{◌≡◌, ℕ, ◌+◌, ◌-◌, ◌<◌, ◌≤◌, List, [], ◌∷◌, ◌++◌, refl, ap, ◌∙◌, sym, arith, length, drop, inl, inr, add-zero, length-append, length-drop}
use Rattle.std.specs.Prelude.{map, filter, sum_by, cond, Bool, true, false, not, ◌&&◌, ◌||◌, ◌==◌, None, pos, ◌-ℤ◌, ℤ}
use Rattle.std.specs.List.{filter_map, list_any}
use Rattle.std.proofs.lemmas.Bool.{cases_Bool}
use Rattle.std.proofs.lemmas.Int.{ints}
use Rattle.std.proofs.lemmas.List.{drop-append-le, drop-drop}
use Rattle.std.proofs.lemmas.List.Elements.{filter_map-append}
use Rattle.http2_flow.specs.Credit.{Credit}
use Rattle.http2_frames.specs.declared.frame.Frame.{Frame}
use Rattle.http2_frames.specs.declared.frame.Frame.TheVariants.{Data, Headers, RstStream}
use Rattle.http2_streams.specs.declared.stream.Stream.{Stream}
use Rattle.http2_streams.specs.History.{rising_numbers, resets, ends, data_length, data_length_on, increment_for, is_goaway, stream_reset_by, last_items}
use Rattle.http2_streams.specs.declared.stream.Side.TheVariants.{Server}
use Rattle.http2_streams.specs.Step.{streams_after_end, after_server_end, with_end, stream_after_spending, credit_after_spending, after_data, after_reset}
use Rattle.http2_streams.proofs.Lists.{map_rising_agree, any-push, append-nil, filter-map, filter-filter, map-map}
use Rattle.http2_streams.proofs.Bools.{eq_sym, or_false, or_true, reset_alive, ended_alive'}
use Rattle.http2_streams.proofs.Sides.{numbers, reset_in, ended_c, ended_s, alive, size, granted_in, spent_in, stream_by, at, streams_in, connection, std_of, top, Idle, sum-push, out-reset, kept_streams, changed_streams}

-- ---- the last n of a list

pub last_items-push : {A : Type 0} (n : ℕ) (xs : List A) (x : A) → 1 ≤ n →
    last_items n (xs ++ x ∷ []) ≡ last_items n (last_items n xs ++ x ∷ [])
last_items-push n xs x some =
    let k = length xs - n in
    let small : k ≤ length xs = omega arith in
    let one : length (xs ++ x ∷ []) ≡ length xs + 1 = length-append xs (x ∷ []) in
    let left : length (drop k xs) ≡ length xs - k = length-drop k xs in
    let two : length (drop k xs ++ x ∷ []) ≡ length xs - k + 1 = length-append (drop k xs) (x ∷ []) ∙ ap (λ m. m + 1) left in
    let same : k + (length xs - k + 1 - n) ≡ length xs + 1 - n = omega arith in
    ap (λ m. drop (m - n) (xs ++ x ∷ [])) one
    ∙ ap (λ m. drop m (xs ++ x ∷ [])) (sym same)
    ∙ sym (drop-drop (length xs - k + 1 - n) k (xs ++ x ∷ []))
    ∙ ap (drop (length xs - k + 1 - n)) (drop-append-le k xs (x ∷ []) small)
    ∙ ap (λ m. drop (m - n) (drop k xs ++ x ∷ [])) (sym two)

-- ---- each part

at_put : (rs ss : List Frame) (f : Frame) (t : ℕ) →
    at rs (ss ++ f ∷ []) t ≡ stream_by t (ended_c rs t) (ended_s ss t || ends t f) (size rs) (granted_in rs t)
    (spent_in ss t + data_length_on t f)
at_put rs ss f t =
    let e = any-push (ends t) ss f in
    let n = sum-push (data_length_on t) ss f in
    cc

alive_put : (rs ss : List Frame) (f : Frame) (t : ℕ) →
    alive rs (ss ++ f ∷ []) t ≡ (not (reset_in rs ss t || resets t f) && not (ended_c rs t && (ended_s ss t || ends t f)))
alive_put rs ss f t =
    let e = any-push (ends t) ss f in
    let r = out-reset rs ss f t in
    cc

streams_put : (rs ss : List Frame) (f : Frame) (m : ℕ → Stream) (k : ℕ → Bool) → ((t : ℕ) → at rs (ss ++ f ∷ []) t ≡ m t) →
    ((t : ℕ) → alive rs (ss ++ f ∷ []) t ≡ k t) → streams_in rs (ss ++ f ∷ []) ≡ map m (filter k (rising_numbers 0 (numbers rs)))
streams_put rs ss f m k each lives = map_rising_agree (at rs (ss ++ f ∷ [])) m (alive rs (ss ++ f ∷ [])) k 0 (numbers rs) (λ t _ _. each t)
    (λ t _ _. lives t)

-- what a frame that does not end the connection leaves, by what it does to the streams, the remembered ones and
-- the connection's window
put_by : (rs ss : List Frame) (f : Frame) (l : List Stream) (r : List ℕ) (c : Credit) → is_goaway f ≡ false
    → streams_in rs (ss ++ f ∷ []) ≡ l → last_items 128 (filter_map stream_reset_by (ss ++ f ∷ [])) ≡ r → connection rs (ss ++ f ∷ []) ≡ c
    → std_of rs (ss ++ f ∷ []) ≡ record (std_of rs ss) { live = l; remembered = r; connection_window = c }
put_by rs ss f l r c goes_on l-is r-is c-is =
    let g : list_any is_goaway (ss ++ f ∷ []) ≡ list_any is_goaway ss =
    any-push is_goaway ss f ∙ ap (λ b. list_any is_goaway ss || b) goes_on ∙ or_false (list_any is_goaway ss) in
    cc

remembered_put : (ss : List Frame) (f : Frame) → stream_reset_by f ≡ None →
    last_items 128 (filter_map stream_reset_by (ss ++ f ∷ [])) ≡ last_items 128 (filter_map stream_reset_by ss)
remembered_put ss f none =
    let e : filter_map stream_reset_by (f ∷ []) ≡ [] = rw none refl in
    ap (last_items 128) (filter_map-append stream_reset_by ss (f ∷ []) ∙ ap (λ xs. filter_map stream_reset_by ss ++ xs) e
    ∙ append-nil (filter_map stream_reset_by ss))

connection_put : (rs ss : List Frame) (f : Frame) → data_length f ≡ 0 → connection rs (ss ++ f ∷ []) ≡ connection rs ss
connection_put rs ss f none =
    let n : sum_by data_length (ss ++ f ∷ []) ≡ sum_by data_length ss = sum-push data_length ss f ∙ omega arith in
    cc

-- a frame that changes nothing
pub record IsQuietPut (f : Frame) : Type 0 where
  pub goes_on : is_goaway f ≡ false
  pub unreset : (t : ℕ) → resets t f ≡ false
  pub unended : (t : ℕ) → ends t f ≡ false
  pub unspent : (t : ℕ) → data_length_on t f ≡ 0
  pub no_data : data_length f ≡ 0
  pub resets_none : stream_reset_by f ≡ None

pub quiet_put : (rs ss : List Frame) (f : Frame) → IsQuietPut f → std_of rs (ss ++ f ∷ []) ≡ std_of rs ss
quiet_put rs ss f q =
    put_by rs ss f _ _ _ q.goes_on
    (streams_put rs ss f (at rs ss) (alive rs ss)
    (λ t. at_put rs ss f t
    ∙ ap (λ b. stream_by t (ended_c rs t) (ended_s ss t || b) (size rs) (granted_in rs t) (spent_in ss t + data_length_on t f))
    (q.unended t)
    ∙ ap (λ b. stream_by t (ended_c rs t) b (size rs) (granted_in rs t) (spent_in ss t + data_length_on t f)) (or_false (ended_s ss t))
    ∙ ap (λ n. stream_by t (ended_c rs t) (ended_s ss t) (size rs) (granted_in rs t) (spent_in ss t + n)) (q.unspent t)
    ∙ ap (λ n. stream_by t (ended_c rs t) (ended_s ss t) (size rs) (granted_in rs t) n) (add-zero (spent_in ss t)))
    (λ t. alive_put rs ss f t
    ∙ ap (λ b. not (reset_in rs ss t || b) && not (ended_c rs t && (ended_s ss t || ends t f))) (q.unreset t)
    ∙ ap (λ b. not b && not (ended_c rs t && (ended_s ss t || ends t f))) (or_false (reset_in rs ss t))
    ∙ ap (λ b. not (reset_in rs ss t) && not (ended_c rs t && (ended_s ss t || b))) (q.unended t)
    ∙ ap (λ b. not (reset_in rs ss t) && not (ended_c rs t && b)) (or_false (ended_s ss t))))
    (remembered_put ss f q.resets_none)
    (connection_put rs ss f q.no_data)

-- ---- RST_STREAM

remembered_more : (ss : List Frame) (s code : ℕ) →
    last_items 128 (filter_map stream_reset_by (ss ++ RstStream s code ∷ []))
    ≡ last_items 128 (last_items 128 (filter_map stream_reset_by ss) ++ s ∷ [])
remembered_more ss s code = ap (last_items 128) (filter_map-append stream_reset_by ss (RstStream s code ∷ []))
    ∙ last_items-push 128 (filter_map stream_reset_by ss) s (omega arith)

pub reset_is_put : (rs ss : List Frame) (s code : ℕ) → std_of rs (ss ++ RstStream s code ∷ []) ≡ after_reset (std_of rs ss) s
reset_is_put rs ss s code =
    let f = RstStream s code in
    put_by rs ss f _ _ _ refl
    (streams_put rs ss f (at rs ss) (λ t. alive rs ss t && not (t == s))
    (λ t. at_put rs ss f t
    ∙ ap (λ b. stream_by t (ended_c rs t) b (size rs) (granted_in rs t) (spent_in ss t + 0)) (or_false (ended_s ss t))
    ∙ ap (λ n. stream_by t (ended_c rs t) (ended_s ss t) (size rs) (granted_in rs t) n) (add-zero (spent_in ss t)))
    (λ t. alive_put rs ss f t
    ∙ ap (λ b. not (reset_in rs ss t || (s == t)) && not (ended_c rs t && b)) (or_false (ended_s ss t))
    ∙ ap (λ b. not (reset_in rs ss t || b) && not (ended_c rs t && ended_s ss t)) (eq_sym s t)
    ∙ reset_alive (reset_in rs ss t) (not (ended_c rs t && ended_s ss t)) (t == s))
    ∙ sym (kept_streams rs ss (λ x. not (x.number == s)) (rising_numbers 0 (numbers rs))))
    (remembered_more ss s code)
    (connection_put rs ss f refl)

-- ---- what was never opened stays untouched

-- the frame has nothing to do with stream t
pub record IsAsidePut (f : Frame) (t : ℕ) : Type 0 where
  pub unreset : resets t f ≡ false
  pub unended : ends t f ≡ false
  pub unspent : data_length_on t f ≡ 0

pub idle_put : (rs ss : List Frame) (f : Frame) → Idle rs ss → ((t : ℕ) → top rs < t → IsAsidePut f t) → Idle rs (ss ++ f ∷ [])
idle_put rs ss f idle aside t above =
    let before = idle t above in
    let a = aside t above in
    record {
      unreset = out-reset rs ss f t ∙ ap (λ c. reset_in rs ss t || c) a.unreset ∙ or_false (reset_in rs ss t) ∙ before.unreset;
      unended_c = before.unended_c;
      unended_s = any-push (ends t) ss f ∙ ap (λ c. ended_s ss t || c) a.unended ∙ or_false (ended_s ss t) ∙ before.unended_s;
      ungranted = before.ungranted;
      unspent = sum-push (data_length_on t) ss f ∙ omega (arith, a.unspent, before.unspent);
    }

-- ---- DATA and HEADERS

abbrev pub changed_by : (ℕ → Stream) → (ℕ → Bool) → (Stream → Stream) → (Stream → Bool) → List ℕ → List Stream
changed_by f p m k xs = map (λ t. m (f t)) (filter (λ t. p t && k (f t)) xs)

kept_by : (f : ℕ → Stream) (p : ℕ → Bool) (m : Stream → Stream) (k : Stream → Bool) (xs : List ℕ) →
    map m (filter k (map f (filter p xs))) ≡ changed_by f p m k xs
kept_by f p m k xs = ap (map m) (filter-map k f (filter p xs) ∙ ap (map f) (filter-filter (λ t. k (f t)) p xs))
    ∙ map-map m f (filter (λ t. p t && k (f t)) xs)

less : (g s n : ℕ) → pos g -ℤ pos (s + n) ≡ (pos g -ℤ pos s) -ℤ pos n
less g s n = omega (arith, ints)

-- a stream where n bytes are put on s
spent_more : (rs ss : List Frame) (s n t : ℕ) →
    stream_by t (ended_c rs t) (ended_s ss t) (size rs) (granted_in rs t) (spent_in ss t + cond (s == t) n 0)
    ≡ stream_after_spending s n (at rs ss t)
spent_more rs ss s n t = elim (cases_Bool (t == s)) [
  | inl same ↦ rw (eq_sym s t, same) (ap (λ (z : ℤ). record
      { number = t; ended_by_client = ended_c rs t; ended_by_server = ended_s ss t; window = record { initial = size rs; change = z } })
      (less (granted_in rs t) (spent_in ss t) n))
  | inr others ↦ rw (eq_sym s t, others) (ap (λ m. stream_by t (ended_c rs t) (ended_s ss t) (size rs) (granted_in rs t) m)
      (add-zero (spent_in ss t)))
]

-- the same stream where the server ends s
marked_more : (s t : ℕ) (c e : Bool) (i g p : ℕ) (x : Stream) → stream_by t c e i g p ≡ x →
    stream_by t c (e || (s == t)) i g p ≡ with_end Server s x
marked_more s t c e i g p x is = rw (← is) (elim (cases_Bool (t == s)) [
  | inl same ↦ rw (eq_sym s t, same) (ap (λ b. stream_by t c b i g p) (or_true e))
  | inr others ↦ rw (eq_sym s t, others) (ap (λ b. stream_by t c b i g p) (or_false e))
])

lives_more : (rs ss : List Frame) (s t : ℕ) → (not (reset_in rs ss t || false) && not (ended_c rs t && (ended_s ss t || (s == t))))
    ≡ (alive rs ss t && not (t == s && ended_c rs t))
lives_more rs ss s t =
    ap (λ b. not b && not (ended_c rs t && (ended_s ss t || (s == t)))) (or_false (reset_in rs ss t))
    ∙ ap (λ b. not (reset_in rs ss t) && not (ended_c rs t && (ended_s ss t || b))) (eq_sym s t)
    ∙ ended_alive' (reset_in rs ss t) (ended_c rs t) (ended_s ss t) (t == s)

lives_on : (rs ss : List Frame) (t : ℕ) → (not (reset_in rs ss t || false) && not (ended_c rs t && (ended_s ss t || false))) ≡ alive rs ss t
lives_on rs ss t =
    ap (λ b. not b && not (ended_c rs t && (ended_s ss t || false))) (or_false (reset_in rs ss t))
    ∙ ap (λ b. not (reset_in rs ss t) && not (ended_c rs t && b)) (or_false (ended_s ss t))

data_connection : (rs ss : List Frame) (s : ℕ) (e : Bool) (bytes : List ℕ) →
    connection rs (ss ++ Data s e bytes ∷ []) ≡ credit_after_spending (length bytes) (connection rs ss)
data_connection rs ss s e bytes =
    let n = sum-push data_length ss (Data s e bytes) in
    let z = less (sum_by (increment_for 0) rs) (sum_by data_length ss) (length bytes) in
    cc

pub data_is_put : (rs ss : List Frame) (s : ℕ) (end_stream : Bool) (bytes : List ℕ) →
    std_of rs (ss ++ Data s end_stream bytes ∷ []) ≡ after_server_end (after_data (std_of rs ss) s (length bytes)) s end_stream
data_is_put rs ss s false bytes =
    let f = Data s false bytes in
    put_by rs ss f _ _ _ refl
    (streams_put rs ss f (λ t. stream_after_spending s (length bytes) (at rs ss t)) (alive rs ss)
    (λ t. at_put rs ss f t ∙ ap (λ b. stream_by t (ended_c rs t) b (size rs) (granted_in rs t)
    (spent_in ss t + cond (s == t) (length bytes) 0)) (or_false (ended_s ss t)) ∙ spent_more rs ss s (length bytes) t)
    (λ t. alive_put rs ss f t ∙ lives_on rs ss t)
    ∙ sym (changed_streams rs ss (stream_after_spending s (length bytes)) (rising_numbers 0 (numbers rs))))
    (remembered_put ss f refl)
    (data_connection rs ss s false bytes)
data_is_put rs ss s true bytes =
    let f = Data s true bytes in
    let n = length bytes in
    put_by rs ss f _ _ _ refl
    (streams_put rs ss f (λ t. with_end Server s (stream_after_spending s n (at rs ss t)))
    (λ t. alive rs ss t && not (t == s && ended_c rs t))
    (λ t. at_put rs ss f t ∙ marked_more s t (ended_c rs t) (ended_s ss t) (size rs) (granted_in rs t) (spent_in ss t + cond (s == t) n 0)
    (stream_after_spending s n (at rs ss t)) (spent_more rs ss s n t))
    (λ t. alive_put rs ss f t ∙ lives_more rs ss s t)
    ∙ sym (kept_by (λ t. stream_after_spending s n (at rs ss t)) (alive rs ss) (with_end Server s)
    (λ x. not (x.number == s && x.ended_by_client)) (rising_numbers 0 (numbers rs)))
    ∙ ap (λ xs. streams_after_end Server s xs) (sym (changed_streams rs ss (stream_after_spending s n) (rising_numbers 0 (numbers rs)))))
    (remembered_put ss f refl)
    (data_connection rs ss s true bytes)

same_at : (rs ss : List Frame) (t : ℕ) → stream_by t (ended_c rs t) (ended_s ss t) (size rs) (granted_in rs t) (spent_in ss t + 0)
    ≡ at rs ss t
same_at rs ss t = ap (λ m. stream_by t (ended_c rs t) (ended_s ss t) (size rs) (granted_in rs t) m) (add-zero (spent_in ss t))

pub headers_is_put : (rs ss : List Frame) (s : ℕ) (end_stream end_headers : Bool) (fragment : List ℕ) →
    std_of rs (ss ++ Headers s end_stream end_headers fragment ∷ []) ≡ after_server_end (std_of rs ss) s end_stream
headers_is_put rs ss s false end_headers fragment =
    quiet_put rs ss (Headers s false end_headers fragment)
    (record { goes_on = refl; unreset = λ t. refl; unended = λ t. refl; unspent = λ t. refl; no_data = refl; resets_none = refl })
headers_is_put rs ss s true end_headers fragment =
    let f = Headers s true end_headers fragment in
    put_by rs ss f _ _ _ refl
    (streams_put rs ss f (λ t. with_end Server s (at rs ss t)) (λ t. alive rs ss t && not (t == s && ended_c rs t))
    (λ t. at_put rs ss f t ∙ marked_more s t (ended_c rs t) (ended_s ss t) (size rs) (granted_in rs t) (spent_in ss t + 0) (at rs ss t)
    (same_at rs ss t))
    (λ t. alive_put rs ss f t ∙ lives_more rs ss s t)
    ∙ sym (kept_by (at rs ss) (alive rs ss) (with_end Server s) (λ x. not (x.number == s && x.ended_by_client))
    (rising_numbers 0 (numbers rs))))
    (remembered_put ss f refl)
    (connection_put rs ss f refl)
