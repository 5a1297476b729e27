-- What is kept stands for the history with one more entry.
use Rattle.std.proofs.Common.{◌≡◌, ℕ, ◌+◌, ◌<◌, ◌≤◌, List, [], ◌∷◌, ◌++◌, refl, ap, ◌∙◌, sym, subst, arith, length, inl, inr, zero, suc, get_or}
use Rattle.std.specs.Prelude.{map, filter, fold, max, cond, Bool, true, false, ◌&&◌, ◌||◌, ◌==◌, nat_lt, None, pos, ◌≤ℤ◌, ◌↔◌, ◌⊎◌}
use Rattle.std.specs.List.{filter_map, list_any}
use Rattle.std.specs.List.Sorted.{IsStrictlyIncreasing}
use Rattle.std.proofs.lemmas.Bool.{cases_Bool, ltb-true, ltb-false, eqb-true, or_cases}
use Rattle.std.proofs.lemmas.Bool.Decides.{nat_tests}
use Rattle.std.proofs.lemmas.Int.{ints}
use Rattle.std.specs.Int.Signed.{lt_z}
use Rattle.std.proofs.lemmas.List.Elements.{filter_map-append}
use Rattle.http2_flow.specs.Credit.{window_left}
use Rattle.http2_frames.specs.declared.frame.Frame.{Frame}
use Rattle.http2_frames.specs.declared.frame.Frame.TheVariants.{Data, Headers, Priority, RstStream, Settings, PushPromise, Ping, GoAway, WindowUpdate, Continuation, Unknown}
use Rattle.http2_streams.specs.History.{Entry, In, Unreadable, Out, Took, frame_in, frame_out, received_frames, sent_frames, has_failed, is_goaway, highest_stream, rising_numbers, live_streams, is_not_closed, opened_streams, window, connection_window}
use Rattle.http2_streams.specs.Standing.{Standing, standing, stream_at}
use Rattle.http2_streams.specs.Rules.{number_is, is_live_at}
use Rattle.http2_streams.specs.Sending.{lacks, CanSend, IsNoMatter}
use Rattle.http2_streams.specs.StandsFor.{AreStreams}
use Rattle.http2_streams.specs.Step.{after_reset, after_server_end, after_data}
use Rattle.http2_streams.proofs.Lists.{max_from, append-nil}
use Rattle.http2_streams.proofs.Bools.{and_false}
use Rattle.http2_streams.proofs.Sides.{numbers, at, alive, std_of, Idle}
use Rattle.http2_streams.proofs.Put.{idle_put, reset_is_put, data_is_put, headers_is_put, quiet_put, IsQuietPut}
use Rattle.http2_streams.proofs.Law.{has_failed-append, IsIdle, idle_of, stands_by, stands_failed, before_failure}

received_one : (d : List Entry) (e : Entry) → frame_in e ≡ None → received_frames (d ++ e ∷ []) ≡ received_frames d
received_one d e none =
    let one : filter_map frame_in (e ∷ []) ≡ [] = rw none refl in
    filter_map-append frame_in d (e ∷ []) ∙ ap (λ xs. received_frames d ++ xs) one ∙ append-nil (received_frames d)

sent_one : (d : List Entry) (f : Frame) → sent_frames (d ++ Out f ∷ []) ≡ sent_frames d ++ f ∷ []
sent_one d f = filter_map-append frame_out d (Out f ∷ [])

-- ---- live streams were opened

live_head : (rs ss : List Frame) (s x : ℕ) (ys : List ℕ) → list_any (number_is s) (map (at rs ss) (filter (alive rs ss) (x ∷ ys))) ≡ true →
    (x ≡ s) ⊎ (list_any (number_is s) (map (at rs ss) (filter (alive rs ss) ys)) ≡ true)
live_head rs ss s x ys h = elim (cases_Bool (alive rs ss x)) [
  | inl lives ↦
      let h' : ((x == s) || list_any (number_is s) (map (at rs ss) (filter (alive rs ss) ys))) ≡ true = rw lives at h in
      elim (or_cases (x == s) _ h') [
        | inl same ↦ inl (eqb-true x s same)
        | inr later ↦ inr later
      ]
  | inr gone ↦ let h' : list_any (number_is s) (map (at rs ss) (filter (alive rs ss) ys)) ≡ true = rw gone at h in inr h'
]

live_below_from : (rs ss : List Frame) (s m : ℕ) (xs : List ℕ) →
    list_any (number_is s) (map (at rs ss) (filter (alive rs ss) (rising_numbers m xs))) ≡ true → s ≤ fold max m xs
live_below_from rs ss s m [] h = cc
live_below_from rs ss s m (x ∷ xs) h = elim (cases_Bool (nat_lt m x)) [
  | inl higher ↦
      let above : m < x = ltb-true m x higher in
      let e : max m x ≡ x = omega arith in
      let h' : list_any (number_is s) (map (at rs ss) (filter (alive rs ss) (x ∷ rising_numbers x xs))) ≡ true = rw higher at h in
      let here : x ≤ fold max x xs = max_from x xs in
      let low : s ≤ fold max x xs = elim (live_head rs ss s x (rising_numbers x xs) h') [
        | inl same ↦ omega arith
        | inr later ↦ live_below_from rs ss s x xs later
      ] in
      rw e low
  | inr lower ↦
      let below = ltb-false m x lower in
      let e : max m x ≡ m = omega arith in
      let h' : list_any (number_is s) (map (at rs ss) (filter (alive rs ss) (rising_numbers m xs))) ≡ true = rw lower at h in
      rw e (live_below_from rs ss s m xs h')
]

live_below : (d : List Entry) (s : ℕ) → is_live_at (standing d) s ≡ true → s ≤ highest_stream d
live_below d s h = live_below_from (received_frames d) (sent_frames d) s 0 (numbers (received_frames d)) h

pub live_is_opened : (v : Standing) (d : List Entry) (s : ℕ) → AreStreams v d → v.failed ≡ false → is_live_at v s ≡ true → s ≤ v.highest
live_is_opened v d s h fine lives =
    let here = before_failure v d h fine in
    let P : Standing → Type 0 = λ w. is_live_at w s ≡ true in
    let Q : Standing → Type 0 = λ w. s ≤ w.highest in
    subst Q (sym here.1.is) (live_below d s (subst P here.1.is lives))

-- ---- a frame put

abbrev Leaves : Standing → Frame → Standing → Type 0
Leaves v f w = (d : List Entry) → v ≡ standing d → IsIdle d →
    (std_of (received_frames d) (sent_frames d ++ f ∷ []) ≡ w) × Idle (received_frames d) (sent_frames d ++ f ∷ [])

put_law : (v w : Standing) (d : List Entry) (f : Frame) → AreStreams v d → w.failed ≡ v.failed → Leaves v f w →
    AreStreams w (d ++ Out f ∷ [])
put_law v w d f h same leaves = elim (cases_Bool v.failed) [
  | inl bad ↦ stands_failed (d ++ Out f ∷ []) w (same ∙ bad)
      (has_failed-append d (Out f ∷ []) ∙ ap (λ b. b || has_failed (Out f ∷ [])) (sym h.fault ∙ bad))
  | inr fine ↦
      let here = before_failure v d h fine in
      let there = leaves d here.1.is here.1.idle in
      stands_by (d ++ Out f ∷ []) w (received_frames d) (sent_frames d ++ f ∷ []) (received_one d (Out f) refl)
      (sent_one d f) there.0 there.1
]

server_ends_failed : (v : Standing) (s : ℕ) (e : Bool) → (after_server_end v s e).failed ≡ v.failed
server_ends_failed v s true = refl
server_ends_failed v s false = refl

pub reset_put_law : (v w : Standing) (d : List Entry) (s code : ℕ) → s ≤ v.highest → w ≡ after_reset v s → AreStreams v d →
    AreStreams w (d ++ Out (RstStream s code) ∷ [])
reset_put_law v w d s code low is h =
    put_law v w d (RstStream s code) h (ap (λ (x : Standing). x.failed) is) (λ e v-is idle.
    let high : v.highest ≡ highest_stream e = ap (λ (x : Standing). x.highest) v-is in (
      reset_is_put (received_frames e) (sent_frames e) s code ∙ sym (is ∙ ap (λ (x : Standing). after_reset x s) v-is),
      idle_put (received_frames e) (sent_frames e) (RstStream s code) (idle_of e idle)
          (λ t above. let differs : (s == t) ≡ false = grind (arith, nat_tests) in
          record { unreset = differs; unended = refl; unspent = refl }),
    ))

pub headers_put_law : (v w : Standing) (d : List Entry) (s : ℕ) (end_stream end_headers : Bool) (fragment : List ℕ) →
    is_live_at v s ≡ true → w ≡ after_server_end v s end_stream → AreStreams v d →
    AreStreams w (d ++ Out (Headers s end_stream end_headers fragment) ∷ [])
headers_put_law v w d s end_stream end_headers fragment lives is h =
    put_law v w d (Headers s end_stream end_headers fragment) h (ap (λ (x : Standing). x.failed) is ∙ server_ends_failed v s end_stream)
    (λ e v-is idle.
    let P : Standing → Type 0 = λ x. is_live_at x s ≡ true in
    let low : s ≤ highest_stream e = live_below e s (subst P v-is lives) in (
      headers_is_put (received_frames e) (sent_frames e) s end_stream end_headers fragment
          ∙ sym (is ∙ ap (λ (x : Standing). after_server_end x s end_stream) v-is),
      idle_put (received_frames e) (sent_frames e) (Headers s end_stream end_headers fragment) (idle_of e idle)
          (λ t above. let differs : (s == t) ≡ false = grind (arith, nat_tests) in
          record { unreset = refl; unended = ap (λ b. end_stream && b) differs ∙ and_false end_stream; unspent = refl }),
    ))

pub data_put_law : (v w : Standing) (d : List Entry) (s n : ℕ) (end_stream : Bool) (content : List ℕ) → is_live_at v s ≡ true →
    w ≡ after_server_end (after_data v s n) s end_stream → length content ≡ n → AreStreams v d →
    AreStreams w (d ++ Out (Data s end_stream content) ∷ [])
data_put_law v w d s n end_stream content lives is count h =
    put_law v w d (Data s end_stream content) h (ap (λ (x : Standing). x.failed) is ∙ server_ends_failed (after_data v s n) s end_stream)
    (λ e v-is idle.
    let P : Standing → Type 0 = λ x. is_live_at x s ≡ true in
    let low : s ≤ highest_stream e = live_below e s (subst P v-is lives) in (
      data_is_put (received_frames e) (sent_frames e) s end_stream content
          ∙ ap (λ m. after_server_end (after_data (standing e) s m) s end_stream) count
          ∙ sym (is ∙ ap (λ (x : Standing). after_server_end (after_data x s n) s end_stream) v-is),
      idle_put (received_frames e) (sent_frames e) (Data s end_stream content) (idle_of e idle)
          (λ t above. let differs : (s == t) ≡ false = grind (arith, nat_tests) in
          record {
            unreset = refl;
            unended = ap (λ b. end_stream && b) differs ∙ and_false end_stream;
            unspent =
                ap (λ b. cond b (length content) 0) differs;
          }),
    ))

-- ---- other entries

silent : (v : Standing) (d : List Entry) (e : Entry) → frame_in e ≡ None → frame_out e ≡ None → AreStreams v d → AreStreams v (d ++ e ∷ [])
silent v d e none none' h =
    let one : filter_map frame_out (e ∷ []) ≡ [] = rw none' refl in
    let s-is : sent_frames (d ++ e ∷ []) ≡ sent_frames d =
    filter_map-append frame_out d (e ∷ []) ∙ ap (λ xs. sent_frames d ++ xs) one ∙ append-nil (sent_frames d) in
    elim (cases_Bool v.failed) [
      | inl bad ↦ stands_failed (d ++ e ∷ []) v bad (ap (list_any is_goaway) s-is ∙ sym h.fault ∙ bad)
      | inr fine ↦
          let here = before_failure v d h fine in
          stands_by (d ++ e ∷ []) v (received_frames d) (sent_frames d) (received_one d e none) s-is (sym here.1.is) (idle_of d here.1.idle)
    ]

quietly : (v : Standing) (d : List Entry) (f : Frame) → IsQuietPut f → AreStreams v d → AreStreams v (d ++ Out f ∷ [])
quietly v d f q h = put_law v v d f h refl (λ e v-is idle. (
  quiet_put (received_frames e) (sent_frames e) f q
      ∙ sym v-is,
  idle_put (received_frames e) (sent_frames e) f (idle_of e idle)
      (λ t _. record { unreset = q.unreset t; unended = q.unended t; unspent = q.unspent t }),
))

pub no_matter : (v : Standing) (d : List Entry) (e : Entry) → IsNoMatter e → AreStreams v d → AreStreams v (d ++ e ∷ [])
no_matter v d (Took n) q h = silent v d (Took n) refl refl h
no_matter v d (Unreadable x) q h = silent v d (Unreadable x) refl refl h
no_matter v d (Out (Settings a ss)) q h = quietly v d (Settings a ss)
    (record { goes_on = refl; unreset = λ t. refl; unended = λ t. refl; unspent = λ t. refl; no_data = refl; resets_none = refl }) h
no_matter v d (Out (Ping a o)) q h = quietly v d (Ping a o)
    (record { goes_on = refl; unreset = λ t. refl; unended = λ t. refl; unspent = λ t. refl; no_data = refl; resets_none = refl }) h
no_matter v d (Out (WindowUpdate s n)) q h = quietly v d (WindowUpdate s n)
    (record { goes_on = refl; unreset = λ t. refl; unended = λ t. refl; unspent = λ t. refl; no_data = refl; resets_none = refl }) h
no_matter v d (In f) q h = absurd q
no_matter v d (Out (Data s e b)) q h = absurd q
no_matter v d (Out (Headers s e x b)) q h = absurd q
no_matter v d (Out (Priority s p)) q h = absurd q
no_matter v d (Out (RstStream s c)) q h = absurd q
no_matter v d (Out (PushPromise f s p)) q h = absurd q
no_matter v d (Out (GoAway s c b)) q h = absurd q
no_matter v d (Out (Continuation s x b)) q h = absurd q
no_matter v d (Out (Unknown k f s p)) q h = absurd q

-- ---- order

abbrev Above : ℕ → List ℕ → Type 0
Above m [] = Unit {0}
Above m (x ∷ xs) = (m < x) × Above x xs

weaken : (m n : ℕ) (xs : List ℕ) → m < n → Above n xs → Above m xs
weaken m n [] h a = tt
weaken m n (x ∷ xs) h a = (let b = a.0 in omega arith, a.1)

rising_above : (m : ℕ) (xs : List ℕ) → Above m (rising_numbers m xs)
rising_above m [] = tt
rising_above m (x ∷ xs) = elim (cases_Bool (nat_lt m x)) [
  | inl higher ↦ rw higher (ltb-true m x higher, rising_above x xs)
  | inr lower ↦ rw lower (rising_above m xs)
]

filter_above : (p : ℕ → Bool) (m : ℕ) (xs : List ℕ) → Above m xs → Above m (filter p xs)
filter_above p m [] a = tt
filter_above p m (x ∷ xs) a = elim (cases_Bool (p x)) [
  | inl keeps ↦ rw keeps (a.0, filter_above p x xs a.1)
  | inr drops ↦ rw drops (weaken m x (filter p xs) a.0 (filter_above p x xs a.1))
]

increasing : (m : ℕ) (xs : List ℕ) → Above m xs → (k : ℕ) → suc k < length xs → get_or xs k 0 < get_or xs (suc k) 0
increasing m [] a k h = omega arith
increasing m (x ∷ []) a k h = omega arith
increasing m (x ∷ (y ∷ ys)) a zero h = a.1.0
increasing m (x ∷ (y ∷ ys)) a (suc k) h = increasing x (y ∷ ys) a.1 k (omega arith)

pub live_rises : (d : List Entry) → IsStrictlyIncreasing (live_streams d)
live_rises d k h =
    let e : k + 1 ≡ suc k = omega arith in
    rw e (increasing 0 (live_streams d) (filter_above (is_not_closed d) 0 (opened_streams d) (rising_above 0 (numbers (received_frames d))))
    k (omega arith))

-- ---- windows

one_window : (a l r : Bool) → a ≡ true → ((a && l) || (r && l)) ≡ ((a || r) && l)
one_window true true r h = refl
one_window true false true h = refl
one_window true false false h = refl
one_window false l r h = cc

lacks_where : (d : List Entry) (s n : ℕ) (ts : List ℕ) →
    list_any (lacks s n) (map (stream_at d) ts) ≡ (list_any (number_is s) (map (stream_at d) ts) && lt_z (window_left (window d s)) (pos n))
lacks_where d s n [] = refl
lacks_where d s n (t ∷ ts) = elim (cases_Bool (t == s)) [
  | inl same ↦
      let e : t ≡ s = eqb-true t s same in
      let l = lt_z (window_left (window d s)) (pos n) in
      ap (λ u. (t == s && lt_z (window_left (window d u)) (pos n)) || list_any (lacks s n) (map (stream_at d) ts)) e
      ∙ ap (λ b. (t == s && l) || b) (lacks_where d s n ts)
      ∙ one_window (t == s) l (list_any (number_is s) (map (stream_at d) ts)) same
  | inr other ↦ rw other (lacks_where d s n ts)
]

abbrev Allows : Standing → List Entry → ℕ → ℕ → Type 0
Allows v d s n = (is_live_at v s ≡ true) × (pos n ≤ℤ window_left (window d s)) × (pos n ≤ℤ window_left (connection_window d))

lacks_live : (d : List Entry) (s n : ℕ) → is_live_at (standing d) s ≡ true →
    list_any (lacks s n) (standing d).live ≡ lt_z (window_left (window d s)) (pos n)
lacks_live d s n lives = lacks_where d s n (live_streams d) ∙ ap (λ b. b && lt_z (window_left (window d s)) (pos n)) lives

window_at : (d : List Entry) (s n : ℕ) → CanSend (standing d) s n ↔ Allows (standing d) d s n
window_at d s n = (
  λ can. (
    can.live,
    (let no : lt_z (window_left (window d s)) (pos n) ≡ false = sym (lacks_live d s n can.live) ∙ can.stream in
        grind (arith, ints)),
    can.connection,
  ),
  λ all. record { live = all.0; stream = lacks_live d s n all.0 ∙ (let w = all.1 in grind (arith, ints)); connection = all.2 },
)

pub window_read : (v : Standing) (d : List Entry) (s n : ℕ) → AreStreams v d → v.failed ≡ false → CanSend v s n ↔ Allows v d s n
window_read v d s n h fine =
    let here = before_failure v d h fine in
    let Q : Standing → Type 0 = λ w. CanSend w s n ↔ Allows w d s n in
    subst Q (sym here.1.is) (window_at d s n)
