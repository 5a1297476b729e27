-- Live streams, as more entries come.
use Rattle.std.proofs.Common.{◌≡◌, ℕ, ◌<◌, ◌≤◌, List, [], ◌∷◌, ◌++◌, refl, ap, ◌∙◌, sym, arith, append_assoc, inl, inr}
use Rattle.std.specs.Prelude.{map, filter, fold, max, Bool, true, false, not, ◌&&◌, ◌||◌, ◌==◌, nat_lt, Option, Some, None}
use Rattle.std.specs.List.{list_any}
use Rattle.std.specs.Option.{option_map_or}
use Rattle.std.proofs.lemmas.Bool.{cases_Bool, ltb-true, ltb-false, eqb-true, or_cases}
use Rattle.std.proofs.lemmas.List.Elements.{filter_map-append}
use Rattle.std.proofs.lemmas.List.Folds.{list_any-append}
use Rattle.std.proofs.lemmas.List.Sums.{fold-append}
use Rattle.http2_frames.specs.declared.frame.Frame.{Frame}
use Rattle.http2_frames.specs.declared.frame.Frame.TheVariants.{Data, Headers, Priority, RstStream, Settings, PushPromise, Ping, GoAway, WindowUpdate, Continuation, Unknown}
use Rattle.http2_streams.specs.HeaderBlock.{HeaderBlock, new_block, with_continuation}
use Rattle.http2_streams.specs.History.{Entry, Blocks, blocks_after, no_blocks, blocks_with, stream_of, frame_in, frame_out, received_frames, sent_frames, has_failed, highest_stream, live_streams, is_not_closed, opened_streams, rising_numbers, resets, data_ends, block_ends, ends}
use Rattle.http2_streams.specs.Standing.{Standing}
use Rattle.http2_streams.specs.StandsFor.{AreStreams}
use Rattle.http2_streams.specs.LiveStreams.{has_stream}
use Rattle.http2_streams.proofs.Lists.{append-nil, map-append, max_from}
use Rattle.http2_streams.proofs.Sides.{blocks_in, numbers, top, alive}

-- ---- whole blocks stay

abbrev pub Stays : List HeaderBlock → List HeaderBlock → Type 0
Stays bs cs = (more : List HeaderBlock) × (cs ≡ bs ++ more)

stays : (bs : List HeaderBlock) → Stays bs bs
stays bs = ([], sym (append-nil bs))

placed_stays : (bs : List HeaderBlock) (end_headers : Bool) (b : HeaderBlock) → Stays bs (blocks_with bs end_headers b).finished
placed_stays bs true b = (b ∷ [], refl)
placed_stays bs false b = stays bs

next_stays : (bs : Blocks) (o : Option HeaderBlock) (end_headers : Bool) (fragment : List ℕ) →
    Stays bs.finished (option_map_or (λ b. blocks_with bs.finished end_headers (with_continuation fragment b)) o bs).finished
next_stays bs None end_headers fragment = stays bs.finished
next_stays bs (Some b) end_headers fragment = placed_stays bs.finished end_headers (with_continuation fragment b)

block_stays : (bs : Blocks) (f : Frame) → Stays bs.finished (blocks_after bs f).finished
block_stays bs (Headers s e h fragment) = placed_stays bs.finished h (new_block s e fragment)
block_stays bs (Continuation s h fragment) = next_stays bs bs.unfinished h fragment
block_stays bs (Data s e b) = stays bs.finished
block_stays bs (Priority s p) = stays bs.finished
block_stays bs (RstStream s c) = stays bs.finished
block_stays bs (Settings a ss) = stays bs.finished
block_stays bs (PushPromise f s p) = stays bs.finished
block_stays bs (Ping a o) = stays bs.finished
block_stays bs (GoAway s c b) = stays bs.finished
block_stays bs (WindowUpdate s n) = stays bs.finished
block_stays bs (Unknown k f s p) = stays bs.finished

pub blocks_stay : (bs : Blocks) (fs : List Frame) → Stays bs.finished (fold blocks_after bs fs).finished
blocks_stay bs [] = stays bs.finished
blocks_stay bs (f ∷ fs) =
    let a = block_stays bs f in
    let b = blocks_stay (blocks_after bs f) fs in
    (a.0 ++ b.0, b.1 ∙ ap (λ (cs : List HeaderBlock). cs ++ b.0) a.1 ∙ append_assoc bs.finished a.0 b.0)

finished_more : (rs xs : List Frame) → Stays (blocks_in rs).finished (blocks_in (rs ++ xs)).finished
finished_more rs xs =
    let b = blocks_stay (blocks_in rs) xs in
    (b.0, ap (λ (bs : Blocks). bs.finished) (fold-append blocks_after no_blocks rs xs) ∙ b.1)

-- ---- what lives still lived before

still : (a x b y c z g w e v : Bool) → (not ((a || x) || (b || y)) && not (((c || z) || (g || w)) && (e || v))) ≡ true →
    (not (a || b) && not ((c || g) && e)) ≡ true
still true x b y c z g w e v h = cc
still false true b y c z g w e v h = cc
still false false true y c z g w e v h = cc
still false false false true c z g w e v h = cc
still false false false false true z g w true v h = cc
still false false false false true z g w false v h = refl
still false false false false false true true w true v h = cc
still false false false false false false true w true v h = cc
still false false false false false z true w false v h = refl
still false false false false false z false w e v h = refl

alive_falls : (rs xs ss ys : List Frame) (s : ℕ) → alive (rs ++ xs) (ss ++ ys) s ≡ true → alive rs ss s ≡ true
alive_falls rs xs ss ys s h =
    let b = finished_more rs xs in
    let g : list_any (block_ends s) (blocks_in (rs ++ xs)).finished
    ≡ (list_any (block_ends s) (blocks_in rs).finished || list_any (block_ends s) b.0) =
    ap (list_any (block_ends s)) b.1 ∙ list_any-append (block_ends s) (blocks_in rs).finished b.0 in
    let r = list_any-append (resets s) rs xs in
    let q = list_any-append (resets s) ss ys in
    let c = list_any-append (data_ends s) rs xs in
    let e = list_any-append (ends s) ss ys in
    let parts : (not ((list_any (resets s) rs || list_any (resets s) xs) || (list_any (resets s) ss || list_any (resets s) ys))
    && not (((list_any (data_ends s) rs || list_any (data_ends s) xs) ||
    (list_any (block_ends s) (blocks_in rs).finished || list_any (block_ends s) b.0))
    && (list_any (ends s) ss || list_any (ends s) ys))) ≡ true = rw (← r, ← q, ← c, ← g, ← e) h in
    still (list_any (resets s) rs) (list_any (resets s) xs) (list_any (resets s) ss) (list_any (resets s) ys) (list_any (data_ends s) rs)
    (list_any (data_ends s) xs) (list_any (block_ends s) (blocks_in rs).finished) (list_any (block_ends s) b.0) (list_any (ends s) ss)
    (list_any (ends s) ys) parts

pub live_falls : (d es : List Entry) (s : ℕ) → is_not_closed (d ++ es) s ≡ true → is_not_closed d s ≡ true
live_falls d es s h =
    let r : received_frames (d ++ es) ≡ received_frames d ++ received_frames es = filter_map-append frame_in d es in
    let q : sent_frames (d ++ es) ≡ sent_frames d ++ sent_frames es = filter_map-append frame_out d es in
    alive_falls (received_frames d) (received_frames es) (sent_frames d) (sent_frames es) s
    (ap (λ (ss : List Frame). alive (received_frames d ++ received_frames es) ss s) (sym q)
    ∙ ap (λ (rs : List Frame). alive rs (sent_frames (d ++ es)) s) (sym r) ∙ h)

-- ---- the highest never falls

top_rises : (rs xs : List Frame) → top rs ≤ top (rs ++ xs)
top_rises rs xs =
    let b = finished_more rs xs in
    let more : top (rs ++ xs) ≡ fold max (top rs) (map stream_of b.0) =
    ap (λ (bs : List HeaderBlock). fold max 0 (map stream_of bs)) b.1
    ∙ ap (fold max 0) (map-append stream_of (blocks_in rs).finished b.0) ∙ fold-append max 0 (numbers rs) (map stream_of b.0) in
    rw more (max_from (top rs) (map stream_of b.0))

pub highest_rises : (d es : List Entry) → highest_stream d ≤ highest_stream (d ++ es)
highest_rises d es =
    let r : received_frames (d ++ es) ≡ received_frames d ++ received_frames es = filter_map-append frame_in d es in
    let e : highest_stream (d ++ es) ≡ top (received_frames d ++ received_frames es) = ap top r in
    rw e (top_rises (received_frames d) (received_frames es))

-- ---- those in the list

kept_both : (p : ℕ → Bool) (s : ℕ) (xs : List ℕ) → has_stream (filter p xs) s ≡ true → (p s ≡ true) × (has_stream xs s ≡ true)
kept_both p s [] h = cc
kept_both p s (x ∷ xs) h = elim (cases_Bool (p x)) [
  | inl stays ↦
      let h' : ((x == s) || has_stream (filter p xs) s) ≡ true = rw stays at h in
      elim (cases_Bool (x == s)) [
        | inl same ↦ let e : x ≡ s = eqb-true x s same in (ap p (sym e) ∙ stays, rw same refl)
        | inr other ↦ let h'' : has_stream (filter p xs) s ≡ true = rw other at h' in let k = kept_both p s xs h'' in (k.0, rw other k.1)
      ]
  | inr goes ↦
      let h' : has_stream (filter p xs) s ≡ true = rw goes at h in
      let k = kept_both p s xs h' in
      elim (cases_Bool (x == s)) [
        | inl same ↦ (k.0, rw same refl)
        | inr other ↦ (k.0, rw other k.1)
      ]
]

rising_below : (m s : ℕ) (xs : List ℕ) → has_stream (rising_numbers m xs) s ≡ true → s ≤ fold max m xs
rising_below m s [] h = cc
rising_below m s (x ∷ xs) h = elim (cases_Bool (nat_lt m x)) [
  | inl higher ↦
      let above : m < x = ltb-true m x higher in
      let e : max m x ≡ x = omega arith in
      let h' : ((x == s) || has_stream (rising_numbers x xs) s) ≡ true = rw higher at h in
      elim (or_cases (x == s) (has_stream (rising_numbers x xs) s) h') [
        | inl same ↦ let k : x ≡ s = eqb-true x s same in rw e (omega (arith, max_from x xs, k))
        | inr later ↦ rw e (rising_below x s xs later)
      ]
  | inr not_above ↦
      let below = ltb-false m x not_above in
      let e : max m x ≡ m = omega arith in
      let h' : has_stream (rising_numbers m xs) s ≡ true = rw not_above at h in
      rw e (rising_below m s xs h')
]

pub listed_is_live : (d : List Entry) (s : ℕ) → has_stream (live_streams d) s ≡ true → (is_not_closed d s ≡ true) × (s ≤ highest_stream d)
listed_is_live d s h =
    let k = kept_both (is_not_closed d) s (opened_streams d) h in
    (k.0, rising_below 0 s (numbers (received_frames d)) k.1)

pub idle_is_live : (v : Standing) (d : List Entry) (s : ℕ) → AreStreams v d → has_failed d ≡ false → highest_stream d < s →
    is_not_closed d s ≡ true
idle_is_live v d s h fine above =
    let u = (h.state fine).idle s above in
    let r = u.unreset in
    let c = u.unended_by_client in
    rw (r, c) refl
