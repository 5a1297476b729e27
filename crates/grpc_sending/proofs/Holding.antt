-- The sources that are held are those of the ranges that are not wholly put.
use Rattle.std.proofs.Common.{◌≡◌, ℕ, zero, suc, ◌-◌, ◌<◌, ◌≤◌, List, [], ◌∷◌, ◌++◌, length, drop, refl, ap, ◌∙◌, sym, subst, arith, inl, inr, length-drop}
use Rattle.std.specs.Prelude.{Bool, true, false, ◌==◌, ◌||◌, cond, nat_lt, map, filter}
use Rattle.std.specs.List.{flat_map, AllByRecursion}
use Rattle.std.proofs.lemmas.Bool.{cases_Bool, ltb-true, ltb-false}
use Rattle.std.proofs.lemmas.Bool.Decides.{nat_tests}
use Rattle.std.proofs.lemmas.List.{map-append}
use Rattle.http2_streams.specs.History.{Entry, has_failed, live_streams, is_not_closed, opened_streams, rising_numbers, blocks, stream_of, sent_frames}
use Rattle.http2_streams.specs.LiveStreams.{has_stream}
use Rattle.grpc_sending.specs.declared.piece.StoredPiece.{StoredPiece}
use Rattle.grpc_sending.specs.declared.piece.StoredPiece.TheVariants.{Encoded, Framed, Ranged}
use Rattle.grpc_sending.specs.declared.queue.StoredQueue.{StoredQueue}
use Rattle.grpc_sending.specs.Pieces.{Piece, message_pieces, most_read}
use Rattle.grpc_sending.specs.Owed.{OwedItem, pieces_of, items_owed_on, pieces_after_frames, pieces_left_on, ends_of, ranges_left_on}
use Rattle.grpc_sending.specs.Spans.{Span, span_text, span_pieces, IsSpan}
use Rattle.grpc_sending.specs.Sources.{sources_in, sources_held}
use Rattle.grpc_sending.specs.SortedQueues.{AreAbove, AreSorted}
use Rattle.grpc_sending.specs.StoredSending.{SourceTexts, StoredSending, IsStoredSending, QueuesEndWithin, EndWithinTexts, KeepsRangesLeft, pieces_in, stored_on}
use Rattle.grpc_sending.proofs.Histories.{append-nil}
use Rattle.grpc_sending.proofs.Sorted.{above_more, above_none}
use Rattle.grpc_sending.proofs.Spans.{span_is, span_rest, span_length}
use Rattle.grpc_sending.proofs.Stored.{on_in}

-- ---- of one stream

ends_append : (ps qs : List Piece) → flat_map ends_of (ps ++ qs) ≡ flat_map ends_of ps ++ flat_map ends_of qs
ends_append [] qs = refl
ends_append (p ∷ ps) qs = ap (λ (ts : List (List ℕ)). ends_of p ++ ts) (ends_append ps qs)
    ∙ assoc (ends_of p) (flat_map ends_of ps) (flat_map ends_of qs) where
      assoc : (xs ys zs : List (List ℕ)) → xs ++ (ys ++ zs) ≡ (xs ++ ys) ++ zs
      assoc [] ys zs = refl
      assoc (x ∷ xs) ys zs = ap (λ (ts : List (List ℕ)). x ∷ ts) (assoc xs ys zs)

-- the messages of some bytes: with the last the range ends
ends_cut : (text : List ℕ) (m k : ℕ) (bytes : List ℕ) → 0 < m → 0 < length bytes → length bytes ≤ k →
    flat_map ends_of (message_pieces text m k bytes) ≡ text ∷ []
ends_cut text m zero bytes pos some few = absurd (omega (arith, some, few))
ends_cut text m (suc k) bytes pos some few = elim (cases_Bool (nat_lt m (length bytes))) [
  | inl more ↦
      let less : m < length bytes = ltb-true m (length bytes) more in
      let left : length (drop m bytes) ≡ length bytes - m = length-drop m bytes in
      rw more (ends_cut text m k (drop m bytes) pos (omega (arith, left, less)) (omega (arith, left, pos, few, less)))
  | inr last ↦ rw last refl
]

-- those of a span: its text, once
ends_span : (s : Span) (text : List ℕ) → IsSpan most_read s text → flat_map ends_of (span_pieces most_read s text) ≡ text ∷ []
ends_span s text is =
    let size = span_length s text is.there in
    let rest : List ℕ = drop most_read (span_text s text) in
    let left : length rest ≡ length (span_text s text) - most_read = length-drop most_read (span_text s text) in
    ap (flat_map ends_of) (span_is most_read s text (omega arith) is) ∙ elim (cases_Bool (nat_lt most_read (s.until - s.from))) [
      | inl more ↦
          let less : most_read < s.until - s.from = ltb-true most_read (s.until - s.from) more in
          ap (λ b. cond b [] (text ∷ []) ++ flat_map ends_of (span_rest most_read s text)) more
          ∙ ends_cut text most_read (length rest) rest (omega arith) (omega (arith, left, size, less)) (omega arith)
      | inr last ↦
          let f = ltb-false most_read (s.until - s.from) last in
          let none : length rest ≡ 0 = omega (arith, left, size, f) in
          ap (λ b. cond b [] (text ∷ []) ++ flat_map ends_of (span_rest most_read s text)) last
          ∙ ap (λ (k : ℕ). text ∷ flat_map ends_of (message_pieces text most_read k rest)) none
    ]

-- those of what is kept for a stream
pub ends_stored : (texts : SourceTexts) (ps : List StoredPiece) → EndWithinTexts texts ps →
    map texts (sources_in ps) ≡ flat_map ends_of (flat_map (pieces_in texts) ps)
ends_stored texts [] fit = refl
ends_stored texts (Encoded block ∷ ps) fit = ends_stored texts ps fit.1
ends_stored texts (Framed bytes ∷ ps) fit = ends_stored texts ps fit.1
ends_stored texts (Ranged s ∷ ps) fit =
    ap (λ (ts : List (List ℕ)). texts s.source ∷ ts) (ends_stored texts ps fit.1)
    ∙ ap (λ (ts : List (List ℕ)). ts ++ flat_map ends_of (flat_map (pieces_in texts) ps)) (sym (ends_span s (texts s.source) fit.0))
    ∙ sym (ends_append (span_pieces most_read s (texts s.source)) (flat_map (pieces_in texts) ps))

-- what is kept for a live stream is what is left of what it is owed
pub left_stored : (texts : SourceTexts) (w : StoredSending) (d : List Entry) (os : List OwedItem) → IsStoredSending texts w d os →
    has_failed d ≡ false → (s : ℕ) → is_not_closed d s ≡ true → flat_map (pieces_in texts) (stored_on s w.queues) ≡ pieces_left_on d os s
left_stored texts w d os st alive s lives =
    sym (
    ap (pieces_after_frames (sent_frames d) s) (sym (append-nil (flat_map pieces_of (items_owed_on s os))))
    ∙ st.queues alive s lives []
    ∙ append-nil _
    ∙ on_in texts s w.queues
    )

held_on : (texts : SourceTexts) (w : StoredSending) (d : List Entry) (os : List OwedItem) → IsStoredSending texts w d os →
    QueuesEndWithin texts w.queues → has_failed d ≡ false → (s : ℕ) → is_not_closed d s ≡ true →
    map texts (sources_in (stored_on s w.queues)) ≡ ranges_left_on d os s
held_on texts w d os st fit alive s lives = ends_stored texts (stored_on s w.queues) (fit s)
    ∙ ap (flat_map ends_of) (left_stored texts w d os st alive s lives)

-- ---- live streams, in rising order

abbrev IsBelow : ℕ → List ℕ → Type 0
IsBelow n ns = AllByRecursion (λ (m : ℕ). n < m) ns

abbrev Rise : List ℕ → Type 0
Rise [] = Unit {0}
Rise (n ∷ ns) = IsBelow n ns × Rise ns

below_less : (n m : ℕ) (ns : List ℕ) → n < m → IsBelow m ns → IsBelow n ns
below_less n m [] lt h = tt
below_less n m (x ∷ xs) lt h = (let a = h.0 in omega (arith, lt, a), below_less n m xs lt h.1)

below_rising : (n : ℕ) (xs : List ℕ) → IsBelow n (rising_numbers n xs)
below_rising n [] = tt
below_rising n (x ∷ xs) = elim (cases_Bool (nat_lt n x)) [
  | inl more ↦ let lt : n < x = ltb-true n x more in rw more (lt, below_less n x (rising_numbers x xs) lt (below_rising x xs))
  | inr less ↦ rw less (below_rising n xs)
]

rising_rise : (n : ℕ) (xs : List ℕ) → Rise (rising_numbers n xs)
rising_rise n [] = tt
rising_rise n (x ∷ xs) = elim (cases_Bool (nat_lt n x)) [
  | inl more ↦ rw more (below_rising x xs, rising_rise x xs)
  | inr less ↦ rw less (rising_rise n xs)
]

below_kept : (f : ℕ → Bool) (n : ℕ) (ns : List ℕ) → IsBelow n ns → IsBelow n (filter f ns)
below_kept f n [] h = tt
below_kept f n (x ∷ xs) h = go (f x) (below_kept f n xs h.1) where
  go : (b : Bool) → IsBelow n (filter f xs) → IsBelow n (cond b (x ∷ filter f xs) (filter f xs))
  go true later = (h.0, later)
  go false later = later

rise_kept : (f : ℕ → Bool) (ns : List ℕ) → Rise ns → Rise (filter f ns)
rise_kept f [] h = tt
rise_kept f (x ∷ xs) h = go (f x) (rise_kept f xs h.1) where
  go : (b : Bool) → Rise (filter f xs) → Rise (cond b (x ∷ filter f xs) (filter f xs))
  go true later = (below_kept f x xs h.0, later)
  go false later = later

live_rise : (d : List Entry) → Rise (live_streams d)
live_rise d = rise_kept (is_not_closed d) (opened_streams d) (rising_rise 0 (map stream_of (blocks d)))

all_kept : (f : ℕ → Bool) (ns : List ℕ) → AllByRecursion (λ (n : ℕ). f n ≡ true) (filter f ns)
all_kept f [] = tt
all_kept f (x ∷ xs) = go (f x) refl (all_kept f xs) where
  go : (b : Bool) → f x ≡ b → AllByRecursion (λ (n : ℕ). f n ≡ true) (filter f xs) →
      AllByRecursion (λ (n : ℕ). f n ≡ true) (cond b (x ∷ filter f xs) (filter f xs))
  go true is later = (is, later)
  go false is later = later

-- ---- of all streams

-- a number below all of these is none of them
not_below : (n : ℕ) (ns : List ℕ) → IsBelow n ns → has_stream ns n ≡ false
not_below n [] h = refl
not_below n (x ∷ xs) h = let off : (x == n) ≡ false = let lt = h.0 in grind (arith, nat_tests) in
    ap (λ b. b || has_stream xs n) off ∙ not_below n xs h.1

not_first : (n s : ℕ) (ns : List ℕ) → (n == s) ≡ false → has_stream ns s ≡ false → has_stream (n ∷ ns) s ≡ false
not_first n s ns off h = ap (λ b. b || has_stream ns s) off ∙ h

-- nothing is kept but on these streams
abbrev AreOn : List ℕ → List StoredQueue → Type 0
AreOn ns qs = (s : ℕ) → has_stream ns s ≡ false → stored_on s qs ≡ []

-- .. behind the first queue, in whose place nothing stands for its stream
on_rest : (ns : List ℕ) (q : StoredQueue) (qs : List StoredQueue) → AreAbove q.stream qs → AreOn ns (q ∷ qs) → AreOn ns qs
on_rest ns q qs above on s none = elim (cases_Bool (q.stream == s)) [
  | inl same ↦ let e : q.stream ≡ s = grind (arith, nat_tests) in ap (λ n. stored_on n qs) (sym e) ∙ above_none q.stream qs above
  | inr off ↦ ap (λ b. cond b q.pieces (stored_on s qs)) (sym off) ∙ on s none
]

-- .. and behind the first stream
on_later : (n : ℕ) (ns : List ℕ) (qs : List StoredQueue) → stored_on n qs ≡ [] → AreOn (n ∷ ns) qs → AreOn ns qs
on_later n ns qs none on s dead = elim (cases_Bool (n == s)) [
  | inl same ↦ let e : n ≡ s = grind (arith, nat_tests) in ap (λ m. stored_on m qs) (sym e) ∙ none
  | inr off ↦ on s (not_first n s ns off dead)
]

-- the texts of what is kept for a stream
abbrev Texts : Type 0
Texts = List (List ℕ)

abbrev kept_on : SourceTexts → List StoredQueue → ℕ → Texts
kept_on texts qs s = map texts (sources_in (stored_on s qs))

-- streams above the first queue's do not see it
later_same : (texts : SourceTexts) (q : StoredQueue) (qs : List StoredQueue) (ns : List ℕ) → IsBelow q.stream ns →
    flat_map (kept_on texts (q ∷ qs)) ns ≡ flat_map (kept_on texts qs) ns
later_same texts q qs [] h = refl
later_same texts q qs (n ∷ ns) h =
    let off : (q.stream == n) ≡ false = let lt = h.0 in grind (arith, nat_tests) in
    ap (λ b. map texts (sources_in (cond b q.pieces (stored_on n qs))) ++ flat_map (kept_on texts (q ∷ qs)) ns) off
    ∙ ap (λ (ts : Texts). kept_on texts qs n ++ ts) (later_same texts q qs ns h.1)

none_on : (texts : SourceTexts) (ns : List ℕ) → flat_map (kept_on texts []) ns ≡ []
none_on texts [] = refl
none_on texts (n ∷ ns) = none_on texts ns

abbrev held_texts : SourceTexts → List StoredQueue → Texts
held_texts texts qs = map texts (sources_held qs)

first_held : (texts : SourceTexts) (q : StoredQueue) (qs : List StoredQueue) →
    held_texts texts (q ∷ qs) ≡ map texts (sources_in q.pieces) ++ held_texts texts qs
first_held texts q qs = map-append texts (sources_in q.pieces) (sources_held qs)

-- the first queue is of none of these streams, and so has nothing
first_none : (texts : SourceTexts) (q : StoredQueue) (qs : List StoredQueue) → stored_on q.stream (q ∷ qs) ≡ [] →
    held_texts texts (q ∷ qs) ≡ held_texts texts qs
first_none texts q qs none =
    let here : (q.stream == q.stream) ≡ true = grind (arith, nat_tests) in
    let empty : q.pieces ≡ [] = ap (λ b. cond b q.pieces (stored_on q.stream qs)) (sym here) ∙ none in
    first_held texts q qs ∙ ap (λ (ps : List StoredPiece). map texts (sources_in ps) ++ held_texts texts qs) empty

-- queues in rising order of their streams, beside streams in rising order
in_order : (texts : SourceTexts) (qs : List StoredQueue) (ns : List ℕ) → AreSorted qs → Rise ns → AreOn ns qs →
    held_texts texts qs ≡ flat_map (kept_on texts qs) ns
in_order texts [] ns sorted rise on = sym (none_on texts ns)
in_order texts (q ∷ qs) ns sorted rise on = go ns (λ ms up at. in_order texts qs ms sorted.1 up at) rise on where
  go : (ns : List ℕ) → ((ms : List ℕ) → Rise ms → AreOn ms qs → held_texts texts qs ≡ flat_map (kept_on texts qs) ms) → Rise ns →
      AreOn ns (q ∷ qs) → held_texts texts (q ∷ qs) ≡ flat_map (kept_on texts (q ∷ qs)) ns
  go [] later rise on = first_none texts q qs (on q.stream refl) ∙ later [] tt (on_rest [] q qs sorted.0 on)
  go (n ∷ ns) later rise on = elim (cases_Bool (q.stream == n)) [
    | inl same ↦
        let e : q.stream ≡ n = grind (arith, nat_tests) in
        let gone : stored_on n qs ≡ [] = ap (λ m. stored_on m qs) (sym e) ∙ above_none q.stream qs sorted.0 in
        let below : IsBelow q.stream ns = subst (λ (m : ℕ). IsBelow m ns) (sym e) rise.0 in
        first_held texts q qs
        ∙ ap (λ (ts : Texts). map texts (sources_in q.pieces) ++ ts)
        (later ns rise.1 (on_later n ns qs gone (on_rest (n ∷ ns) q qs sorted.0 on)) ∙ sym (later_same texts q qs ns below))
        ∙ ap (λ b. map texts (sources_in (cond b q.pieces (stored_on n qs))) ++ flat_map (kept_on texts (q ∷ qs)) ns) (sym same)
    | inr off ↦ elim (cases_Bool (nat_lt q.stream n)) [
      | inl less ↦
          let lt : q.stream < n = ltb-true q.stream n less in
          let below : IsBelow q.stream (n ∷ ns) = (lt, below_less q.stream n ns lt rise.0) in
          first_none texts q qs (on q.stream (not_below q.stream (n ∷ ns) below))
          ∙ later (n ∷ ns) rise (on_rest (n ∷ ns) q qs sorted.0 on)
          ∙ sym (later_same texts q qs (n ∷ ns) below)
      | inr more ↦
          let f = ltb-false q.stream n more in
          let ne : (q.stream ≡ n → ⊥) = λ e. let same : (q.stream == n) ≡ true = grind (arith, nat_tests) in let no : true ≡ false =
          sym same ∙ off in (let z : ⊥ = cc in z) in
          let lt : n < q.stream = omega (arith, f, ne) in
          let none : stored_on n (q ∷ qs) ≡ [] = above_none n (q ∷ qs) (lt, above_more n q.stream qs lt sorted.0) in
          go ns later rise.1 (on_later n ns (q ∷ qs) none on)
          ∙ ap (λ (ps : List StoredPiece). map texts (sources_in ps) ++ flat_map (kept_on texts (q ∷ qs)) ns) (sym none)
    ]
  ]

-- what each live stream has
each_left : (texts : SourceTexts) (w : StoredSending) (d : List Entry) (os : List OwedItem) → IsStoredSending texts w d os →
    QueuesEndWithin texts w.queues → has_failed d ≡ false → (ns : List ℕ) → AllByRecursion (λ (n : ℕ). is_not_closed d n ≡ true) ns →
    flat_map (kept_on texts w.queues) ns ≡ flat_map (ranges_left_on d os) ns
each_left texts w d os st fit alive [] h = refl
each_left texts w d os st fit alive (n ∷ ns) h =
    ap (λ (ts : Texts). ts ++ flat_map (kept_on texts w.queues) ns) (held_on texts w d os st fit alive n h.0)
    ∙ ap (λ (ts : Texts). ranges_left_on d os n ++ ts) (each_left texts w d os st fit alive ns h.1)

pub held_is_left : (texts : SourceTexts) (w : StoredSending) (d : List Entry) (os : List OwedItem) → KeepsRangesLeft texts w d os
held_is_left texts w d os sorted fit only st = elim (cases_Bool (has_failed d)) [
  | inl failed ↦
      in_order texts w.queues [] sorted tt (λ s none. only s (inl failed))
      ∙ sym (ap (λ b. cond b [] (flat_map (ranges_left_on d os) (live_streams d))) failed)
  | inr alive ↦
      in_order texts w.queues (live_streams d) sorted (live_rise d) (λ s none. only s (inr none))
      ∙ each_left texts w d os st fit alive (live_streams d) (all_kept (is_not_closed d) (opened_streams d))
      ∙ sym (ap (λ b. cond b [] (flat_map (ranges_left_on d os) (live_streams d))) alive)
]
