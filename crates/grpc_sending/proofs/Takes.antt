-- What each call leaves stands for the history and the items after it.
use Rattle.std.proofs.Common.{◌≡◌, ℕ, ◌+◌, ◌-◌, ◌≤◌, List, [], ◌∷◌, ◌++◌, length, take, drop, refl, ap, ◌∙◌, sym, subst, arith, append_assoc, length-drop, inl, inr}
use Rattle.std.specs.Prelude.{Bool, true, false, not, ◌&&◌, ◌||◌, ◌==◌, cond, map, fold, filter, ◌⊎◌, Result, Ok, Err, OnOk}
use Rattle.std.specs.List.{flat_map, list_any}
use Rattle.std.proofs.lemmas.Bool.{cases_Bool}
use Rattle.std.proofs.lemmas.Bool.Decides.{nat_tests}
use Rattle.std.proofs.lemmas.Grind.{common_steps, flat_map-append}
use Rattle.std.proofs.lemmas.List.Elements.{filter_map-append}
use Rattle.std.proofs.lemmas.List.Sums.{sum_by-append}
use Rattle.hpack.specs.declared.encoder.Position.{Position}
use Rattle.digest.specs.declared.Digest.{Digest}
use Rattle.hpack.specs.declared.encoder.Position.TheVariants.{First, Later}
use Rattle.http2_frames.specs.declared.frame.Frame.{Frame}
use Rattle.http2_frames.specs.declared.frame.Frame.TheVariants.{Data, Headers, Priority, RstStream, Settings, PushPromise, Ping, GoAway, WindowUpdate, Continuation, Unknown}
use Rattle.http2_frames.specs.Writing.{text_of}
use Rattle.http2_streams.specs.History.{Entry, Out, Took, sent_frames, received_frames, frame_in, frame_out, has_failed, is_not_closed, is_goaway, resets, data_ends, block_ends, blocks_after, no_blocks, ends, live_streams}
use Rattle.http2_streams.specs.Standing.{Standing, standing, stream_at}
use Rattle.http2_streams.specs.StandsFor.{AreStreams}
use Rattle.http2_streams.specs.Rules.{number_is}
use Rattle.grpc_sending.specs.Pieces.{Piece, most_read, read_pieces}
use Rattle.grpc_sending.specs.Pieces.{Queue}
use Rattle.grpc_sending.specs.Bytes.{bytes_put, count_taken, count_taken_by, is_headers}
use Rattle.grpc_sending.specs.Owed.{OwedItem, Item, Range, without_front, item_on, items_owed_on, pieces_of, pieces_after_frames, owed_with_item}
use Rattle.grpc_sending.specs.StandsFor.{Sending, IsSending, pieces_on}
use Rattle.grpc_sending.specs.Step.{IsControl}
use Rattle.grpc_sending.proofs.Histories.{append-nil}
use Rattle.grpc_sending.proofs.Entries.{stands_put, control_on}
use Rattle.grpc_sending.proofs.Queues.{forgotten_on}
use Rattle.grpc_sending.proofs.Pushes.{Pushed}
use Rattle.grpc_sending.proofs.Stored.{on_in, filter_in}
use Rattle.grpc_sending.specs.declared.piece.StoredPiece.{StoredPiece}
use Rattle.grpc_sending.specs.declared.piece.StoredPiece.TheVariants.{Ranged}
use Rattle.grpc_sending.specs.Spans.{Span, span_text}
use Rattle.grpc_sending.proofs.Spans.{without_none}
use Rattle.grpc_sending.specs.declared.queue.StoredQueue.{StoredQueue}
use Rattle.grpc_sending.specs.StoredSending.{SourceTexts, StoredSending, pieces_in, queue_in, sending_in, stored_on}

not_headers : (f : Frame) → IsControl f → is_headers f ≡ false
not_headers (Data s e bytes) h = refl
not_headers (Headers s e h b) k = absurd k
not_headers (Priority s p) h = refl
not_headers (RstStream s c) h = refl
not_headers (Settings a ss) h = refl
not_headers (PushPromise f s p) h = refl
not_headers (Ping a o) h = refl
not_headers (GoAway s c b) h = refl
not_headers (WindowUpdate s n) h = refl
not_headers (Continuation s h b) k = refl
not_headers (Unknown k f s p) h = refl

pub stands_control : (w : Sending) (d : List Entry) (os : List OwedItem) (f : Frame) → IsControl f → IsSending w d os →
    IsSending (record { pending = w.pending ++ text_of f; position = w.position; queues = w.queues }) (d ++ Out f ∷ []) os
stands_control w d os f control st =
    let e : cond (is_headers f) Later w.position ≡ w.position = ap (λ b. cond b Later w.position) (not_headers f control) in
    subst (λ (p : Position). IsSending (record { pending = w.pending ++ text_of f; position = p; queues = w.queues }) (d ++ Out f ∷ []) os)
    e
    (stands_put w d os f w.queues (control_on f w.queues control) st)

-- ---- bytes that were taken

took_sent : (d : List Entry) (n : ℕ) → sent_frames (d ++ Took n ∷ []) ≡ sent_frames d
took_sent d n = filter_map-append frame_out d (Took n ∷ []) ∙ append-nil (sent_frames d)

took_received : (d : List Entry) (n : ℕ) → received_frames (d ++ Took n ∷ []) ≡ received_frames d
took_received d n = filter_map-append frame_in d (Took n ∷ []) ∙ append-nil (received_frames d)

took_taken : (d : List Entry) (n : ℕ) → count_taken (d ++ Took n ∷ []) ≡ count_taken d + n
took_taken d n = sum_by-append count_taken_by d (Took n ∷ []) ∙ omega arith

drop-drop : (n m : ℕ) (xs : List ℕ) → drop m (drop n xs) ≡ drop (n + m) xs
drop-drop n m xs = grind (arith, common_steps)

abbrev lives_by : List Frame → List Frame → ℕ → Bool
lives_by rs ss s = not (list_any (resets s) rs || list_any (resets s) ss)
    && not ((list_any (data_ends s) rs || list_any (block_ends s) (fold blocks_after no_blocks rs).finished) && list_any (ends s) ss)

pub stands_took : (w : Sending) (d : List Entry) (os : List OwedItem) (n : ℕ) → n ≤ length w.pending → IsSending w d os →
    IsSending (record { pending = drop n w.pending; position = w.position; queues = w.queues }) (d ++ Took n ∷ []) os
stands_took w d os n h st =
    let few : n ≤ length (bytes_put d) - count_taken d = omega (arith, ap length st.pending, length-drop (count_taken d) (bytes_put d)) in
    let bytes : bytes_put (d ++ Took n ∷ []) ≡ bytes_put d = ap (flat_map text_of) (took_sent d n) in
    record {
      pending = ap (drop n) st.pending ∙ drop-drop (count_taken d) n (bytes_put d) ∙ ap (λ k. drop k (bytes_put d)) (sym (took_taken d n))
          ∙ ap (drop (count_taken (d ++ Took n ∷ []))) (sym bytes);
      taken = omega (arith, took_taken d n, ap length bytes, few, st.taken);
      position = st.position ∙ ap (λ fs. cond (list_any is_headers fs) Later First) (sym (took_sent d n));
      queues = λ alive s lives more.
          let alive' : has_failed d ≡ false = ap (list_any is_goaway) (sym (took_sent d n)) ∙ alive in
          let e : lives_by (received_frames d) (sent_frames d) s
          ≡ lives_by (received_frames (d ++ Took n ∷ [])) (sent_frames (d ++ Took n ∷ [])) s =
          ap (λ fs. lives_by fs (sent_frames d) s) (sym (took_received d n))
          ∙ ap (λ fs. lives_by (received_frames (d ++ Took n ∷ [])) fs s) (sym (took_sent d n)) in
          let lives' : is_not_closed d s ≡ true = e ∙ lives in
          ap (λ fs. pieces_after_frames fs s (flat_map pieces_of (items_owed_on s os) ++ more)) (took_sent d n)
          ∙ st.queues alive' s lives' more;
    }

-- ---- a stream that is closed

pub stands_forget : (w : Sending) (d : List Entry) (os : List OwedItem) (s : ℕ) → is_not_closed d s ≡ false → IsSending w d os →
    IsSending (record { pending = w.pending; position = w.position; queues = filter (λ q. not (q.stream == s)) w.queues }) d os
stands_forget w d os s closed st = record {
  pending = st.pending;
  taken = st.taken;
  position = st.position;
  queues = λ alive t lives more. elim (cases_Bool (s == t)) [
    | inl same ↦ let e : s ≡ t = grind (arith, nat_tests) in let c : is_not_closed d t ≡ false = ap (is_not_closed d) (sym e) ∙ closed in
        let no : true ≡ false = sym lives ∙ c in absurd (let z : ⊥ = cc in z)
    | inr other ↦ st.queues alive t lives more ∙ ap (λ ps. ps ++ more) (sym (forgotten_on s t w.queues other))
  ];
}

-- ---- an item that is owed

owed_push : (t : ℕ) (os : List OwedItem) (s : ℕ) (item : Item) →
    items_owed_on t (os ++ record { stream = s; item = item } ∷ []) ≡ items_owed_on t os ++ cond (s == t) (item ∷ []) []
owed_push t os s item = flat_map-append (item_on t) os (record { stream = s; item = item } ∷ [])
    ∙ ap (λ is. items_owed_on t os ++ is) (append-nil (cond (s == t) (item ∷ []) []))

numbers : (d : List Entry) (s : ℕ) (ss : List ℕ) → list_any (number_is s) (map (stream_at d) ss) ≡ list_any (λ t. t == s) ss
numbers d s [] = refl
numbers d s (t ∷ ss) = ap (λ b. (t == s) || b) (numbers d s ss)

pub live_is : (v : Standing) (d : List Entry) (s : ℕ) → AreStreams v d → v.failed ≡ false →
    list_any (number_is s) v.live ≡ list_any (λ t. t == s) (live_streams d)
live_is v d s at alive =
    let is : v ≡ standing d = (at.state (sym at.fault ∙ alive)).is in
    ap (λ (x : Standing). list_any (number_is s) x.live) is ∙ numbers d s (live_streams d)

abbrev owed_by : Bool → Bool → List OwedItem → ℕ → Item → List OwedItem
owed_by failed lives os s item = cond failed os (cond lives (os ++ record { stream = s; item = item } ∷ []) os)

-- pieces were appended to the queue of a stream
abbrev pub Given : List Queue → List Queue → ℕ → List Piece → Type 0
Given qs rs s ps = (t : ℕ) → pieces_on t rs ≡ cond (s == t) (pieces_on t qs ++ ps) (pieces_on t qs)

pub stands_owed : (v : Standing) (w : Sending) (d : List Entry) (os : List OwedItem) (s : ℕ) (item : Item) (rs : List Queue) →
    v.failed ≡ false → list_any (number_is s) v.live ≡ true → Given w.queues rs s (pieces_of item) → AreStreams v d → IsSending w d os →
    IsSending (record { pending = w.pending; position = w.position; queues = rs }) d (owed_with_item d os s item)
stands_owed v w d os s item rs alive lives pushed at st =
    let alive' : has_failed d ≡ false = sym at.fault ∙ alive in
    let lives' : list_any (λ t. t == s) (live_streams d) ≡ true = sym (live_is v d s at alive) ∙ lives in
    let e : owed_with_item d os s item ≡ os ++ record { stream = s; item = item } ∷ [] =
    ap (λ b. owed_by b (list_any (λ t. t == s) (live_streams d)) os s item) alive' ∙ ap (λ b. owed_by false b os s item) lives' in
    subst (λ (o : List OwedItem). IsSending (record { pending = w.pending; position = w.position; queues = rs }) d o) (sym e) (record {
      pending = st.pending;
      taken = st.taken;
      position = st.position;
      queues = λ alive t lives more.
          let push = owed_push t os s item in
          elim (cases_Bool (s == t)) [
            | inl same ↦
                let now : pieces_on t rs ≡ pieces_on t w.queues ++ pieces_of item =
                pushed t ∙ ap (λ b. cond b (pieces_on t w.queues ++ pieces_of item) (pieces_on t w.queues)) same in
                let items : items_owed_on t (os ++ record { stream = s; item = item } ∷ []) ≡ items_owed_on t os ++ item ∷ [] =
                push ∙ ap (λ b. items_owed_on t os ++ cond b (item ∷ []) []) same in
                ap (λ is. pieces_after_frames (sent_frames d) t (flat_map pieces_of is ++ more)) items
                ∙ ap (λ ps. pieces_after_frames (sent_frames d) t (ps ++ more))
                (flat_map-append pieces_of (items_owed_on t os) (item ∷ [])
                ∙ ap (λ ps. flat_map pieces_of (items_owed_on t os) ++ ps) (append-nil (pieces_of item)))
                ∙ ap (pieces_after_frames (sent_frames d) t) (append_assoc (flat_map pieces_of (items_owed_on t os)) (pieces_of item) more)
                ∙ st.queues alive t lives (pieces_of item ++ more)
                ∙ sym (append_assoc (pieces_on t w.queues) (pieces_of item) more)
                ∙ ap (λ ps. ps ++ more) (sym now)
            | inr other ↦
                let now : pieces_on t rs ≡ pieces_on t w.queues =
                pushed t ∙ ap (λ b. cond b (pieces_on t w.queues ++ pieces_of item) (pieces_on t w.queues)) other in
                let items : items_owed_on t (os ++ record { stream = s; item = item } ∷ []) ≡ items_owed_on t os =
                push ∙ ap (λ b. items_owed_on t os ++ cond b (item ∷ []) []) other ∙ append-nil (items_owed_on t os) in
                ap (λ is. pieces_after_frames (sent_frames d) t (flat_map pieces_of is ++ more)) items ∙ st.queues alive t lives more
                ∙ ap (λ ps. ps ++ more) (sym now)
          ];
    })

pub stands_failed : (v : Standing) (w : Sending) (d : List Entry) (os : List OwedItem) (s : ℕ) (item : Item) → v.failed ≡ true →
    AreStreams v d → IsSending w d os → IsSending w d (owed_with_item d os s item)
stands_failed v w d os s item failed at st =
    let failed' : has_failed d ≡ true = sym at.fault ∙ failed in
    let e : owed_with_item d os s item ≡ os = ap (λ b. owed_by b (list_any (λ t. t == s) (live_streams d)) os s item) failed' in
    subst (λ (o : List OwedItem). IsSending w d o) (sym e) st

-- nothing is owed to a stream that is not live
pub stands_unowed : (v : Standing) (w : Sending) (d : List Entry) (os : List OwedItem) (s : ℕ) (item : Item) →
    list_any (number_is s) v.live ≡ false → AreStreams v d → IsSending w d os → IsSending w d (owed_with_item d os s item)
stands_unowed v w d os s item dead at st = elim (cases_Bool (v.failed)) [
  | inl failed ↦ stands_failed v w d os s item failed at st
  | inr alive ↦
      let dead' : list_any (λ t. t == s) (live_streams d) ≡ false = sym (live_is v d s at alive) ∙ dead in
      let alive' : has_failed d ≡ false = sym at.fault ∙ alive in
      let e : owed_with_item d os s item ≡ os = ap (λ b. owed_by b (list_any (λ t. t == s) (live_streams d)) os s item) alive'
      ∙ ap (λ b. owed_by false b os s item) dead' in
      subst (λ (o : List OwedItem). IsSending w d o) (sym e) st
]

-- the same pieces in other queues
pub stands_same : (w : Sending) (d : List Entry) (os : List OwedItem) (rs : List Queue) →
    ((t : ℕ) → pieces_on t rs ≡ pieces_on t w.queues) → IsSending w d os →
    IsSending (record { pending = w.pending; position = w.position; queues = rs }) d os
stands_same w d os rs same st = record {
  pending = st.pending;
  taken = st.taken;
  position = st.position;
  queues = λ alive t lives more. st.queues alive t lives more ∙ ap (λ ps. ps ++ more) (sym (same t));
}

-- ---- the same by what the code holds

pub took_by : (texts : SourceTexts) (w v : StoredSending) (n : ℕ) (bs : List ℕ) → w ≡ v → n ≤ length v.pending → bs ≡ drop n w.pending →
    (d : List Entry) (os : List OwedItem) → IsSending (sending_in texts v) d os →
    IsSending (record { pending = bs; position = w.position; queues = map (queue_in texts) w.queues }) (d ++ Took n ∷ []) os
took_by texts w v n bs is few new d os st =
    subst (λ (xs : List ℕ). IsSending (record { pending = xs; position = w.position; queues = map (queue_in texts) w.queues })
    (d ++ Took n ∷ []) os) (sym new)
    (stands_took (sending_in texts w) d os n (omega (arith, few, ap (λ (x : StoredSending). length x.pending) is))
    (subst (λ (x : StoredSending). IsSending (sending_in texts x) d os) (sym is) st))

pub forget_by : (texts : SourceTexts) (w v : StoredSending) (s : ℕ) (rs : List StoredQueue) → w ≡ v →
    rs ≡ filter (λ q. not (q.stream == s)) w.queues → (d : List Entry) (os : List OwedItem) → is_not_closed d s ≡ false →
    IsSending (sending_in texts v) d os → IsSending
    (record { pending = w.pending; position = w.position; queues = map (queue_in texts) rs }) d os
forget_by texts w v s rs is new d os closed st =
    subst (λ (xs : List Queue). IsSending (record { pending = w.pending; position = w.position; queues = xs }) d os)
    (sym (ap (map (queue_in texts)) new ∙ filter_in texts s w.queues))
    (stands_forget (sending_in texts w) d os s closed (subst (λ (x : StoredSending). IsSending (sending_in texts x) d os) (sym is) st))

pub control_by : (texts : SourceTexts) (w v : StoredSending) (f : Frame) (bs : List ℕ) → w ≡ v → IsControl f → bs ≡ w.pending ++ text_of f →
    (d : List Entry) (os : List OwedItem) → IsSending (sending_in texts v) d os →
    IsSending (record { pending = bs; position = w.position; queues = map (queue_in texts) w.queues }) (d ++ Out f ∷ []) os
control_by texts w v f bs is control new d os st =
    subst (λ (xs : List ℕ). IsSending (record { pending = xs; position = w.position; queues = map (queue_in texts) w.queues })
    (d ++ Out f ∷ []) os) (sym new)
    (stands_control (sending_in texts w) d os f control (subst (λ (x : StoredSending). IsSending (sending_in texts x) d os) (sym is) st))

given_in : (texts : SourceTexts) (qs rs : List StoredQueue) (s : ℕ) (p : StoredPiece) → Pushed qs rs s p →
    Given (map (queue_in texts) qs) (map (queue_in texts) rs) s (pieces_in texts p)
given_in texts qs rs s p h t =
    let back : (b : Bool) → flat_map (pieces_in texts) (cond b (stored_on t qs ++ p ∷ []) (stored_on t qs))
    ≡ cond b (flat_map (pieces_in texts) (stored_on t qs) ++ pieces_in texts p) (flat_map (pieces_in texts) (stored_on t qs)) = elim [
      | true ↦ flat_map-append (pieces_in texts) (stored_on t qs) (p ∷ [])
          ∙ ap (λ ps. flat_map (pieces_in texts) (stored_on t qs) ++ ps) (append-nil (pieces_in texts p))
      | false ↦ refl
    ] in
    on_in texts t rs ∙ ap (flat_map (pieces_in texts)) (h t) ∙ back (s == t)
    ∙ ap (λ (ps : List Piece). cond (s == t) (ps ++ pieces_in texts p) ps) (sym (on_in texts t qs))

pub owe_by : {T E : Type 0} (streams : Standing) (w v : StoredSending) (rs : List StoredQueue) (s : ℕ) (item : Item) (p : StoredPiece)
    (r : Result T E) → w ≡ v → streams.failed ≡ false → list_any (number_is s) streams.live ≡ true →
    ((texts : SourceTexts) → pieces_in texts p ≡ pieces_of item) →
    OnOk r (Pushed w.queues rs s p) →
    OnOk r ((texts : SourceTexts) (d : List Entry) (os : List OwedItem) → AreStreams streams d → IsSending (sending_in texts v) d os →
    IsSending (record { pending = w.pending; position = w.position; queues = map (queue_in texts) rs }) d (owed_with_item d os s item))
owe_by streams w v rs s item p (Err e) is alive lives piece h = tt
owe_by streams w v rs s item p (Ok x) is alive lives piece h = λ texts d os at st.
    stands_owed streams (sending_in texts w) d os s item (map (queue_in texts) rs) alive lives
    (subst (λ (y : List Piece). Given (map (queue_in texts) w.queues) (map (queue_in texts) rs) s y) (piece texts)
    (given_in texts w.queues rs s p h)) at (subst (λ (x : StoredSending). IsSending (sending_in texts x) d os) (sym is) st)

-- a range is the text of its source
pub owe_range_by : {T E : Type 0} (streams : Standing) (w v : StoredSending) (rs : List StoredQueue) (s : ℕ) (p : Span) (r : Result T E) →
    w ≡ v → streams.failed ≡ false → list_any (number_is s) streams.live ≡ true → p.put ≡ 0 →
    OnOk r (Pushed w.queues rs s (Ranged p)) →
    OnOk r ((texts : SourceTexts) (digest : Digest) (d : List Entry) (os : List OwedItem) → AreStreams streams d →
    IsSending (sending_in texts v) d os → IsSending
    (record { pending = w.pending; position = w.position; queues = map (queue_in texts) rs }) d
    (owed_with_item d os s (Range digest (texts p.source) p.from (p.until - p.from))))
owe_range_by streams w v rs s p (Err e) is alive lives none h = tt
owe_range_by streams w v rs s p (Ok x) is alive lives none h = λ texts digest d os at st.
    let piece : pieces_in texts (Ranged p) ≡ pieces_of (Range digest (texts p.source) p.from (p.until - p.from)) =
    ap (λ k. without_front k (read_pieces (texts p.source) (span_text p (texts p.source)))) none
    ∙ without_none (texts p.source) most_read (length (span_text p (texts p.source))) (span_text p (texts p.source)) in
    stands_owed streams (sending_in texts w) d os s (Range digest (texts p.source) p.from (p.until - p.from))
    (map (queue_in texts) rs) alive lives (subst
    (λ (y : List Piece). Given (map (queue_in texts) w.queues) (map (queue_in texts) rs) s y) piece
    (given_in texts w.queues rs s (Ranged p) h)) at (subst (λ (x : StoredSending). IsSending (sending_in texts x) d os) (sym is) st)

-- an item of no pieces
pub stands_empty : (v : Standing) (w : Sending) (d : List Entry) (os : List OwedItem) (s : ℕ) (item : Item) → pieces_of item ≡ [] →
    AreStreams v d → IsSending w d os → IsSending w d (owed_with_item d os s item)
stands_empty v w d os s item none at st = elim (cases_Bool (v.failed)) [
  | inl failed ↦ stands_failed v w d os s item failed at st
  | inr alive ↦ elim (cases_Bool (list_any (number_is s) v.live)) [
    | inl lives ↦ stands_owed v w d os s item w.queues alive lives
        (λ t. elim (cases_Bool (s == t)) [
          | inl same ↦ rw (same, none)
              (sym (append-nil (pieces_on t w.queues)))
          | inr other ↦ rw other refl
        ]) at st
    | inr dead ↦ stands_unowed v w d os s item dead at st
  ]
]

empty_pieces : (digest : Digest) (text : List ℕ) (from until : ℕ) → from ≡ until → pieces_of (Range digest text from (until - from)) ≡ []
empty_pieces digest text from until is = let e : until - from ≡ 0 = omega (arith, is) in
    ap (λ n. read_pieces text (take n (drop from text))) e

-- a range of which nothing is to be put: it is empty, or the stream is not live
abbrev pub IsNothing : Standing → ℕ → ℕ → ℕ → Type 0
IsNothing v s from until = (from ≡ until) ⊎ ((v.failed ≡ true) ⊎ (list_any (number_is s) v.live ≡ false))

stands_nothing : (v : Standing) (w : Sending) (d : List Entry) (os : List OwedItem) (s : ℕ) (digest : Digest) (text : List ℕ)
    (from until : ℕ) → IsNothing v s from until → AreStreams v d → IsSending w d os →
    IsSending w d (owed_with_item d os s (Range digest text from (until - from)))
stands_nothing v w d os s digest text from until (inl none) at st =
    stands_empty v w d os s (Range digest text from (until - from)) (empty_pieces digest text from until none) at st
stands_nothing v w d os s digest text from until (inr (inl failed)) at st =
    stands_failed v w d os s (Range digest text from (until - from)) failed at st
stands_nothing v w d os s digest text from until (inr (inr dead)) at st =
    stands_unowed v w d os s (Range digest text from (until - from)) dead at st

pub owe_nothing_by : (streams : Standing) (w v : StoredSending) (rs : List StoredQueue) (s source from until : ℕ) → w ≡ v → rs ≡ w.queues →
    IsNothing streams s from until →
    (texts : SourceTexts) (digest : Digest) (d : List Entry) (os : List OwedItem) → AreStreams streams d →
    IsSending (sending_in texts v) d os → IsSending
    (record { pending = w.pending; position = w.position; queues = map (queue_in texts) rs }) d
    (owed_with_item d os s (Range digest (texts source) from (until - from)))
owe_nothing_by streams w v rs s source from until is same nothing texts digest d os at st =
    subst (λ (qs : List StoredQueue). IsSending (record { pending = w.pending; position = w.position; queues = map (queue_in texts) qs }) d
    (owed_with_item d os s (Range digest (texts source) from (until - from)))) (sym same)
    (stands_nothing streams (sending_in texts w) d os s digest (texts source) from until nothing at
    (subst (λ (x : StoredSending). IsSending (sending_in texts x) d os) (sym is) st))

-- after a connection error nothing more is put
pub stands_ended : (w : Sending) (d : List Entry) (os : List OwedItem) (rs : List Queue) → has_failed d ≡ true → IsSending w d os →
    IsSending (record { pending = w.pending; position = w.position; queues = rs }) d os
stands_ended w d os rs failed st = record {
  pending = st.pending;
  taken = st.taken;
  position = st.position;
  queues = λ alive s lives more. let no : true ≡ false = sym failed ∙ alive in absurd (let z : ⊥ = cc in z);
}

pub ended_by : (texts : SourceTexts) (w v : StoredSending) (rs : List StoredQueue) → w ≡ v → (d : List Entry) (os : List OwedItem) →
    has_failed d ≡ true → IsSending (sending_in texts v) d os →
    IsSending (record { pending = w.pending; position = w.position; queues = map (queue_in texts) rs }) d os
ended_by texts w v rs is d os failed st = stands_ended (sending_in texts w) d os (map (queue_in texts) rs) failed
    (subst (λ (x : StoredSending). IsSending (sending_in texts x) d os) (sym is) st)
