-- What is kept, as it is seen through a look-up.
use Rattle.std.proofs.Common.{◌≡◌, ℕ, ◌-◌, ◌<◌, ◌≤◌, List, [], ◌∷◌, ◌++◌, length, take, drop, refl, ap, ◌∙◌, sym, subst, arith, inl, inr, length-take}
use Rattle.std.specs.Prelude.{Bool, true, false, not, ◌==◌, cond, map, filter, nat_lt, ℤ, Option, Some, None}
use Rattle.std.specs.List.{flat_map}
use Rattle.std.specs.Option.{option_map_or, option_map}
use Rattle.std.proofs.lemmas.Bool.{cases_Bool, ltb-true}
use Rattle.std.proofs.lemmas.Bool.Decides.{nat_tests}
use Rattle.std.proofs.lemmas.Grind.{flat_map-append}
use Rattle.http2_streams.specs.Credit.{window_left}
use Rattle.http2_streams.specs.declared.stream.Stream.{Stream}
use Rattle.grpc_calls.specs.declared.response.ResponseBlock.{ResponseBlock}
use Rattle.grpc_sending.specs.declared.piece.StoredPiece.{StoredPiece}
use Rattle.grpc_sending.specs.declared.piece.StoredPiece.TheVariants.{Encoded, Framed, Ranged}
use Rattle.grpc_sending.specs.declared.queue.StoredQueue.{StoredQueue}
use Rattle.grpc_sending.specs.declared.turn.Due.{Due}
use Rattle.grpc_sending.specs.declared.turn.Due.TheVariants.{Opens, Gives}
use Rattle.grpc_sending.specs.Pieces.{Piece, Block, Part, Queue, most_read}
use Rattle.grpc_sending.specs.Turns.{Head, Content, Turn}
use Rattle.grpc_sending.specs.Owed.{without_front}
use Rattle.grpc_sending.specs.Pump.{part_size}
use Rattle.grpc_sending.specs.StandsFor.{pieces_on}
use Rattle.grpc_sending.specs.Step.{content_turn, turn_of, turn_on, next_turn, without_first_at, without_front_at}
use Rattle.grpc_sending.specs.StoredSending.{SourceTexts, EndsWithinText, EndWithinTexts, QueuesEndWithin, pieces_in, queue_in, stored_on}
use Rattle.grpc_sending.specs.SendingSteps.{stored_front, stored_first_at, stored_front_at, front_bytes, count_due, due_of, due_on, next_due}
use Rattle.grpc_sending.specs.Spans.{Span, span_pieces, span_ends, span_front, span_size, span_after, IsSpan}
use Rattle.grpc_sending.proofs.Spans.{span_is, span_rest, span_front_size, span_put, span_less, span_next}
use Rattle.grpc_sending.proofs.Queues.{same_test, other_test, changed_on}

pub on_in : (texts : SourceTexts) (s : ℕ) (qs : List StoredQueue) →
    pieces_on s (map (queue_in texts) qs) ≡ flat_map (pieces_in texts) (stored_on s qs)
on_in texts s [] = refl
on_in texts s (q ∷ qs) = elim (cases_Bool (q.stream == s)) [
  | inl here ↦ rw here refl
  | inr later ↦ rw later (on_in texts s qs)
]

pub filter_in : (texts : SourceTexts) (s : ℕ) (qs : List StoredQueue) →
    map (queue_in texts) (filter (λ q. not (q.stream == s)) qs) ≡ filter (λ (q : Queue). not (q.stream == s)) (map (queue_in texts) qs)
filter_in texts s [] = refl
filter_in texts s (q ∷ qs) = elim (cases_Bool (q.stream == s)) [
  | inl here ↦ rw here (filter_in texts s qs)
  | inr later ↦ rw later (ap (λ (xs : List Queue). queue_in texts q ∷ xs) (filter_in texts s qs))
]

pub none_stored : (s : ℕ) (qs : List StoredQueue) → stored_on s (filter (λ q. not (q.stream == s)) qs) ≡ []
none_stored s [] = refl
none_stored s (q ∷ qs) = elim (cases_Bool (q.stream == s))
    [ inl at ↦ rw at (none_stored s qs) | inr off ↦ rw (off, off) (none_stored s qs) ]

abbrev stored_at : (List StoredPiece → List StoredPiece) → ℕ → StoredQueue → StoredQueue
stored_at g s q = cond (q.stream == s) (record q { pieces = g q.pieces }) q

pub stored_changed : (g : List StoredPiece → List StoredPiece) (s t : ℕ) (qs : List StoredQueue) → g [] ≡ [] →
    stored_on t (map (stored_at g s) qs) ≡ cond (s == t) (g (stored_on t qs)) (stored_on t qs)
stored_changed g s t [] h = elim (cases_Bool (s == t)) [ inl yes' ↦ rw yes' (sym h) | inr no' ↦ rw no' refl ]
stored_changed g s t (q ∷ qs) h = elim (cases_Bool (q.stream == t)) [
  | inl here ↦
      let e = same_test q.stream s t here in
      elim (cases_Bool (s == t)) [
        | inl same ↦ let at : (q.stream == s) ≡ true = e ∙ same in rw (at, here, same) refl
        | inr other ↦ let at : (q.stream == s) ≡ false = e ∙ other in rw (at, here, other) refl
      ]
  | inr later ↦
      elim (cases_Bool (q.stream == s)) [
        | inl at ↦ let other : (s == t) ≡ false = other_test q.stream s t later at in rw (at, later) (stored_changed g s t qs h)
        | inr off ↦ rw (off, later) (stored_changed g s t qs h)
      ]
]

-- a change of what is kept on one stream is the change of its pieces
pub record Changes (texts : SourceTexts) (g : List StoredPiece → List StoredPiece) (f : List Piece → List Piece)
    (ps : List StoredPiece) : Type 0 where
  pub same : flat_map (pieces_in texts) (g ps) ≡ f (flat_map (pieces_in texts) ps)

changed_in : (texts : SourceTexts) (g : List StoredPiece → List StoredPiece) (f : List Piece → List Piece) (s : ℕ) (qs : List StoredQueue) →
    g [] ≡ [] → f [] ≡ [] → Changes texts g f (stored_on s qs) →
    (t : ℕ) → pieces_on t (map (queue_in texts) (map (stored_at g s) qs))
    ≡ pieces_on t (map (λ (q : Queue). cond (q.stream == s) (record q { pieces = f q.pieces }) q) (map (queue_in texts) qs))
changed_in texts g f s qs h k c t =
    let before : pieces_on t (map (queue_in texts) (map (stored_at g s) qs))
    ≡ flat_map (pieces_in texts) (cond (s == t) (g (stored_on t qs)) (stored_on t qs)) =
    on_in texts t (map (stored_at g s) qs) ∙ ap (flat_map (pieces_in texts)) (stored_changed g s t qs h) in
    let after : cond (s == t) (f (flat_map (pieces_in texts) (stored_on t qs))) (flat_map (pieces_in texts) (stored_on t qs))
    ≡ pieces_on t (map (λ (q : Queue). cond (q.stream == s) (record q { pieces = f q.pieces }) q) (map (queue_in texts) qs)) =
    ap (λ (ps : List Piece). cond (s == t) (f ps) ps) (sym (on_in texts t qs)) ∙ sym (changed_on f s t (map (queue_in texts) qs) k) in
    elim (cases_Bool (s == t)) [
      | inl same ↦
          let e : s ≡ t = grind (arith, nat_tests) in
          let c' : flat_map (pieces_in texts) (g (stored_on t qs)) ≡ f (flat_map (pieces_in texts) (stored_on t qs)) =
          ap (λ n. flat_map (pieces_in texts) (g (stored_on n qs))) (sym e) ∙ c.same
          ∙ ap (λ n. f (flat_map (pieces_in texts) (stored_on n qs))) e in
          before ∙ ap (λ b. flat_map (pieces_in texts) (cond b (g (stored_on t qs)) (stored_on t qs))) same ∙ c'
          ∙ ap (λ b. cond b (f (flat_map (pieces_in texts) (stored_on t qs))) (flat_map (pieces_in texts) (stored_on t qs))) (sym same)
          ∙ after
      | inr other ↦
          before ∙ ap (λ b. flat_map (pieces_in texts) (cond b (g (stored_on t qs)) (stored_on t qs))) other
          ∙ ap (λ b. cond b (f (flat_map (pieces_in texts) (stored_on t qs))) (flat_map (pieces_in texts) (stored_on t qs))) (sym other)
          ∙ after
    ]

-- ---- turns

abbrev pub counted : Turn → Due
counted (Head s block ended) = Opens s block ended
counted (Content s part) = Gives s (length part)

count_is : (s n : ℕ) (bytes : List ℕ) → n ≤ length bytes → count_due s n ≡ option_map counted (content_turn s n bytes)
count_is s n bytes h = elim (cases_Bool (n == 0)) [
  | inl none ↦ rw none refl
  | inr some ↦ let e : length (take n bytes) ≡ n = length-take n bytes ∙ omega (arith, h) in rw some (ap (λ m. Some (Gives s m)) (sym e))
]

-- a range in front
range_front : (texts : SourceTexts) (s : Span) (ps : List StoredPiece) → IsSpan most_read s (texts s.source) →
    flat_map (pieces_in texts) (Ranged s ∷ ps) ≡ Part (span_front most_read s (texts s.source)) (span_ends most_read s (texts s.source)) ∷
    (span_rest most_read s (texts s.source) ++ flat_map (pieces_in texts) ps)
range_front texts s ps h = ap (λ (qs : List Piece). qs ++ flat_map (pieces_in texts) ps)
    (span_is most_read s (texts s.source) (omega arith) h)

due_is_of : (texts : SourceTexts) (cw : ℤ) (x : Stream) (ps : List StoredPiece) → EndWithinTexts texts ps →
    due_of cw x ps ≡ option_map counted (turn_of cw x (flat_map (pieces_in texts) ps))
due_is_of texts cw x [] h = refl
due_is_of texts cw x (Encoded block ∷ ps) h = refl
due_is_of texts cw x (Framed bytes ∷ ps) h = count_is x.number (part_size (length bytes) (window_left x.window) cw) bytes (omega arith)
due_is_of texts cw x (Ranged s ∷ ps) h =
    let bytes : List ℕ = span_front most_read s (texts s.source) in
    let size : length (span_front most_read s (texts s.source)) ≡ span_size most_read s =
    span_front_size most_read s (texts s.source) h.0 in
    ap (λ k. count_due x.number (part_size k (window_left x.window) cw)) (sym size)
    ∙ count_is x.number (part_size (length (span_front most_read s (texts s.source))) (window_left x.window) cw)
    (span_front most_read s (texts s.source)) (omega arith)
    ∙ ap (λ (qs : List Piece). option_map counted (turn_of cw x qs)) (sym (range_front texts s ps h.0))

due_is_on : (texts : SourceTexts) (qs : List StoredQueue) (cw : ℤ) (x : Stream) → QueuesEndWithin texts qs →
    due_on qs cw x ≡ option_map counted (turn_on (map (queue_in texts) qs) cw x)
due_is_on texts qs cw x h = due_is_of texts cw x (stored_on x.number qs) (h x.number)
    ∙ ap (λ (ps : List Piece). option_map counted (turn_of cw x ps)) (sym (on_in texts x.number qs))

option_or_map : {A B : Type 0} (f : A → B) (x y : Option A) →
    option_map_or Some (option_map f x) (option_map f y) ≡ option_map f (option_map_or Some x y)
option_or_map f None y = refl
option_or_map f (Some x) y = refl

pub due_is : (texts : SourceTexts) (qs : List StoredQueue) (cw : ℤ) (xs : List Stream) → QueuesEndWithin texts qs →
    next_due qs cw xs ≡ option_map counted (next_turn (map (queue_in texts) qs) cw xs)
due_is texts qs cw [] h = refl
due_is texts qs cw (x ∷ xs) h =
    let this : Option Turn = turn_on (map (queue_in texts) qs) cw x in
    let later : Option Turn = next_turn (map (queue_in texts) qs) cw xs in
    ap (λ (o : Option Due). option_map_or Some o (next_due qs cw xs)) (due_is_on texts qs cw x h)
    ∙ ap (λ (o : Option Due). option_map_or Some (option_map counted this) o) (due_is texts qs cw xs h)
    ∙ option_or_map counted this later

none_counted : (o : Option Turn) → option_map counted o ≡ None → o ≡ None
none_counted None h = refl
none_counted (Some t) h = cc

head_counted : (o : Option Turn) (s : ℕ) (block : ResponseBlock) (ended : Bool) → option_map counted o ≡ Some (Opens s block ended) →
    o ≡ Some (Head s block ended)
head_counted None s block ended h = cc
head_counted (Some (Head t b e)) s block ended h =
    let k : Some (Opens t b e) ≡ Some (Opens s block ended) = h in
    let p : t ≡ s = cc in let q : b ≡ block = cc in let r : e ≡ ended = cc in
    ap (λ n. Some (Head n b e)) p ∙ ap (λ (y : ResponseBlock). Some (Head s y e)) q ∙ ap (λ (z : Bool). Some (Head s block z)) r
head_counted (Some (Content t part)) s block ended h = let k : Some (Gives t (length part)) ≡ Some (Opens s block ended) = h in cc

pub record Counted (o : Option Turn) (s n : ℕ) : Type 0 where
  pub part : List ℕ
  pub turn : o ≡ Some (Content s part)
  pub size : length part ≡ n

content_counted : (o : Option Turn) (s n : ℕ) → option_map counted o ≡ Some (Gives s n) → Counted o s n
content_counted None s n h = cc
content_counted (Some (Head t b e)) s n h = let k : Some (Opens t b e) ≡ Some (Gives s n) = h in cc
content_counted (Some (Content t part)) s n h =
    let k : Some (Gives t (length part)) ≡ Some (Gives s n) = h in
    let p : t ≡ s = cc in
    record { part = part; turn = ap (λ m. Some (Content m part)) p; size = cc }

pub turn_none : (texts : SourceTexts) (qs : List StoredQueue) (cw : ℤ) (xs : List Stream) → QueuesEndWithin texts qs →
    next_due qs cw xs ≡ None → next_turn (map (queue_in texts) qs) cw xs ≡ None
turn_none texts qs cw xs fit h = none_counted (next_turn (map (queue_in texts) qs) cw xs) (sym (due_is texts qs cw xs fit) ∙ h)

pub turn_head : (texts : SourceTexts) (qs : List StoredQueue) (cw : ℤ) (xs : List Stream) (s : ℕ) (block : ResponseBlock) (ended : Bool) →
    QueuesEndWithin texts qs → next_due qs cw xs ≡ Some (Opens s block ended) →
    next_turn (map (queue_in texts) qs) cw xs ≡ Some (Head s block ended)
turn_head texts qs cw xs s block ended fit h =
    head_counted (next_turn (map (queue_in texts) qs) cw xs) s block ended (sym (due_is texts qs cw xs fit) ∙ h)

pub turn_content : (texts : SourceTexts) (qs : List StoredQueue) (cw : ℤ) (xs : List Stream) (s n : ℕ) → QueuesEndWithin texts qs →
    next_due qs cw xs ≡ Some (Gives s n) → Counted (next_turn (map (queue_in texts) qs) cw xs) s n
turn_content texts qs cw xs s n fit h = content_counted (next_turn (map (queue_in texts) qs) cw xs) s n
    (sym (due_is texts qs cw xs fit) ∙ h)

-- ---- changes

block_front : (texts : SourceTexts) (block : ResponseBlock) (rest : List Piece) (ps : List StoredPiece) → EndWithinTexts texts ps →
    flat_map (pieces_in texts) ps ≡ Block block ∷ rest → Changes texts (drop 1) (drop 1) ps
block_front texts block rest [] fit h = record { same = refl }
block_front texts block rest (Encoded b ∷ ps) fit h = record { same = refl }
block_front texts block rest (Framed bytes ∷ ps) fit h = record { same = refl }
block_front texts block rest (Ranged s ∷ ps) fit h =
    let k : Part (span_front most_read s (texts s.source)) (span_ends most_read s (texts s.source)) ∷
    (span_rest most_read s (texts s.source) ++ flat_map (pieces_in texts) ps) ≡ Block block ∷ rest =
    sym (range_front texts s ps fit.0) ∙ h in cc

pub block_removed : (texts : SourceTexts) (s : ℕ) (qs : List StoredQueue) (block : ResponseBlock) (rest : List Piece) →
    QueuesEndWithin texts qs → pieces_on s (map (queue_in texts) qs) ≡ Block block ∷ rest →
    (t : ℕ) → pieces_on t (map (queue_in texts) (map (stored_first_at s) qs))
    ≡ pieces_on t (map (without_first_at s) (map (queue_in texts) qs))
block_removed texts s qs block rest fit is = changed_in texts (drop 1) (drop 1) s qs refl refl
    (block_front texts block rest (stored_on s qs) (fit s) (sym (on_in texts s qs) ∙ is))

after_shown : (texts : SourceTexts) (n : ℕ) (s : Span) →
    flat_map (pieces_in texts) (map Ranged (span_after most_read n s))
    ≡ flat_map (λ (u : Span). span_pieces most_read u (texts s.source)) (span_after most_read n s)
after_shown texts n s = elim (cases_Bool (nat_lt n (span_size most_read s))) [
  | inl part ↦ rw part refl
  | inr whole ↦ elim (cases_Bool (nat_lt most_read (s.until - s.from)))
      [ inl more ↦ rw (whole, more) refl | inr last ↦ rw (whole, last) refl ]
]

part_front : (texts : SourceTexts) (n : ℕ) (bytes : List ℕ) (ends : List (List ℕ)) (rest : List Piece) (ps : List StoredPiece) →
    EndWithinTexts texts ps → flat_map (pieces_in texts) ps ≡ Part bytes ends ∷ rest → n ≤ length bytes →
    Changes texts (stored_front n) (without_front n) ps
part_front texts n bytes ends rest [] fit h k = record { same = refl }
part_front texts n bytes ends rest (Encoded b ∷ ps) fit h k = record { same = refl }
part_front texts n bytes ends rest (Framed bs ∷ ps) fit h k = elim (cases_Bool (nat_lt n (length bs))) [
  | inl less ↦ record { same = rw less refl }
  | inr all ↦ record { same = rw all refl }
]
part_front texts n bytes ends rest (Ranged s ∷ ps) fit h k =
    let e : Part (span_front most_read s (texts s.source)) (span_ends most_read s (texts s.source)) ∷
    (span_rest most_read s (texts s.source) ++ flat_map (pieces_in texts) ps) ≡ Part bytes ends ∷ rest =
    sym (range_front texts s ps fit.0) ∙ h in
    let b : span_front most_read s (texts s.source) ≡ bytes = cc in
    let few : n ≤ span_size most_read s = omega (arith, k, ap length b, span_front_size most_read s (texts s.source) fit.0) in
    record {
      same = flat_map-append (pieces_in texts) (map Ranged (span_after most_read n s)) ps
          ∙ ap (λ (qs : List Piece). qs ++ flat_map (pieces_in texts) ps) (after_shown texts n s)
          ∙ span_put most_read n s (texts s.source) (flat_map (pieces_in texts) ps) (omega arith) fit.0 few;
    }

pub part_removed : (texts : SourceTexts) (s n : ℕ) (qs : List StoredQueue) (bytes : List ℕ) (ends : List (List ℕ)) (rest : List Piece) →
    QueuesEndWithin texts qs → pieces_on s (map (queue_in texts) qs) ≡ Part bytes ends ∷ rest → n ≤ length bytes →
    (t : ℕ) → pieces_on t (map (queue_in texts) (map (stored_front_at s n) qs))
    ≡ pieces_on t (map (without_front_at s n) (map (queue_in texts) qs))
part_removed texts s n qs bytes ends rest fit is short =
    changed_in texts (stored_front n) (without_front n) s qs refl refl
    (part_front texts n bytes ends rest (stored_on s qs) (fit s) (sym (on_in texts s qs) ∙ is) short)

front_of : (texts : SourceTexts) (bytes : List ℕ) (ends : List (List ℕ)) (rest : List Piece) (ps : List StoredPiece) →
    EndWithinTexts texts ps → flat_map (pieces_in texts) ps ≡ Part bytes ends ∷ rest → front_bytes texts ps ≡ bytes
front_of texts bytes ends rest [] fit h = cc
front_of texts bytes ends rest (Encoded b ∷ ps) fit h = let k : Block b ∷ flat_map (pieces_in texts) ps ≡ Part bytes ends ∷ rest = h in cc
front_of texts bytes ends rest (Framed bs ∷ ps) fit h = let k : Part bs [] ∷ flat_map (pieces_in texts) ps ≡ Part bytes ends ∷ rest = h in
    cc
front_of texts bytes ends rest (Ranged s ∷ ps) fit h =
    let k : Part (span_front most_read s (texts s.source)) (span_ends most_read s (texts s.source)) ∷
    (span_rest most_read s (texts s.source) ++ flat_map (pieces_in texts) ps) ≡ Part bytes ends ∷ rest =
    sym (range_front texts s ps fit.0) ∙ h in cc

pub front_is : (texts : SourceTexts) (s : ℕ) (qs : List StoredQueue) (bytes : List ℕ) (ends : List (List ℕ)) (rest : List Piece) →
    QueuesEndWithin texts qs → pieces_on s (map (queue_in texts) qs) ≡ Part bytes ends ∷ rest → front_bytes texts (stored_on s qs) ≡ bytes
front_is texts s qs bytes ends rest fit is = front_of texts bytes ends rest (stored_on s qs) (fit s) (sym (on_in texts s qs) ∙ is)

-- where nothing, or a block, comes first there are no bytes
pub none_there : (texts : SourceTexts) (n : ℕ) (ps : List StoredPiece) → ps ≡ [] → 0 < n → n ≤ length (front_bytes texts ps) → ⊥
none_there texts n ps is some there = let e : front_bytes texts ps ≡ [] = ap (front_bytes texts) is in
    omega (arith, some, there, ap length e)

pub block_there : (texts : SourceTexts) (n : ℕ) (block : ResponseBlock) (p : StoredPiece) → p ≡ Encoded block → 0 < n →
    n ≤ length (front_bytes texts (p ∷ [])) → ⊥
block_there texts n block p is some there = let e : front_bytes texts (p ∷ []) ≡ [] =
    ap (λ (q : StoredPiece). front_bytes texts (q ∷ [])) is in omega (arith, some, there, ap length e)

front_alone : (texts : SourceTexts) (p : StoredPiece) (ps : List StoredPiece) → front_bytes texts (p ∷ ps) ≡ front_bytes texts (p ∷ [])
front_alone texts (Encoded block) ps = refl
front_alone texts (Framed bytes) ps = refl
front_alone texts (Ranged s) ps = refl

pub front_first : (texts : SourceTexts) (ps qs : List StoredPiece) (p : StoredPiece) → ps ≡ p ∷ qs →
    front_bytes texts ps ≡ front_bytes texts (p ∷ [])
front_first texts ps qs p is = ap (front_bytes texts) is ∙ front_alone texts p qs

-- ---- ranges stay within their texts

fit_more : (texts : SourceTexts) (ps qs : List StoredPiece) → EndWithinTexts texts ps → EndWithinTexts texts qs →
    EndWithinTexts texts (ps ++ qs)
fit_more texts [] qs h k = k
fit_more texts (p ∷ ps) qs h k = (h.0, fit_more texts ps qs h.1 k)

fit_first : (texts : SourceTexts) (ps : List StoredPiece) → EndWithinTexts texts ps → EndWithinTexts texts (drop 1 ps)
fit_first texts [] h = h
fit_first texts (p ∷ ps) h = h.1

fit_after : (texts : SourceTexts) (n : ℕ) (s : Span) → IsSpan most_read s (texts s.source) →
    EndWithinTexts texts (map Ranged (span_after most_read n s))
fit_after texts n s h = elim (cases_Bool (nat_lt n (span_size most_read s))) [
  | inl part ↦ rw part (span_less most_read n s (texts s.source) h (ltb-true n (span_size most_read s) part), tt)
  | inr whole ↦ elim (cases_Bool (nat_lt most_read (s.until - s.from))) [
    | inl more ↦ rw (whole, more) (span_next most_read s (texts s.source) h (ltb-true most_read (s.until - s.from) more), tt)
    | inr last ↦ rw (whole, last) tt
  ]
]

fit_front : (texts : SourceTexts) (n : ℕ) (ps : List StoredPiece) → EndWithinTexts texts ps → EndWithinTexts texts (stored_front n ps)
fit_front texts n [] h = h
fit_front texts n (Encoded b ∷ ps) h = h
fit_front texts n (Framed bytes ∷ ps) h = elim (cases_Bool (nat_lt n (length bytes))) [ inl less ↦ rw less h | inr all ↦ rw all h.1 ]
fit_front texts n (Ranged s ∷ ps) h = fit_more texts (map Ranged (span_after most_read n s)) ps (fit_after texts n s h.0) h.1

fit_if : (texts : SourceTexts) (b : Bool) (ps qs : List StoredPiece) → EndWithinTexts texts ps → EndWithinTexts texts qs →
    EndWithinTexts texts (cond b ps qs)
fit_if texts true ps qs h k = h
fit_if texts false ps qs h k = k

pub fit_removed : (texts : SourceTexts) (s : ℕ) (qs rs : List StoredQueue) → rs ≡ map (stored_first_at s) qs → QueuesEndWithin texts qs →
    QueuesEndWithin texts rs
fit_removed texts s qs rs is h t = subst (EndWithinTexts texts) (sym (ap (stored_on t) is ∙ stored_changed (drop 1) s t qs refl))
    (fit_if texts (s == t) (drop 1 (stored_on t qs)) (stored_on t qs) (fit_first texts (stored_on t qs) (h t)) (h t))

pub fit_taken : (texts : SourceTexts) (s n : ℕ) (qs rs : List StoredQueue) → rs ≡ map (stored_front_at s n) qs → QueuesEndWithin texts qs →
    QueuesEndWithin texts rs
fit_taken texts s n qs rs is h t = subst (EndWithinTexts texts) (sym (ap (stored_on t) is ∙ stored_changed (stored_front n) s t qs refl))
    (fit_if texts (s == t) (stored_front n (stored_on t qs)) (stored_on t qs) (fit_front texts n (stored_on t qs) (h t)) (h t))

pub forgotten_stored : (s t : ℕ) (qs : List StoredQueue) → (s == t) ≡ false →
    stored_on t (filter (λ q. not (q.stream == s)) qs) ≡ stored_on t qs
forgotten_stored s t [] h = refl
forgotten_stored s t (q ∷ qs) h = elim (cases_Bool (q.stream == s)) [
  | inl at ↦ let off : (q.stream == t) ≡ false = grind (arith, nat_tests) in rw (at, off) (forgotten_stored s t qs h)
  | inr off ↦ rw off (ap (λ ps. cond (q.stream == t) q.pieces ps) (forgotten_stored s t qs h))
]

pub fit_forgotten : (texts : SourceTexts) (s : ℕ) (qs rs : List StoredQueue) → rs ≡ filter (λ q. not (q.stream == s)) qs →
    QueuesEndWithin texts qs → QueuesEndWithin texts rs
fit_forgotten texts s qs rs is h t = elim (cases_Bool (s == t)) [
  | inl same ↦ let e : s ≡ t = grind (arith, nat_tests) in
      subst (EndWithinTexts texts) (sym (ap (stored_on t) is ∙ ap (λ k. stored_on t (filter (λ q. not (q.stream == k)) qs)) e
      ∙ none_stored t qs)) tt
  | inr other ↦ subst (EndWithinTexts texts) (sym (ap (stored_on t) is ∙ forgotten_stored s t qs other)) (h t)
]

pub fit_pushed : (texts : SourceTexts) (s : ℕ) (p : StoredPiece) (qs rs : List StoredQueue) →
    ((t : ℕ) → stored_on t rs ≡ cond (s == t) (stored_on t qs ++ p ∷ []) (stored_on t qs)) → EndsWithinText texts p →
    QueuesEndWithin texts qs → QueuesEndWithin texts rs
fit_pushed texts s p qs rs is fits h t = subst (EndWithinTexts texts) (sym (is t))
    (fit_if texts (s == t) (stored_on t qs ++ p ∷ []) (stored_on t qs) (fit_more texts (stored_on t qs) (p ∷ []) (h t) (fits, tt)) (h t))
