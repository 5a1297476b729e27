-- Queues in rising order of their streams: what a search finds, and what an edit at that place
-- does.
use Rattle.std.proofs.Common.{◌≡◌, ℕ, zero, suc, ◌+◌, ◌<◌, ◌≤◌, List, [], ◌∷◌, ◌++◌, length, get_or, refl, ap, ◌∙◌, sym, subst, arith, inl, inr}
use Rattle.std.proofs.Math.ListN.{set}
use Rattle.std.specs.Prelude.{true, false, not, ◌==◌, map, filter, slice_index_or, slice_set, Result, Ok, Err, IfOk, IfErr, OnOk}
use Rattle.std.specs.List.{insert, remove}
use Rattle.std.specs.List.Sorted.{IsSearchInRange, IsBinarySearchResult, IsNonDecreasingBy}
use Rattle.std.specs.Ordering.{nat_cmp, ordering_index}
use Rattle.std.proofs.lemmas.Bool.{cases_Bool}
use Rattle.std.proofs.lemmas.Bool.Decides.{nat_tests}
use Rattle.std.proofs.lemmas.Cmp.{ranked}
use Rattle.std.proofs.lemmas.List.{get_or_default}
use Rattle.std.proofs.lemmas.List.Sorted.{IsNonDecreasingBy-from_default}
use Rattle.grpc_sending.specs.declared.piece.StoredPiece.{StoredPiece}
use Rattle.grpc_sending.specs.declared.queue.Removal.{Removal}
use Rattle.grpc_sending.specs.declared.queue.StoredQueue.{StoredQueue}
use Rattle.grpc_sending.specs.Sources.{AreSame, sum_over, sources_in, sources_held, source_of, Spends, SpendsOf}
use Rattle.grpc_sending.specs.SortedQueues.{AreAbove, AreSorted, IsQueueAt, IsGapFor}
use Rattle.grpc_sending.specs.StoredSending.{stored_on}
use Rattle.grpc_sending.specs.SendingSteps.{first_at, pieces_left, left_at, with_piece}
use Rattle.grpc_sending.proofs.Pushes.{Pushed, pushed_at_by}
use Rattle.grpc_sending.proofs.Sources.{sum_append, same_set, few_at, pushed_sources}

-- ---- orders

pub above_more : (s t : ℕ) (qs : List StoredQueue) → s < t → AreAbove t qs → AreAbove s qs
above_more s t [] lt h = tt
above_more s t (q ∷ qs) lt h = (let a = h.0 in omega (arith, lt, a), above_more s t qs lt h.1)

other : (s : ℕ) (q : StoredQueue) → q.stream < s → (q.stream == s) ≡ false
other s q lt = grind (arith, nat_tests)

higher : (s : ℕ) (q : StoredQueue) → s < q.stream → (q.stream == s) ≡ false
higher s q lt = grind (arith, nat_tests)

itself : (s : ℕ) (q : StoredQueue) → q.stream ≡ s → (q.stream == s) ≡ true
itself s q is = grind (arith, nat_tests)

-- ---- a stream with no queue

pub above_none : (s : ℕ) (qs : List StoredQueue) → AreAbove s qs → stored_on s qs ≡ []
above_none s [] h = refl
above_none s (q ∷ qs) h = let off = higher s q h.0 in rw off (above_none s qs h.1)

pub gap_none : (s : ℕ) (qs : List StoredQueue) (i : ℕ) → IsGapFor s qs i → stored_on s qs ≡ []
gap_none s qs zero h = above_none s qs h
gap_none s [] (suc i) h = absurd h
gap_none s (q ∷ qs) (suc i) h = let off = other s q h.0 in rw off (gap_none s qs i h.1)

above_left : (r : Removal) (s : ℕ) (qs : List StoredQueue) → AreAbove s qs → map (left_at r s) qs ≡ qs
above_left r s [] h = refl
above_left r s (q ∷ qs) h = let off = higher s q h.0 in rw off (ap (λ (xs : List StoredQueue). q ∷ xs) (above_left r s qs h.1))

pub gap_left : (r : Removal) (s : ℕ) (qs : List StoredQueue) (i : ℕ) → IsGapFor s qs i → map (left_at r s) qs ≡ qs
gap_left r s qs zero h = above_left r s qs h
gap_left r s [] (suc i) h = absurd h
gap_left r s (q ∷ qs) (suc i) h = let off = other s q h.0 in rw off (ap (λ (xs : List StoredQueue). q ∷ xs) (gap_left r s qs i h.1))

above_kept : (s : ℕ) (qs : List StoredQueue) → AreAbove s qs → filter (λ (q : StoredQueue). not (q.stream == s)) qs ≡ qs
above_kept s [] h = refl
above_kept s (q ∷ qs) h = let off = higher s q h.0 in rw off (ap (λ (xs : List StoredQueue). q ∷ xs) (above_kept s qs h.1))

pub gap_kept : (s : ℕ) (qs : List StoredQueue) (i : ℕ) → IsGapFor s qs i → filter (λ (q : StoredQueue). not (q.stream == s)) qs ≡ qs
gap_kept s qs zero h = above_kept s qs h
gap_kept s [] (suc i) h = absurd h
gap_kept s (q ∷ qs) (suc i) h = let off = other s q h.0 in rw off (ap (λ (xs : List StoredQueue). q ∷ xs) (gap_kept s qs i h.1))

-- a queue in the gap
pub gap_pushed : (s : ℕ) (p : StoredPiece) (qs : List StoredQueue) (i : ℕ) → IsGapFor s qs i →
    Pushed qs (insert qs i (record { stream = s; pieces = p ∷ [] })) s p
gap_pushed s p qs zero h t = elim (cases_Bool (s == t)) [
  | inl same ↦ let e : s ≡ t = grind (arith, nat_tests) in let none : stored_on t qs ≡ [] =
      ap (λ n. stored_on n qs) (sym e) ∙ above_none s qs h in rw (same, none) refl
  | inr differs ↦ rw differs refl
]
gap_pushed s p [] (suc i) h t = absurd h
gap_pushed s p (q ∷ qs) (suc i) h t = elim (cases_Bool (q.stream == t)) [
  | inl here ↦ let differs : (s == t) ≡ false = let lt = h.0 in grind (arith, nat_tests) in rw (here, differs) refl
  | inr off ↦ rw off (gap_pushed s p qs i h.1 t)
]

gap_above : (n s : ℕ) (ps : List StoredPiece) (qs : List StoredQueue) (i : ℕ) → n < s → AreAbove n qs → IsGapFor s qs i →
    AreAbove n (insert qs i (record { stream = s; pieces = ps }))
gap_above n s ps qs zero lt above h = (lt, above)
gap_above n s ps [] (suc i) lt above h = absurd h
gap_above n s ps (q ∷ qs) (suc i) lt above h = (above.0, gap_above n s ps qs i lt above.1 h.1)

pub gap_sorted : (s : ℕ) (ps : List StoredPiece) (qs : List StoredQueue) (i : ℕ) → AreSorted qs → IsGapFor s qs i →
    AreSorted (insert qs i (record { stream = s; pieces = ps }))
gap_sorted s ps qs zero sorted h = (h, sorted)
gap_sorted s ps [] (suc i) sorted h = absurd h
gap_sorted s ps (q ∷ qs) (suc i) sorted h = (gap_above q.stream s ps qs i h.0 sorted.0 h.1, gap_sorted s ps qs i sorted.1 h.1)

-- ---- the queue of a stream

pub at_below : (s : ℕ) (qs : List StoredQueue) (i : ℕ) → IsQueueAt s qs i → i < length qs
at_below s [] i h = absurd h
at_below s (q ∷ qs) zero h = omega arith
at_below s (q ∷ qs) (suc i) h = let lt = at_below s qs i h.1 in omega (arith, lt)

pub at_first : (s : ℕ) (qs : List StoredQueue) (i : ℕ) → IsQueueAt s qs i → i ≡ first_at s qs
at_first s [] i h = absurd h
at_first s (q ∷ qs) zero h = let here = itself s q h.0 in rw here refl
at_first s (q ∷ qs) (suc i) h = let off = other s q h.0 in rw off (ap suc (at_first s qs i h.1))

pub at_stored : (s : ℕ) (qs : List StoredQueue) (i : ℕ) (d : StoredQueue) → IsQueueAt s qs i → (get_or qs i d).pieces ≡ stored_on s qs
at_stored s [] i d h = absurd h
at_stored s (q ∷ qs) zero d h = let here = itself s q h.0 in rw here refl
at_stored s (q ∷ qs) (suc i) d h = let off = other s q h.0 in rw off (at_stored s qs i d h.1)

pub at_left : (r : Removal) (s : ℕ) (qs : List StoredQueue) (i : ℕ) (d : StoredQueue) (ps : List StoredPiece) → IsQueueAt s qs i →
    ps ≡ pieces_left r (get_or qs i d).pieces →
    set qs i (record { stream = (get_or qs i d).stream; pieces = ps }) ≡ map (left_at r s) qs
at_left r s [] i d ps h is = absurd h
at_left r s (q ∷ qs) zero d ps h is =
    let here = itself s q h.0 in
    rw here (ap (λ (xs : List StoredPiece). record { stream = q.stream; pieces = xs } ∷ qs) is
    ∙ ap (λ (xs : List StoredQueue). record { stream = q.stream; pieces = pieces_left r q.pieces } ∷ xs) (sym (above_left r s qs h.1)))
at_left r s (q ∷ qs) (suc i) d ps h is = let off = other s q h.0 in
    rw off (ap (λ (xs : List StoredQueue). q ∷ xs) (at_left r s qs i d ps h.1 is))

pub at_kept : (s : ℕ) (qs : List StoredQueue) (i : ℕ) → IsQueueAt s qs i →
    remove qs i ≡ filter (λ (q : StoredQueue). not (q.stream == s)) qs
at_kept s [] i h = absurd h
at_kept s (q ∷ qs) zero h = let here = itself s q h.0 in rw here (sym (above_kept s qs h.1))
at_kept s (q ∷ qs) (suc i) h = let off = other s q h.0 in rw off (ap (λ (xs : List StoredQueue). q ∷ xs) (at_kept s qs i h.1))

-- ---- the order stays

left_above : (r : Removal) (s n : ℕ) (qs : List StoredQueue) → AreAbove n qs → AreAbove n (map (left_at r s) qs)
left_above r s n [] h = tt
left_above r s n (q ∷ qs) h = elim (cases_Bool (q.stream == s)) [
  | inl here ↦ rw here (h.0, left_above r s n qs h.1)
  | inr off ↦ rw off (h.0, left_above r s n qs h.1)
]

pub left_sorted : (r : Removal) (s : ℕ) (qs : List StoredQueue) → AreSorted qs → AreSorted (map (left_at r s) qs)
left_sorted r s [] h = tt
left_sorted r s (q ∷ qs) h = elim (cases_Bool (q.stream == s)) [
  | inl here ↦ rw here (left_above r s q.stream qs h.0, left_sorted r s qs h.1)
  | inr off ↦ rw off (left_above r s q.stream qs h.0, left_sorted r s qs h.1)
]

kept_above : (s n : ℕ) (qs : List StoredQueue) → AreAbove n qs → AreAbove n (filter (λ (q : StoredQueue). not (q.stream == s)) qs)
kept_above s n [] h = tt
kept_above s n (q ∷ qs) h = elim (cases_Bool (q.stream == s)) [
  | inl here ↦ rw here (kept_above s n qs h.1)
  | inr off ↦ rw off (h.0, kept_above s n qs h.1)
]

pub kept_sorted : (s : ℕ) (qs : List StoredQueue) → AreSorted qs → AreSorted (filter (λ (q : StoredQueue). not (q.stream == s)) qs)
kept_sorted s [] h = tt
kept_sorted s (q ∷ qs) h = elim (cases_Bool (q.stream == s)) [
  | inl here ↦ rw here (kept_sorted s qs h.1)
  | inr off ↦ rw off (kept_above s q.stream qs h.0, kept_sorted s qs h.1)
]

above_set : (n : ℕ) (qs : List StoredQueue) (i : ℕ) (d : StoredQueue) (ps : List StoredPiece) → AreAbove n qs →
    AreAbove n (set qs i (record { stream = (get_or qs i d).stream; pieces = ps }))
above_set n [] i d ps h = tt
above_set n (q ∷ qs) zero d ps h = h
above_set n (q ∷ qs) (suc i) d ps h = (h.0, above_set n qs i d ps h.1)

pub sorted_set : (qs : List StoredQueue) (i : ℕ) (d : StoredQueue) (ps : List StoredPiece) → AreSorted qs →
    AreSorted (set qs i (record { stream = (get_or qs i d).stream; pieces = ps }))
sorted_set [] i d ps h = tt
sorted_set (q ∷ qs) zero d ps h = h
sorted_set (q ∷ qs) (suc i) d ps h = (above_set q.stream qs i d ps h.0, sorted_set qs i d ps h.1)

-- ---- what a search finds

abbrev pub stream_at : List StoredQueue → ℕ → ℕ
stream_at qs i = (get_or qs i (record { stream = 0; pieces = [] })).stream

above_at : (n : ℕ) (qs : List StoredQueue) (i : ℕ) → AreAbove n qs → i < length qs → n < stream_at qs i
above_at n [] i h lt = absurd (omega (arith, lt))
above_at n (q ∷ qs) zero h lt = h.0
above_at n (q ∷ qs) (suc i) h lt = above_at n qs i h.1 (omega (arith, lt))

streams_rise : (qs : List StoredQueue) (i j : ℕ) → AreSorted qs → i ≤ j → j < length qs → stream_at qs i ≤ stream_at qs j
streams_rise [] i j h le lt = absurd (omega (arith, lt))
streams_rise (q ∷ qs) zero zero h le lt = omega arith
streams_rise (q ∷ qs) zero (suc j) h le lt = let a = above_at q.stream qs j h.0 (omega (arith, lt)) in omega (arith, a)
streams_rise (q ∷ qs) (suc i) zero h le lt = absurd (omega (arith, le))
streams_rise (q ∷ qs) (suc i) (suc j) h le lt = streams_rise qs i j h.1 (omega (arith, le)) (omega (arith, lt))

comparisons_rise : (qs : List StoredQueue) (s : ℕ) → AreSorted qs →
    IsNonDecreasingBy (λ (q : StoredQueue). ordering_index (nat_cmp q.stream s)) qs
comparisons_rise qs s h = IsNonDecreasingBy-from_default (λ (q : StoredQueue). ordering_index (nat_cmp q.stream s)) qs
    (record { stream = 0; pieces = [] }) (λ i j le lt.
    let rise = streams_rise qs i j h le lt in
    grind (arith, nat_tests))

found_at : (qs : List StoredQueue) (s i : ℕ) → AreSorted qs → i < length qs → stream_at qs i ≡ s → IsQueueAt s qs i
found_at [] s i h lt is = absurd (omega (arith, lt))
found_at (q ∷ qs) s zero h lt is = (is, subst (λ (n : ℕ). AreAbove n qs) is h.0)
found_at (q ∷ qs) s (suc i) h lt is = (
  let a = above_at q.stream qs i h.0 (omega (arith, lt)) in
      omega (arith, a, is),
  found_at qs s i h.1 (omega (arith, lt)) is,
)

all_above : (qs : List StoredQueue) (s : ℕ) → ((k : ℕ) → k < length qs → s < stream_at qs k) → AreAbove s qs
all_above [] s above = tt
all_above (q ∷ qs) s above = (above 0 (omega arith), all_above qs s (λ k lt. above (suc k) (omega (arith, lt))))

gap_at : (qs : List StoredQueue) (s i : ℕ) → i ≤ length qs → ((k : ℕ) → k < i → stream_at qs k < s) →
    ((k : ℕ) → i ≤ k → k < length qs → s < stream_at qs k) → IsGapFor s qs i
gap_at qs s zero le below above = all_above qs s (λ k lt. above k (omega arith) lt)
gap_at [] s (suc i) le below above = absurd (omega (arith, le))
gap_at (q ∷ qs) s (suc i) le below above = (
  below 0 (omega arith),
  gap_at qs s i (omega (arith, le))
      (λ k lt. below (suc k) (omega (arith, lt))) (λ k le' lt. above (suc k) (omega (arith, le')) (omega (arith, lt))),
)

pub searched : (qs : List StoredQueue) (s : ℕ) (r : Result ℕ ℕ) → AreSorted qs → IsSearchInRange r (length qs) →
    IsBinarySearchResult (λ (q : StoredQueue). nat_cmp q.stream s) qs r →
    record { found : IfOk r (IsQueueAt s qs); absent : IfErr r (IsGapFor s qs) }
searched qs s (Ok i) sorted in_range equal = record
    { found = found_at qs s i sorted in_range (ranked _ s _ (sym (equal (record { stream = 0; pieces = [] })))); absent = tt }
searched qs s (Err i) sorted in_range parted = record {
  found = tt;
  absent = gap_at qs s i in_range
      (λ k lt. ranked _ s _ (sym ((parted (comparisons_rise qs s sorted)).0 k (record { stream = 0; pieces = [] }) (omega arith) lt)))
      (λ k le lt. ranked _ s _ (sym ((parted (comparisons_rise qs s sorted)).1 k (record { stream = 0; pieces = [] }) le lt)));
}

-- ---- what a walk finds, by the queue at place i

same_stream : (qs : List StoredQueue) (i : ℕ) (d : StoredQueue) → i < length qs → (get_or qs i d).stream ≡ stream_at qs i
same_stream qs i d lt = ap (λ (q : StoredQueue). q.stream) (get_or_default qs i d (record { stream = 0; pieces = [] }) lt)

-- no queue before place j is behind place i
pub below_to : (qs : List StoredQueue) (s i j : ℕ) (d : StoredQueue) → AreSorted qs → i < length qs → j ≤ suc i →
    (get_or qs i d).stream < s → (k : ℕ) → k < j → stream_at qs k < s
below_to qs s i j d sorted lt le below k before =
    let rise = streams_rise qs k i sorted (omega (arith, le, before)) lt in
    let same = same_stream qs i d lt in
    omega (arith, rise, same, below)

pub walked_to : (qs : List StoredQueue) (s i : ℕ) (d : StoredQueue) → AreSorted qs → i < length qs → (get_or qs i d).stream ≡ s →
    IsQueueAt s qs i
walked_to qs s i d sorted lt is = found_at qs s i sorted lt (sym (same_stream qs i d lt) ∙ is)

pub walked_past : (qs : List StoredQueue) (s i : ℕ) (d : StoredQueue) → AreSorted qs → i < length qs → s < (get_or qs i d).stream →
    ((k : ℕ) → k < i → stream_at qs k < s) → IsGapFor s qs i
walked_past qs s i d sorted lt above below =
    let same = same_stream qs i d lt in
    gap_at qs s i (omega (arith, lt)) below (λ k le lt'. let rise = streams_rise qs i k sorted le lt' in omega (arith, rise, same, above))

pub walked_out : (qs : List StoredQueue) (s i : ℕ) → i ≤ length qs → length qs ≤ i → ((k : ℕ) → k < i → stream_at qs k < s) →
    IsGapFor s qs i
walked_out qs s i le ends below = gap_at qs s i le below (λ k le' lt. absurd (omega (arith, ends, le', lt)))

-- ---- what edits spend and take

pub at_spends : (qs : List StoredQueue) (old new : List ℕ) (i : ℕ) (d : StoredQueue) (ps : List StoredPiece) → i < length qs →
    SpendsOf (get_or qs i d).pieces old ps new →
    Spends qs old (set qs i (record { stream = (get_or qs i d).stream; pieces = ps })) new
at_spends qs old new i d ps lt step = same_set qs qs old old new i (record { stream = (get_or qs i d).stream; pieces = ps }) d lt
    (λ f. refl) step

held_removed : (f : ℕ → ℕ) (qs : List StoredQueue) (i : ℕ) (d : StoredQueue) → i < length qs →
    sum_over f (sources_held (remove qs i)) + sum_over f (sources_in (get_or qs i d).pieces) ≡ sum_over f (sources_held qs)
held_removed f [] i d lt = absurd (omega (arith, lt))
held_removed f (x ∷ xs) zero d lt = let a : sum_over f (sources_held (x ∷ xs))
    ≡ sum_over f (sources_in x.pieces) + sum_over f (sources_held xs) = sum_append f (sources_in x.pieces) (sources_held xs) in
    omega (arith, a)
held_removed f (x ∷ xs) (suc i) d lt =
    let h = held_removed f xs i d (omega (arith, lt)) in
    let a : sum_over f (sources_held (x ∷ remove xs i)) ≡ sum_over f (sources_in x.pieces) + sum_over f (sources_held (remove xs i)) =
    sum_append f (sources_in x.pieces) (sources_held (remove xs i)) in
    let b : sum_over f (sources_held (x ∷ xs)) ≡ sum_over f (sources_in x.pieces) + sum_over f (sources_held xs) =
    sum_append f (sources_in x.pieces) (sources_held xs) in
    omega (arith, a, b, h)

pub removed_spends : (qs : List StoredQueue) (old new : List ℕ) (i : ℕ) (d : StoredQueue) → i < length qs →
    SpendsOf (get_or qs i d).pieces old [] new → Spends qs old (remove qs i) new
removed_spends qs old new i d lt step f =
    let a = held_removed f qs i d lt in
    let b : sum_over f (sources_held qs ++ old) ≡ sum_over f (sources_held qs) + sum_over f old = sum_append f (sources_held qs) old in
    let c : sum_over f (sources_held (remove qs i) ++ new) ≡ sum_over f (sources_held (remove qs i)) + sum_over f new =
    sum_append f (sources_held (remove qs i)) new in
    let e : sum_over f (sources_in (get_or qs i d).pieces ++ old) ≡ sum_over f (sources_in (get_or qs i d).pieces) + sum_over f old =
    sum_append f (sources_in (get_or qs i d).pieces) old in
    omega (arith, a, b, c, e, step f)

held_inserted : (f : ℕ → ℕ) (qs : List StoredQueue) (i : ℕ) (q : StoredQueue) →
    sum_over f (sources_held (insert qs i q)) ≡ sum_over f (sources_in q.pieces) + sum_over f (sources_held qs)
held_inserted f qs zero q = sum_append f (sources_in q.pieces) (sources_held qs)
held_inserted f [] (suc i) q = sum_append f (sources_in q.pieces) []
held_inserted f (x ∷ xs) (suc i) q =
    let h = held_inserted f xs i q in
    let a : sum_over f (sources_held (x ∷ insert xs i q)) ≡ sum_over f (sources_in x.pieces) + sum_over f (sources_held (insert xs i q)) =
    sum_append f (sources_in x.pieces) (sources_held (insert xs i q)) in
    let b : sum_over f (sources_held (x ∷ xs)) ≡ sum_over f (sources_in x.pieces) + sum_over f (sources_held xs) =
    sum_append f (sources_in x.pieces) (sources_held xs) in
    omega (arith, a, b, h)

pub inserted_takes : (qs : List StoredQueue) (s i : ℕ) (p : StoredPiece) →
    AreSame (source_of p ++ sources_held qs) (sources_held (insert qs i (record { stream = s; pieces = p ∷ [] })))
inserted_takes qs s i p f =
    let a = held_inserted f qs i (record { stream = s; pieces = p ∷ [] }) in
    let b : sum_over f (source_of p ++ []) ≡ sum_over f (source_of p) + 0 = sum_append f (source_of p) [] in
    let c : sum_over f (source_of p ++ sources_held qs) ≡ sum_over f (source_of p) + sum_over f (sources_held qs) =
    sum_append f (source_of p) (sources_held qs) in
    omega (arith, a, b, c)

-- ---- the same by what the code holds

-- x stands at place i
pub changed_here : (r : Removal) (s : ℕ) (qs ds : List StoredQueue) (i : ℕ) (x : StoredQueue) (ps : List StoredPiece) → ds ≡ qs →
    IsQueueAt s ds i → x ≡ get_or qs i x → ps ≡ pieces_left r x.pieces →
    set qs i (record { stream = x.stream; pieces = ps }) ≡ map (left_at r s) qs
changed_here r s qs ds i x ps same at is left =
    ap (λ (y : StoredQueue). set qs i (record { stream = y.stream; pieces = ps })) is
    ∙ at_left r s qs i x ps (subst (λ (ys : List StoredQueue). IsQueueAt s ys i) same at)
    (left ∙ ap (λ (y : StoredQueue). pieces_left r y.pieces) is)

pub spends_here : (s : ℕ) (qs ds : List StoredQueue) (old new : List ℕ) (i : ℕ) (x : StoredQueue) (ps : List StoredPiece) → ds ≡ qs →
    IsQueueAt s ds i → x ≡ get_or qs i x → SpendsOf x.pieces old ps new →
    Spends qs old (set qs i (record { stream = x.stream; pieces = ps })) new
spends_here s qs ds old new i x ps same at is step =
    subst (λ (y : StoredQueue). Spends qs old (set qs i (record { stream = y.stream; pieces = ps })) new) (sym is)
    (at_spends qs old new i x ps (at_below s qs i (subst (λ (ys : List StoredQueue). IsQueueAt s ys i) same at))
    (subst (λ (y : StoredQueue). SpendsOf y.pieces old ps new) is step))

pub room_here : (s : ℕ) (qs ds : List StoredQueue) (i n room : ℕ) (x : StoredQueue) → ds ≡ qs → IsQueueAt s ds i → x ≡ get_or qs i x →
    length (sources_held qs) + n ≤ room → length (sources_in x.pieces) + n ≤ room
room_here s qs ds i n room x same at is fits =
    let few = few_at qs i x (at_below s qs i (subst (λ (ys : List StoredQueue). IsQueueAt s ys i) same at)) in
    let e : length (sources_in x.pieces) ≡ length (sources_in (get_or qs i x).pieces) =
    ap (λ (y : StoredQueue). length (sources_in y.pieces)) is in
    omega (arith, few, e, fits)

pub sorted_here : (qs : List StoredQueue) (i : ℕ) (x : StoredQueue) (ps : List StoredPiece) → x ≡ get_or qs i x → AreSorted qs →
    AreSorted (set qs i (record { stream = x.stream; pieces = ps }))
sorted_here qs i x ps is h = subst (λ (y : StoredQueue). AreSorted (set qs i (record { stream = y.stream; pieces = ps }))) (sym is)
    (sorted_set qs i x ps h)

-- it is removed
pub kept_here : (s : ℕ) (qs ds rs : List StoredQueue) (i : ℕ) → ds ≡ qs → IsQueueAt s ds i → rs ≡ remove qs i →
    rs ≡ filter (λ (q : StoredQueue). not (q.stream == s)) qs
kept_here s qs ds rs i same at is = is ∙ at_kept s qs i (subst (λ (ys : List StoredQueue). IsQueueAt s ys i) same at)

pub removed_here : (s : ℕ) (qs ds rs : List StoredQueue) (old new : List ℕ) (i : ℕ) (x : StoredQueue) → ds ≡ qs → IsQueueAt s ds i →
    rs ≡ remove qs i → x ≡ get_or qs i x → SpendsOf x.pieces old [] new → Spends qs old rs new
removed_here s qs ds rs old new i x same at gone is step =
    subst (λ (ys : List StoredQueue). Spends qs old ys new) (sym gone)
    (removed_spends qs old new i x (at_below s qs i (subst (λ (ys : List StoredQueue). IsQueueAt s ys i) same at))
    (subst (λ (y : StoredQueue). SpendsOf y.pieces old [] new) is step))

-- a piece is appended to it
pub pushed_here : {T E : Type 0} (r : Result T E) (s : ℕ) (qs ds rs : List StoredQueue) (i : ℕ) (p : StoredPiece) → ds ≡ qs →
    IsQueueAt s ds i → OnOk r ((q : StoredQueue) → rs ≡ slice_set qs i (with_piece p (slice_index_or qs i q))) → OnOk r (Pushed qs rs s p)
pushed_here r s qs ds rs i p same at h =
    let at' : IsQueueAt s qs i = subst (λ (ys : List StoredQueue). IsQueueAt s ys i) same at in
    pushed_at_by r qs rs s i (length qs) p (at_first s qs i at') (at_below s qs i at') refl h

pub takes_here : {T E : Type 0} (r : Result T E) (s : ℕ) (qs ds rs : List StoredQueue) (i : ℕ) (p : StoredPiece) → ds ≡ qs →
    IsQueueAt s ds i → OnOk r ((q : StoredQueue) → rs ≡ slice_set qs i (with_piece p (slice_index_or qs i q))) →
    OnOk r (AreSame (source_of p ++ sources_held qs) (sources_held rs))
takes_here r s qs ds rs i p same at h = pushed_sources r qs rs i (length qs) p
    (at_below s qs i (subst (λ (ys : List StoredQueue). IsQueueAt s ys i) same at)) refl h

-- a queue was made for its first piece, and stands in the gap
pub record IsMade (s i : ℕ) (p : StoredPiece) (qs ds rs : List StoredQueue) (old ps : List StoredPiece) : Type 0 where
  pub same : ds ≡ qs
  pub gap : IsGapFor s ds i
  pub none : old ≡ []
  pub pieces : ps ≡ old ++ p ∷ []
  pub new : rs ≡ insert qs i (record { stream = s; pieces = ps })

made : (s i : ℕ) (p : StoredPiece) (qs ds rs : List StoredQueue) (old ps : List StoredPiece) → IsMade s i p qs ds rs old ps →
    rs ≡ insert qs i (record { stream = s; pieces = p ∷ [] })
made s i p qs ds rs old ps h =
    let one : ps ≡ p ∷ [] = h.pieces ∙ ap (λ (xs : List StoredPiece). xs ++ p ∷ []) h.none in
    h.new ∙ ap (λ (xs : List StoredPiece). insert qs i (record { stream = s; pieces = xs })) one

gap_of : (s i : ℕ) (p : StoredPiece) (qs ds rs : List StoredQueue) (old ps : List StoredPiece) → IsMade s i p qs ds rs old ps →
    IsGapFor s qs i
gap_of s i p qs ds rs old ps h = subst (λ (ys : List StoredQueue). IsGapFor s ys i) h.same h.gap

pub made_pushed : (s i : ℕ) (p : StoredPiece) (qs ds rs : List StoredQueue) (old ps : List StoredPiece) → IsMade s i p qs ds rs old ps →
    Pushed qs rs s p
made_pushed s i p qs ds rs old ps h = subst (λ (ys : List StoredQueue). Pushed qs ys s p) (sym (made s i p qs ds rs old ps h))
    (gap_pushed s p qs i (gap_of s i p qs ds rs old ps h))

pub made_takes : (s i : ℕ) (p : StoredPiece) (qs ds rs : List StoredQueue) (old ps : List StoredPiece) → IsMade s i p qs ds rs old ps →
    AreSame (source_of p ++ sources_held qs) (sources_held rs)
made_takes s i p qs ds rs old ps h = subst (λ (ys : List StoredQueue). AreSame (source_of p ++ sources_held qs) (sources_held ys))
    (sym (made s i p qs ds rs old ps h)) (inserted_takes qs s i p)

pub made_sorted : (s i : ℕ) (p : StoredPiece) (qs ds rs : List StoredQueue) (old ps : List StoredPiece) → AreSorted qs →
    IsMade s i p qs ds rs old ps → AreSorted rs
made_sorted s i p qs ds rs old ps sorted h = subst AreSorted (sym (made s i p qs ds rs old ps h))
    (gap_sorted s (p ∷ []) qs i sorted (gap_of s i p qs ds rs old ps h))

-- there is none
pub none_left : (r : Removal) (s : ℕ) (qs ds : List StoredQueue) (i : ℕ) → ds ≡ qs → IsGapFor s ds i → qs ≡ map (left_at r s) qs
none_left r s qs ds i same gap = sym (gap_left r s qs i (subst (λ (ys : List StoredQueue). IsGapFor s ys i) same gap))

pub none_kept : (s : ℕ) (qs ds : List StoredQueue) (i : ℕ) → ds ≡ qs → IsGapFor s ds i →
    qs ≡ filter (λ (q : StoredQueue). not (q.stream == s)) qs
none_kept s qs ds i same gap = sym (gap_kept s qs i (subst (λ (ys : List StoredQueue). IsGapFor s ys i) same gap))
