-- Streams below that of the last turn: nothing can be put on them until the pump ends.
use Rattle.std.proofs.Common.{◌≡◌, ℕ, ◌≤◌, List, [], ◌∷◌, length, refl, ap, ◌∙◌, sym, subst, arith, inl, inr}
use Rattle.std.specs.Prelude.{false, not, ◌==◌, filter, map, drop, Option, Some, None, IfSome, ℤ, pos, negsuc, ◌≤ℤ◌}
use Rattle.std.specs.Option.{option_map_or}
use Rattle.std.proofs.lemmas.Bool.{cases_Bool}
use Rattle.std.proofs.lemmas.Bool.Decides.{nat_tests}
use Rattle.std.proofs.lemmas.Int.{ints}
use Rattle.http2_streams.specs.Credit.{window_left}
use Rattle.http2_streams.specs.declared.stream.Stream.{Stream}
use Rattle.http2_streams.specs.Rising.{AreAbove, RiseTo}
use Rattle.http2_streams.specs.Sending.{LeavesOthers}
use Rattle.http2_streams.specs.Standing.{Standing}
use Rattle.http2_streams.specs.Step.{without_stream}
use Rattle.grpc_sending.specs.declared.piece.StoredPiece.{StoredPiece}
use Rattle.grpc_sending.specs.declared.piece.StoredPiece.TheVariants.{Encoded, Framed, Ranged}
use Rattle.grpc_sending.specs.declared.queue.StoredQueue.{StoredQueue}
use Rattle.grpc_sending.specs.declared.turn.Due.{Due}
use Rattle.grpc_sending.specs.declared.turn.Due.TheVariants.{Opens, Gives}
use Rattle.grpc_sending.specs.Pieces.{most_read}
use Rattle.grpc_sending.specs.Spans.{span_size}
use Rattle.grpc_sending.specs.Pump.{natural_part, part_size}
use Rattle.grpc_sending.specs.StoredSending.{StoredSending, stored_on}
use Rattle.grpc_sending.specs.SendingSteps.{NoneDueBelow, IsDoneBelow, KeepsOthers, count_due, due_of, due_on, next_due, stream_due, stored_front, stored_first_at, stored_front_at}
use Rattle.grpc_sending.proofs.Options.{if_some}
use Rattle.grpc_sending.proofs.Stored.{stored_changed, forgotten_stored}

-- ---- the first turn

count_number : (s n : ℕ) (due : Due) → count_due s n ≡ Some due → stream_due due ≡ s
count_number s n due h =
    let e = if_some (n == 0) (Some (Gives s n)) due h in
    let is : Gives s n ≡ due = let same : Some (Gives s n) ≡ Some due = e.1 in cc in
    ap stream_due (sym is)

due_number : (cw : ℤ) (x : Stream) (ps : List StoredPiece) (due : Due) → due_of cw x ps ≡ Some due → stream_due due ≡ x.number
due_number cw x [] due h = cc
due_number cw x (Encoded block ∷ ps) due h =
    let is : Opens x.number block x.ended_by_client ≡ due = let same : Some (Opens x.number block x.ended_by_client) ≡ Some due = h in cc in
    ap stream_due (sym is)
due_number cw x (Framed bytes ∷ ps) due h = count_number x.number (part_size (length bytes) (window_left x.window) cw) due h
due_number cw x (Ranged s ∷ ps) due h = count_number x.number (part_size (span_size most_read s) (window_left x.window) cw) due h

none_above : (s n : ℕ) (qs : List StoredQueue) (cw : ℤ) (xs : List Stream) → s ≡ n → AreAbove n xs → NoneDueBelow s qs cw xs
none_above s n qs cw [] is above = tt
none_above s n qs cw (x ∷ xs) is above = (
  λ low. let high = above.0 in
      absurd (omega (arith, low, high, is)),
  none_above s n qs cw xs is above.1,
)

pub first_below : (n : ℕ) (qs : List StoredQueue) (cw : ℤ) (xs : List Stream) (due : Due) → RiseTo n xs → next_due qs cw xs ≡ Some due →
    NoneDueBelow (stream_due due) qs cw xs
first_below n qs cw [] due rise h = tt
first_below n qs cw (x ∷ xs) due rise h =
    let at : (o : Option Due) → due_on qs cw x ≡ o → option_map_or Some o (next_due qs cw xs) ≡ Some due →
    NoneDueBelow (stream_due due) qs cw (x ∷ xs) = elim [
      | None ↦ λ is e. (λ low. is, first_below n qs cw xs due rise.2 e)
      | Some z ↦ λ is e.
          let number : stream_due due ≡ x.number = due_number cw x (stored_on x.number qs) due (is ∙ e) in
          (λ low. absurd (omega (arith, low, number)), none_above (stream_due due) x.number qs cw xs number rise.1)
    ] in
    at (due_on qs cw x) refl h

pub done_at_start : (qs : List StoredQueue) (cw : ℤ) (xs : List Stream) → NoneDueBelow 0 qs cw xs
done_at_start qs cw [] = tt
done_at_start qs cw (x ∷ xs) = (λ low. absurd (omega (arith, low)), done_at_start qs cw xs)

-- ---- a turn on another stream

natural_falls : (z y : ℤ) → z ≤ℤ y → natural_part z ≤ natural_part y
natural_falls (pos m) (pos n) h = omega (arith, ints, h)
natural_falls (pos m) (negsuc n) h = absurd (omega (arith, ints, h))
natural_falls (negsuc m) y h = omega arith

count_none : (s n : ℕ) → count_due s n ≡ None → n ≡ 0
count_none s n h = elim (cases_Bool (n == 0)) [
  | inl none ↦ grind (arith, nat_tests)
  | inr some ↦ let no : Some (Gives s n) ≡ None = rw some at h in cc
]

count_falls : (s size : ℕ) (sw cw low : ℤ) → low ≤ℤ cw → count_due s (part_size size sw cw) ≡ None →
    count_due s (part_size size sw low) ≡ None
count_falls s size sw cw low less h =
    let none = count_none s (part_size size sw cw) h in
    let fewer = natural_falls low cw less in
    let none' : part_size size sw low ≡ 0 = omega (arith, none, fewer) in
    ap (count_due s) none'

due_falls : (cw low : ℤ) (x : Stream) (ps : List StoredPiece) → low ≤ℤ cw → due_of cw x ps ≡ None → due_of low x ps ≡ None
due_falls cw low x [] less h = refl
due_falls cw low x (Encoded block ∷ ps) less h = cc
due_falls cw low x (Framed bytes ∷ ps) less h = count_falls x.number (length bytes) (window_left x.window) cw low less h
due_falls cw low x (Ranged s ∷ ps) less h = count_falls x.number (span_size most_read s) (window_left x.window) cw low less h

still_none : (s : ℕ) (qs rs : List StoredQueue) (cw low : ℤ) (xs : List Stream) → KeepsOthers s qs rs → low ≤ℤ cw →
    NoneDueBelow s qs cw xs →
    NoneDueBelow s rs low xs
still_none s qs rs cw low [] keeps less h = tt
still_none s qs rs cw low (x ∷ xs) keeps less h = (
  λ under.
      let off : (s == x.number) ≡ false = grind (arith, nat_tests) in
      ap (due_of low x) (keeps x.number off) ∙ due_falls cw low x (stored_on x.number qs) less (h.0 under),
  still_none s qs rs cw low xs keeps less h.1,
)

none_without : (s : ℕ) (qs : List StoredQueue) (cw : ℤ) (xs : List Stream) → NoneDueBelow s qs cw xs →
    NoneDueBelow s qs cw (without_stream s xs)
none_without s qs cw [] h = tt
none_without s qs cw (x ∷ xs) h = elim (cases_Bool (x.number == s)) [
  | inl here ↦ rw here (none_without s qs cw xs h.1)
  | inr there ↦ rw there (h.0, none_without s qs cw xs h.1)
]

none_with : (s : ℕ) (qs : List StoredQueue) (cw : ℤ) (xs : List Stream) → NoneDueBelow s qs cw (without_stream s xs) →
    NoneDueBelow s qs cw xs
none_with s qs cw [] h = tt
none_with s qs cw (x ∷ xs) h = elim (cases_Bool (x.number == s)) [
  | inl here ↦
      let rest : NoneDueBelow s qs cw (without_stream s xs) = rw here at h in
      let e : x.number ≡ s = grind (arith, nat_tests) in
      (λ low. absurd (omega (arith, low, e)), none_with s qs cw xs rest)
  | inr there ↦
      let both : NoneDueBelow s qs cw (x ∷ without_stream s xs) = rw there at h in
      (both.0, none_with s qs cw xs both.1)
]

pub done_after : (s : ℕ) (v v1 : Standing) (qs rs : List StoredQueue) → KeepsOthers s qs rs → LeavesOthers s v v1 →
    NoneDueBelow s qs (window_left v.connection_window) v.live → NoneDueBelow s rs (window_left v1.connection_window) v1.live
done_after s v v1 qs rs keeps leaves h =
    let others : NoneDueBelow s rs (window_left v1.connection_window) (without_stream s v.live) =
    none_without s rs (window_left v1.connection_window) v.live
    (still_none s qs rs (window_left v.connection_window) (window_left v1.connection_window) v.live keeps leaves.connection h) in
    none_with s rs (window_left v1.connection_window) v1.live
    (subst (λ (xs : List Stream). NoneDueBelow s rs (window_left v1.connection_window) xs) (sym leaves.live) others)

pub done_by : (s : ℕ) (v : Standing) (w old : StoredSending) (qs : List StoredQueue) → w ≡ old → qs ≡ w.queues → IsDoneBelow s v old →
    NoneDueBelow s qs (window_left v.connection_window) v.live
done_by s v w old qs is same h =
    subst (λ (rs : List StoredQueue). NoneDueBelow s rs (window_left v.connection_window) v.live) (sym same)
    (subst (λ (x : StoredSending). IsDoneBelow s v x) (sym is) h)

-- ---- what a turn changes

pub leaves_same : (s : ℕ) (v : Standing) → LeavesOthers s v v
leaves_same s v = record { live = refl; connection = omega (arith, ints) }

pub leaves_more : (s : ℕ) (u v w : Standing) → LeavesOthers s u v → LeavesOthers s v w → LeavesOthers s u w
leaves_more s u v w a b = record {
  live = b.live ∙ a.live;
  connection =
      (let f = a.connection in let g = b.connection in omega (arith, ints, f, g));
}

pub keeps_removed : (s : ℕ) (qs rs : List StoredQueue) → rs ≡ map (stored_first_at s) qs → KeepsOthers s qs rs
keeps_removed s qs rs is t off = ap (stored_on t) is ∙ stored_changed (λ ps. drop 1 ps) s t qs refl ∙ rw off refl

pub keeps_taken : (s n : ℕ) (qs rs : List StoredQueue) → rs ≡ map (stored_front_at s n) qs → KeepsOthers s qs rs
keeps_taken s n qs rs is t off = ap (stored_on t) is ∙ stored_changed (stored_front n) s t qs refl ∙ rw off refl

pub keeps_forgotten : (s : ℕ) (w old : StoredSending) (rs : List StoredQueue) → w ≡ old → rs ≡ filter (λ q. not (q.stream == s)) w.queues →
    KeepsOthers s old.queues rs
keeps_forgotten s w old rs same is t off = ap (stored_on t) is ∙ forgotten_stored s t w.queues off
    ∙ ap (λ (x : StoredSending). stored_on t x.queues) same

pub keeps_more : (s : ℕ) (ps qs rs : List StoredQueue) → KeepsOthers s ps qs → KeepsOthers s qs rs → KeepsOthers s ps rs
keeps_more s ps qs rs a b t off = b t off ∙ a t off

pub below_if : (r : Option Due) (n : ℕ) (qs : List StoredQueue) (cw : ℤ) (xs : List Stream) → r ≡ next_due qs cw xs → RiseTo n xs →
    IfSome r (λ due. NoneDueBelow (stream_due due) qs cw xs)
below_if None n qs cw xs is rise = tt
below_if (Some due) n qs cw xs is rise = first_below n qs cw xs due rise (sym is)

-- what the turn's stream puts changes nothing for those below it
pub turn_done : (r : Option Due) (due : Due) (v v1 : Standing) (asked qs rs : List StoredQueue) →
    IfSome r (λ e. NoneDueBelow (stream_due e) asked (window_left v.connection_window) v.live) → r ≡ Some due → asked ≡ qs →
    KeepsOthers (stream_due due) qs rs → LeavesOthers (stream_due due) v v1 →
    NoneDueBelow (stream_due due) rs (window_left v1.connection_window) v1.live
turn_done r due v v1 asked qs rs below is same keeps leaves =
    let here : NoneDueBelow (stream_due due) asked (window_left v.connection_window) v.live =
    subst (λ (o : Option Due). IfSome o (λ e. NoneDueBelow (stream_due e) asked (window_left v.connection_window) v.live)) is below in
    done_after (stream_due due) v v1 qs rs keeps leaves
    (subst (λ (ps : List StoredQueue). NoneDueBelow (stream_due due) ps (window_left v.connection_window) v.live) same here)
