-- Where nothing comes next, the connection is settled.
use Rattle.std.proofs.Common.{◌≡◌, ◌≢◌, ℕ, ◌<◌, ◌≤◌, List, [], ◌∷◌, length, take, drop, zero, suc, ◌++◌, refl, ap, ◌∙◌, sym, arith, inl, inr, length-drop, length-append}
use Rattle.std.specs.Prelude.{Bool, true, false, ◌==◌, cond, min, nat_lt, nat_le, Option, Some, None, ℤ, pos, negsuc, ◌≤ℤ◌, ◌⊎◌}
use Rattle.std.specs.List.{AllByRecursion, flat_map}
use Rattle.std.specs.Option.{option_map_or}
use Rattle.std.proofs.lemmas.Bool.{cases_Bool, ltb-true}
use Rattle.std.proofs.lemmas.Bool.Decides.{nat_tests}
use Rattle.std.proofs.lemmas.Int.{ints}
use Rattle.http2_streams.specs.Credit.{window_left}
use Rattle.http2_frames.specs.declared.frame.Frame.{Frame}
use Rattle.http2_frames.specs.declared.frame.Frame.TheVariants.{Data, Headers, Priority, RstStream, Settings, PushPromise, Ping, GoAway, WindowUpdate, Continuation, Unknown}
use Rattle.http2_streams.specs.History.{Entry, sent_frames, live_streams, window, connection_window, has_failed}
use Rattle.grpc_messages.specs.Writing.{framed_message}
use Rattle.grpc_sending.specs.Pieces.{Piece, most_read, read_message, message_pieces, read_pieces}
use Rattle.grpc_sending.specs.Pieces.{Block, Part}
use Rattle.grpc_sending.specs.Bytes.{untaken_count, count_taken, bytes_put}
use Rattle.grpc_sending.specs.Owed.{OwedItem, Item, Headed, Message, Range, items_owed_on, pieces_of, without_front, pieces_after_frame, pieces_after_frames, pieces_left_on}
use Rattle.grpc_sending.specs.Pump.{natural_part, part_size, block_frames, frames_on, frames_for, first_of, next_frames, history_after_pump}
use Rattle.grpc_sending.specs.Settled.{Waits, WaitsOn, IsSettled}
use Rattle.grpc_sending.proofs.Pumps.{ended}

-- ---- no part is empty

abbrev HasBytes : Piece → Type 0
HasBytes (Block block) = Unit {0}
HasBytes (Part bytes ends) = 0 < length bytes

abbrev AreFilled : List Piece → Type 0
AreFilled ps = AllByRecursion HasBytes ps

filled_cut : (text : List ℕ) (n k : ℕ) (bytes : List ℕ) → AreFilled (message_pieces text n k bytes)
filled_cut text n zero bytes = tt
filled_cut text n (suc k) bytes = elim (cases_Bool (nat_lt n (length bytes))) [
  | inl more ↦ let some : 0 < length (framed_message (read_message (take n bytes))) = simp length-append (omega arith) in
      rw more (some, filled_cut text n k (drop n bytes))
  | inr last ↦ let some : 0 < length (framed_message (read_message bytes)) = simp length-append (omega arith) in rw last (some, tt)
]

filled_more : (ps qs : List Piece) → AreFilled ps → AreFilled qs → AreFilled (ps ++ qs)
filled_more [] qs h k = k
filled_more (p ∷ ps) qs h k = (h.0, filled_more ps qs h.1 k)

filled_items : (is : List Item) → AreFilled (flat_map pieces_of is)
filled_items [] = tt
filled_items (Headed block ∷ is) = (tt, filled_items is)
filled_items (Message message ∷ is) = (simp length-append (omega arith), filled_items is)
filled_items (Range digest text from count ∷ is) =
    filled_more (read_pieces text (take count (drop from text))) (flat_map pieces_of is)
    (filled_cut text most_read (length (take count (drop from text))) (take count (drop from text))) (filled_items is)

filled_front : (n : ℕ) (ps : List Piece) → AreFilled ps → AreFilled (without_front n ps)
filled_front n [] h = tt
filled_front n (Block block ∷ ps) h = h
filled_front n (Part bytes ends ∷ ps) h = elim (cases_Bool (nat_lt n (length bytes))) [
  | inl less ↦ let lt : n < length bytes = ltb-true n (length bytes) less in let some : 0 < length (drop n bytes) =
      omega (arith, length-drop n bytes) in rw less (some, h.1)
  | inr all ↦ rw all h.1
]

filled_first : (ps : List Piece) → AreFilled ps → AreFilled (drop 1 ps)
filled_first [] h = tt
filled_first (p ∷ ps) h = h.1

filled_if : (b : Bool) (ps qs : List Piece) → AreFilled ps → AreFilled qs → AreFilled (cond b ps qs)
filled_if true ps qs h k = h
filled_if false ps qs h k = k

filled_by : (s : ℕ) (ps : List Piece) (f : Frame) → AreFilled ps → AreFilled (pieces_after_frame s ps f)
filled_by s ps (Data t e bytes) h = filled_if (t == s) (without_front (length bytes) ps) ps (filled_front (length bytes) ps h) h
filled_by s ps (Headers t e eh b) h = filled_if (t == s) (drop 1 ps) ps (filled_first ps h) h
filled_by s ps (Priority t p) h = h
filled_by s ps (RstStream t c) h = h
filled_by s ps (Settings a ss) h = h
filled_by s ps (PushPromise f t p) h = h
filled_by s ps (Ping a o) h = h
filled_by s ps (GoAway t c b) h = h
filled_by s ps (WindowUpdate t n) h = h
filled_by s ps (Continuation t eh b) h = h
filled_by s ps (Unknown k f t p) h = h

filled_left : (fs : List Frame) (s : ℕ) (ps : List Piece) → AreFilled ps → AreFilled (pieces_after_frames fs s ps)
filled_left [] s ps h = h
filled_left (f ∷ fs) s ps h = filled_left fs s (pieces_after_frame s ps f) (filled_by s ps f h)

-- ---- a stream that puts nothing waits

none_of : (n : ℕ) (fs : List Frame) → cond (n == 0) None (Some fs) ≡ None → n ≡ 0
none_of n fs h = elim (cases_Bool (n == 0)) [
  | inl zero' ↦ grind (arith, nat_tests)
  | inr some ↦ let k : Some fs ≡ None = ap (λ b. cond b None (Some fs)) (sym some) ∙ h in cc
]

not_above : (z : ℤ) → natural_part z ≡ 0 → z ≤ℤ pos 0
not_above (pos n) h = grind (arith, ints)
not_above (negsuc n) h = grind (arith, ints)

smaller_is : (size : ℕ) (a b : ℕ) → 0 < size → min (min 16384 size) (min a b) ≡ 0 → (a ≡ 0) ⊎ (b ≡ 0)
smaller_is size a b some h = elim (cases_Bool (a == 0)) [
  | inl none ↦ inl (grind (arith, nat_tests))
  | inr more ↦ let ne : a ≢ 0 = grind (arith, nat_tests) in inr (omega (arith, h, some, ne))
]

waits : (d : List Entry) (s : ℕ) (ps : List Piece) → AreFilled ps → frames_on d s ps ≡ None → Waits d s ps
waits d s [] h none = tt
waits d s (Block block ∷ ps) h none = let k : Some (block_frames d s block) ≡ None = none in let z : ⊥ = cc in z
waits d s (Part bytes ends ∷ ps) h none =
    let a : ℤ = window_left (window d s) in
    let b : ℤ = window_left (connection_window d) in
    let n = none_of (part_size (length bytes) (window_left (window d s)) (window_left (connection_window d))) _ none in
    elim (smaller_is (length bytes) (natural_part (window_left (window d s))) (natural_part (window_left (connection_window d))) h.0 n) [
      | inl e ↦ inl (not_above (window_left (window d s)) e)
      | inr e ↦ inr (not_above (window_left (connection_window d)) e)
    ]

all_wait : (d : List Entry) (os : List OwedItem) (ss : List ℕ) → first_of (frames_for d os) ss ≡ None → AllByRecursion (WaitsOn d os) ss
all_wait d os [] h = tt
all_wait d os (s ∷ ss) h =
    let at : (o : Option (List Frame)) → frames_for d os s ≡ o → option_map_or Some o (first_of (frames_for d os) ss) ≡ None →
    AllByRecursion (WaitsOn d os) (s ∷ ss) = elim [
      | None ↦ λ is e. (
        waits d s (pieces_left_on d os s)
            (filled_left (sent_frames d) s (flat_map pieces_of (items_owed_on s os)) (filled_items (items_owed_on s os))) is,
        all_wait d os ss
            e,
      )
      | Some fs ↦ λ is e. let z : ⊥ = cc in absurd z
    ] in
    at (frames_for d os s) refl h

pub settled : (d : List Entry) (os : List OwedItem) → next_frames d os ≡ None → IsSettled d os
settled d os h = elim (cases_Bool (has_failed d)) [
  | inl failed ↦ inl failed
  | inr alive ↦ elim (cases_Bool (nat_le 65536 (untaken_count d))) [
    | inl full ↦ inr (inl (grind (arith, nat_tests)))
    | inr few ↦
        let e : next_frames d os ≡ first_of (frames_for d os) (live_streams d) = rw (alive, few) refl in
        inr (inr (all_wait d os (live_streams d) (sym e ∙ h)))
  ]
]

pub pump_settles : (d : List Entry) (os : List OwedItem) → count_taken d ≤ length (bytes_put d) → IsSettled (history_after_pump d os) os
pump_settles d os within = settled (history_after_pump d os) os (ended d os within)
