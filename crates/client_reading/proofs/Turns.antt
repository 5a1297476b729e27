-- HEADERS and DATA are put on live streams, and DATA within both windows as they stood when it was put.
use Rattle.std.proofs.Common.{◌≡◌, ℕ, ◌<◌, ◌≤◌, List, [], ◌∷◌, ◌++◌, refl, ◌∙◌, sym, subst, append_assoc, arith, length, inl, inr}
use Rattle.std.specs.Prelude.{true, false, not, ◌&&◌, ◌==◌, map, take, ℤ, pos, negsuc, ◌≤ℤ◌}
use Rattle.std.specs.List.{AllByRecursion}
use Rattle.std.proofs.lemmas.List.{length-take}
use Rattle.std.proofs.lemmas.Bool.Decides.{nat_tests}
use Rattle.std.proofs.lemmas.Int.{ints}
use Rattle.http2_streams.specs.Credit.{window_left}
use Rattle.http2_frames.specs.declared.frame.Frame.{Frame}
use Rattle.http2_frames.specs.declared.frame.Frame.TheVariants.{Data, Headers}
use Rattle.http2_streams.specs.History.{Entry, In, Unreadable, Out, Took, live_streams, window, connection_window, highest_stream, has_failed, is_ended_by_client}
use Rattle.http2_streams.specs.LiveStreams.{has_stream}
use Rattle.grpc_calls.specs.Responses.{is_last}
use Rattle.grpc_sending.specs.Pieces.{Piece}
use Rattle.grpc_sending.specs.Owed.{OwedItem, pieces_left_on}
use Rattle.grpc_sending.specs.Pump.{natural_part, reset_after}
use Rattle.grpc_sending.proofs.Histories.{append-nil}
use Rattle.conn_core.specs.Past.{Past, new_past}
use Rattle.conn_core.proofs.Greeting.{greeted}
use Rattle.conn_core.specs.Received.{outcome, fault_frames, frame_entries, fault_entries}
use Rattle.client_reading.specs.Changes.{PastChange, past_after_change, past_of, BytesReceived, FrameRead, FaultMet, ItemGiven, BytesTaken, FramesPut, EventsGiven}
use Rattle.client_reading.specs.Reads.{IsDataInTurn, MayBePut, ReadsInTurn}
use Rattle.client_reading.proofs.Choices.{fold_keeps}
use Rattle.client_reading.proofs.Nexts.{Next, IsFront, portion, pump_keeps}
use Rattle.client_reading.proofs.Controls.{IsControl, outcome_control, fault_control, reset_control}

abbrev KeepsAt : List Entry → Entry → Type 0
KeepsAt before (Out f) = MayBePut before f
KeepsAt before _ = Unit {0}

abbrev KeepsFrom : List Entry → List Entry → Type 0
KeepsFrom before [] = Unit {0}
KeepsFrom before (e ∷ es) = KeepsAt before e × KeepsFrom (before ++ e ∷ []) es

keeps_more : (before xs ys : List Entry) → KeepsFrom before xs → KeepsFrom (before ++ xs) ys → KeepsFrom before (xs ++ ys)
keeps_more before [] ys h k = subst (λ (b : List Entry). KeepsFrom b ys) (append-nil before) k
keeps_more before (x ∷ xs) ys h k = (
  h.0,
  keeps_more (before ++ x ∷ []) xs ys h.1
      (subst (λ (b : List Entry). KeepsFrom b ys) (sym (append_assoc before (x ∷ []) xs)) k),
)

control_at : (before : List Entry) (f : Frame) → IsControl f → KeepsAt before (Out f)
control_at before (Data s e b) h = cc
control_at before (Headers s e x b) h = cc
control_at before _ h = tt

control_from : (before : List Entry) (fs : List Frame) → AllByRecursion IsControl fs → KeepsFrom before (map Out fs)
control_from before [] h = tt
control_from before (f ∷ fs) h = (control_at before f h.0, control_from (before ++ Out f ∷ []) fs h.1)

-- ---- the pump

at_most : (n : ℕ) (z : ℤ) → 0 < n → n ≤ natural_part z → pos n ≤ℤ z
at_most n (pos m) some h = omega (arith, ints)
at_most n (negsuc m) some h = omega (arith, ints)

some_in_turn : (before : List Entry) (s : ℕ) (bytes : List ℕ) (n : ℕ) → has_stream (live_streams before) s ≡ true →
    n ≡ portion before s bytes → (n == 0) ≡ false → IsDataInTurn before s (take n bytes)
some_in_turn before s bytes n lives is some' =
    let some : 0 < n = grind (arith, nat_tests) in
    let size : length (take n bytes) ≡ n = length-take n bytes ∙ omega (arith, is) in
    record {
      stream = lives;
      some = omega (arith, size, some);
      stream_window = at_most (length (take n bytes)) (window_left (window before s)) (omega (arith, size, some)) (omega (arith, size, is));
      connection_window = at_most (length (take n bytes)) (window_left (connection_window before)) (omega (arith, size, some))
          (omega (arith, size, is));
    }

front_in_turn : (d : List Entry) (s : ℕ) (ps : List Piece) (fs : List Frame) → has_stream (live_streams d) s ≡ true → IsFront d s ps fs →
    KeepsFrom d (map Out fs)
front_in_turn d s ps fs lives (inl b) = subst (λ (gs : List Frame). KeepsFrom d (map Out gs)) (sym b.put) (
  lives,
  control_from _ (reset_after s (is_last b.block && not (is_ended_by_client d s)))
      (reset_control s (is_last b.block && not (is_ended_by_client d s))),
)
front_in_turn d s ps fs lives (inr p) = subst (λ (gs : List Frame). KeepsFrom d (map Out gs)) (sym p.put)
    (some_in_turn d s p.bytes (portion d s p.bytes) lives refl p.some, tt)

abbrev Keeps : List Entry → Type 0
Keeps d = KeepsFrom [] d

keeps_turn : (os : List OwedItem) (d : List Entry) (fs : List Frame) → Next d os fs → Keeps d → Keeps (d ++ map Out fs)
keeps_turn os d fs n h = keeps_more [] d (map Out fs) h (front_in_turn d n.stream (pieces_left_on d os n.stream) fs n.lives n.front)

-- ---- every past

keeps_change : (p : Past) (c : PastChange) → Unit {0} → Keeps p.history → Keeps (past_after_change p c).history
keeps_change p (BytesReceived bytes) u h = h
keeps_change p (FrameRead f) u h = keeps_more [] p.history (frame_entries p.history f) h
    (tt, control_from (p.history ++ In f ∷ []) (outcome p.history f).put (outcome_control p.history f))
keeps_change p (FaultMet e code) u h = keeps_more [] p.history (fault_entries p.history e code) h (
  tt,
  control_from (p.history ++ Unreadable e ∷ []) (fault_frames (has_failed p.history) (highest_stream p.history) code)
      (fault_control (has_failed p.history) (highest_stream p.history) code),
)
keeps_change p (ItemGiven t item) u h = h
keeps_change p (BytesTaken n) u h = keeps_more [] p.history (Took n ∷ []) h (tt, tt)
keeps_change p FramesPut u h = pump_keeps Keeps p.owed (keeps_turn p.owed) p.history h
keeps_change p (EventsGiven left) u h = h

any_changes : (cs : List PastChange) → AllByRecursion (λ (c : PastChange). Unit {0}) cs
any_changes [] = tt
any_changes (c ∷ cs) = (tt, any_changes cs)

keeps_at : (b0 before after : List Entry) (x : Entry) → KeepsFrom b0 (before ++ x ∷ after) → KeepsAt (b0 ++ before) x
keeps_at b0 [] after x h = subst (λ (b : List Entry). KeepsAt b x) (sym (append-nil b0)) h.0
keeps_at b0 (y ∷ before) after x h = subst (λ (b : List Entry). KeepsAt b x) (append_assoc b0 (y ∷ []) before)
    (keeps_at (b0 ++ y ∷ []) before after x h.1)

pub turns_past : (window : ℕ) (cs : List PastChange) → ReadsInTurn (past_of window cs).history
turns_past window cs before after f is =
    let h = fold_keeps (λ (p : Past). Keeps p.history) (λ (c : PastChange). Unit {0}) past_after_change (new_past window) cs keeps_change
    (any_changes cs) (greeted Keeps window (tt, (tt, tt)) (tt, tt)) in
    keeps_at [] before after (Out f) (subst Keeps is h)
