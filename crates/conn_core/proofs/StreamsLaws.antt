-- What of the laws of http2_streams is used here, in the words of this crate.
use Rattle.std.proofs.Common.{◌≡◌, ◌≢◌, ℕ, ◌<◌, ◌≤◌, List, [], ◌∷◌, ◌++◌, refl, ap, ◌∙◌, sym, subst, arith, inl, inr}
use Rattle.std.specs.Prelude.{Bool, true, false, ◌==◌, ◌&&◌, ◌⊎◌, nat_lt, max, fold, map, Result, Ok, IfOk}
use Rattle.std.specs.List.{list_any, AllByRecursion}
use Rattle.std.proofs.lemmas.Bool.{cases_Bool, ltb-true, ltb-false, eqb-true}
use Rattle.std.proofs.lemmas.Bool.Decides.{nat_tests}
use Rattle.std.proofs.lemmas.List.{map-append}
use Rattle.std.proofs.lemmas.List.Elements.{filter_map-append}
use Rattle.std.proofs.lemmas.List.Sums.{fold-append}
use Rattle.hpack.specs.Header.{Header}
use Rattle.http2_frames.specs.declared.frame.RawFrame.{RawFrame}
use Rattle.http2_frames.specs.declared.frame.Frame.{Frame}
use Rattle.http2_streams.specs.declared.fault.ConnectionFault.{ConnectionFault}
use Rattle.http2_streams.specs.HeaderBlock.{HeaderBlock}
use Rattle.http2_streams.specs.declared.event.Event.{Event}
use Rattle.http2_streams.specs.declared.event.Event.TheVariants.{Request}
use Rattle.http2_streams.specs.declared.event.StreamEvent.{StreamEvent}
use Rattle.http2_streams.specs.History.{Entry, In, frame_in, received_frames, Blocks, blocks_after, no_blocks, blocks, stream_of, rising_numbers, live_streams, is_not_closed, opened_streams, highest_stream}
use Rattle.http2_streams.specs.Standing.{standing}
use Rattle.http2_streams.specs.Rules.{answer_after}
use Rattle.http2_streams.specs.Entries.{control_frames}
use Rattle.http2_streams.specs.LiveStreams.{IsOnItsStream}
use Rattle.http2_streams.specs.ControlAnswers.{IsControlAnswer}
use Rattle.http2_streams.proofs.EventLaw.{event_on_stream, request_is_highest}
use Rattle.http2_streams.proofs.LiveLaw.{blocks_stay}
use Rattle.http2_streams.proofs.ControlLaw.{answer_elim, answers_are_control}
use Rattle.grpc_sending.specs.Step.{IsControl}
use Rattle.conn_core.proofs.Numbers.{any_kept}

-- ---- answers

pub is_control : (f : Frame) → IsControlAnswer f → IsControl f
is_control = answer_elim IsControl (λ ack settings h. tt) (λ ack o h. tt) (λ s n. tt) (λ s code. tt)

pub parts_are : (fs gs : List Frame) → AllByRecursion IsControlAnswer (fs ++ gs) →
    AllByRecursion IsControlAnswer fs × AllByRecursion IsControlAnswer gs
parts_are [] gs h = (tt, h)
parts_are (f ∷ fs) gs h = let p = parts_are fs gs h.1 in ((h.0, p.0), p.1)

pub answers_are : (d : List Entry) (f : RawFrame) (a : StreamEvent) → answer_after d f ≡ Ok a →
    AllByRecursion IsControlAnswer (control_frames a)
answers_are d f a h = answers_are_control (standing d) f a h

pub of_given : (r : Result StreamEvent ConnectionFault) (a : StreamEvent) → r ≡ Ok a →
    IfOk r (λ b. AllByRecursion IsControlAnswer (control_frames b)) → AllByRecursion IsControlAnswer (control_frames a)
of_given r a is h = subst (λ (q : Result StreamEvent ConnectionFault). IfOk q (λ b. AllByRecursion IsControlAnswer (control_frames b))) is h

pub in_live : (d : List Entry) (s : ℕ) → list_any (λ t. t == s) (live_streams d)
    ≡ (list_any (λ t. t == s) (opened_streams d) && is_not_closed d s)
in_live d s = any_kept (is_not_closed d) s (opened_streams d)

-- ---- what was opened

rising_numbers-append : (m : ℕ) (xs ys : List ℕ) → rising_numbers m (xs ++ ys) ≡ rising_numbers m xs ++ rising_numbers (fold max m xs) ys
rising_numbers-append m [] ys = refl
rising_numbers-append m (x ∷ xs) ys = elim (cases_Bool (nat_lt m x)) [
  | inl higher ↦
      let above : m < x = ltb-true m x higher in
      let e : max m x ≡ x = omega (arith, above) in
      rw (higher, e) (ap (λ (zs : List ℕ). x ∷ zs) (rising_numbers-append x xs ys))
  | inr lower ↦
      let below : x ≤ m = ltb-false m x lower in
      let e : max m x ≡ m = omega (arith, below) in
      rw (lower, e) (rising_numbers-append m xs ys)
]

pub opened_more : (d es : List Entry) → (more : List ℕ) × (opened_streams (d ++ es) ≡ opened_streams d ++ more)
opened_more d es =
    let old : Blocks = fold blocks_after no_blocks (received_frames d) in
    let b = blocks_stay (fold blocks_after no_blocks (received_frames d)) (received_frames es) in
    let finished : blocks (d ++ es) ≡ blocks d ++ b.0 =
    ap (λ (rs : List Frame). (fold blocks_after no_blocks rs).finished) (filter_map-append frame_in d es)
    ∙ ap (λ (x : Blocks). x.finished) (fold-append blocks_after no_blocks (received_frames d) (received_frames es)) ∙ b.1 in (
      rising_numbers (fold max 0 (map stream_of (blocks d))) (map stream_of b.0),
      ap
          (λ (bs : List HeaderBlock). rising_numbers 0 (map stream_of bs)) finished
          ∙ ap (rising_numbers 0) (map-append stream_of (blocks d) b.0)
          ∙ rising_numbers-append 0 (map stream_of (blocks d)) (map stream_of b.0),
    )

max_from : (n : ℕ) (xs : List ℕ) → n ≤ fold max n xs
max_from n [] = omega arith
max_from n (x ∷ xs) = omega (arith, max_from (max n x) xs)

any_head : (x s : ℕ) (xs : List ℕ) → list_any (λ t. t == s) (x ∷ xs) ≡ true → (x ≡ s) ⊎ (list_any (λ t. t == s) xs ≡ true)
any_head x s xs h = elim (cases_Bool (x == s)) [
  | inl same ↦ inl (eqb-true x s same)
  | inr other ↦ let h' : list_any (λ t. t == s) xs ≡ true = rw other at h in inr h'
]

rising_low : (m : ℕ) (xs : List ℕ) (s : ℕ) → list_any (λ t. t == s) (rising_numbers m xs) ≡ true → s ≤ fold max m xs
rising_low m [] s h = absurd (let no : false ≡ true = h in let z : ⊥ = cc in z)
rising_low m (x ∷ xs) s h = elim (cases_Bool (nat_lt m x)) [
  | inl higher ↦
      let above : m < x = ltb-true m x higher in
      let e : max m x ≡ x = omega (arith, above) in
      let h' : list_any (λ t. t == s) (x ∷ rising_numbers x xs) ≡ true = rw higher at h in
      let low : s ≤ fold max x xs = elim (any_head x s (rising_numbers x xs) h') [
        | inl same ↦ omega (arith, same, max_from x xs)
        | inr later ↦ rising_low x xs s later
      ] in
      rw e low
  | inr lower ↦
      let below : x ≤ m = ltb-false m x lower in
      let e : max m x ≡ m = omega (arith, below) in
      let h' : list_any (λ t. t == s) (rising_numbers m xs) ≡ true = rw lower at h in
      rw e (rising_low m xs s h')
]

pub opened_low : (d : List Entry) (s : ℕ) → list_any (λ t. t == s) (opened_streams d) ≡ true → s ≤ highest_stream d
opened_low d s h = rising_low 0 (map stream_of (blocks d)) s h

-- the highest of all numbers is one that rises
top_rises : (m : ℕ) (xs : List ℕ) (s : ℕ) → m < s → fold max m xs ≡ s → list_any (λ t. t == s) (rising_numbers m xs) ≡ true
top_rises m [] s above is = absurd (let same : m ≡ s = is in omega (arith, above, same))
top_rises m (x ∷ xs) s above is = elim (cases_Bool (nat_lt m x)) [
  | inl higher ↦
      let more : m < x = ltb-true m x higher in
      let e : max m x ≡ x = omega (arith, more) in
      let is' : fold max x xs ≡ s = rw e at is in
      elim (cases_Bool (x == s)) [
        | inl same ↦ rw (higher, same) refl
        | inr other ↦
            let low : x ≤ s = omega (arith, is', max_from x xs) in
            let apart : x ≢ s = λ same. let no : (x == s) ≡ true = grind (arith, nat_tests) in let bad : true ≡ false = sym no ∙ other in
            cc in
            rw (higher, other) (top_rises x xs s (omega (arith, low, apart)) is')
      ]
  | inr lower ↦
      let below : x ≤ m = ltb-false m x lower in
      let e : max m x ≡ m = omega (arith, below) in
      let is' : fold max m xs ≡ s = rw e at is in
      rw lower (top_rises m xs s above is')
]

pub request_opened : (d : List Entry) (f : RawFrame) (a : StreamEvent) (s : ℕ) (fields : List Header) (end_stream : Bool) →
    answer_after d f ≡ Ok a → a.event ≡ Request s fields end_stream → list_any (λ t. t == s) (opened_streams (d ++ In f ∷ [])) ≡ true
request_opened d f a s fields end_stream h is =
    let above : highest_stream d < s = subst (λ (e : Event). IsOnItsStream d e) is (event_on_stream d f a h) in
    top_rises 0 (map stream_of (blocks (d ++ In f ∷ []))) s (omega (arith, above)) (request_is_highest d f a s fields end_stream h is)
