-- Where nothing is kept for a stream, nothing is kept after a call of the sender.
use Rattle.std.proofs.Common.{◌≡◌, ℕ, List, [], ◌∷◌, ◌++◌, drop, refl, ap, ◌∙◌, sym, subst, arith, inl, inr}
use Rattle.std.specs.Prelude.{Bool, true, false, not, ◌==◌, cond, filter, map, Result, Ok, Err, OnOk, OnErr, ◌⊎◌}
use Rattle.std.proofs.lemmas.Bool.{cases_Bool}
use Rattle.std.proofs.lemmas.Bool.Decides.{nat_tests}
use Rattle.http2_streams.specs.Standing.{Standing}
use Rattle.http2_streams.specs.Rules.{is_live_at}
use Rattle.grpc_sending.specs.declared.piece.StoredPiece.{StoredPiece}
use Rattle.grpc_sending.specs.declared.queue.StoredQueue.{StoredQueue}
use Rattle.grpc_sending.specs.Sources.{BacklogValue}
use Rattle.grpc_sending.specs.StoredSending.{StoredSending, stored_on}
use Rattle.grpc_sending.specs.SendingSteps.{stored_front, stored_first_at, stored_front_at}
use Rattle.grpc_sending.proofs.Keeping.{waiting}
use Rattle.grpc_sending.proofs.Pushes.{Pushed}
use Rattle.grpc_sending.proofs.Stored.{stored_changed, forgotten_stored, none_stored}

-- the same of the queues alone
abbrev pub AddsNone : List StoredQueue → List StoredQueue → Type 0
AddsNone qs rs = (t : ℕ) → stored_on t qs ≡ [] → stored_on t rs ≡ []

none_if : (b : Bool) (ps qs : List StoredPiece) → ps ≡ [] → qs ≡ [] → cond b ps qs ≡ []
none_if true ps qs h k = h
none_if false ps qs h k = k

pub none_removed : (s : ℕ) (qs rs : List StoredQueue) → rs ≡ map (stored_first_at s) qs → AddsNone qs rs
none_removed s qs rs is t h = ap (stored_on t) is ∙ stored_changed (drop 1) s t qs refl
    ∙ none_if (s == t) (drop 1 (stored_on t qs)) (stored_on t qs) (ap (drop 1) h) h

pub none_taken : (s n : ℕ) (qs rs : List StoredQueue) → rs ≡ map (stored_front_at s n) qs → AddsNone qs rs
none_taken s n qs rs is t h = ap (stored_on t) is ∙ stored_changed (stored_front n) s t qs refl
    ∙ none_if (s == t) (stored_front n (stored_on t qs)) (stored_on t qs) (ap (stored_front n) h) h

pub none_forgotten : (s : ℕ) (qs rs : List StoredQueue) → rs ≡ filter (λ q. not (q.stream == s)) qs → AddsNone qs rs
none_forgotten s qs rs is t h = elim (cases_Bool (s == t)) [
  | inl same ↦ let e : s ≡ t = grind (arith, nat_tests) in
      ap (stored_on t) is ∙ ap (λ k. stored_on t (filter (λ q. not (q.stream == k)) qs)) e ∙ none_stored t qs
  | inr other ↦ ap (stored_on t) is ∙ forgotten_stored s t qs other ∙ h
]

-- ---- by what the code holds

pub none_by : (w v : StoredSending) (rs : List StoredQueue) → w ≡ v → AddsNone w.queues rs → AddsNone v.queues rs
none_by w v rs is h = subst (λ (x : StoredSending). AddsNone x.queues rs) is h

pub none_same : (w v : StoredSending) (rs : List StoredQueue) → w ≡ v → rs ≡ w.queues → AddsNone v.queues rs
none_same w v rs is same = none_by w v rs is (λ t h. ap (stored_on t) same ∙ h)

-- an item was appended to a live stream
off_live : (streams : Standing) (s t : ℕ) → streams.failed ≡ false → is_live_at streams s ≡ true →
    (streams.failed ≡ true) ⊎ (is_live_at streams t ≡ false) → (s == t) ≡ false
off_live streams s t alive lives (inl failed) = let no : true ≡ false = sym failed ∙ alive in absurd (let z : ⊥ = cc in z)
off_live streams s t alive lives (inr dead) = elim (cases_Bool (s == t)) [
  | inl same ↦ let e : s ≡ t = grind (arith, nat_tests) in let no : true ≡ false = sym lives ∙ ap (is_live_at streams) e ∙ dead in
      absurd (let z : ⊥ = cc in z)
  | inr other ↦ other
]

pub none_pushed : {T E : Type 0} (r : Result T E) (streams : Standing) (w v : StoredSending) (b : BacklogValue) (s : ℕ) (p : StoredPiece) →
    w ≡ v → streams.failed ≡ false → is_live_at streams s ≡ true → OnOk r (Pushed w.queues b.queues s p) → OnErr r (b ≡ waiting w) →
    (t : ℕ) → (streams.failed ≡ true) ⊎ (is_live_at streams t ≡ false) → stored_on t v.queues ≡ [] → stored_on t b.queues ≡ []
none_pushed (Ok x) streams w v b s p is alive lives pushed h t dead none =
    let other : (s == t) ≡ false = off_live streams s t alive lives dead in
    pushed t ∙ ap (λ c. cond c (stored_on t w.queues ++ p ∷ []) (stored_on t w.queues)) other
    ∙ ap (λ (x : StoredSending). stored_on t x.queues) is ∙ none
none_pushed (Err e) streams w v b s p is alive lives h same t dead none =
    ap (λ (x : BacklogValue). stored_on t x.queues) same ∙ ap (λ (x : StoredSending). stored_on t x.queues) is ∙ none
