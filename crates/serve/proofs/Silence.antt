-- The search for the connection that was silent longest.
use Rattle.std.proofs.Common.{◌≡◌, ℕ, ◌+◌, ◌-◌, ◌<◌, ◌≤◌, List, refl, ◌∙◌, sym, subst, arith, inl, inr}
use Rattle.std.specs.Prelude.{Bool, true, false, cond, nat_lt, Option, Some, None, IfSome, IsSomeAnd, slice_get}
use Rattle.std.proofs.lemmas.Bool.{cases_eq}
use Rattle.std.proofs.lemmas.Option.{same_Some}
use Rattle.served_instance.specs.Lone.{LoneInstance}
use Rattle.serve.specs.declared.open_socket.OpenSocket.{OpenSocket}
use Rattle.serve.specs.Closings.{silence_limit}
use Rattle.serve.specs.Silence.{MayMakeRoom, IsSilentLongerThan, IsLongestSilent}

-- what was found among the first n, and when it was heard last; or nothing was
abbrev pub IsLongestBefore : ℕ → ℕ → ℕ → LoneInstance → List OpenSocket → Option ℕ → ℕ → Type 0
IsLongestBefore n i m l sockets None heard =
    (heard ≡ m) × ((k : ℕ) (s : OpenSocket) → k < n → slice_get sockets k ≡ Some s → MayMakeRoom i m l s → ⊥)
IsLongestBefore n i m l sockets (Some p) heard =
    (p < n) × ((s : OpenSocket) × (slice_get sockets p ≡ Some s) × (s.heard ≡ heard) × MayMakeRoom i m l s)
    × ((k : ℕ) (s : OpenSocket) → k < n → slice_get sockets k ≡ Some s → MayMakeRoom i m l s →
    (heard ≤ s.heard) × (k < p → heard < s.heard))

long : (b : Bool) → 0 < cond b 10000 60000
long true = omega arith
long false = omega arith

-- who may make room was not heard now
heard_before : (i m : ℕ) (l : LoneInstance) (s : OpenSocket) → MayMakeRoom i m l s → s.heard < m
heard_before i m l s may = let some : 0 < silence_limit s.received = long (nat_lt s.received 24) in
    let le : silence_limit s.received ≤ m - s.heard = may.1 in omega (arith, some, le)

no_earlier : (n i m : ℕ) (l : LoneInstance) (sockets : List OpenSocket) (o : Option ℕ) (heard k : ℕ) (s : OpenSocket) →
    IsLongestBefore n i m l sockets o heard → k < n → slice_get sockets k ≡ Some s → MayMakeRoom i m l s → heard ≤ s.heard
no_earlier n i m l sockets None heard k s so lt is may = absurd (so.1 k s lt is may)
no_earlier n i m l sockets (Some p) heard k s so lt is may = (so.2 k s lt is may).0

pub longer_found : (n i m : ℕ) (l : LoneInstance) (sockets : List OpenSocket) (o : Option ℕ) (heard : ℕ) (s : OpenSocket) →
    slice_get sockets n ≡ Some s → s.heard < heard → MayMakeRoom i m l s → IsLongestBefore n i m l sockets o heard →
    IsLongestBefore (n + 1) i m l sockets (Some n) s.heard
longer_found n i m l sockets o heard s at longer may so = (
  omega arith,
  (s, at, refl, may),
  λ k q lt is other. elim (cases_eq k n) [
    | inl same ↦
        let alike : s ≡ q = same_Some s q (sym at ∙ subst (λ (x : ℕ). slice_get sockets x ≡ Some q) same is) in
        let le : s.heard ≤ q.heard = subst (λ (x : OpenSocket). s.heard ≤ x.heard) alike (omega arith) in
        (le, λ below. absurd (omega (arith, same, below)))
    | inr ne ↦
        let le : heard ≤ q.heard = no_earlier n i m l sockets o heard k q so (omega (arith, lt, ne)) is other in
        (omega (arith, longer, le), λ below. omega (arith, longer, le))
  ],
)

pub passed_by : (n i m : ℕ) (l : LoneInstance) (sockets : List OpenSocket) (o : Option ℕ) (heard : ℕ) (s : OpenSocket) →
    slice_get sockets n ≡ Some s → (MayMakeRoom i m l s → heard ≤ s.heard) → IsLongestBefore n i m l sockets o heard →
    IsLongestBefore (n + 1) i m l sockets o heard
passed_by n i m l sockets None heard s at late so = (
  so.0,
  λ k q lt is may. elim (cases_eq k n) [
    | inl same ↦
        let alike : q ≡ s = same_Some q s (sym (subst (λ (x : ℕ). slice_get sockets x ≡ Some q) same is) ∙ at) in
        let here : MayMakeRoom i m l s = subst (λ (x : OpenSocket). MayMakeRoom i m l x) alike may in
        let le : heard ≤ s.heard = late here in
        let lt : s.heard < m = heard_before i m l s here in
        absurd (omega (arith, le, lt, so.0))
    | inr ne ↦ so.1 k q (omega (arith, lt, ne)) is may
  ],
)
passed_by n i m l sockets (Some p) heard s at late so = (
  omega (arith, so.0),
  so.1,
  λ k q lt is may. elim (cases_eq k n) [
    | inl same ↦
        let alike : q ≡ s = same_Some q s (sym (subst (λ (x : ℕ). slice_get sockets x ≡ Some q) same is) ∙ at) in
        let here : MayMakeRoom i m l s = subst (λ (x : OpenSocket). MayMakeRoom i m l x) alike may in
        let le : heard ≤ q.heard = subst (λ (x : OpenSocket). heard ≤ x.heard) (sym alike) (late here) in
        (le, λ below. absurd (omega (arith, same, below, so.0)))
    | inr ne ↦ so.2 k q (omega (arith, lt, ne)) is may
  ],
)

pub further : (n : ℕ) (o : Option ℕ) → IfSome o (λ p. p < n) → IfSome o (λ p. p < n + 1)
further n None is = tt
further n (Some p) is = omega (arith, is)

pub found : (n i m : ℕ) (l : LoneInstance) (sockets : List OpenSocket) (o : Option ℕ) (heard : ℕ) →
    (all : (k : ℕ) (s : OpenSocket) → slice_get sockets k ≡ Some s → k < n) → IsLongestBefore n i m l sockets o heard →
    IsLongestSilent i m l sockets o
found n i m l sockets None heard all so = λ k s is may. so.1 k s (all k s is) is may
found n i m l sockets (Some p) heard all so =
    let s : OpenSocket = so.1.0 in
    let rest : IsSilentLongerThan i m l sockets p s = λ k q is may.
    subst (λ (x : ℕ). (x ≤ q.heard) × (k < p → x < q.heard)) (sym so.1.2) (so.2 k q (all k q is) is may) in
    subst (λ (x : Option OpenSocket). IsSomeAnd x (λ t. MayMakeRoom i m l t × IsSilentLongerThan i m l sockets p t)) (sym so.1.1)
    (so.1.3, rest)
