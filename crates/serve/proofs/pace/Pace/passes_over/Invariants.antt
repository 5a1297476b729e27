use Rattle.std.proofs.Common.{◌≡◌, ◌<◌, ◌-◌, ◌⊎◌, ℕ, true, Some, slice_get, length}
use Rattle.serve.specs.declared.share.Share.{Share}
use Rattle.serve.specs.Pace.{IsOwed}
use Rattle.serve.proofs.pace.Pace.passes_over.Given as goal

abbrev pub invariant-loop-share : goal.invariant-loop-share
invariant-loop-share l = (number : ℕ) (share : Share) → number < l.number
    → slice_get l.self.shares.items number ≡ Some share → share.is_heavy ≡ true
    → (l.self.chosen ≡ Some number) ⊎ IsOwed l.self.passed (Some share)

abbrev pub decreases-loop-share : goal.decreases-loop-share
decreases-loop-share l = length l.self.shares.items - l.number
