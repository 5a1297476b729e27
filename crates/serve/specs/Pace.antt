-- How the time of turns is shared.
use Rattle.std.specs.Prelude.{◌≡◌, ◌<◌, ◌≤◌, ◌-◌, ◌+◌, ℕ, max, true, List, Option, Some, IsSomeAnd, slice_get}
use Rattle.wires.specs.declared.ProcessorTime.{ProcessorTime}
use Rattle.serve.specs.declared.share.Share.{Share}
use Rattle.serve.specs.declared.share.Work.{Work}
use Rattle.serve.specs.declared.share.Work.TheVariants.{Exchange, Asking}

-- less time went by than the last dear piece of this instance took, if it had one: it took at least
-- ten milliseconds then, and else nothing
abbrev pub IsOwed : ℕ → Option Share → Type 0
IsOwed passed share = IsSomeAnd share (λ s. passed - s.ended < s.took)

-- the instance had less than its 200 microseconds of this turn; and where it is one of the heavy
-- ones, it is the chosen one
abbrev pub MayHaveMore : ℕ → Option ℕ → Option Share → Type 0
MayHaveMore instance chosen share =
    IsSomeAnd share (λ s. (s.spent < 200) × (s.is_heavy ≡ true → chosen ≡ Some instance))

-- no more is charged for work than the server had of processors meanwhile; or, where it may wait of
-- itself, than is left of what it took without the time in which it lacked one
abbrev pub most_charged : Work → ℕ → ProcessorTime → ProcessorTime → ℕ
most_charged Exchange took before now = now.had - before.had
most_charged Asking took before now =
    max (now.had - before.had) (took - (now.lacked - before.lacked))

-- no more than this is added to what the instance had; behind less than a millisecond it is not
-- known for a long piece, and behind less than ten it does not rest; it rests for no longer
pub record IsChargedAtMost (most : ℕ) (before after : Share) : Type 0 where
  pub turn : after.spent ≤ before.spent + most
  pub all : after.had ≤ before.had + most
  pub long : most < 1000 → after.long ≡ before.long
  pub ended : most < 10000 → after.ended ≡ before.ended
  pub rest : after.took ≤ max before.took most

-- .. of the instance of this number, of all
abbrev pub AreChargedAtMost : ℕ → ℕ → List Share → List Share → Type 0
AreChargedAtMost most instance before after =
    (s t : Share) → slice_get before instance ≡ Some s → slice_get after instance ≡ Some t
    → IsChargedAtMost most s t
