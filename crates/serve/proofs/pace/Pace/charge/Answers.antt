use Rattle.std.proofs.Common.{ℕ, subst}
use Rattle.serve.specs.Pace.{IsChargedAtMost}
use Rattle.serve.proofs.pace.Pace.charge.Goals as goal

pub returns-then-took-lt-SLICE-clause-most : goal.returns-then-took-lt-SLICE-clause-most
returns-then-took-lt-SLICE-clause-most g c = λ s t was is.
    subst (λ (n : ℕ). IsChargedAtMost n s t) c.saturating_sub-took.ensures (c.charge_short.ensures.most s t was is)

pub returns-clause-most : goal.returns-clause-most
returns-clause-most g c = λ s t was is.
    subst (λ (n : ℕ). IsChargedAtMost n s t) c.saturating_sub-took.ensures (c.charge_piece.ensures.most s t was is)
