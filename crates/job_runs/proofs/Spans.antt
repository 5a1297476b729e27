-- Runs that are to begin stay so until they are given.
use Rattle.std.proofs.Common.{◌≡◌, List, ap, sym, subst, inl, inr}
use Rattle.std.specs.Prelude.{◌⊎◌, Option, Some}
use Rattle.run_calls.specs.declared.task.RunKey.{RunKey}
use Rattle.job_runs.specs.declared.span.Span.{Span}
use Rattle.job_runs.specs.Keys.{IsToBegin}
use Rattle.job_runs.specs.Spans.{IsAmong, IsIn}

-- the next one is given, and the others stay
pub one_given : (together : Option Span) (span : Span) (rest : Option Span) → together ≡ Some span →
    ((key : RunKey) → IsIn key span → (key ≡ span.at) ⊎ IsAmong key rest) → (key : RunKey) → IsAmong key together →
    (Some span.at ≡ Some key) ⊎ IsAmong key rest
one_given together span rest is left key among =
    elim (left key (subst (λ (o : Option Span). IsAmong key o) is among)) [
      | inl next ↦ inl (ap Some (sym next))
      | inr later ↦ inr later
    ]

-- one more is among them
pub one_more : (together : Option Span) (span wide : Span) → together ≡ Some span → ((key : RunKey) → IsIn key span → IsIn key wide) →
    (key : RunKey) → IsAmong key together → IsIn key wide
one_more together span wide is kept key among = kept key (subst (λ (o : Option Span). IsAmong key o) is among)

pub still_to_begin : (to_begin : List RunKey) (together : Option Span) (wide : Span) →
    ((key : RunKey) → IsAmong key together → IsIn key wide) → (key : RunKey) → IsToBegin key to_begin together →
    IsToBegin key to_begin (Some wide)
still_to_begin to_begin together wide kept key (inl noted) = inl noted
still_to_begin to_begin together wide kept key (inr among) = inr (kept key among)
