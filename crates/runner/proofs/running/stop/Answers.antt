use Rattle.std.proofs.Common.{◌∷◌, refl, sym, ap, ◌∙◌}
use Rattle.std.specs.Prelude.{Ok}
use Rattle.run_calls.specs.Values.{place_shown}
use Rattle.run_calls.specs.Calls.{kill_asked}
use Rattle.runner.specs.Told.{code_item}
use Rattle.runner.proofs.Collect.{goes_program}
use Rattle.runner.proofs.Popped.{kill_fails, kill_says}
use Rattle.runner.proofs.Sizes.{fits_none}
use Rattle.runner.proofs.running.stop.Goals as goal

pub returns-in-Ok-true-clause-goes : goal.returns-in-Ok-true-clause-goes
returns-in-Ok-true-clause-goes g c = λ text f.
    goes_program text (place_shown c.args.place.now) _ _ f _ _
    (kill_asked c.args.place.now.run) _ refl c.kill.ensures.adds refl refl refl refl
    (ap (λ is. code_item c.args.place.now.run c.args.ended.code ∷ is)
    (sym (kill_says c.args.place.now.run _ _ (c.in-Ok-true.is ∙ ap Ok c.in-Ok-true.field-0-test))))
    (fits_none _ refl)
    refl refl refl

pub returns-in-Ok-false-clause-goes : goal.returns-in-Ok-false-clause-goes
returns-in-Ok-false-clause-goes g c = λ text f.
    goes_program text (place_shown c.args.place.now) _ _ f _ _
    (kill_asked c.args.place.now.run) _ refl c.kill.ensures.adds refl refl refl refl
    (ap (λ is. code_item c.args.place.now.run c.args.ended.code ∷ is)
    (sym (kill_says c.args.place.now.run _ _ (c.in-Ok-false.is ∙ ap Ok c.in-Ok-false.field-0-test))))
    (fits_none _ refl)
    refl refl refl

pub returns-in-Err-clause-goes : goal.returns-in-Err-clause-goes
returns-in-Err-clause-goes g c = λ text f.
    goes_program text (place_shown c.args.place.now) _ _ f _ _
    (kill_asked c.args.place.now.run) _ refl c.kill.ensures.adds refl refl refl refl
    (ap (λ is. code_item c.args.place.now.run c.args.ended.code ∷ is) (sym (kill_fails c.args.place.now.run _ _ c.in-Err.is)))
    (fits_none _ refl)
    refl refl refl
