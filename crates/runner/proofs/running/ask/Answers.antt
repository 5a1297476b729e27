use Rattle.std.proofs.Common.{refl, sym, ap, ◌∙◌}
use Rattle.std.specs.Prelude.{Ok}
use Rattle.run_calls.specs.Values.{place_shown}
use Rattle.run_calls.specs.Calls.{end_asked, state_of}
use Rattle.runner.specs.Told.{call_told}
use Rattle.runner.proofs.Collect.{goes_program}
use Rattle.runner.proofs.Popped.{programs_ok, no_failure}
use Rattle.runner.proofs.Ended.{ended_goes}
use Rattle.runner.proofs.Sizes.{fits_none}
use Rattle.runner.proofs.Stopped.{program_stops, programs_failed}
use Rattle.runner.proofs.running.ask.Goals as goal

pub returns-in-None-clause-goes : goal.returns-in-None-clause-goes
returns-in-None-clause-goes g c = λ text f.
    let is = programs_ok _ _ _ c.of_programs.ensures c.in_ok-of_programs.was ∙ ap Ok c.in-None.is in
    goes_program text (place_shown c.args.place.now) _ _ f _ _
    (end_asked c.args.place.now.run) _ refl c.ask.ensures.adds refl refl refl refl
    (sym (ap (λ r. call_told (end_asked c.args.place.now.run) (state_of r)) is))
    (fits_none _ refl)
    refl refl (no_failure (end_asked c.args.place.now.run) state_of _ _ is (λ y. refl))

pub returns-in-Some-clause-goes : goal.returns-in-Some-clause-goes
returns-in-Some-clause-goes g c = λ text f.
    let is = programs_ok _ _ _ c.of_programs.ensures c.in_ok-of_programs.was ∙ ap Ok c.in-Some.is in
    ended_goes text (place_shown c.args.place.now) _ _ _ _ _ f _ _ c.ask.ensures.adds is c.ask.ensures.range c.ended.ensures refl refl refl
    refl refl refl refl
    refl

pub returns-in_err-of_programs-clause-stops : goal.returns-in_err-of_programs-clause-stops
returns-in_err-of_programs-clause-stops g c = programs_failed c.from_residual.result _ _ _ _ c.from_residual.ensures.1 c.of_programs.ensures
    c.in_err-of_programs.was state_of (λ e. refl) (λ fault small text f.
    program_stops text (place_shown c.args.place.now) _ fault f _ _ (end_asked c.args.place.now.run) _ refl small c.ask.ensures.adds refl)
