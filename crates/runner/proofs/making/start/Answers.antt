use Rattle.std.proofs.Common.{refl, sym, ap, map}
use Rattle.std.specs.Prelude.{string_bytes}
use Rattle.run_calls.specs.Values.{place_shown, command_shown}
use Rattle.run_calls.specs.Calls.{started_of, start_asked, look_asked}
use Rattle.runner.proofs.Collect.{goes_program}
use Rattle.runner.proofs.Popped.{quiet_told, programs_ok, no_failure}
use Rattle.runner.proofs.Sizes.{fits_none}
use Rattle.runner.proofs.Stopped.{program_stops, programs_failed}
use Rattle.runner.proofs.making.start.Goals as goal

pub returns-clause-goes : goal.returns-clause-goes
returns-clause-goes g c = λ text f.
    let q = start_asked (place_shown c.args.place.now) (command_shown c.args.prepared.command) in
    goes_program text (place_shown c.args.place.now) _ _ f _ _ q _ refl c.start.ensures.adds refl refl
    (ap (λ l. map (look_asked (place_shown c.args.place.now)) (map string_bytes l.items)) (sym c.outputs.ensures))
    refl (sym (quiet_told q _ (λ x. refl))) (fits_none _ refl)
    refl refl (no_failure q started_of _ _ (programs_ok _ _ _ c.of_programs.ensures c.in_ok-of_programs.was) (λ y. refl))

pub returns-in_err-of_programs-clause-stops : goal.returns-in_err-of_programs-clause-stops
returns-in_err-of_programs-clause-stops g c = programs_failed c.from_residual.result _ _ _ _ c.from_residual.ensures.1 c.of_programs.ensures
    c.in_err-of_programs.was started_of (λ e. refl) (λ fault small text f.
    program_stops text (place_shown c.args.place.now) _ fault f _ _
    (start_asked (place_shown c.args.place.now) (command_shown c.args.prepared.command)) _ refl small c.start.ensures.adds refl)
