use Rattle.std.proofs.Common.{◌∷◌, refl, sym, ap, ◌∙◌, arith}
use Rattle.run_calls.specs.declared.programs.Stream.TheVariants as streams
use Rattle.run_calls.specs.Values.{place_shown}
use Rattle.run_calls.specs.Calls.{length_of, length_asked}
use Rattle.runner.specs.Told.{code_item, killed_item, stream_bytes}
use Rattle.runner.proofs.Collect.{goes_program}
use Rattle.runner.proofs.Popped.{programs_ok, quiet_told, no_failure}
use Rattle.runner.proofs.Told.{written_says, fits_told}
use Rattle.runner.proofs.Stopped.{program_stops, program_surpasses, programs_failed}
use Rattle.runner.proofs.running.measure.Goals as goal

pub returns-clause-goes : goal.returns-clause-goes
returns-clause-goes g c = λ text f.
    let q = length_asked c.args.place.now.run in
    goes_program text (place_shown c.args.place.now) _ _ f _ _ q _ refl c.length.ensures.adds refl refl refl refl
    (ap (λ out. code_item c.args.place.now.run c.args.ended.code ∷ killed_item c.args.place.now.run ∷ stream_bytes c.args.place.now.run
    streams.Output 0 out) c.new.ensures
    ∙ ap (λ is. code_item c.args.place.now.run c.args.ended.code ∷ killed_item c.args.place.now.run ∷ is)
    (sym (quiet_told q _ (λ x. refl))))
    (fits_told 0 _ _ (written_says c.args.place.now.run _ _ (programs_ok _ _ _ c.of_programs.ensures c.in_ok-length.was))
    (omega (arith, c.if-length-gt-MOST_BYTES.false)))
    refl refl (no_failure q length_of _ _ (programs_ok _ _ _ c.of_programs.ensures c.in_ok-length.was) (λ y. refl))

pub returns-then-length-gt-MOST_BYTES-clause-stops : goal.returns-then-length-gt-MOST_BYTES-clause-stops
returns-then-length-gt-MOST_BYTES-clause-stops g c = λ text f.
    program_surpasses text (place_shown c.args.place.now) _ f _ _ (length_asked c.args.place.now.run) _ _ _ refl
    (ap length_of (programs_ok _ _ _ c.of_programs.ensures c.in_ok-length.was)) c.length.ensures.adds
    (written_says c.args.place.now.run _ _ (programs_ok _ _ _ c.of_programs.ensures c.in_ok-length.was))
    (omega (arith, c.if-length-gt-MOST_BYTES.true))
    refl

pub returns-in_err-length-clause-stops : goal.returns-in_err-length-clause-stops
returns-in_err-length-clause-stops g c = programs_failed c.from_residual.result _ _ _ _ c.from_residual.ensures.1 c.of_programs.ensures
    c.in_err-length.was length_of (λ e. refl) (λ fault small text f.
    program_stops text (place_shown c.args.place.now) _ fault f _ _
    (length_asked c.args.place.now.run) _ refl small c.length.ensures.adds refl)
