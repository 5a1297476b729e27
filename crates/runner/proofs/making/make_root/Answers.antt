use Rattle.std.proofs.Common.{[], refl, sym}
use Rattle.run_calls.specs.Values.{place_shown}
use Rattle.run_calls.specs.Calls.{done_of, root_asked}
use Rattle.runner.proofs.Collect.{goes_folder, quiet}
use Rattle.runner.proofs.Sizes.{fits_none}
use Rattle.runner.proofs.Stopped.{folder_failed, folder_stops}
use Rattle.runner.proofs.making.make_root.Goals as goal

pub returns-clause-goes : goal.returns-clause-goes
returns-clause-goes g c = λ text p.
    goes_folder text (place_shown c.args.place.now) _ _ _ _ p (root_asked c.args.place.now.run) _ refl
    c.make_root.ensures.adds refl refl refl (sym (quiet (root_asked c.args.place.now.run) _ (λ x. refl))) refl (fits_none _ refl)
    (tt, [], refl, refl)

pub returns-in_err-of_folder-clause-stops : goal.returns-in_err-of_folder-clause-stops
returns-in_err-of_folder-clause-stops g c = folder_failed c.from_residual.result _ _ _ _ c.from_residual.ensures.1 c.of_folder.ensures
    c.in_err-of_folder.was done_of (λ e. refl) (λ fault small text p.
    folder_stops text (place_shown c.args.place.now) _ fault _ _ p (root_asked c.args.place.now.run) _ refl small c.make_root.ensures.adds
    (_, refl))
