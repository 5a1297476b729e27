use Rattle.std.proofs.Common.{[], ◌∷◌, ◌++◌, ◌∙◌, refl, sym, ap, map}
use Rattle.std.specs.Prelude.{string_bytes}
use Rattle.run_calls.specs.Values.{place_shown, command_shown}
use Rattle.run_calls.specs.Calls.{done_of, directory_asked, look_asked, start_asked}
use Rattle.runner.specs.Made.{directory_item, parents_item}
use Rattle.runner.proofs.Collect.{goes_folder, quiet}
use Rattle.runner.proofs.Sizes.{fits_none}
use Rattle.runner.proofs.Stopped.{folder_failed, folder_stops}
use Rattle.runner.proofs.making.make_directory.Goals as goal

pub returns-clause-goes : goal.returns-clause-goes
returns-clause-goes g c = λ text p.
    let place = place_shown c.args.place.now in
    let q = directory_asked place in
    let to = c.parents-parents.ensures in
    goes_folder text place _ _ _ _ p q _ refl c.make_working_directory.ensures.adds
    (ap (λ l. directory_item place ∷ map (λ o. parents_item place (string_bytes o)) l.items) (sym to.left))
    (ap (λ m. start_asked place (command_shown m) ∷ []) (sym to.command))
    (ap (λ l. map (look_asked place) (map string_bytes l.items)) (sym to.left)
    ∙ ap (λ made. map (look_asked place) (map string_bytes made ++ map string_bytes c.parents-parents.result.left.items)) (sym to.made))
    (sym (quiet q _ (λ x. refl))) refl (fits_none _ refl)
    (tt, [], refl, refl)

pub returns-in_err-of_folder-clause-stops : goal.returns-in_err-of_folder-clause-stops
returns-in_err-of_folder-clause-stops g c = folder_failed c.from_residual.result _ _ _ _ c.from_residual.ensures.1 c.of_folder.ensures
    c.in_err-of_folder.was done_of (λ e. refl) (λ fault small text p.
    folder_stops text (place_shown c.args.place.now) _ fault _ _ p
    (directory_asked (place_shown c.args.place.now)) _ refl small c.make_working_directory.ensures.adds (_, refl))
