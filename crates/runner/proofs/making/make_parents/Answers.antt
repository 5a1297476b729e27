use Rattle.std.proofs.Common.{[], ◌∷◌, refl, sym, ap, ◌∙◌, subst, map, ◌++◌, append-nil}
use Rattle.std.specs.Prelude.{string_bytes}
use Rattle.run_calls.specs.Values.{place_shown, command_shown}
use Rattle.run_calls.specs.Calls.{start_asked, parents_asked, look_asked, call, Adds, done_of}
use Rattle.runner.specs.Made.{parents_item}
use Rattle.runner.proofs.Collect.{goes_alone, goes_folder, quiet}
use Rattle.runner.proofs.Popped.{popped, popped_none, moved, was_ok}
use Rattle.runner.proofs.Sizes.{fits_none}
use Rattle.runner.proofs.Stopped.{folder_failed, folder_stops, memory_failed}
use Rattle.runner.proofs.making.make_parents.Goals as goal

pub returns-in_default-clause-goes : goal.returns-in_default-clause-goes
returns-in_default-clause-goes g c = λ text p.
    let none = popped_none _ _ _ c.pop_front.ensures.items c.pop_front.ensures.rest c.in_default.is in
    goes_alone text (place_shown c.args.place.now) _ _ _ p
    (ap (map (λ o. parents_item (place_shown c.args.place.now) (string_bytes o))) none)
    (ap (λ m. start_asked (place_shown c.args.place.now) (command_shown m) ∷ []) (sym c.prepared.ensures.command))
    (ap (λ l. map (look_asked (place_shown c.args.place.now)) (map string_bytes c.args.parents.made.items ++ map string_bytes l)) none
    ∙ ap (map (look_asked (place_shown c.args.place.now))) (append-nil (map string_bytes c.args.parents.made.items))
    ∙ ap (λ l. map (look_asked (place_shown c.args.place.now)) (map string_bytes l.items)) (sym c.prepared.ensures.outputs))
    refl refl
    refl

pub returns-clause-goes : goal.returns-clause-goes
returns-clause-goes g c = λ text p.
    let first = popped _ _ _ _ c.pop_front.ensures.items c.in-Some.is in
    let q = parents_asked (place_shown c.args.place.now) (string_bytes c.in-Some.path) in
    goes_folder text (place_shown c.args.place.now) _ _ _ _ p q _ refl
    (subst (λ s. Adds (g.F.Folder.asked c.args.folder.now) (g.F.Folder.asked c.make_parents.new.self)
    (call (parents_asked (place_shown c.args.place.now) s) (done_of c.make_parents.result)))
    c.as_str.ensures.value c.make_parents.ensures.adds)
    (ap (map (λ o. parents_item (place_shown c.args.place.now) (string_bytes o))) first)
    refl
    (ap (map (look_asked (place_shown c.args.place.now))) (moved string_bytes _ _ _ _ _ first c.in_ok-push_back.ensures.items))
    (sym (quiet q _ (λ x. refl))) refl (fits_none _ refl)
    (tt, [], refl, refl)

pub returns-in_err-of_folder-clause-stops : goal.returns-in_err-of_folder-clause-stops
returns-in_err-of_folder-clause-stops g c = folder_failed c.from_residual.result _ _ _ _ c.from_residual.ensures.1 c.of_folder.ensures
    c.in_err-of_folder.was done_of (λ e. refl) (λ fault small text p.
    folder_stops text (place_shown c.args.place.now) _ fault _ _ p
    (parents_asked (place_shown c.args.place.now) (string_bytes c.in-Some.path)) _ refl small
    (subst (λ s. Adds (g.F.Folder.asked c.args.folder.now) (g.F.Folder.asked c.make_parents.new.self)
    (call (parents_asked (place_shown c.args.place.now) s) (done_of c.make_parents.result)))
    c.as_str.ensures.value c.make_parents.ensures.adds) (
      _,
      ap (map (λ o. parents_item (place_shown c.args.place.now) (string_bytes o)))
          (popped _ _ _ _ c.pop_front.ensures.items c.in-Some.is),
    ))

pub returns-in_err-push_back-clause-stops : goal.returns-in_err-push_back-clause-stops
returns-in_err-push_back-clause-stops g c = memory_failed c.from_residual-in_err-push_back.result _ _ _
    (ap done_of (was_ok _ _ _ c.of_folder.ensures c.in_ok-of_folder.was)) c.from_residual-in_err-push_back.ensures.1 (λ fault small text p.
    folder_stops text (place_shown c.args.place.now) _ fault _ _ p
    (parents_asked (place_shown c.args.place.now) (string_bytes c.in-Some.path)) _ refl small
    (subst (λ s. Adds (g.F.Folder.asked c.args.folder.now) (g.F.Folder.asked c.make_parents.new.self)
    (call (parents_asked (place_shown c.args.place.now) s) (done_of c.make_parents.result)))
    c.as_str.ensures.value c.make_parents.ensures.adds) (
      _,
      ap (map (λ o. parents_item (place_shown c.args.place.now) (string_bytes o)))
          (popped _ _ _ _ c.pop_front.ensures.items c.in-Some.is),
    ))
