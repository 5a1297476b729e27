use Rattle.std.proofs.Common.{[], ◌∷◌, ◌++◌, refl, sym, ap, ◌∙◌, map}
use Rattle.std.specs.Prelude.{Ok, string_bytes}
use Rattle.run_calls.specs.Values.{place_shown}
use Rattle.run_calls.specs.Calls.{look_asked, list_asked, found_of}
use Rattle.runner.specs.Steps.{exited_told}
use Rattle.runner.specs.Gathered.{call_items, file_item, found_item, numbered, output_items}
use Rattle.runner.proofs.Collect.{goes_alone, goes_folder}
use Rattle.runner.proofs.Popped.{was_ok, popped, popped_none}
use Rattle.runner.proofs.Pieces.{nothing_more, begun}
use Rattle.runner.specs.Listed.{entries_told, most_nodes}
use Rattle.runner.proofs.Walks.{looked}
use Rattle.runner.specs.Sizes.{folder_told}
use Rattle.runner.proofs.Sizes.{fits_still}
use Rattle.runner.proofs.Told.{found_says, fits_told, more_than, at_most}
use Rattle.runner.proofs.Stopped.{folder_failed, folder_stops, folder_surpasses}
use Rattle.runner.proofs.gathering.next_output.Goals as goal

pub returns-in_default-clause-goes : goal.returns-in_default-clause-goes
returns-in_default-clause-goes g c = λ text p.
    goes_alone text (place_shown c.args.place.now) _ _ _ p refl refl
    (ap (λ l. map (look_asked (place_shown c.args.place.now)) (map string_bytes l))
    (popped_none _ _ _ c.pop_front.ensures.items c.pop_front.ensures.rest c.in_default.is))
    (ap (λ e. output_items (place_shown c.args.place.now) e.outputs.items) c.exited.ensures)
    (ap (exited_told (place_shown c.args.place.now)) c.exited.ensures)
    refl

pub returns-else-is_too_large-clause-goes : goal.returns-else-is_too_large-clause-goes
returns-else-is_too_large-clause-goes g c = λ text p.
    let is = was_ok _ _ _ c.of_folder.ensures c.in_ok-facts.was ∙ ap Ok c.in-File.is in
    let first = popped _ _ _ _ c.pop_front.ensures.items c.in-Some.is in
    let path = string_bytes c.in-Some.path in
    let items = ap (λ r. call_items (look_asked (place_shown c.args.place.now) c.as_str.result.now) (found_of r)) is
    ∙ ap (λ s. file_item (place_shown c.args.place.now) s [] c.in-File.facts.is_executable ∷ []) c.as_str.ensures.value in
    goes_folder text (place_shown c.args.place.now) _ _ _ _ p
    (look_asked (place_shown c.args.place.now) c.as_str.result.now) _ refl c.look.ensures.adds refl refl
    (ap (λ l. map (look_asked (place_shown c.args.place.now)) (map string_bytes l)) first
    ∙ ap (λ s. look_asked (place_shown c.args.place.now) s ∷ map (look_asked (place_shown c.args.place.now))
    (map string_bytes c.pop_front.new.self.items)) (sym c.as_str.ensures.value))
    (begun (output_items (place_shown c.args.place.now) c.args.gathering.exited.outputs.items)
    (file_item (place_shown c.args.place.now) path [] c.in-File.facts.is_executable) _ _
    (ap (numbered (place_shown c.args.place.now) path [] 0) c.new.ensures) items)
    refl
    (fits_told _ _ c.in-File.facts.size (found_says (place_shown c.args.place.now) c.as_str.result.now _ _ is)
    (at_most _ _ _ _ _ c.is_too_large.ensures c.if-is_too_large.false c.requires.counted.0 refl))
    (looked (place_shown c.args.place.now) c.as_str.result.now _ _
    (ap (λ r. entries_told (look_asked (place_shown c.args.place.now) c.as_str.result.now) (found_of r)) is))

pub returns-in-Directory-clause-goes : goal.returns-in-Directory-clause-goes
returns-in-Directory-clause-goes g c = λ text p.
    let is = was_ok _ _ _ c.of_folder.ensures c.in_ok-facts.was ∙ ap Ok c.in-Directory.is in
    let first = popped _ _ _ _ c.pop_front.ensures.items c.in-Some.is in
    goes_folder text (place_shown c.args.place.now) _ _ _ _ p
    (look_asked (place_shown c.args.place.now) c.as_str.result.now) _ refl c.look.ensures.adds refl refl
    (ap (λ l. map (look_asked (place_shown c.args.place.now)) (map string_bytes l)) first
    ∙ ap (λ s. look_asked (place_shown c.args.place.now) s ∷ map (look_asked (place_shown c.args.place.now))
    (map string_bytes c.pop_front.new.self.items)) (sym c.as_str.ensures.value))
    (ap (λ zs. output_items (place_shown c.args.place.now) c.args.gathering.exited.outputs.items ++ zs)
    (sym (ap (λ r. call_items (look_asked (place_shown c.args.place.now) c.as_str.result.now) (found_of r)) is
    ∙ ap (λ s. found_item (place_shown c.args.place.now) s ∷ []) c.as_str.ensures.value)))
    refl
    (fits_still _ _ c.requires.counted.1 (ap (λ r. folder_told (look_asked (place_shown c.args.place.now) c.as_str.result.now) (found_of r))
    is))
    (looked (place_shown c.args.place.now) c.as_str.result.now _ _
    (ap (λ r. entries_told (look_asked (place_shown c.args.place.now) c.as_str.result.now) (found_of r)) is
    ∙ ap (λ s. list_asked (place_shown c.args.place.now) s [] most_nodes ∷ []) c.as_str.ensures.value))

pub returns-in-Nothing-clause-goes : goal.returns-in-Nothing-clause-goes
returns-in-Nothing-clause-goes g c = λ text p.
    let is = was_ok _ _ _ c.of_folder.ensures c.in_ok-facts.was ∙ ap Ok c.in-Nothing.is in
    let first = popped _ _ _ _ c.pop_front.ensures.items c.in-Some.is in
    goes_folder text (place_shown c.args.place.now) _ _ _ _ p
    (look_asked (place_shown c.args.place.now) c.as_str.result.now) _ refl c.look.ensures.adds refl refl
    (ap (λ l. map (look_asked (place_shown c.args.place.now)) (map string_bytes l)) first
    ∙ ap (λ s. look_asked (place_shown c.args.place.now) s ∷ map (look_asked (place_shown c.args.place.now))
    (map string_bytes c.pop_front.new.self.items)) (sym c.as_str.ensures.value))
    (nothing_more _ _ (ap (λ r. call_items (look_asked (place_shown c.args.place.now) c.as_str.result.now) (found_of r)) is))
    refl
    (fits_still _ _ c.requires.counted.1 (ap (λ r. folder_told (look_asked (place_shown c.args.place.now) c.as_str.result.now) (found_of r))
    is))
    (looked (place_shown c.args.place.now) c.as_str.result.now _ _
    (ap (λ r. entries_told (look_asked (place_shown c.args.place.now) c.as_str.result.now) (found_of r)) is))

pub returns-in-Other-clause-goes : goal.returns-in-Other-clause-goes
returns-in-Other-clause-goes g c = λ text p.
    let is = was_ok _ _ _ c.of_folder.ensures c.in_ok-facts.was ∙ ap Ok c.in-Other.is in
    let first = popped _ _ _ _ c.pop_front.ensures.items c.in-Some.is in
    goes_folder text (place_shown c.args.place.now) _ _ _ _ p
    (look_asked (place_shown c.args.place.now) c.as_str.result.now) _ refl c.look.ensures.adds refl refl
    (ap (λ l. map (look_asked (place_shown c.args.place.now)) (map string_bytes l)) first
    ∙ ap (λ s. look_asked (place_shown c.args.place.now) s ∷ map (look_asked (place_shown c.args.place.now))
    (map string_bytes c.pop_front.new.self.items)) (sym c.as_str.ensures.value))
    (nothing_more _ _ (ap (λ r. call_items (look_asked (place_shown c.args.place.now) c.as_str.result.now) (found_of r)) is))
    refl
    (fits_still _ _ c.requires.counted.1 (ap (λ r. folder_told (look_asked (place_shown c.args.place.now) c.as_str.result.now) (found_of r))
    is))
    (looked (place_shown c.args.place.now) c.as_str.result.now _ _
    (ap (λ r. entries_told (look_asked (place_shown c.args.place.now) c.as_str.result.now) (found_of r)) is))

pub returns-then-is_too_large-clause-stops : goal.returns-then-is_too_large-clause-stops
returns-then-is_too_large-clause-stops g c = λ text p.
    let is = was_ok _ _ _ c.of_folder.ensures c.in_ok-facts.was ∙ ap Ok c.in-File.is in
    folder_surpasses text (place_shown c.args.place.now) _ _ _ p
    (look_asked (place_shown c.args.place.now) c.as_str.result.now) _ c.in-File.facts.size _ refl (ap found_of is) c.look.ensures.adds
    (found_says (place_shown c.args.place.now) c.as_str.result.now _ _ is)
    (more_than _ _ _ _ _ c.is_too_large.ensures c.if-is_too_large.true c.requires.counted.0 refl) (
      _,
      ap (λ l. map (look_asked (place_shown c.args.place.now)) (map string_bytes l))
          (popped _ _ _ _ c.pop_front.ensures.items c.in-Some.is)
          ∙ ap (λ s. look_asked (place_shown c.args.place.now) s ∷ map (look_asked (place_shown c.args.place.now))
          (map string_bytes c.pop_front.new.self.items)) (sym c.as_str.ensures.value),
    )

pub returns-in_err-facts-clause-stops : goal.returns-in_err-facts-clause-stops
returns-in_err-facts-clause-stops g c = folder_failed c.from_residual.result _ _ _ _ c.from_residual.ensures.1 c.of_folder.ensures
    c.in_err-facts.was found_of (λ e. refl) (λ fault small text p.
    folder_stops text (place_shown c.args.place.now) _ fault _ _ p
    (look_asked (place_shown c.args.place.now) c.as_str.result.now) _ refl small c.look.ensures.adds (
      _,
      ap (λ l. map (look_asked (place_shown c.args.place.now)) (map string_bytes l))
          (popped _ _ _ _ c.pop_front.ensures.items c.in-Some.is)
          ∙ ap (λ s. look_asked (place_shown c.args.place.now) s ∷ map (look_asked (place_shown c.args.place.now))
          (map string_bytes c.pop_front.new.self.items)) (sym c.as_str.ensures.value),
    ))
