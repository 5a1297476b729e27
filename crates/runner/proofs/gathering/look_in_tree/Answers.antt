use Rattle.std.proofs.Common.{◌≡◌, [], ◌∷◌, ◌++◌, refl, sym, ap, ◌∙◌, map, arith}
use Rattle.std.specs.Prelude.{Ok, string_bytes}
use Rattle.run_calls.specs.Values.{place_shown}
use Rattle.run_calls.specs.Calls.{file_asked, facts_of}
use Rattle.runner.specs.Gathered.{call_items, file_item, numbered, output_items}
use Rattle.runner.specs.Steps.{tree_items}
use Rattle.runner.proofs.Collect.{goes_folder_with}
use Rattle.runner.proofs.Popped.{was_ok}
use Rattle.runner.proofs.Pieces.{nothing_more, begun_inside}
use Rattle.runner.specs.Sizes.{folder_told}
use Rattle.runner.specs.Listed.{nodes_met, tree_to_meet}
use Rattle.runner.proofs.Walks.{file_looked}
use Rattle.runner.proofs.Sizes.{fits_still}
use Rattle.runner.proofs.Told.{facts_say, fits_told, more_than, at_most}
use Rattle.runner.proofs.Stopped.{folder_failed, folder_stops_with, folder_surpasses_with}
use Rattle.runner.proofs.gathering.look_in_tree.Goals as goal

pub returns-in_default-clause-goes : goal.returns-in_default-clause-goes
returns-in_default-clause-goes g c = λ text p.
    let is = was_ok _ _ _ c.of_folder.ensures c.in_ok-facts.was ∙ ap Ok c.in_default.is in
    let q = file_asked (place_shown c.args.place.now) c.as_str-2.result.now (map string_bytes c.deref.result.now) in
    goes_folder_with _ text (place_shown c.args.place.now) _ _ _ _ p q _ refl c.file.ensures.adds refl refl refl
    (nothing_more _ _ (ap (λ r. call_items (file_asked (place_shown c.args.place.now) c.as_str-2.result.now
    (map string_bytes c.deref.result.now)) (facts_of r)) is))
    refl
    (fits_still _ _ c.requires.counted.0.1 (ap (λ r. folder_told
    (file_asked (place_shown c.args.place.now) c.as_str-2.result.now (map string_bytes c.deref.result.now)) (facts_of r)) is))
    (file_looked (place_shown c.args.place.now) c.args.tree (string_bytes c.args.tree.path) c.as_str-2.result.now
    (c.args.tree.nodes.above ++ string_bytes c.args.name ∷ [])
    (map string_bytes c.deref.result.now) _ 0 _ c.requires.few c.as_str-2.ensures.value
    (ap (map string_bytes) c.deref.ensures.value ∙ c.in_ok-names.ensures
    ∙ ap (λ s. c.args.tree.nodes.above ++ s ∷ []) c.as_str.ensures.value)
    (ap (λ r. nodes_met (file_asked (place_shown c.args.place.now) c.as_str-2.result.now (map string_bytes c.deref.result.now))
    (facts_of r)) is) (omega arith))

pub returns-clause-goes : goal.returns-clause-goes
returns-clause-goes g c = λ text p.
    let is = was_ok _ _ _ c.of_folder.ensures c.in_ok-facts.was ∙ ap Ok c.in-Some.is in
    let path = string_bytes c.args.tree.path in
    let names = c.args.tree.nodes.above ++ string_bytes c.args.name ∷ [] in
    let names_are : map string_bytes c.deref.result.now ≡ c.args.tree.nodes.above ++ string_bytes c.args.name ∷ [] =
    ap (map string_bytes) c.deref.ensures.value ∙ c.in_ok-names.ensures
    ∙ ap (λ s. c.args.tree.nodes.above ++ s ∷ []) c.as_str.ensures.value in
    let asked = map string_bytes c.deref.result.now in
    let items = ap (λ r. call_items (file_asked (place_shown c.args.place.now) c.as_str-2.result.now asked) (facts_of r)) is
    ∙ ap (λ s. file_item (place_shown c.args.place.now) s asked c.in-Some.facts.is_executable ∷ []) c.as_str-2.ensures.value
    ∙ ap (λ ns. file_item (place_shown c.args.place.now) path ns c.in-Some.facts.is_executable ∷ []) names_are in
    goes_folder_with _ text (place_shown c.args.place.now) _ _ _ _ p
    (file_asked (place_shown c.args.place.now) c.as_str-2.result.now asked) _ refl c.file.ensures.adds refl refl refl
    (begun_inside (output_items (place_shown c.args.place.now) c.args.gathering.exited.outputs.items)
    (tree_items (place_shown c.args.place.now) c.args.tree)
    (file_item (place_shown c.args.place.now) path names c.in-Some.facts.is_executable) _ _
    (ap (numbered (place_shown c.args.place.now) path names 0) c.new.ensures) items)
    refl
    (fits_told _ _ c.in-Some.facts.size (facts_say (place_shown c.args.place.now) c.as_str-2.result.now asked _ _ is)
    (at_most _ _ _ _ _ c.is_too_large.ensures c.if-is_too_large.false c.requires.counted.0.0 refl))
    (file_looked (place_shown c.args.place.now) c.args.tree (string_bytes c.args.tree.path) c.as_str-2.result.now
    (c.args.tree.nodes.above ++ string_bytes c.args.name ∷ [])
    (map string_bytes c.deref.result.now) _ 1 _ c.requires.few c.as_str-2.ensures.value
    (ap (map string_bytes) c.deref.ensures.value ∙ c.in_ok-names.ensures
    ∙ ap (λ s. c.args.tree.nodes.above ++ s ∷ []) c.as_str.ensures.value)
    (ap (λ r. nodes_met (file_asked (place_shown c.args.place.now) c.as_str-2.result.now (map string_bytes c.deref.result.now))
    (facts_of r)) is) (omega arith))

pub returns-then-is_too_large-clause-stops : goal.returns-then-is_too_large-clause-stops
returns-then-is_too_large-clause-stops g c = λ text p.
    let is = was_ok _ _ _ c.of_folder.ensures c.in_ok-facts.was ∙ ap Ok c.in-Some.is in
    let asked = map string_bytes c.deref.result.now in
    folder_surpasses_with _ text (place_shown c.args.place.now) _ _ _ p
    (file_asked (place_shown c.args.place.now) c.as_str-2.result.now asked) _ c.in-Some.facts.size _ refl
    (ap facts_of is) c.file.ensures.adds
    (facts_say (place_shown c.args.place.now) c.as_str-2.result.now asked _ _ is)
    (more_than _ _ _ _ _ c.is_too_large.ensures c.if-is_too_large.true c.requires.counted.0.0 refl) (
      omega (arith, c.requires.few),
      _,
      ap (λ s. file_asked (place_shown c.args.place.now) s (c.args.tree.nodes.above ++ string_bytes c.args.name ∷ []) ∷ tree_to_meet
          (place_shown c.args.place.now) c.args.tree) (sym c.as_str-2.ensures.value)
          ∙ ap (λ ns. file_asked (place_shown c.args.place.now) c.as_str-2.result.now ns ∷ tree_to_meet
          (place_shown c.args.place.now) c.args.tree)
          (sym (ap (map string_bytes) c.deref.ensures.value ∙ c.in_ok-names.ensures
          ∙ ap (λ s. c.args.tree.nodes.above ++ s ∷ []) c.as_str.ensures.value)),
    )

pub returns-in_err-facts-clause-stops : goal.returns-in_err-facts-clause-stops
returns-in_err-facts-clause-stops g c = folder_failed c.from_residual-in_err-facts.result _ _ _ _ c.from_residual-in_err-facts.ensures.1
    c.of_folder.ensures c.in_err-facts.was facts_of (λ e. refl) (λ fault small text p.
    folder_stops_with _ text (place_shown c.args.place.now) _ fault _ _ p
    (file_asked (place_shown c.args.place.now) c.as_str-2.result.now (map string_bytes c.deref.result.now)) _ refl small
    c.file.ensures.adds (
      omega (arith, c.requires.few),
      _,
      ap (λ s. file_asked (place_shown c.args.place.now) s (c.args.tree.nodes.above ++ string_bytes c.args.name ∷ []) ∷ tree_to_meet
          (place_shown c.args.place.now) c.args.tree) (sym c.as_str-2.ensures.value)
          ∙ ap (λ ns. file_asked (place_shown c.args.place.now) c.as_str-2.result.now ns ∷ tree_to_meet
          (place_shown c.args.place.now) c.args.tree)
          (sym (ap (map string_bytes) c.deref.ensures.value ∙ c.in_ok-names.ensures
          ∙ ap (λ s. c.args.tree.nodes.above ++ s ∷ []) c.as_str.ensures.value)),
    ))
