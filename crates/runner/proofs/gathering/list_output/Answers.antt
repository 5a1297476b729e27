use Rattle.std.proofs.Common.{◌+◌, add-zero, [], ◌∷◌, refl, sym, ap, map, ◌∙◌, zero-le}
use Rattle.std.specs.Prelude.{string_bytes}
use Rattle.run_calls.specs.Values.{entry_shown, place_shown}
use Rattle.run_calls.specs.Calls.{list_asked, entries_of}
use Rattle.runner.specs.Gathered.{call_items, found_item, directory_item, output_items, nodes_items}
use Rattle.runner.proofs.Collect.{goes_folder}
use Rattle.runner.proofs.Popped.{was_ok}
use Rattle.runner.proofs.Pieces.{begun_inside}
use Rattle.runner.specs.Listed.{most_nodes, inner_shown}
use Rattle.runner.proofs.Walks.{output_listed, output_stacked}
use Rattle.runner.specs.Sizes.{exited_length, nodes_length}
use Rattle.runner.proofs.Told.{taken_on}
use Rattle.runner.proofs.Sizes.{fits_still}
use Rattle.runner.proofs.Stopped.{folder_failed, folder_stops, memory_failed}
use Rattle.runner.proofs.gathering.list_output.Goals as goal

pub returns-clause-goes : goal.returns-clause-goes
returns-clause-goes g c = λ text p.
    let is = was_ok _ _ _ c.of_folder.ensures c.in_ok-entries.was in
    let path = string_bytes c.args.path in
    let q = list_asked (place_shown c.args.place.now) c.as_str.result.now [] 10001 in
    let items = ap (λ r. call_items (list_asked (place_shown c.args.place.now) c.as_str.result.now [] 10001) (entries_of r)) is
    ∙ ap (λ s. directory_item (place_shown c.args.place.now) s [] ∷ []) c.as_str.ensures.value in
    goes_folder text (place_shown c.args.place.now) _ _ _ _ p q _ refl c.list.ensures.adds refl refl refl
    (begun_inside (output_items (place_shown c.args.place.now) c.args.gathering.exited.outputs.items)
    (found_item (place_shown c.args.place.now) path ∷ []) (directory_item (place_shown c.args.place.now) path []) _ _
    (ap (nodes_items (place_shown c.args.place.now) path []) c.new.ensures.nodes) items)
    refl
    (fits_still _ _ c.requires.counted.1 refl)
    (output_listed (place_shown c.args.place.now) path c.as_str.result.now c.list.result c.in_ok-entries.entries c.new.result.above
    c.new.result.nodes c.set_apart.new.files.items c.set_apart.new.todo.items _ _ is c.as_str.ensures.value c.new.ensures.above
    c.new.ensures.nodes (ap (map inner_shown) c.new-todo.ensures.items)
    (ap (map string_bytes) c.new-files.ensures.items) c.in_ok-set_apart.ensures.files c.in_ok-set_apart.ensures.directories)

pub returns-in_err-entries-clause-stops : goal.returns-in_err-entries-clause-stops
returns-in_err-entries-clause-stops g c = folder_failed c.from_residual.result _ _ _ _ c.from_residual.ensures.1 c.of_folder.ensures
    c.in_err-entries.was entries_of (λ e. refl) (λ fault small text p.
    folder_stops text (place_shown c.args.place.now) _ fault _ _ p
    (list_asked (place_shown c.args.place.now) c.as_str.result.now [] 10001) _ refl small c.list.ensures.adds
    (zero-le, [], ap (λ s. list_asked (place_shown c.args.place.now) s [] most_nodes ∷ []) (sym c.as_str.ensures.value)))

pub returns-in_err-set_apart-clause-stops : goal.returns-in_err-set_apart-clause-stops
returns-in_err-set_apart-clause-stops g c = memory_failed c.from_residual-in_err-set_apart.result _ _ _
    (ap entries_of (was_ok _ _ _ c.of_folder.ensures c.in_ok-entries.was)) c.from_residual-in_err-set_apart.ensures.1 (λ fault small text p.
    folder_stops text (place_shown c.args.place.now) _ fault _ _ p
    (list_asked (place_shown c.args.place.now) c.as_str.result.now [] 10001) _ refl small c.list.ensures.adds
    (zero-le, [], ap (λ s. list_asked (place_shown c.args.place.now) s [] most_nodes ∷ []) (sym c.as_str.ensures.value)))

pub returns-clause-counted : goal.returns-clause-counted
returns-clause-counted g c = (
  taken_on _ _ (exited_length c.args.gathering.exited) _ c.requires.counted refl
      (ap (λ ns. exited_length c.args.gathering.exited + nodes_length ns) c.new.ensures.nodes ∙ add-zero _),
  output_stacked c.new.result.above c.set_apart.new.todo.items (map entry_shown c.in_ok-entries.entries.items)
      (map inner_shown c.new-todo.result.items) c.new.ensures.above
      (ap (map inner_shown) c.new-todo.ensures.items) c.in_ok-set_apart.ensures.directories,
)
