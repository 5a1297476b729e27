use Rattle.std.proofs.Common.{◌+◌, [], ◌∷◌, ◌++◌, refl, sym, ap, ◌∙◌, length, map, reverse, append-nil, arith}
use Rattle.std.specs.Prelude.{string_bytes}
use Rattle.run_calls.specs.Values.{entry_shown, place_shown}
use Rattle.run_calls.specs.Calls.{list_asked, entries_of}
use Rattle.runner.specs.Gathered.{call_items, directory_item, output_items}
use Rattle.runner.specs.Steps.{tree_items}
use Rattle.runner.proofs.Collect.{goes_folder_with}
use Rattle.runner.proofs.Popped.{was_ok}
use Rattle.runner.proofs.Pieces.{one_behind}
use Rattle.runner.specs.Sizes.{exited_length}
use Rattle.runner.specs.Made.{names_at}
use Rattle.runner.specs.Listed.{most_nodes, file_names, inner_shown, inners_of, tree_to_meet}
use Rattle.runner.proofs.Walks.{inner_listed, inner_stacked}
use Rattle.runner.proofs.Sizes.{fits_still}
use Rattle.runner.proofs.Told.{taken_on}
use Rattle.runner.proofs.Stopped.{folder_failed, folder_stops_with, memory_failed}
use Rattle.runner.proofs.gathering.list_in_tree.Goals as goal

pub returns-clause-goes : goal.returns-clause-goes
returns-clause-goes g c = λ text p.
    let place = place_shown c.args.place.now in
    let is = was_ok _ _ _ c.of_folder.ensures c.in_ok-entries.was in
    let asked = map string_bytes c.above-names.result.now in
    let q = list_asked place c.as_str.result.now asked 10001 in
    let items = ap (λ r. call_items q (entries_of r)) is
    ∙ ap (λ s. directory_item place s asked ∷ []) (c.as_str.ensures.value ∙ ap string_bytes c.in_ok-tree.ensures.path)
    ∙ ap (λ ns. directory_item place (string_bytes c.args.tree.path) ns ∷ []) c.above-names.ensures in
    goes_folder_with _ text place _ _ _ _ p q _ refl c.list.ensures.adds refl refl refl
    (one_behind (output_items place c.args.gathering.exited.outputs.items) (tree_items place c.args.tree) _ _
    (c.in_ok-tree.ensures.items place ∙ ap (λ is. tree_items place c.args.tree ++ is) (sym items)))
    refl
    (fits_still _ _ c.requires.counted.0.1 refl)
    (inner_listed place c.args.tree c.in_ok-tree.tree.path c.in_ok-tree.tree.nodes.above c.set_apart.new.files.items
    c.set_apart.new.todo.items (length c.in_ok-tree.tree.nodes.nodes) c.args.inner (c.args.inner.level + 1) c.as_str.result.now asked
    c.list.result c.in_ok-entries.entries is c.requires.stack c.requires.files c.requires.few
    c.in_ok-tree.ensures.path c.in_ok-tree.ensures.above c.in_ok-tree.ensures.count
    (c.as_str.ensures.value ∙ ap string_bytes c.in_ok-tree.ensures.path) c.above-names.ensures refl
    (c.in_ok-set_apart.ensures.files ∙ ap (λ fs. file_names (map entry_shown c.in_ok-entries.entries.items) ++ fs)
    (ap (λ fs. map string_bytes fs.items) c.in_ok-tree.ensures.files ∙ c.requires.files) ∙ append-nil _)
    (c.in_ok-set_apart.ensures.directories ∙ ap (λ td. map inner_shown td.items
    ++ reverse (inners_of (c.args.inner.level + 1) (map entry_shown c.in_ok-entries.entries.items))) c.in_ok-tree.ensures.todo))

pub returns-clause-counted : goal.returns-clause-counted
returns-clause-counted g c = (
  taken_on _ _ _ _ c.requires.counted.0 refl (ap (λ n. exited_length c.args.gathering.exited + n) c.in_ok-tree.ensures.length),
  inner_stacked c.args.tree c.in_ok-tree.tree.nodes.above c.set_apart.new.todo.items c.args.inner (c.args.inner.level + 1)
      (map entry_shown c.in_ok-entries.entries.items) c.requires.stack
      c.in_ok-tree.ensures.above refl
      (c.in_ok-set_apart.ensures.directories ∙ ap (λ td. map inner_shown td.items
      ++ reverse (inners_of (c.args.inner.level + 1) (map entry_shown c.in_ok-entries.entries.items))) c.in_ok-tree.ensures.todo),
)

pub returns-in_err-entries-clause-stops : goal.returns-in_err-entries-clause-stops
returns-in_err-entries-clause-stops g c = folder_failed c.from_residual-in_err-entries.result _ _ _ _
    c.from_residual-in_err-entries.ensures.1 c.of_folder.ensures c.in_err-entries.was entries_of (λ e. refl) (λ fault small text p.
    folder_stops_with _ text (place_shown c.args.place.now) _ fault _ _ p
    (list_asked (place_shown c.args.place.now) c.as_str.result.now (map string_bytes c.above-names.result.now) 10001) _ refl small
    c.list.ensures.adds (
      omega (arith, c.requires.few),
      _,
      ap (λ s. list_asked (place_shown c.args.place.now) s
          (names_at c.args.tree.nodes.above c.args.inner.level (string_bytes c.args.inner.name)) most_nodes ∷ tree_to_meet
          (place_shown c.args.place.now) c.args.tree) (sym (c.as_str.ensures.value ∙ ap string_bytes c.in_ok-tree.ensures.path))
          ∙ ap (λ ns. list_asked (place_shown c.args.place.now) c.as_str.result.now ns most_nodes ∷ tree_to_meet
          (place_shown c.args.place.now) c.args.tree) (sym (c.above-names.ensures ∙ c.in_ok-tree.ensures.above)),
    ))

pub returns-in_err-set_apart-clause-stops : goal.returns-in_err-set_apart-clause-stops
returns-in_err-set_apart-clause-stops g c = memory_failed c.from_residual-in_err-set_apart.result _ _ _
    (ap entries_of (was_ok _ _ _ c.of_folder.ensures c.in_ok-entries.was)) c.from_residual-in_err-set_apart.ensures.1 (λ fault small text p.
    folder_stops_with _ text (place_shown c.args.place.now) _ fault _ _ p
    (list_asked (place_shown c.args.place.now) c.as_str.result.now (map string_bytes c.above-names.result.now) 10001) _ refl small
    c.list.ensures.adds (
      omega (arith, c.requires.few),
      _,
      ap (λ s. list_asked (place_shown c.args.place.now) s
          (names_at c.args.tree.nodes.above c.args.inner.level (string_bytes c.args.inner.name)) most_nodes ∷ tree_to_meet
          (place_shown c.args.place.now) c.args.tree) (sym (c.as_str.ensures.value ∙ ap string_bytes c.in_ok-tree.ensures.path))
          ∙ ap (λ ns. list_asked (place_shown c.args.place.now) c.as_str.result.now ns most_nodes ∷ tree_to_meet
          (place_shown c.args.place.now) c.args.tree) (sym (c.above-names.ensures ∙ c.in_ok-tree.ensures.above)),
    ))
