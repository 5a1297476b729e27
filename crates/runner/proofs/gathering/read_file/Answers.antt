use Rattle.std.proofs.Common.{◌≡◌, [], ◌∷◌, refl, sym, ap, ◌∙◌, map, length, arith}
use Rattle.std.specs.Prelude.{string_bytes}
use Rattle.run_calls.specs.Values.{place_shown}
use Rattle.run_calls.specs.Calls.{look_asked, bytes_asked, folder_bytes_of}
use Rattle.runner.specs.Gathered.{file_item, end_item, numbered, output_items}
use Rattle.runner.specs.Steps.{file_items}
use Rattle.runner.proofs.Collect.{goes_folder}
use Rattle.runner.proofs.Popped.{was_ok, bytes_say, some_items, more_gathered}
use Rattle.runner.proofs.Pieces.{read_whole, read_more}
use Rattle.runner.proofs.Lists.{no_piece, some_piece}
use Rattle.runner.proofs.Sizes.{fits_still}
use Rattle.runner.specs.Listed.{no_walk}
use Rattle.runner.proofs.Walks.{piece_read}
use Rattle.runner.proofs.Told.{taken_on, part_says, fits_told, more_than, at_most}
use Rattle.runner.proofs.Stopped.{folder_failed, folder_stops, folder_surpasses, memory_failed}
use Rattle.runner.proofs.gathering.read_file.Goals as goal

pub returns-then-is_empty-clause-goes : goal.returns-then-is_empty-clause-goes
returns-then-is_empty-clause-goes g c = λ text p.
    let none : c.in_ok-piece.piece.items ≡ [] = no_piece c.in_ok-piece.piece _ c.is_empty.ensures c.if-is_empty.true in
    let is = was_ok _ _ _ c.of_folder.ensures c.in_ok-piece.was in
    let items = bytes_say (place_shown c.args.place.now) c.as_str.result.now [] c.length-from.result 65536 c.read.result c.in_ok-piece.piece
    [] is none ∙ ap (λ s. end_item (place_shown c.args.place.now) s [] c.length-from.result ∷ []) c.as_str.ensures.value
    ∙ ap (λ n. end_item (place_shown c.args.place.now) (string_bytes c.args.file.path) [] n ∷ []) c.length-from.ensures in
    goes_folder text (place_shown c.args.place.now) _ _ _ _ p
    (bytes_asked (place_shown c.args.place.now) c.as_str.result.now [] c.length-from.result 65536) _ refl c.read.ensures.adds refl refl
    (ap (λ l. map (look_asked (place_shown c.args.place.now)) (map string_bytes l.items)) (sym c.in_ok-gathering.ensures.left))
    (read_whole (output_items (place_shown c.args.place.now) c.args.gathering.exited.outputs.items) _
    (file_items (place_shown c.args.place.now) c.args.file)
    (end_item (place_shown c.args.place.now) (string_bytes c.args.file.path) [] (length c.args.file.content) ∷ []) _
    (c.in_ok-gathering.ensures.items (place_shown c.args.place.now)) items)
    (c.in_ok-gathering.ensures.told (place_shown c.args.place.now))
    (fits_still _ _ c.requires.counted.1 (part_says (place_shown c.args.place.now) c.as_str.result.now
    [] c.length-from.result 65536 c.read.result c.in_ok-piece.piece is ∙ ap length none))
    (piece_read no_walk no_walk (place_shown c.args.place.now) c.as_str.result.now [] c.length-from.result 65536
    (folder_bytes_of c.read.result) (omega arith) refl)

pub returns-clause-goes : goal.returns-clause-goes
returns-clause-goes g c = λ text p.
    let is = was_ok _ _ _ c.of_folder.ensures c.in_ok-piece.was in
    let path = string_bytes c.args.file.path in
    let items = bytes_say (place_shown c.args.place.now) c.as_str.result.now
    [] c.length-from.result 65536 c.read.result c.in_ok-piece.piece c.deref.result.now is (sym c.deref.ensures.value)
    ∙ some_items (place_shown c.args.place.now) c.as_str.result.now [] c.length-from.result 65536 c.deref.result.now
    (λ none. some_piece c.in_ok-piece.piece _ c.is_empty.ensures c.if-is_empty.false (sym c.deref.ensures.value ∙ none))
    ∙ ap (λ s. numbered (place_shown c.args.place.now) s [] c.length-from.result c.deref.result.now) c.as_str.ensures.value in
    goes_folder text (place_shown c.args.place.now) _ _ _ _ p
    (bytes_asked (place_shown c.args.place.now) c.as_str.result.now [] c.length-from.result 65536) _ refl c.read.ensures.adds refl refl
    refl
    (read_more (output_items (place_shown c.args.place.now) c.args.gathering.exited.outputs.items)
    (file_item (place_shown c.args.place.now) path [] c.args.file.is_executable) _ _ _
    (more_gathered (place_shown c.args.place.now) path
    [] c.args.file.content c.push.new.self c.deref.result.now c.length-from.result _ c.in_ok-push.ensures c.length-from.ensures items))
    refl
    (fits_told _ _ _ (part_says (place_shown c.args.place.now) c.as_str.result.now
    [] c.length-from.result 65536 c.read.result c.in_ok-piece.piece is)
    (at_most _ _ _ _ _ c.is_too_large.ensures c.if-is_too_large.false c.requires.counted.0
    (omega (arith, c.len-count.ensures, c.in_ok-piece.piece.ok))))
    (piece_read no_walk no_walk (place_shown c.args.place.now) c.as_str.result.now [] c.length-from.result 65536
    (folder_bytes_of c.read.result) (omega arith) refl)

pub returns-then-is_too_large-clause-stops : goal.returns-then-is_too_large-clause-stops
returns-then-is_too_large-clause-stops g c = λ text p.
    let is = was_ok _ _ _ c.of_folder.ensures c.in_ok-piece.was in
    folder_surpasses text (place_shown c.args.place.now) _ _ _ p
    (bytes_asked (place_shown c.args.place.now) c.as_str.result.now [] c.length-from.result 65536) _ _ _ refl
    (ap folder_bytes_of is) c.read.ensures.adds
    (part_says (place_shown c.args.place.now) c.as_str.result.now [] c.length-from.result 65536 c.read.result c.in_ok-piece.piece is)
    (more_than _ _ _ _ _ c.is_too_large.ensures c.if-is_too_large.true c.requires.counted.0
    (omega (arith, c.len-count.ensures, c.in_ok-piece.piece.ok))) (
      65536,
      omega arith,
      ap (λ s. bytes_asked (place_shown c.args.place.now) s [] c.length-from.result 65536) c.as_str.ensures.value
          ∙ ap (λ n. bytes_asked (place_shown c.args.place.now) (string_bytes c.args.file.path) [] n 65536) c.length-from.ensures,
    )

pub returns-then-is_empty-clause-counted : goal.returns-then-is_empty-clause-counted
returns-then-is_empty-clause-counted g c = taken_on _ _ _ _ c.requires.counted c.in_ok-gathering.ensures.taken
    c.in_ok-gathering.ensures.length

pub returns-in_err-piece-clause-stops : goal.returns-in_err-piece-clause-stops
returns-in_err-piece-clause-stops g c = folder_failed c.from_residual.result _ _ _ _ c.from_residual.ensures.1 c.of_folder.ensures
    c.in_err-piece.was folder_bytes_of (λ e. refl) (λ fault small text p.
    folder_stops text (place_shown c.args.place.now) _ fault _ _ p
    (bytes_asked (place_shown c.args.place.now) c.as_str.result.now [] c.length-from.result 65536) _ refl small c.read.ensures.adds (
      65536,
      omega arith,
      ap (λ s. bytes_asked (place_shown c.args.place.now) s [] c.length-from.result 65536) c.as_str.ensures.value
          ∙ ap (λ n. bytes_asked (place_shown c.args.place.now) (string_bytes c.args.file.path) [] n 65536) c.length-from.ensures,
    ))

pub returns-in_err-gathering-clause-stops : goal.returns-in_err-gathering-clause-stops
returns-in_err-gathering-clause-stops g c = memory_failed c.from_residual-in_err-gathering.result _ _ _
    (ap folder_bytes_of (was_ok _ _ _ c.of_folder.ensures c.in_ok-piece.was)) c.from_residual-in_err-gathering.ensures.1
    (λ fault small text p.
    folder_stops text (place_shown c.args.place.now) _ fault _ _ p
    (bytes_asked (place_shown c.args.place.now) c.as_str.result.now [] c.length-from.result 65536) _ refl small c.read.ensures.adds (
      65536,
      omega arith,
      ap (λ s. bytes_asked (place_shown c.args.place.now) s [] c.length-from.result 65536) c.as_str.ensures.value
          ∙ ap (λ n. bytes_asked (place_shown c.args.place.now) (string_bytes c.args.file.path) [] n 65536) c.length-from.ensures,
    ))

pub returns-in_err-push-clause-stops : goal.returns-in_err-push-clause-stops
returns-in_err-push-clause-stops g c = memory_failed c.from_residual-in_err-push.result _ _ _
    (ap folder_bytes_of (was_ok _ _ _ c.of_folder.ensures c.in_ok-piece.was)) c.from_residual-in_err-push.ensures.1 (λ fault small text p.
    folder_stops text (place_shown c.args.place.now) _ fault _ _ p
    (bytes_asked (place_shown c.args.place.now) c.as_str.result.now [] c.length-from.result 65536) _ refl small c.read.ensures.adds (
      65536,
      omega arith,
      ap (λ s. bytes_asked (place_shown c.args.place.now) s [] c.length-from.result 65536) c.as_str.ensures.value
          ∙ ap (λ n. bytes_asked (place_shown c.args.place.now) (string_bytes c.args.file.path) [] n 65536) c.length-from.ensures,
    ))
