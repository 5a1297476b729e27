use Rattle.std.proofs.Common.{◌≡◌, [], ◌++◌, ◌∷◌, refl, sym, ap, ◌∙◌, length, map, append_assoc, arith}
use Rattle.std.specs.Prelude.{string_bytes}
use Rattle.run_calls.specs.declared.programs.Stream.TheVariants as streams
use Rattle.run_calls.specs.Values.{place_shown}
use Rattle.run_calls.specs.Calls.{bytes_of, look_asked, read_asked}
use Rattle.runner.specs.Told.{code_item, killed_item, stream_bytes, stream_end, whole_stream}
use Rattle.runner.specs.Gathered.{output_items}
use Rattle.runner.proofs.Collect.{goes_program}
use Rattle.runner.proofs.Popped.{programs_ok, read_says, no_failure, some_told, more_read}
use Rattle.runner.proofs.Sizes.{fits_still}
use Rattle.runner.proofs.Told.{stream_says, fits_told, more_than, at_most}
use Rattle.runner.proofs.Lists.{no_piece, some_piece}
use Rattle.runner.proofs.Stopped.{programs_memory_failed, program_stops, program_surpasses, programs_failed}
use Rattle.runner.proofs.running.read_error.Goals as goal

pub returns-then-is_empty-clause-goes : goal.returns-then-is_empty-clause-goes
returns-then-is_empty-clause-goes g c = λ text f.
    let none : c.in_ok-piece.piece.items ≡ [] = no_piece c.in_ok-piece.piece _ c.is_empty.ensures c.if-is_empty.true in
    let run = c.args.place.now.run in
    let from = c.length-from.result in
    let is = programs_ok _ _ _ c.of_programs.ensures c.in_ok-piece.was in
    let items = read_says run streams.Error from 65536 c.read.result c.in_ok-piece.piece [] is none
    ∙ ap (λ n. stream_end run streams.Error n ∷ []) c.length-from.ensures in
    goes_program text (place_shown c.args.place.now) _ _ f _ _
    (read_asked run streams.Error from 65536) _ refl c.read.ensures.adds refl refl
    (ap (λ l. map (look_asked (place_shown c.args.place.now)) (map string_bytes l.items)) (sym c.both_read-gathering.ensures.left))
    (ap (output_items (place_shown c.args.place.now)) c.both_read-gathering.ensures.outputs)
    (c.both_read-gathering.ensures.told (place_shown c.args.place.now)
    ∙ ap (λ zs. code_item run c.args.ended.code ∷ killed_item run ∷ zs)
    (sym (append_assoc (whole_stream run streams.Output c.args.stdout) (stream_bytes run streams.Error 0 c.args.content)
    (stream_end run streams.Error (length c.args.content) ∷ [])))
    ∙ ap (λ is. (code_item run c.args.ended.code ∷ killed_item run ∷
    (whole_stream run streams.Output c.args.stdout ++ stream_bytes run streams.Error 0 c.args.content)) ++ is) (sym items))
    (fits_still _ _ c.requires.counted (stream_says run streams.Error from 65536 c.read.result c.in_ok-piece.piece is ∙ ap length none))
    refl refl (no_failure (read_asked run streams.Error from 65536) bytes_of _ _ is (λ y. refl))

pub returns-clause-goes : goal.returns-clause-goes
returns-clause-goes g c = λ text f.
    let run = c.args.place.now.run in
    let from = c.length-from.result in
    let is = programs_ok _ _ _ c.of_programs.ensures c.in_ok-piece.was in
    let items = read_says run streams.Error from 65536 c.read.result c.in_ok-piece.piece c.deref.result.now is (sym c.deref.ensures.value)
    ∙ some_told run streams.Error from 65536 c.deref.result.now
    (λ none. some_piece c.in_ok-piece.piece _ c.is_empty.ensures c.if-is_empty.false (sym c.deref.ensures.value ∙ none)) in
    let more = more_read run streams.Error c.args.content c.push.new.self c.deref.result.now from _ c.in_ok-push.ensures
    c.length-from.ensures items in
    goes_program text (place_shown c.args.place.now) _ _ f _ _
    (read_asked run streams.Error from 65536) _ refl c.read.ensures.adds refl refl refl refl
    (ap (λ zs. code_item run c.args.ended.code ∷ killed_item run ∷ zs)
    (ap (λ zs. whole_stream run streams.Output c.args.stdout ++ zs) more
    ∙ sym (append_assoc (whole_stream run streams.Output c.args.stdout) (stream_bytes run streams.Error 0 c.args.content) _)))
    (fits_told _ _ _ (stream_says run streams.Error from 65536 c.read.result c.in_ok-piece.piece is)
    (at_most _ _ _ _ _ c.is_too_large.ensures c.if-is_too_large.false (omega (arith, c.length.ensures.length, c.length-from.ensures))
    (omega (arith, c.len.ensures, c.in_ok-piece.piece.ok))))
    refl refl (no_failure (read_asked run streams.Error from 65536) bytes_of _ _ is (λ y. refl))

pub returns-then-is_too_large-clause-stops : goal.returns-then-is_too_large-clause-stops
returns-then-is_too_large-clause-stops g c = λ text f.
    let is = programs_ok _ _ _ c.of_programs.ensures c.in_ok-piece.was in
    program_surpasses text (place_shown c.args.place.now) _ f _ _
    (read_asked c.args.place.now.run streams.Error c.length-from.result 65536) _ _ _ refl (ap bytes_of is) c.read.ensures.adds
    (stream_says c.args.place.now.run streams.Error c.length-from.result 65536 c.read.result c.in_ok-piece.piece is)
    (more_than _ _ _ _ _ c.is_too_large.ensures c.if-is_too_large.true (omega (arith, c.length.ensures.length, c.length-from.ensures))
    (omega (arith, c.len.ensures, c.in_ok-piece.piece.ok)))
    (65536, omega arith, ap (λ n. read_asked c.args.place.now.run streams.Error n 65536) c.length-from.ensures)

pub returns-in_err-piece-clause-stops : goal.returns-in_err-piece-clause-stops
returns-in_err-piece-clause-stops g c = programs_failed c.from_residual.result _ _ _ _ c.from_residual.ensures.1 c.of_programs.ensures
    c.in_err-piece.was bytes_of (λ e. refl) (λ fault small text f.
    program_stops text (place_shown c.args.place.now) _ fault f _ _
    (read_asked c.args.place.now.run streams.Error c.length-from.result 65536) _ refl small c.read.ensures.adds
    (65536, omega arith, ap (λ n. read_asked c.args.place.now.run streams.Error n 65536) c.length-from.ensures))

pub returns-in_err-push-clause-stops : goal.returns-in_err-push-clause-stops
returns-in_err-push-clause-stops g c = programs_memory_failed c.from_residual-in_err-push.result _ _ _
    (ap bytes_of (programs_ok _ _ _ c.of_programs.ensures c.in_ok-piece.was)) c.from_residual-in_err-push.ensures.1 (λ fault small text f.
    program_stops text (place_shown c.args.place.now) _ fault f _ _
    (read_asked c.args.place.now.run streams.Error c.length-from.result 65536) _ refl small c.read.ensures.adds
    (65536, omega arith, ap (λ n. read_asked c.args.place.now.run streams.Error n 65536) c.length-from.ensures))
