use Rattle.std.proofs.Common.{◌≡◌, [], ◌∷◌, ◌-◌, ◌++◌, refl, sym, ap, ◌∙◌, subst, map, take, length, arith}
use Rattle.std.specs.Prelude.{string_bytes}
use Rattle.std.specs.Rc.{rc_str_bytes}
use Rattle.run_calls.specs.Values.{place_shown, command_shown}
use Rattle.run_calls.specs.Calls.{text_asked, start_asked, look_asked, call, Adds, done_of}
use Rattle.runner.specs.Made.{byte_item}
use Rattle.runner.specs.Steps.{nodes_left}
use Rattle.runner.proofs.Collect.{goes_alone, goes_folder, quiet}
use Rattle.runner.proofs.Popped.{no_items, part_step}
use Rattle.runner.proofs.Sizes.{fits_none}
use Rattle.runner.proofs.Stopped.{folder_failed, folder_stops, made_next, some_mapped}
use Rattle.runner.proofs.making.write_part.Goals as goal

pub returns-then-is_empty-clause-goes : goal.returns-then-is_empty-clause-goes
returns-then-is_empty-clause-goes g c = λ p.
    let text = g.T.Texts.text_of c.args.texts.now in
    let names = map rc_str_bytes c.args.writing.nodes.above.items in
    let none : c.part-part.result.now ≡ [] = no_items _ (grind (arith, c.is_empty.ensures, c.if-is_empty.true)) in
    goes_alone text (place_shown c.args.place.now) _ _ _ p
    (ap (λ zs. map (byte_item c.args.place.now.run names) zs
    ++ nodes_left text (place_shown c.args.place.now) (take (length names - 1) names) c.args.writing.nodes)
    (c.part-part.ensures.part.last (omega arith) none)
    ∙ sym (c.left_above.ensures.left text (place_shown c.args.place.now)))
    (ap (λ n. start_asked (place_shown c.args.place.now) (command_shown n.command) ∷ []) (sym c.left_above.ensures.next))
    (ap (λ n. map (look_asked (place_shown c.args.place.now)) (map string_bytes n.outputs.items)) (sym c.left_above.ensures.next))
    refl refl
    refl

pub returns-clause-goes : goal.returns-clause-goes
returns-clause-goes g c = λ p.
    let text = g.T.Texts.text_of c.args.texts.now in
    let names = map rc_str_bytes c.args.writing.nodes.above.items in
    let q = text_asked c.args.place.now.run (map rc_str_bytes c.args.writing.nodes.above.items) c.part-part.result.now in
    goes_folder (g.T.Texts.text_of c.args.texts.now) (place_shown c.args.place.now) _ _ _ _ p q _ refl
    (subst (λ ns. Adds (g.F.Folder.asked c.args.folder.now) (g.F.Folder.asked c.write.new.self)
    (call (text_asked c.args.place.now.run (map rc_str_bytes ns) c.part-part.result.now) (done_of c.write.result)))
    c.deref.ensures.value c.write.ensures.adds)
    (part_step (byte_item c.args.place.now.run names) (text c.args.writing.text) c.part-part.result.now c.args.writing.from
    (nodes_left text (place_shown c.args.place.now) (take (length names - 1) names) c.args.writing.nodes)
    c.part-part.ensures.part.follows)
    refl refl (sym (quiet q _ (λ x. refl))) refl (fits_none _ refl)
    (tt, [], refl, refl)

pub returns-in_err-of_folder-clause-stops : goal.returns-in_err-of_folder-clause-stops
returns-in_err-of_folder-clause-stops g c = folder_failed c.from_residual.result _ _ _ _ c.from_residual.ensures.1 c.of_folder.ensures
    c.in_err-of_folder.was done_of (λ e. refl) (λ fault small p.
    folder_stops (g.T.Texts.text_of c.args.texts.now) (place_shown c.args.place.now) _ fault _ _ p
    (text_asked c.args.place.now.run (map rc_str_bytes c.args.writing.nodes.above.items) c.part-part.result.now) _ refl small
    (subst (λ ns. Adds (g.F.Folder.asked c.args.folder.now) (g.F.Folder.asked c.write.new.self)
    (call (text_asked c.args.place.now.run (map rc_str_bytes ns) c.part-part.result.now) (done_of c.write.result)))
    c.deref.ensures.value c.write.ensures.adds)
    (made_next _ _ _
    (part_step (byte_item c.args.place.now.run (map rc_str_bytes c.args.writing.nodes.above.items))
    (g.T.Texts.text_of c.args.texts.now c.args.writing.text) c.part-part.result.now c.args.writing.from
    (nodes_left (g.T.Texts.text_of c.args.texts.now) (place_shown c.args.place.now)
    (take (length (map rc_str_bytes c.args.writing.nodes.above.items) - 1) (map rc_str_bytes c.args.writing.nodes.above.items))
    c.args.writing.nodes) c.part-part.ensures.part.follows)
    (some_mapped (byte_item c.args.place.now.run (map rc_str_bytes c.args.writing.nodes.above.items)) c.part-part.result.now
    (λ none. grind (arith, c.is_empty.ensures, c.if-is_empty.false, ap length none)))))
