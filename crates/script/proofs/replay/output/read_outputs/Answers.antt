use Rattle.std.proofs.Common.{◌≡◌, [], ◌∷◌, ◌++◌, map, ap, sym, ◌∙◌, rules}
use Rattle.std.proofs.lemmas.List.{map-append}
use Rattle.run_calls.specs.Shown.{output_shown}
use Rattle.script.proofs.OutputLemmas.{outputs_after, outputs_after-some}
use Rattle.script.proofs.replay.output.read_outputs.Goals as goal

pub loop-word-preserved : goal.loop-word-preserved
loop-word-preserved c =
    let before = map output_shown c.loop-word.outputs.items in
    let word = c.in-Some.word.now in
    let after = c.next.new.self in
    let output = output_shown c.in_ok-output.output in
    let items : map output_shown c.push.new.self.items ≡ before ++ output ∷ [] =
    ap (map output_shown) c.in_ok-push.ensures.items ∙ map-append output_shown _ _ in
    let steps : c.loop-word.word-iterator ≡ word ∷ after = search rules in
    let more = outputs_after-some before word after output c.in_ok-output.ensures.read in
    let same = sym more ∙ ap (outputs_after before) (sym steps) ∙ c.loop-word.invariant.0 in
    (ap (λ outputs. outputs_after outputs after) items ∙ same, tt, tt)
