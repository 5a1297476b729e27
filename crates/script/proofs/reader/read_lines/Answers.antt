use Rattle.std.proofs.Common.{◌≡◌, arith, refl, ◌∙◌}
use Rattle.script.specs.Parts.{lines_of}
use Rattle.script.proofs.LineLemmas.{length-lines_of}
use Rattle.script.proofs.reader.read_lines.Goals as goal

pub loop-line-init : goal.loop-line-init
loop-line-init g c =
    let lines : c.into_iter-line-iterator.result ≡ lines_of c.args.text.now =
    c.into_iter-line-iterator.ensures.into_iter_gives ∙ c.lines-line-items.ensures in
    let few = length-lines_of c.args.text.now in
    (rw lines refl, rw lines (omega (arith, few)), tt, tt)
