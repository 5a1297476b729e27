use Rattle.std.proofs.Common.{ap, ◌∙◌}
use Rattle.instance_view.specs.Visible.{visible_text}
use Rattle.instance_view.specs.Sight.{SightValue, seen_in}
use Rattle.bytestream.proofs.reading.find.Goals as goal

pub returns-clause-text : goal.returns-clause-text
returns-clause-text c = λ p. c.get-found.ensures.text p
    ∙ ap (λ (s : SightValue). visible_text c.args.digest.now (seen_in p s)) c.new.ensures
