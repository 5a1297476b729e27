use Rattle.input_tree.proofs.Steps.{finished}
use Rattle.input_tree.proofs.listing.Listing.end.Goals as goal

pub returns : goal.returns
returns c = λ look leads. finished look c.args.self leads c.requires.over
