use Rattle.std.proofs.Common.{◌<◌, arith, refl}
use Rattle.std.proofs.lemmas.Bool.Decides.{nat_tests}
use Rattle.input_tree.proofs.Steps.{goes_over, too_many}
use Rattle.input_tree.proofs.listing.Listing.open_next.Goals as goal

pub returns-then-self-eq-MOST_DIRECTORIES-clause-fault : goal.returns-then-self-eq-MOST_DIRECTORIES-clause-fault
returns-then-self-eq-MOST_DIRECTORIES-clause-fault c = λ look leads.
    too_many look c.args.self.now c.in-Some.inside c.pop_front.new.self.items leads c.requires.begun c.requires.closed c.requires.gone
    c.in-Some.ensures.items c.if-self-eq-MOST_DIRECTORIES.true

pub returns-clause-closes : goal.returns-clause-closes
returns-clause-closes c = λ look leads.
    let less = c.if-self-eq-MOST_DIRECTORIES.false in
    let few = c.requires.few in
    let room : c.args.self.now.place < 10000 = grind (arith, nat_tests) in
    goes_over look c.args.self.now _ c.in-Some.inside c.pop_front.new.self.items leads c.requires.begun c.requires.closed c.requires.gone
    c.in-Some.ensures.items room refl c.requires.begun c.requires.closed refl refl refl refl refl refl
