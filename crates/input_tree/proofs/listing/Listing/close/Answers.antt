use Rattle.std.proofs.Common.{◌≡◌, None, Some, refl, rules, true, ◌∙◌}
use Rattle.input_tree.specs.Listing.{children}
use Rattle.input_tree.specs.Taken.{taken_at, taken_shown}
use Rattle.input_tree.proofs.Listed.{none_with}
use Rattle.input_tree.proofs.Steps.{children_at, closes_listed, closes_none}
use Rattle.input_tree.proofs.listing.Listing.close.Goals as goal

pub returns-in_default-clause-closes : goal.returns-in_default-clause-closes
returns-in_default-clause-closes c = λ look leads.
    let begun : c.args.self.now.is_begun ≡ true = search rules in
    let read = leads.reading_is.0 in
    let bad : taken_at look c.args.read.digest ≡ Some None = search (rules, read) in
    let there : children look c.args.read.digest ≡ None = children_at look c.args.read.digest None bad in
    closes_none look c.args.self.now _ c.args.read leads begun there refl refl
    (none_with look c.args.self.now.known.others.keys c.insert.new.self.keys c.args.read.digest leads.others_are there (search rules))
    refl refl refl refl refl c.requires.closed

pub returns-clause-closes : goal.returns-clause-closes
returns-clause-closes c = λ look leads.
    let read = leads.reading_is.0 in
    let fresh = leads.reading_is.1 in
    let good : taken_at look c.args.read.digest ≡ Some (Some (taken_shown c.in-Some.taken)) = search (rules, read) in
    let there : children look c.args.read.digest ≡ Some c.in_ok-inside.inside.items =
    children_at look c.args.read.digest (Some (taken_shown c.in-Some.taken)) good ∙ search rules in
    closes_listed look c.args.self.now _ c.args.read c.in_ok-inside.inside leads there (search (rules, fresh))
    c.in_ok-push_back.ensures.items refl refl refl refl refl refl c.requires.closed
