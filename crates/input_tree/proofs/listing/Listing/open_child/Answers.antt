use Rattle.std.proofs.Common.{◌≡◌, Some, refl, rules, slice_get}
use Rattle.std.proofs.lemmas.Option.{slice_get_read}
use Rattle.instance_view.specs.Texts.{look_of}
use Rattle.input_tree.proofs.Steps.{opened_listed, opens_child}
use Rattle.input_tree.proofs.listing.Listing.open_child.Goals as goal

pub returns-then-contains-clause-opens : goal.returns-then-contains-clause-opens
returns-then-contains-clause-opens c =
    let look = look_of c.args.texts.now in
    let there : slice_get c.args.self.now.inside.items c.args.self.now.next ≡ Some c.in-Some.digest.now =
    slice_get_read c.args.self.now.inside.items _ c.args.self.now.next c.in-Some.digest.now refl c.requires.some
    (rw c.deref.ensures.value at c.in-Some.ensures.lookup.1) in
    opens_child look c.args.self.now _ c.in-Some.digest.now c.requires.leads c.requires.begun c.requires.closed there refl refl refl refl refl refl
    (opened_listed look c.args.self.now.known.listed.keys c.in-Some.digest.now c.args.self.now.reading c.requires.closed (search rules))
