use Rattle.std.proofs.Common.{length, ap, arith}
use Rattle.instance_view.specs.Texts.{look_of}
use Rattle.digest.specs.declared.Digest.{Digest}
use Rattle.input_tree.proofs.listing.list_tree.Goals as goal

pub steps-init : goal.steps-init
steps-init c =
    let look = look_of c.args.texts.now in
    let named = ap (length {A = Digest}) (c.begin-listing.ensures.named look) in
    record { root = c.begin-listing.ensures.root; leads = c.begin-listing.ensures.leads look; looks = omega (arith, named) }
