use Rattle.std.proofs.Common.{◌≡◌, ◌+◌, ◌*◌, ◌≤◌, length}
use Rattle.instance_view.specs.Texts.{look_of}
use Rattle.input_tree.specs.Listings.{LeadsTo, named_left, steps_left}
use Rattle.input_tree.specs.Work.{named_in_tree}
use Rattle.input_tree.proofs.listing.list_tree.Given as goal

abbrev pub invariant-steps : goal.invariant-steps
invariant-steps l = record {
  root : l.listing.root ≡ l.root;
  leads : LeadsTo (look_of l.texts) l.listing;
  looks : l.work.looks + 2 * length (named_left (look_of l.texts) l.listing)
      ≤ l.fn.work.looks + 2 * length (named_in_tree (look_of l.texts) l.root);
}

abbrev pub decreases-steps : goal.decreases-steps
decreases-steps l = steps_left (look_of l.texts) l.listing
