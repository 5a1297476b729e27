use Rattle.std.proofs.Common.{◌∙◌, map}
use Rattle.std.specs.Rc.{rc_str_bytes}
use Rattle.made_trees.specs.Stages.{held_shown}
use Rattle.made_trees.proofs.AnySite.{first_and_rest, found_at}
use Rattle.made_trees.proofs.sites.site_of.Goals as goal

pub returns-in-Some : goal.returns-in-Some
returns-in-Some c = found_at c.args.run c.args.store.now.trees c.first-item.result _ c.trees.left.now
    (map rc_str_bytes c.args.names.now) (map rc_str_bytes c.in-Some.behind.now) c.path.result.now
    c.key-key.result.now (held_shown c.held.result) _
    (first_and_rest c.trees.left.now c.first-item.result c.in-len1-up.len_at_least c.first-item.is)
    c.path.ensures c.key-key.ensures (rw c.in-Some.is at c.names_behind.ensures) c.held.ensures
    c.site_behind.ensures ∙ c.trees.invariant
