use Rattle.std.proofs.Common.{◌≡◌, length, map}
use Rattle.std.specs.Rc.{rc_str_bytes}
use Rattle.made_trees.specs.RunTrees.{site_of}
use Rattle.made_trees.proofs.sites.site_of.Given as goal

-- those that were passed have nothing to do with it
abbrev pub invariant-trees : goal.invariant-trees
invariant-trees l =
    site_of l.run l.store.trees l.left (map rc_str_bytes l.names)
    ≡ site_of l.run l.store.trees l.fn.trees (map rc_str_bytes l.names)

abbrev pub decreases-trees : goal.decreases-trees
decreases-trees l = length l.left
