use Rattle.std.proofs.Common.{◌≡◌, false, map, rules}
use Rattle.tree_messages.specs.Results.{output_directory_shown}
use Rattle.instance_view.specs.Texts.{look_of}
use Rattle.action_cache.specs.LastTrees.{are_trees_there}
use Rattle.action_cache.proofs.Trees.{none_of_the_last}
use Rattle.action_cache.proofs.complete.name_trees.Goals as goal

pub returns-then-not-are_there-clause-named : goal.returns-then-not-are_there-clause-named
returns-then-not-are_there-clause-named c =
    let look = look_of c.args.blobs.now.texts in
    let outputs = map output_directory_shown c.args.outputs.now in
    let absent : are_trees_there look outputs ≡ false = search (rules, c.are_there.ensures.there, c.if-not-are_there.true) in
    none_of_the_last look c.args.named.now.items outputs absent
