use Rattle.std.proofs.Common.{sym, ap, ◌∙◌, refl}
use Rattle.keyed_maps.proofs.MapLemmas.{insert_entry-new}
use Rattle.made_trees.specs.Trees.{TreeValue, same_tree}
use Rattle.made_trees.proofs.Keeping.{append_rising, append_within}
use Rattle.made_trees.proofs.store.MadeTrees.begin.Goals as goal

pub invariant_of-self-2 : goal.invariant_of-self-2
invariant_of-self-2 c =
    let none = rw (← c.self.view_is) at c.requires.none in
    let room = rw (← c.self.view_is) at c.requires.room in
    let put = c.in_ok-insert.ensures.entries
    ∙ insert_entry-new same_tree c.self.inside.trees c.args.key c.in_ok-tree.tree none in
    let size = ap (λ (t : TreeValue). t.size) c.in_ok-tree.ensures in
    let number = ap (λ (t : TreeValue). t.number) c.in_ok-tree.ensures in
    rw put (
      append_within c.self.inside.most_bytes c.self.inside.trees.entries c.args.key c.in_ok-tree.tree
          c.self.invariant.0 (rw (sym size) at room),
      append_rising 0 c.self.inside.next c.self.inside.trees.entries c.args.key c.in_ok-tree.tree number
          c.self.invariant.1,
    )

pub returns-clause-claimed : goal.returns-clause-claimed
returns-clause-claimed c =
    let none = rw (← c.self.view_is) at c.requires.none in
    let put = c.in_ok-insert.ensures.entries
    ∙ insert_entry-new same_tree c.self.inside.trees c.args.key c.in_ok-tree.tree none in
    rw (← c.self.view_is) record {
      none = none;
      folder_is = c.tree_folder-folder.ensures;
      begun = rw (put, c.in_ok-tree.ensures) refl;
    }
