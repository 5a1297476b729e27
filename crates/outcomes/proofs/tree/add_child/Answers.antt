use Rattle.std.proofs.Common.{[], ◌∷◌, map, sym, ap, ◌∙◌, List}
use Rattle.std.proofs.lemmas.List.{map-append}
use Rattle.outcomes.specs.declared.folder.Folder.{Folder}
use Rattle.outcomes.specs.Gathering.{folder_shown}
use Rattle.outcomes.proofs.Children.{child_new, child_there}
use Rattle.outcomes.proofs.tree.add_child.Goals as goal

pub returns-then-contains-clause-children : goal.returns-then-contains-clause-children
returns-then-contains-clause-children c =
    sym (child_there c.args.texts.now.keys (map folder_shown c.args.children.now.items) c.in_ok-text.text
    (folder_shown c.args.folder) c.requires.texts c.in_ok-text.ensures (sym c.contains.ensures ∙ c.if-contains.true))

pub returns-clause-children : goal.returns-clause-children
returns-clause-children c =
    ap (λ (fs : List Folder). map folder_shown fs) c.in_ok-push.ensures.items
    ∙ map-append folder_shown c.args.children.now.items (c.args.folder ∷ [])
    ∙ sym (child_new c.args.texts.now.keys (map folder_shown c.args.children.now.items) c.in_ok-text.text
    (folder_shown c.args.folder) c.requires.texts c.in_ok-text.ensures (sym c.contains.ensures ∙ c.if-contains.false))
