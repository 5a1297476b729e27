use Rattle.std.proofs.Common.{◌≡◌, ◌∷◌, List, map, sym, ap, ◌∙◌}
use Rattle.tree_messages.specs.Directories.{DirectoryValue}
use Rattle.outcomes.specs.declared.folder.Folder.{Folder}
use Rattle.outcomes.specs.Gathering.{folder_shown}
use Rattle.outcomes.specs.Trees.{with_children}
use Rattle.outcomes.proofs.tree.distinct_folders.Goals as goal

pub loop-folder-preserved : goal.loop-folder-preserved
loop-folder-preserved c =
    let rest = c.pop_front.new.self.items in
    let is : c.loop-folder.left.items ≡ c.in-Some.folder ∷ rest = c.in-Some.ensures.items in
    record {
      texts = c.in_ok-add_child.ensures.texts;
      same = ap (λ (vs : List DirectoryValue). with_children vs (map folder_shown rest)) c.in_ok-add_child.ensures.children
          ∙ ap (λ (fs : List Folder). with_children (map folder_shown c.loop-folder.children.items) (map folder_shown fs)) (sym is)
          ∙ c.loop-folder.invariant.same;
    }
