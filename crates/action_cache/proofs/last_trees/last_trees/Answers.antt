use Rattle.std.proofs.Common.{◌≡◌, List, [], ◌∷◌, ◌++◌, map, ap, sym, ◌∙◌, append_assoc}
use Rattle.std.proofs.lemmas.List.{map-append}
use Rattle.tree_messages.specs.Results.{OutputDirectoryValue, output_directory_shown}
use Rattle.action_cache.specs.LastTrees.{is_met, kept_from, unless_met, with_met}
use Rattle.action_cache.proofs.Trees.{kept_last}
use Rattle.action_cache.proofs.last_trees.last_trees.Goals as goal

pub outputs-preserved : goal.outputs-preserved
outputs-preserved c =
    let met : List _ = c.outputs.seen.keys in
    let rest : List OutputDirectoryValue = map output_directory_shown c.pop.new.self.items in
    let last : OutputDirectoryValue = output_directory_shown c.in-Some.last in
    let front : List OutputDirectoryValue = map output_directory_shown c.outputs.kept.items in
    let left : map output_directory_shown c.outputs.left.items ≡ rest ++ last ∷ [] =
    ap (map output_directory_shown) c.in-Some.ensures.items
    ∙ map-append output_directory_shown c.pop.new.self.items (c.in-Some.last ∷ []) in
    rw (c.in_ok-add_new.ensures.kept, c.in_ok-add_new.ensures.seen)
    (append_assoc front (unless_met (is_met met last) last) (kept_from (with_met met last) rest)
    ∙ ap (λ (xs : List OutputDirectoryValue). front ++ xs) (sym (kept_last met rest last))
    ∙ ap (λ (xs : List OutputDirectoryValue). front ++ kept_from met xs) (sym left) ∙ c.outputs.invariant)
