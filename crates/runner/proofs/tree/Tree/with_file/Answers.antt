use Rattle.std.proofs.Common.{[], ◌∷◌, ◌++◌, ◌+◌, ap, length, ◌∙◌}
use Rattle.std.specs.Prelude.{string_bytes}
use Rattle.runner.specs.Gathered.{found_item, directory_item, file_item, whole_file}
use Rattle.runner.specs.Steps.{tree_items}
use Rattle.runner.specs.Sizes.{nodes_length}
use Rattle.runner.proofs.tree.Tree.with_file.Goals as goal

pub returns-clause-items : goal.returns-clause-items
returns-clause-items c = λ place.
    let path = string_bytes c.args.self.path in
    let above = c.args.self.nodes.above in
    let is_executable = c.whole-name.result.2 in
    let text = c.whole-name.result.1 in
    let names = c.args.self.nodes.above ++ string_bytes c.args.file.name ∷ [] in
    ap (λ zs. found_item place path ∷ directory_item place path [] ∷ zs) (c.in_ok-nodes.ensures.items place path)
    ∙ ap (λ s. tree_items place c.args.self ++ (file_item place path (above ++ string_bytes s ∷ []) is_executable ∷ whole_file place path
    (above ++ string_bytes s ∷ []) text)) c.whole-name.ensures.name
    ∙ ap (λ b. tree_items place c.args.self ++ (file_item place path names b ∷ whole_file place path names text))
    c.whole-name.ensures.is_executable
    ∙ ap (λ t. tree_items place c.args.self ++ (file_item place path names c.args.file.is_executable ∷ whole_file place path names t))
    c.whole-name.ensures.text

pub returns-clause-length : goal.returns-clause-length
returns-clause-length c = c.in_ok-nodes.ensures.length ∙ ap (λ t. nodes_length c.args.self.nodes.nodes + length t) c.whole-name.ensures.text
