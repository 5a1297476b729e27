-- For the code alone: no promise speaks of it.
use Rattle.std.specs.Prelude.{ℕ, List, Option, Some, None, if◌then◌else◌}
use Rattle.digest.specs.declared.Digest.{Digest}
use Rattle.run_calls.specs.Outcomes.{OutputNodeValue}
use Rattle.outcomes.specs.Trees.{tree_text, is_tree}

-- the text of a tree that is taken
abbrev pub tree_of : Digest → List OutputNodeValue → Option (List ℕ)
tree_of like nodes = if is_tree like nodes then Some (tree_text like nodes) else None
