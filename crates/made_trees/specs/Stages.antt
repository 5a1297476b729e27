-- How a tree is kept.
use Rattle.std.specs.Prelude.{◌≡◌, List, [], ◌∷◌}
use Rattle.run_calls.specs.declared.task.RunKey.{RunKey}
use Rattle.made_trees.specs.Trees.{HeldValue, TreeState, leaving, making, makes, nothing, uses, whole}
use Rattle.made_trees.specs.declared.store.Held.{Held}
use Rattle.made_trees.specs.declared.store.Held.TheVariants.{Nothing, Makes, Uses}
use Rattle.made_trees.specs.declared.tree.Stage.{Stage}
use Rattle.made_trees.specs.declared.tree.Stage.TheVariants as At

abbrev pub state_of : Stage → List RunKey → TreeState
state_of (At.Making run) users = making run
state_of At.Whole users = whole users
state_of At.Leaving users = leaving

abbrev pub IsBegun : Stage → List RunKey → Type 0
IsBegun (At.Making run) users = users ≡ run ∷ []
IsBegun At.Whole users = Unit {0}
IsBegun At.Leaving users = Unit {0}

abbrev pub held_shown : Held → HeldValue
held_shown Nothing = nothing
held_shown (Makes folder) = makes folder
held_shown (Uses folder) = uses folder
