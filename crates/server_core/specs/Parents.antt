-- The texts of the instance that one builds on: its parent. They are read, and nothing else of it.
use Rattle.std.specs.Prelude.{◌≡◌, ℕ, List, [], length, Option}
use Rattle.std.specs.Option.{option_map_or, option_and_then}
use Rattle.std.specs.List.{slice_get}
use Rattle.instance_core.specs.Visible.{Blob}
use Rattle.served_instance.specs.StandsFor.{ServedState}
use Rattle.server_events.specs.Faults.{AreParents}
use Rattle.server_core.specs.StandsFor.{ServerState, instance_at}

-- of so many instances each has a parent of these or none
pub record AreParentsOf (count : ℕ) (parents : List (Option ℕ)) : Type 0 where
  pub each : length parents ≡ count
  pub others : AreParents parents

-- the number of the parent of the instance of this number, if there is one
abbrev pub parent_at : ℕ → List (Option ℕ) → Option ℕ
parent_at i parents = option_and_then (λ parent. parent) (slice_get parents i)

-- the texts that the instance of this number has now, in its own list
abbrev pub texts_at : ℕ → List ServedState → List Blob
texts_at i vs = option_map_or (λ v. v.state.visible) (instance_at i vs) []

-- those of a parent; none where there is no parent
abbrev pub texts_of_one : Option ℕ → List ServedState → List Blob
texts_of_one parent vs = option_map_or (λ p. texts_at p vs) parent []

-- those of the parent of the instance of this number
abbrev pub parent_texts : ℕ → ServerState → List Blob
parent_texts i s = texts_of_one (parent_at i s.parents) s.instances
