use Rattle.std.proofs.Common.{◌≡◌, ◌≤◌, ◌<◌, ◌+◌, ℕ, arith, rules}
use Rattle.std.proofs.lemmas.List.{length-map}
use Rattle.instance_view.proofs.Held.{holders-few}
use Rattle.execution.specs.Keeping.{kept_entries}
use Rattle.execution.proofs.keeping.keep_texts.Goals as goal

room : (now before held few most limit : ℕ) → now + 0 ≡ before + held → held ≤ few → few < most → before + most < limit → now < limit
room now before held few most limit e a b h = omega arith

pub keep_one-requires-clause-room : goal.keep_one-requires-clause-room
keep_one-requires-clause-room c = λ k. room _ _ _ _ _ _ (c.loop-left.invariant.moves.counts k)
    (holders-few (kept_entries c.loop-left.kept.items) k) (rw length-map (first_of (omega arith, search rules))) (c.requires.room k)
