-- What was made ready at the end of an event is carried out. For the code alone.
use Rattle.std.specs.Prelude.{◌≡◌, ℕ}
use Rattle.blob_pool.specs.Moves.{Moves}
use Rattle.instance_core.specs.declared.turns.Turn.{Turn}
use Rattle.instance_core.specs.Apart.{AreRepliesTo}
use Rattle.instance_core.specs.Slots.{state_in}
use Rattle.instance_core.specs.State.{IsInstanceWithin}
use Rattle.served_instance.specs.Acts.{FindAlike}
use Rattle.served_instance.specs.Cuts.{KeepsApart}
use Rattle.served_instance.specs.Lent.{LentValue, GoesOn, IsKept, lent_slots}
use Rattle.served_instance.specs.Slots.{holders_of}

-- its replies are owed, or for want of memory some of them, and then its steps may be taken
pub record TakesTurn (turn : Turn) (a b : LentValue) : Type 0 where
  pub apart : (c : ℕ) → AreRepliesTo c turn.replies.items → KeepsApart c a b
  pub finds : FindAlike a.pool b.pool a.connections
  pub texts : FindAlike a.pool b.pool b.connections
  pub parent : b.parent ≡ a.parent
  pub moves : Moves a.pool b.pool (holders_of (lent_slots a)) (holders_of (lent_slots b))
  pub kept : IsInstanceWithin (state_in b.pool b.instance) → IsKept b

-- what happens on a connection goes on, and leaves the others
pub record GoesApart (c : ℕ) (a b : LentValue) : Type 0 where
  pub apart : KeepsApart c a b
  pub goes : GoesOn a b
