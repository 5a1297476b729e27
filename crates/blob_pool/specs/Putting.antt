-- For the code alone: no promise speaks of it.
use Rattle.std.specs.Prelude.{◌≡◌, ◌≢◌, ℕ, Option}
use Rattle.blob_pool.specs.Slots.{HeldText, Slots, held_text_at}

-- q has this in slot k, and in each other slot what p has
pub record Puts (p q : Slots) (k : ℕ) (o : Option HeldText) : Type 0 where
  pub there : held_text_at q k ≡ o
  pub elsewhere : (j : ℕ) → j ≢ k → held_text_at q j ≡ held_text_at p j
