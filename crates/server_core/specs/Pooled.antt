-- What stands in the pool of a server, by the texts that its instances hold.
use Rattle.std.specs.Prelude.{◌≡◌, ◌≢◌, ◌<◌, ◌+◌, ℕ, List, [], ◌∷◌, None, if◌then◌else◌}
use Rattle.std.specs.Str.{bytes_eq}
use Rattle.blob_pool.specs.Slots.{Slots, held_text_at, text_at, count_at, IsShared}

-- how often a text stands among these
abbrev pub times_in : List ℕ → List (List ℕ) → ℕ
times_in t [] = 0
times_in t (x ∷ xs) = (if bytes_eq x t then 1 else 0) + times_in t xs

-- a slot that has some holders, and this text
pub record StandsIn (p : Slots) (t : List ℕ) : Type 0 where
  pub slot : ℕ
  pub held : 0 < count_at p slot
  pub text : text_at p slot ≡ t

-- the pool has these texts, which are held as often as they stand here, and no other
pub record IsPoolOf (p : Slots) (held : List (List ℕ)) : Type 0 where
  -- each text that is held stands there
  pub all : (t : List ℕ) → 0 < times_in t held → StandsIn p t
  -- in one slot
  pub once : IsShared p
  -- which counts how often it is held
  pub counts : (k : ℕ) → 0 < count_at p k → count_at p k ≡ times_in (text_at p k) held
  -- and nothing stands there that is not held
  pub only : (k : ℕ) → held_text_at p k ≢ None → 0 < count_at p k
