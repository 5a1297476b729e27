-- The connections of an instance, by their numbers. A number may be used again when its connection
-- is closed.
use Rattle.std.specs.Prelude.{◌≡◌, ℕ, ◌==◌, ◌&&◌, if◌then◌else◌, Bool, true, false, List, [], ◌∷◌, map, filter, Option, Some, None}
use Rattle.conn_core.specs.Past.{Past}

-- a connection that was opened: its number, all that passed on it, and whether it is open still
pub record LoneConnection : Type 0 where
  pub number : ℕ
  pub past : Past
  pub is_open : Bool

abbrev pub is_open : LoneConnection → Bool
is_open k = k.is_open

-- the open ones, in order of opening
abbrev pub open_ones : List LoneConnection → List LoneConnection
open_ones ks = filter is_open ks

abbrev pub is_open_at : ℕ → LoneConnection → Bool
is_open_at c k = k.is_open && k.number == c

-- what passed on the open connection of this number
abbrev pub open_at : ℕ → List LoneConnection → Option Past
open_at c [] = None
open_at c (k ∷ ks) = if is_open_at c k then Some k.past else open_at c ks

-- no two open connections have one number
abbrev pub AreApart : List LoneConnection → Type 0
AreApart [] = Unit {0}
AreApart (k ∷ ks) = (k.is_open ≡ true → open_at k.number ks ≡ None) × AreApart ks

-- a step of the open connection of this number
abbrev pub at_open : ℕ → (Past → Past) → List LoneConnection → List LoneConnection
at_open c step [] = []
at_open c step (k ∷ ks) =
    if is_open_at c k then record k { past = step k.past } ∷ ks else k ∷ at_open c step ks

-- the open connection of this number is closed
abbrev pub with_closed : ℕ → List LoneConnection → List LoneConnection
with_closed c [] = []
with_closed c (k ∷ ks) =
    if is_open_at c k then record k { is_open = false } ∷ ks else k ∷ with_closed c ks

-- all are closed
abbrev pub closed_one : LoneConnection → LoneConnection
closed_one k = record k { is_open = false }

abbrev pub all_closed : List LoneConnection → List LoneConnection
all_closed ks = map closed_one ks

-- a step of each open connection
abbrev pub step_if_open : (Past → Past) → LoneConnection → LoneConnection
step_if_open step k = if k.is_open then record k { past = step k.past } else k

abbrev pub at_all_open : (Past → Past) → List LoneConnection → List LoneConnection
at_all_open step ks = map (step_if_open step) ks
