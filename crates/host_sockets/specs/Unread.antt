-- The open connections of a port, and on how many of them something may have come that was not taken.
use Rattle.std.specs.Prelude.{ℕ, List, count_by}
use Rattle.std.specs.Map.{values_of}
use Rattle.host_sockets.specs.declared.watched.Watched.{Watched}

-- by their numbers, each with what is known of it; and how many more there is room for
pub record Opened (W : Type 0) : Type 0 where
  pub entries : List (ℕ × Watched W)
  pub room : ℕ

abbrev pub unread_in : {W : Type 0} → List (ℕ × Watched W) → ℕ
unread_in wires = count_by (λ w. w.may_read) (values_of wires)
