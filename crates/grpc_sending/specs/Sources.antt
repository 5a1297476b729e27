-- The sources of ranges, and how often each is held. For the code alone: `AreSame`, `SpendsOf`,
-- `Spends`, `HoldsSourcesToo`, `HasRoomForPieces` and `sources_waiting`.
use Rattle.std.specs.Prelude.{◌≡◌, ◌≤◌, ℕ, ◌+◌, ◌==◌, if◌then◌else◌, List, [], ◌∷◌, ◌++◌, length}
use Rattle.std.specs.List.{flat_map}
use Rattle.grpc_sending.specs.declared.piece.StoredPiece.{StoredPiece}
use Rattle.grpc_sending.specs.declared.piece.StoredPiece.TheVariants.{Encoded, Framed, Ranged}
use Rattle.grpc_sending.specs.declared.queue.StoredQueue.{StoredQueue}

abbrev pub sum_over : (ℕ → ℕ) → List ℕ → ℕ
sum_over f [] = 0
sum_over f (n ∷ ns) = f n + sum_over f ns

-- how often a number stands in a list
abbrev pub count_of : ℕ → List ℕ → ℕ
count_of k ns = sum_over (λ n. if k == n then 1 else 0) ns

-- the same numbers, each as often, in any order: all sums over them are the same
abbrev pub AreSame : List ℕ → List ℕ → Type 0
AreSame ms ns = (f : ℕ → ℕ) → sum_over f ns ≡ sum_over f ms

-- the source of a range
abbrev pub source_of : StoredPiece → List ℕ
source_of (Encoded block) = []
source_of (Framed bytes) = []
source_of (Ranged s) = s.source ∷ []

-- those of what is still to be put on a stream
abbrev pub sources_in : List StoredPiece → List ℕ
sources_in ps = flat_map source_of ps

-- those of what is still to be put on all streams
abbrev pub sources_held : List StoredQueue → List ℕ
sources_held qs = flat_map (λ q. sources_in q.pieces) qs

-- ---- what one call moves

-- the sources that are not held for pieces any more are among those that are spent, and no other is
abbrev pub SpendsOf : List StoredPiece → List ℕ → List StoredPiece → List ℕ → Type 0
SpendsOf ps old qs new = AreSame (sources_in ps ++ old) (sources_in qs ++ new)

abbrev pub Spends : List StoredQueue → List ℕ → List StoredQueue → List ℕ → Type 0
Spends qs old rs new = AreSame (sources_held qs ++ old) (sources_held rs ++ new)

-- more are held than before
abbrev pub HoldsSourcesToo : List ℕ → List StoredQueue → List StoredQueue → Type 0
HoldsSourcesToo ns qs rs = AreSame (ns ++ sources_held qs) (sources_held rs)

-- all could be spent
abbrev pub HasRoomForPieces : List StoredPiece → List ℕ → ℕ → Type 0
HasRoomForPieces ps spent capacity = length (sources_in ps) + length spent ≤ capacity

abbrev pub HasRoomForSources : List StoredQueue → List ℕ → ℕ → Type 0
HasRoomForSources qs spent capacity = length (sources_held qs) + length spent ≤ capacity

-- what waits to be put, and the sources of ranges that are over
pub record BacklogValue : Type 0 where
  pub queues : List StoredQueue
  pub spent : List ℕ

abbrev pub sources_waiting : BacklogValue → List ℕ
sources_waiting w = sources_held w.queues ++ w.spent
