-- What some holders have alone, so that it goes with them.
use Rattle.std.specs.Prelude.{ℕ, ◌+◌, ◌==◌, if◌then◌else◌, List, [], ◌∷◌, length, count_by}
use Rattle.blob_pool.specs.Slots.{Slots, text_in, count_in}
use Rattle.blob_pool.specs.Moves.{Holders}

-- each slot as often as its number stands in a list
abbrev pub holders_at : List ℕ → Holders
holders_at numbers k = count_by (λ n. n == k) numbers

-- how many bytes the texts have together that have these holders and no other, from slot k on
abbrev pub bytes_alone : Holders → ℕ → Slots → ℕ
bytes_alone these k [] = 0
bytes_alone these k (o ∷ os) =
    (if count_in o == these k then length (text_in o) else 0) + bytes_alone these (k + 1) os
