-- Live streams in rising order of their numbers.
use Rattle.std.specs.Prelude.{◌<◌, ◌≤◌, ℕ, List, [], ◌∷◌}
use Rattle.std.specs.List.{AllByRecursion}
use Rattle.http2_streams.specs.declared.stream.Stream.{Stream}

-- the numbers of all these streams are above s
abbrev pub AreAbove : ℕ → List Stream → Type 0
AreAbove s xs = AllByRecursion (λ (x : Stream). s < x.number) xs

-- each stream is above those before it, and none is above n
abbrev pub RiseTo : ℕ → List Stream → Type 0
RiseTo n [] = Unit {0}
RiseTo n (x ∷ xs) = (x.number ≤ n) × AreAbove x.number xs × RiseTo n xs
