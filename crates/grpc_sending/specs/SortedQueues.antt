-- Queues in rising order of their streams, and the place of a stream's queue among them. For the
-- code alone: `IsQueueAt` and `IsGapFor`.
use Rattle.std.specs.Prelude.{◌≡◌, ◌<◌, ℕ, zero, suc, List, [], ◌∷◌}
use Rattle.std.specs.List.{AllByRecursion}
use Rattle.grpc_sending.specs.declared.queue.StoredQueue.{StoredQueue}

-- the streams of all these queues are above s
abbrev pub AreAbove : ℕ → List StoredQueue → Type 0
AreAbove s qs = AllByRecursion (λ (q : StoredQueue). s < q.stream) qs

-- each stream is above those before it, so none has two queues
abbrev pub AreSorted : List StoredQueue → Type 0
AreSorted [] = Unit {0}
AreSorted (q ∷ qs) = AreAbove q.stream qs × AreSorted qs

-- the queue at place i is that of stream s: those before are of lower streams, those behind of
-- higher ones
abbrev pub IsQueueAt : ℕ → List StoredQueue → ℕ → Type 0
IsQueueAt s [] i = ⊥
IsQueueAt s (q ∷ qs) zero = (q.stream ≡ s) × AreAbove s qs
IsQueueAt s (q ∷ qs) (suc i) = (q.stream < s) × IsQueueAt s qs i

-- stream s has no queue: those before place i are of lower streams, the others of higher ones
abbrev pub IsGapFor : ℕ → List StoredQueue → ℕ → Type 0
IsGapFor s qs zero = AreAbove s qs
IsGapFor s [] (suc i) = ⊥
IsGapFor s (q ∷ qs) (suc i) = (q.stream < s) × IsGapFor s qs i
