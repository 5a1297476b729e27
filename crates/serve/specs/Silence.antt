-- Which open connection makes room for another, where an instance has as many as it may have. To be
-- read from `IsLongestSilent` up.
use Rattle.std.specs.Prelude.{◌≡◌, ◌-◌, ◌<◌, ◌≤◌, ℕ, List, Option, Some, None, IsSomeAnd, slice_get}
use Rattle.served_instance.specs.Lone.{LoneInstance}
use Rattle.serve.specs.declared.open_socket.OpenSocket.{OpenSocket}
use Rattle.serve.specs.Closings.{IsIdle, silence_limit}

-- at moment m a connection of instance i was silent for long, and is idle
abbrev pub MayMakeRoom : ℕ → ℕ → LoneInstance → OpenSocket → Type 0
MayMakeRoom i m l s =
    (s.socket.instance ≡ i) × (silence_limit s.received ≤ m - s.heard)
    × IsIdle s.socket.connection l

-- it was silent longer than each that may make room and was opened before it, and as long as any
abbrev pub IsSilentLongerThan : ℕ → ℕ → LoneInstance → List OpenSocket → ℕ → OpenSocket → Type 0
IsSilentLongerThan i m l sockets n s =
    (k : ℕ) (other : OpenSocket) → slice_get sockets k ≡ Some other → MayMakeRoom i m l other →
    (s.heard ≤ other.heard) × (k < n → s.heard < other.heard)

-- of those that may make room, in order of opening, this one was silent longest, and was opened
-- before any that was silent as long
abbrev pub IsLongestSilent : ℕ → ℕ → LoneInstance → List OpenSocket → Option ℕ → Type 0
IsLongestSilent i m l sockets (Some n) =
    IsSomeAnd (slice_get sockets n)
    (λ s. MayMakeRoom i m l s × IsSilentLongerThan i m l sockets n s)
IsLongestSilent i m l sockets None =
    (k : ℕ) (s : OpenSocket) → slice_get sockets k ≡ Some s → MayMakeRoom i m l s → ⊥
