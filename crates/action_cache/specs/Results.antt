-- The results that an instance has: pairs of an action's digest and the bytes of its ActionResult,
-- the most recently used first.
use Rattle.std.specs.Prelude.{ℕ, zero, suc, ◌-◌, List, [], ◌∷◌, length, nat_le, nat_lt, if◌then◌else◌}
use Rattle.std.specs.Map.{remove_entry}
use Rattle.std.specs.declared.alloc.Global.{Global}
use Rattle.std.specs.declared.vec.Vec.{Vec}
use Rattle.digest.specs.declared.Digest.{Digest}
use Rattle.digest.specs.Naming.{same_digest}
use Rattle.instance_view.specs.Visible.{Blob}
pub use Rattle.instance_limits.specs.Limits.{LimitsValue}

-- a pair without where its bytes lie in memory
abbrev pub result_shown : Digest × Vec ℕ Global → Blob
result_shown e = (e.0, e.1.items)

-- the longest front of at most so many results that have at most so many bytes together
unfoldable pub front_within : ℕ → ℕ → List Blob → List Blob
front_within zero room rs = []
front_within (suc count) room [] = []
front_within (suc count) room (r ∷ rs) =
    if nat_le (length r.1) room then r ∷ front_within count (room - length r.1) rs else []

-- a result goes first in the place of an earlier one, and the oldest go past the limits; one that
-- has more bytes than all may have changes nothing
abbrev pub results_after_store : LimitsValue → Digest → List ℕ → List Blob → List Blob
results_after_store limits d text results =
    if nat_lt limits.result_bytes (length text) then results
    else front_within limits.results limits.result_bytes
    ((d, text) ∷ remove_entry (same_digest d) results)
