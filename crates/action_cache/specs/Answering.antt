-- What GetActionResult answers (remote_execution.proto, ActionCache), and what it changes.
use Rattle.std.specs.Prelude.{◌≡◌, ℕ, List, [], Option, Some, None, is_some, unwrap_or, if◌then◌else◌}
use Rattle.std.specs.Map.{lookup}
use Rattle.digest.specs.declared.Digest.{Digest}
use Rattle.digest.specs.Naming.{same_digest}
use Rattle.instance_view.specs.Visible.{Blob, with_match_first}
use Rattle.input_tree.specs.Listing.{Lookup}
use Rattle.input_tree.specs.Uses.{visible_after_uses}
use Rattle.action_cache.specs.Complete.{and_then, blobs_of}

-- the digests of the blobs that an action's result names, where it has one and that is complete
abbrev pub blobs_for : Lookup → Digest → List Blob → Option (List Digest)
blobs_for look action results = and_then (lookup (same_digest action) results) (blobs_of look)

-- the bytes of an action's result, where it is complete
abbrev pub result_for : Lookup → Digest → List Blob → Option (List ℕ)
result_for look action results =
    and_then (blobs_for look action results) (λ _. lookup (same_digest action) results)

-- a result that is answered is used, and so are its blobs, in order
abbrev pub results_after : Lookup → Digest → List Blob → List Blob
results_after look action results =
    if is_some (blobs_for look action results) then with_match_first (same_digest action) results
    else results

abbrev pub blobs_used : Lookup → Digest → List Blob → List Digest
blobs_used look action results = unwrap_or (blobs_for look action results) []

-- both are there and their uses leave the same, whatever there is, or neither is there
abbrev pub HaveSameUses : Option (List Digest) → Option (List Digest) → Type 0
HaveSameUses None None = Unit {0}
HaveSameUses (Some ds) (Some es) =
    (visible : List Blob) → visible_after_uses ds visible ≡ visible_after_uses es visible
HaveSameUses None (Some es) = ⊥
HaveSameUses (Some ds) None = ⊥
