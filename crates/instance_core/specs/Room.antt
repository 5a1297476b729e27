-- Why a blob is gone: it stood behind others, and together with it these had no room. To be read
-- from the last definition up.
use Rattle.std.specs.Prelude.{◌≡◌, ◌⊎◌, ◌<◌, ℕ, true, List, [], ◌∷◌, ◌++◌, length, take, Contains}
use Rattle.std.specs.List.{AllByRecursion, IsDistinct, flat_map, list_any}
use Rattle.std.specs.Map.{keys_of}
use Rattle.digest.specs.declared.Digest.{Digest}
use Rattle.digest.specs.Naming.{Names, same_digest}
use Rattle.instance_view.specs.Visible.{Blob, blobs_length}
use Rattle.cas_service.specs.Changes as Texts
use Rattle.instance_core.specs.Changes.{InstanceChange, Text, Goes, Ends, Wrote, Keeps, Expires, Does, Pushes, Settles}

-- the digests of the blobs that a change uses or admits; what a Write leaves has the one that it
-- admits at its front
abbrev pub digests_touched : InstanceChange → List Digest
digests_touched (Text (Texts.Use d)) = d ∷ []
digests_touched (Text (Texts.Store d text)) = d ∷ []
digests_touched (Wrote w) = keys_of (take 1 w.visible)
digests_touched (Goes id call) = []
digests_touched (Ends id) = []
digests_touched (Keeps results) = []
digests_touched Expires = []
digests_touched (Does operation) = []
digests_touched (Pushes job) = []
digests_touched (Settles steps) = []

abbrev pub all_touched : List InstanceChange → List Digest
all_touched changes = flat_map digests_touched changes

-- the digest is one of these
abbrev pub IsOneOf : List Digest → Digest → Type 0
IsOneOf digests d = list_any (same_digest d) digests ≡ true

-- blobs of these digests stood before this one, none of them twice, which together with it have
-- more bytes than the quota, or are more than the limit
pub record HadNoRoom (limit quota : ℕ) (digests : List Digest) (b : Blob) : Type 0 where
  pub ahead : List Blob
  pub known : AllByRecursion (λ (x : Blob). IsOneOf digests x.0) ahead
  pub named : AllByRecursion (λ (x : Blob). Names x.0 x.1) ahead
  pub once : IsDistinct same_digest (keys_of (ahead ++ b ∷ []))
  pub full : (quota < blobs_length (ahead ++ b ∷ [])) ⊎ (limit < length (ahead ++ b ∷ []))

-- a blob of the old texts that the new ones lack had no room behind those that stood before it and
-- those of these digests
abbrev pub LosesForRoom : ℕ → ℕ → List Digest → List Blob → List Blob → Type 0
LosesForRoom limit quota digests old new =
    (front back : List Blob) (b : Blob) → old ≡ front ++ b ∷ back → ¬ (Contains new b)
    → HadNoRoom limit quota (keys_of front ++ digests) b
