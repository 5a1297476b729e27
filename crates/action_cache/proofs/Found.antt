-- What is found of an action's result, where each tree is read where it is named last.
use Rattle.std.proofs.Common.{◌≡◌, ℕ, true, List, Option, Some, None, is_some, refl}
use Rattle.std.specs.Map.{lookup}
use Rattle.digest.specs.declared.Digest.{Digest}
use Rattle.digest.specs.Naming.{same_digest}
use Rattle.instance_view.specs.Visible.{Blob}
use Rattle.input_tree.specs.Listing.{Lookup}
use Rattle.action_cache.specs.Complete.{and_then}
use Rattle.action_cache.specs.LastTrees.{blobs_once}
use Rattle.action_cache.specs.Answering.{HaveSameUses, blobs_for, result_for}
use Rattle.action_cache.proofs.Trees.{once_is_enough}

-- ---- of what has the same uses

pub neither_is_there : (o : Option (List Digest)) → HaveSameUses None o → o ≡ None
neither_is_there None h = refl
neither_is_there (Some es) h = absurd h

pub both_are_there : (ds : List Digest) (o : Option (List Digest)) → HaveSameUses (Some ds) o → is_some o ≡ true
both_are_there ds (Some es) h = refl
both_are_there ds None h = absurd h

-- ---- an action's result

same_found : (look : Lookup) (action : Digest) (results : List Blob) (text : List ℕ) (o : Option (List Digest)) →
    lookup (same_digest action) results ≡ Some text → blobs_once look text ≡ o → HaveSameUses o (blobs_for look action results)
same_found look action results text o stored is = rw (stored, ← is) (once_is_enough look text)

pub none_is_found : (look : Lookup) (action : Digest) (results : List Blob) (text : List ℕ) →
    lookup (same_digest action) results ≡ Some text → blobs_once look text ≡ None → blobs_for look action results ≡ None
none_is_found look action results text stored is =
    neither_is_there (blobs_for look action results) (same_found look action results text None stored is)

pub none_same : (look : Lookup) (action : Digest) (results : List Blob) (text : List ℕ) → lookup (same_digest action) results ≡ Some text →
    blobs_once look text ≡ None → HaveSameUses None (blobs_for look action results)
none_same look action results text stored is = same_found look action results text None stored is

pub blobs_are_found : (look : Lookup) (action : Digest) (results : List Blob) (text : List ℕ) (ds : List Digest) →
    lookup (same_digest action) results ≡ Some text → blobs_once look text ≡ Some ds →
    HaveSameUses (Some ds) (blobs_for look action results)
blobs_are_found look action results text ds stored is = same_found look action results text (Some ds) stored is

pub text_is_found : (look : Lookup) (action : Digest) (results : List Blob) (text : List ℕ) (ds : List Digest) →
    lookup (same_digest action) results ≡ Some text → HaveSameUses (Some ds) (blobs_for look action results) →
    result_for look action results ≡ Some text
text_is_found look action results text ds stored same =
    go (blobs_for look action results) (both_are_there ds (blobs_for look action results) same) where
      go : (o : Option (List Digest)) → is_some o ≡ true → and_then o (λ _. lookup (same_digest action) results) ≡ Some text
      go (Some es) h = stored
      go None h = cc
