-- What calls store is named by its digest, so that the texts keep their limits.
use Rattle.std.proofs.Common.{◌≡◌, ◌<◌, ℕ, Bool, true, false, cond, nat_lt, List, [], ◌∷◌, ◌++◌, length, map, Option, Result, Ok, Err, refl, subst}
use Rattle.std.specs.List.{AllByRecursion}
use Rattle.reapi_messages.specs.Results.{◌>>=◌}
use Rattle.reapi_messages.specs.Batches.{UpdateBlobRequestValue}
use Rattle.rpc.specs.declared.refusal.Refusal.{Refusal}
use Rattle.rpc.specs.declared.refusal.Refusal.TheVariants.{DigestDoesNotMatch, QuotaExceeded}
use Rattle.digest.specs.declared.Digest.{Digest}
use Rattle.digest.specs.declared.HashFunction.{HashFunction}
use Rattle.digest.specs.Naming.{Names, is_digest_of}
use Rattle.digest.proofs.Same.{same_names}
use Rattle.instance_view.specs.Visible.{Blob}
use Rattle.quota_evict.specs.Within.{AreBlobsWithin}
use Rattle.quota_evict.proofs.Limits.{used_within, admitted_within}
use Rattle.cas_service.specs.Changes.{TextChange, Use, Store, visible_after_change, uses}
use Rattle.cas_service.specs.FindMissing.{digests_asked, find_missing_changes}
use Rattle.cas_service.specs.BatchRead.{digests_to_read, batch_read_changes}
use Rattle.cas_service.specs.Requests.{digest_or_refusal}
use Rattle.cas_service.specs.BatchUpdate.{BlobsSentValue, compressor_check, naming_check, quota_check, storage_digest, stores, stores_of_result, store_of, blobs_sent, batch_update_changes}
use Rattle.action_cache.specs.Answering.{blobs_used}
use Rattle.tree_calls.specs.Asking.{tree_asked, action_asked}
use Rattle.tree_calls.specs.GetTree.{texts_seen, directories_used, get_tree_changes}
use Rattle.tree_calls.specs.Results.{get_action_result_changes}
use Rattle.instance_core.specs.State.{seen, InstanceState}
use Rattle.instance_core.specs.Methods.{use_asked}
use Rattle.bytestream.specs.declared.reading.ReadAsked.{ReadAsked}
use Rattle.bytestream.specs.Reading.{read_asked}
use Rattle.instance_core.specs.Named.{StoresNamedText}

pub all_append : {X : Type 0} (P : X → Type 0) (xs ys : List X) → AllByRecursion P xs → AllByRecursion P ys → AllByRecursion P (xs ++ ys)
all_append P [] ys a b = b
all_append P (x ∷ xs) ys a b = (a.0, all_append P xs ys a.1 b)

abbrev accepted : Result Unit Refusal
accepted = Ok tt

stored_named : (function : Option HashFunction) (quota : ℕ) (r : UpdateBlobRequestValue) (d : Digest) →
    storage_digest function quota r ≡ Ok d → Names d r.content
unfolding storage_digest
stored_named function quota r d h = go (compressor_check r.compressor) (digest_or_refusal function r.digest) h where
  last : (e : Digest) (n q : Bool) → is_digest_of e r.content ≡ n
      → (cond n accepted (Err DigestDoesNotMatch) >>= λ _. cond q (Err QuotaExceeded) accepted >>= λ _. Ok e) ≡ Ok d → Names d r.content
  last e true false n h =
      let equal : e ≡ d = cc in
      subst (λ (x : Digest). Names x r.content) equal (same_names e r.content n)
  last e true true n h = absurd (cc)
  last e false q n h = absurd (cc)

  go : (c : Result Unit Refusal) (s : Result Digest Refusal) →
      (c >>= λ _. s >>= λ e. naming_check e r.content >>= λ _. quota_check quota r.content >>= λ _. Ok e) ≡ Ok d → Names d r.content
  go (Ok u) (Ok e) h = last e (is_digest_of e r.content) (nat_lt quota (length r.content)) refl h
  go (Ok u) (Err x) h = absurd (cc)
  go (Err x) s h = absurd (cc)

one_named : (function : Option HashFunction) (quota : ℕ) (r : UpdateBlobRequestValue) (u : Result Digest Refusal) →
    storage_digest function quota r ≡ u → AllByRecursion StoresNamedText (store_of r.content u)
one_named function quota r (Ok d) is = (stored_named function quota r d is, tt)
one_named function quota r (Err refusal) is = tt

stores_named : (function : Option HashFunction) (quota : ℕ) (rs : List UpdateBlobRequestValue) →
    AllByRecursion StoresNamedText (stores function quota rs)
stores_named function quota [] = tt
stores_named function quota (r ∷ rs) =
    all_append StoresNamedText (store_of r.content (storage_digest function quota r)) (stores function quota rs)
    (one_named function quota r (storage_digest function quota r) refl) (stores_named function quota rs)

result_named : (quota : ℕ) (r : Result BlobsSentValue Refusal) → AllByRecursion StoresNamedText (stores_of_result quota r)
result_named quota (Ok sent) = stores_named sent.function quota sent.requests
result_named quota (Err refusal) = tt

all_uses : (ds : List Digest) → AllByRecursion StoresNamedText (map Use ds)
all_uses [] = tt
all_uses (d ∷ ds) = (tt, all_uses ds)

uses_named : (r : Result (List Digest) Refusal) → AllByRecursion StoresNamedText (uses r)
uses_named (Ok ds) = all_uses ds
uses_named (Err refusal) = tt

use_named : (r : Result ReadAsked Refusal) → AllByRecursion StoresNamedText (use_asked r)
use_named (Ok asked) = (tt, tt)
use_named (Err refusal) = tt

-- ---- what each method stores

pub find_named : (s : InstanceState) (message : List ℕ) → AllByRecursion StoresNamedText (find_missing_changes s.name message)
find_named s message = uses_named (digests_asked s.name message)

pub update_named : (s : InstanceState) (message : List ℕ) → AllByRecursion StoresNamedText (batch_update_changes s.name s.quota message)
update_named s message = result_named s.quota (blobs_sent s.name message)

pub batch_named : (s : InstanceState) (message : List ℕ) → AllByRecursion StoresNamedText (batch_read_changes s.name message)
batch_named s message = uses_named (digests_to_read s.name message)

pub tree_named : (s : InstanceState) (message : List ℕ) → AllByRecursion StoresNamedText (get_tree_changes s.name (seen s) message)
tree_named s message = uses_named (tree_asked s.name message >>= directories_used (seen s))

pub get_named : (s : InstanceState) (message : List ℕ) →
    AllByRecursion StoresNamedText (get_action_result_changes s.name (seen s) s.results message)
get_named s message = uses_named (action_asked s.name message >>= λ action. Ok (blobs_used (texts_seen (seen s)) action s.results))

pub read_named : (s : InstanceState) (message : List ℕ) → AllByRecursion StoresNamedText (use_asked (read_asked s.name message))
read_named s message = use_named (read_asked s.name message)

pub change_within : (limit quota : ℕ) (c : TextChange) (bs : List Blob) → 0 < limit → StoresNamedText c → AreBlobsWithin limit quota bs →
    AreBlobsWithin limit quota (visible_after_change limit quota c bs)
change_within limit quota (Use d) bs some named w = used_within limit quota d bs w
change_within limit quota (Store d text) bs some named w = admitted_within limit quota d text bs some named w
