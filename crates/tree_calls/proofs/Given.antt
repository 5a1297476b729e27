-- What is complete is given: where each blob that a result names is there, all of them are named.
use Rattle.std.proofs.Common.{◌≡◌, ℕ, Bool, List, [], ◌∷◌, ◌++◌, Option, Some, None, Result, Ok, is_some, refl, sym, ap, subst, ◌∙◌, if◌then◌else◌}
use Rattle.std.specs.Prelude.{unwrap_or, IfSome}
use Rattle.std.specs.List.{AllByRecursion}
use Rattle.std.specs.Map.{lookup}
use Rattle.protobuf_wire.specs.Fields.{value_of_text}
use Rattle.digest.specs.declared.Digest.{Digest}
use Rattle.digest.specs.Naming.{same_digest}
use Rattle.instance_view.specs.Visible.{Blob}
use Rattle.reapi_messages.specs.Results.{◌>>=◌}
use Rattle.reapi_messages.specs.Digests.{DigestValue}
use Rattle.tree_messages.specs.Directories.{DirectoryValue, tree_of}
use Rattle.rpc.specs.declared.refusal.Refusal.{Refusal}
use Rattle.input_tree.specs.Directories.{written_digest}
use Rattle.input_tree.specs.Listing.{Lookup}
use Rattle.action_cache.specs.Complete.{and_then, blobs_of, with_blob, with_digest, with_directory, with_each, with_file, with_output_directory, with_output_file, with_outputs, with_root, with_set, with_streams, with_tree, with_tree_of}
use Rattle.action_cache.specs.Answering.{blobs_for, result_for}
use Rattle.tree_calls.specs.GetTree.{texts_seen}
use Rattle.tree_calls.specs.Results.{get_action_result_reply, or_no_result}
use Rattle.tree_calls.specs.Complete.{HasBlob, HasFiles, HasTree, IsComplete, IsCompleteReply}

-- digests are named
abbrev IsNamed : Option (List Digest) → Type 0
IsNamed named = (all : List Digest) × (named ≡ Some all)

then_some : {A B : Type 0} (o : Option A) (f : A → Option B) (x : A) (y : B) → o ≡ Some x → f x ≡ Some y → and_then o f ≡ Some y
then_some {A = A} o f x y is gives = subst (λ (o : Option A). and_then o f ≡ Some y) (sym is) gives

named_then : {A : Type 0} (o : Option A) (f : A → Option (List Digest)) (x : A) → o ≡ Some x → IsNamed (f x) → IsNamed (and_then o f)
named_then o f x is rest = (rest.0, then_some o f x rest.0 is rest.1)

blob_named : (look : Lookup) (ds : List Digest) (written : Option DigestValue) → HasBlob look written → IsNamed (with_blob look ds written)
blob_named look ds written h =
    let more = ds ++ h.digest ∷ [] in
    (more, ap (with_digest look ds) h.is ∙ ap (λ (b : Bool). if b then Some more else None) h.there)

set_named : (look : Lookup) (ds : List Digest) (written : Option DigestValue) → IfSome written (λ w. HasBlob look (Some w)) →
    IsNamed (with_set look ds written)
set_named look ds None h = (ds, refl)
set_named look ds (Some w) h = blob_named look ds (Some w) h

each_named : {V : Type 0} (with_part : List Digest → V → Option (List Digest)) (IsThere : V → Type 0) →
    ((ds : List Digest) (v : V) → IsThere v → IsNamed (with_part ds v)) → (ds : List Digest) (vs : List V) → AllByRecursion IsThere vs →
    IsNamed (with_each with_part ds vs)
each_named with_part IsThere named ds [] h = (ds, refl)
each_named with_part IsThere named ds (v ∷ vs) h =
    let first = named ds v h.0 in
    named_then (with_part ds v) (λ more. with_each with_part more vs) first.0 first.1 (each_named with_part IsThere named first.0 vs h.1)

directory_named : (look : Lookup) (ds : List Digest) (v : DirectoryValue) → HasFiles look v → IsNamed (with_directory look ds v)
directory_named look ds v h = each_named (with_file look) (λ file. HasBlob look file.digest)
    (λ ds file h. blob_named look ds file.digest h) ds v.files h

root_named : (look : Lookup) (ds : List Digest) (root : Option DirectoryValue) → IfSome root (HasFiles look) →
    IsNamed (with_root look ds root)
root_named look ds None h = (ds, refl)
root_named look ds (Some v) h = directory_named look ds v h

tree_named : (look : Lookup) (ds : List Digest) (written : Option DigestValue) → HasTree look written →
    IsNamed (with_tree_of look ds (written_digest written))
tree_named look ds written h =
    let more = ds ++ h.digest ∷ [] in
    let root = root_named look more h.tree.root h.root in
    let files : IsNamed (with_tree look more (Ok h.tree)) =
    named_then (with_root look more h.tree.root) (λ ds. with_each (with_directory look) ds h.tree.children) root.0 root.1
    (each_named (with_directory look) (HasFiles look) (directory_named look) root.0 h.tree.children h.children) in
    let there = ap (λ (o : Option (List ℕ)). if is_some o then with_tree look more (value_of_text tree_of (unwrap_or o [])) else None)
    h.there in
    (files.0, ap (with_tree_of look ds) h.is ∙ there ∙ ap (with_tree look more) h.spelled ∙ files.1)

all_named : (look : Lookup) (t : List ℕ) → IsComplete look t → IsNamed (blobs_of look t)
all_named look t h =
    let v = h.value in
    let files = each_named (with_output_file look) (λ file. HasBlob look file.digest) (λ ds file h. blob_named look ds file.digest h)
    [] v.output_files h.files in
    let trees = each_named (with_output_directory look) (λ tree. HasTree look tree.tree_digest)
    (λ ds tree h. tree_named look ds tree.tree_digest h) files.0 v.output_directories h.trees in
    let stdout = set_named look trees.0 v.stdout_digest h.stdout in
    let streams : IsNamed (with_streams look trees.0 v) =
    named_then (with_set look trees.0 v.stdout_digest) (λ more. with_set look more v.stderr_digest) stdout.0 stdout.1
    (set_named look stdout.0 v.stderr_digest h.stderr) in
    let rest = named_then (with_each (with_output_directory look) files.0 v.output_directories)
    (λ all. with_streams look all v) trees.0 trees.1 streams in
    let all : IsNamed (with_outputs look (Ok v)) =
    named_then (with_each (with_output_file look) [] v.output_files)
    (λ files. and_then (with_each (with_output_directory look) files v.output_directories) (λ all. with_streams look all v)) files.0
    files.1 rest in
    (all.0, ap (with_outputs look) h.spelled ∙ all.1)

pub result_given : (own request reply : List ℕ) (visible results : List Blob) → IsCompleteReply own visible results request reply →
    get_action_result_reply own visible results request ≡ Ok reply
result_given own request reply visible results h =
    let look = texts_seen visible in
    let stored = lookup (same_digest h.action) results in
    let all = all_named look reply h.complete in
    let named = then_some stored (blobs_of look) reply all.0 h.is_stored all.1 in
    let found = then_some (blobs_for look h.action results) (λ (ds : List Digest). stored) all.0 reply named h.is_stored in
    ap (λ (r : Result Digest Refusal). r >>= λ (action : Digest). or_no_result (result_for look action results)) h.is_asked
    ∙ ap or_no_result found
