-- What is given is what digests of the list name, and complete.
use Rattle.std.proofs.Common.{◌≡◌, ℕ, zero, suc, Bool, true, false, List, [], ◌∷◌, ◌++◌, map, drop, Option, Some, None, Result, Ok, Err, is_some, refl, subst, if◌then◌else◌}
use Rattle.std.specs.Prelude.{unwrap_or, IfSome}
use Rattle.std.specs.List.{AllByRecursion}
use Rattle.std.specs.Map.{lookup}
use Rattle.protobuf_wire.specs.declared.error.MessageError.{MessageError}
use Rattle.protobuf_wire.specs.Fields.{value_of_text}
use Rattle.protobuf_wire.proofs.Tools.{bind_ok}
use Rattle.digest.specs.declared.Digest.{Digest}
use Rattle.digest.specs.Naming.{Names, same_digest}
use Rattle.instance_view.specs.Visible.{Blob, visible_text}
use Rattle.cas_service.proofs.Seen.{named_by}
use Rattle.reapi_messages.specs.Digests.{DigestValue}
use Rattle.tree_messages.specs.Directories.{DirectoryValue, TreeValue, tree_of}
use Rattle.tree_messages.specs.Results.{ActionResultValue, action_result_of}
use Rattle.tree_messages.specs.GetTree.{GetTreeResponseValue}
use Rattle.input_tree.specs.Directories.{written_digest}
use Rattle.input_tree.specs.Listing.{Lookup, children_of_text}
use Rattle.input_tree.specs.Pages.{page_text, text_or_none, texts}
use Rattle.action_cache.specs.Complete.{and_then, blobs_of, with_blob, with_directory, with_each, with_file, with_output_directory, with_output_file, with_outputs, with_root, with_digest, with_set, with_streams, with_tree, with_tree_of}
use Rattle.action_cache.specs.Answering.{blobs_for, result_for}
use Rattle.tree_calls.specs.Asking.{action_asked}
use Rattle.tree_calls.specs.GetTree.{texts_seen, get_tree_replies}
use Rattle.tree_calls.specs.Results.{get_action_result_reply, or_no_result}
use Rattle.tree_calls.specs.Lists.{IsDigestListed, IsDirectory}
use Rattle.tree_calls.specs.Pages.{AreNamedReplies, IsNamedAmong, IsNamedPage, directories_of}
use Rattle.tree_calls.specs.Complete.{HasBlob, HasFiles, HasTree, IsComplete, IsCompleteReply}
use Rattle.tree_calls.proofs.Whole.{all_listed, whole_from}
use Rattle.tree_calls.proofs.Pages.{list_given}

-- ---- texts that are seen

abbrev pub AllNamed : List Blob → Type 0
AllNamed visible = AllByRecursion (λ (b : Blob). Names b.0 b.1) visible

directory_named : (visible : List Blob) (d : Digest) → AllNamed visible → IsDirectory (texts_seen visible) d →
    Names d (text_or_none (texts_seen visible) d)
directory_named visible d named h = go (visible_text d visible) refl h where
  go : (o : Option (List ℕ)) → visible_text d visible ≡ o → is_some (children_of_text o) ≡ true → Names d (unwrap_or o [])
  go None is h = absurd (cc)
  go (Some t) is h = named_by visible d t named is

-- ---- pages

all_texts : (visible : List Blob) (listed ds : List Digest) → AllNamed visible → AllByRecursion (IsDigestListed listed) ds →
    AllByRecursion (IsDirectory (texts_seen visible)) ds → AllByRecursion (IsNamedAmong listed) (texts (texts_seen visible) ds)
all_texts visible listed [] named there dirs = tt
all_texts visible listed (d ∷ ds) named there dirs = (
  record { digest = d; is_listed = there.0; names = directory_named visible d named dirs.0 },
  all_texts visible listed ds named there.1
      dirs.1,
)

pub all_dropped : {X : Type 0} (P : X → Type 0) (n : ℕ) (xs : List X) → AllByRecursion P xs → AllByRecursion P (drop n xs)
all_dropped P zero xs h = h
all_dropped P (suc n) [] h = tt
all_dropped P (suc n) (x ∷ xs) h = all_dropped P n xs h.1

pub all_front : {X : Type 0} (P : X → Type 0) (xs ys : List X) → AllByRecursion P (xs ++ ys) → AllByRecursion P xs × AllByRecursion P ys
all_front P [] ys h = (tt, h)
all_front P (x ∷ xs) ys h = let rest = all_front P xs ys h.1 in ((h.0, rest.0), rest.1)

each_named : (listed : List Digest) (pages : List GetTreeResponseValue) → AllByRecursion (IsNamedAmong listed) (directories_of pages) →
    AllByRecursion (IsNamedPage listed) (map page_text pages)
each_named listed [] h = tt
each_named listed (p ∷ ps) h =
    let parts = all_front (IsNamedAmong listed) p.directories (directories_of ps) h in
    (record { page = p; written = refl; named = parts.0 }, each_named listed ps parts.1)

all_named : (visible : List Blob) (listed : List Digest) (place : ℕ) (pages : List GetTreeResponseValue) (messages : List (List ℕ)) →
    AllNamed visible → AllByRecursion (IsDirectory (texts_seen visible)) listed →
    directories_of pages ≡ texts (texts_seen visible) (drop place listed)
    → messages ≡ map page_text pages → AllByRecursion (IsNamedPage listed) messages
all_named visible listed place pages messages named dirs joined written =
    let look = texts_seen visible in
    let all = all_texts visible listed (drop place listed) named (all_dropped (IsDigestListed listed) place listed (all_listed listed))
    (all_dropped (IsDirectory look) place listed dirs) in
    let given : AllByRecursion (IsNamedAmong listed) (directories_of pages) = rw joined all in
    rw written (each_named listed pages given)

pub pages_named : (own : List ℕ) (visible : List Blob) (request : List ℕ) (messages : List (List ℕ)) → AllNamed visible →
    get_tree_replies own visible request ≡ Ok messages → AreNamedReplies own visible request messages
pages_named own visible request messages named h =
    let look = texts_seen visible in
    let g = list_given own visible request messages h in
    let whole = (whole_from 10000 look g.asked.root g.listed g.is_listed).0 in
    record {
      asked = g.asked;
      is_asked = g.is_asked;
      listed = g.listed;
      is_listed = g.is_listed;
      pages = all_named visible g.listed g.place g.given.pages messages named whole.directories g.given.joined g.given.written;
    }

-- ---- results

some_then : {A B : Type 0} (o : Option A) (f : A → Option B) (y : B) → and_then o f ≡ Some y → (x : A) × (o ≡ Some x) × (f x ≡ Some y)
some_then None f y h = absurd (cc)
some_then (Some x) f y h = (x, refl, h)

blob_there : (look : Lookup) (ds : List Digest) (written : Option DigestValue) (all : List Digest) → with_blob look ds written ≡ Some all →
    HasBlob look written
blob_there look ds written all h = go (written_digest written) refl h where
  test : (d : Digest) → written_digest written ≡ Some d → (b : Bool) → is_some (look d) ≡ b →
      (if b then Some (ds ++ d ∷ []) else None) ≡ Some all → HasBlob look written
  test d is true there h = record { digest = d; is = is; there = there }
  test d is false there h = absurd (cc)

  go : (o : Option Digest) → written_digest written ≡ o → with_digest look ds o ≡ Some all → HasBlob look written
  go None is h = absurd (cc)
  go (Some d) is h = test d is (is_some (look d)) refl h

set_there : (look : Lookup) (ds : List Digest) (written : Option DigestValue) (all : List Digest) → with_set look ds written ≡ Some all →
    IfSome written (λ w. HasBlob look (Some w))
set_there look ds None all h = tt
set_there look ds (Some w) all h = blob_there look ds (Some w) all h

each_there : {V : Type 0} (with_part : List Digest → V → Option (List Digest)) (IsThere : V → Type 0) →
    ((ds : List Digest) (v : V) (all : List Digest) → with_part ds v ≡ Some all → IsThere v) →
    (ds : List Digest) (vs : List V) (all : List Digest) → with_each with_part ds vs ≡ Some all → AllByRecursion IsThere vs
each_there with_part IsThere there ds [] all h = tt
each_there with_part IsThere there ds (v ∷ vs) all h =
    let s = some_then (with_part ds v) (λ more. with_each with_part more vs) all h in
    (there ds v s.0 s.1, each_there with_part IsThere there s.0 vs all s.2)

directory_there : (look : Lookup) (ds : List Digest) (v : DirectoryValue) (all : List Digest) → with_directory look ds v ≡ Some all →
    HasFiles look v
directory_there look ds v all h = each_there (with_file look) (λ file. HasBlob look file.digest)
    (λ ds file all h. blob_there look ds file.digest all h) ds v.files all h

root_there : (look : Lookup) (ds : List Digest) (root : Option DirectoryValue) (all : List Digest) → with_root look ds root ≡ Some all →
    IfSome root (HasFiles look)
root_there look ds None all h = tt
root_there look ds (Some v) all h = directory_there look ds v all h

tree_there : (look : Lookup) (ds : List Digest) (written : Option DigestValue) (all : List Digest) →
    with_tree_of look ds (written_digest written) ≡ Some all → HasTree look written
tree_there look ds written all h = go (written_digest written) refl h where
  spelled : (d : Digest) → written_digest written ≡ Some d → (t : List ℕ) → look d ≡ Some t → (r : Result TreeValue MessageError) →
      value_of_text tree_of t ≡ r → with_tree look (ds ++ d ∷ []) r ≡ Some all → HasTree look written
  spelled d is t there (Err e) reads h = absurd (cc)
  spelled d is t there (Ok tree) reads h =
      let s = some_then (with_root look (ds ++ d ∷ []) tree.root) (λ more. with_each (with_directory look) more tree.children) all h in
      record {
        digest = d;
        is = is;
        text = t;
        there = there;
        tree = tree;
        spelled = reads;
        root = root_there look (ds ++ d ∷ []) tree.root s.0 s.1;
        children = each_there (with_directory look) (HasFiles look) (directory_there look) s.0 tree.children all s.2;
      }

  test : (d : Digest) → written_digest written ≡ Some d → (o : Option (List ℕ)) → look d ≡ o →
      (if is_some o then with_tree look (ds ++ d ∷ []) (value_of_text tree_of (unwrap_or o [])) else None) ≡ Some all → HasTree look written
  test d is None there h = absurd (cc)
  test d is (Some t) there h = spelled d is t there (value_of_text tree_of t) refl h

  go : (o : Option Digest) → written_digest written ≡ o → with_tree_of look ds o ≡ Some all → HasTree look written
  go None is h = absurd (cc)
  go (Some d) is h = test d is (look d) refl h

is_complete : (look : Lookup) (t : List ℕ) (all : List Digest) → blobs_of look t ≡ Some all → IsComplete look t
is_complete look t all h = go (value_of_text action_result_of t) refl h where
  go : (r : Result ActionResultValue MessageError) → value_of_text action_result_of t ≡ r → with_outputs look r ≡ Some all →
      IsComplete look t
  go (Err e) reads h = absurd (cc)
  go (Ok v) reads h =
      let files = some_then (with_each (with_output_file look) [] v.output_files)
      (λ files. and_then (with_each (with_output_directory look) files v.output_directories) (λ all. with_streams look all v)) all h in
      let trees = some_then (with_each (with_output_directory look) files.0 v.output_directories)
      (λ all. with_streams look all v) all files.2 in
      let stdout = some_then (with_set look trees.0 v.stdout_digest) (λ more. with_set look more v.stderr_digest) all trees.2 in
      record {
        value = v;
        spelled = reads;
        files = each_there (with_output_file look) (λ file. HasBlob look file.digest)
            (λ ds file all h. blob_there look ds file.digest all h) [] v.output_files files.0 files.1;
        trees = each_there (with_output_directory look) (λ tree. HasTree look tree.tree_digest)
            (λ ds tree all h. tree_there look ds tree.tree_digest all h) files.0 v.output_directories trees.0 trees.1;
        stdout = set_there look trees.0 v.stdout_digest stdout.0 stdout.1;
        stderr = set_there look stdout.0 v.stderr_digest all stdout.2;
      }

result_ok : (o : Option (List ℕ)) (t : List ℕ) → or_no_result o ≡ Ok t → o ≡ Some t
result_ok None t h = absurd (cc)
result_ok (Some u) t h = cc

-- what is found is stored, and complete
pub result_found : (look : Lookup) (action : Digest) (results : List Blob) (text : List ℕ) → result_for look action results ≡ Some text →
    (lookup (same_digest action) results ≡ Some text) × IsComplete look text
result_found look action results text h =
    let b = some_then (blobs_for look action results) (λ (all : List Digest). lookup (same_digest action) results) text h in
    let s = some_then (lookup (same_digest action) results) (blobs_of look) b.0 b.1 in
    let same_text : s.0 ≡ text = let x = s.1 in let y = b.2 in cc in
    (b.2, subst (IsComplete look) same_text (is_complete look s.0 b.0 s.2))

pub result_complete : (own : List ℕ) (visible results : List Blob) (request reply : List ℕ) →
    get_action_result_reply own visible results request ≡ Ok reply → IsCompleteReply own visible results request reply
result_complete own visible results request reply h =
    let look = texts_seen visible in
    let a = bind_ok (action_asked own request) (λ action. or_no_result (result_for look action results)) reply h in
    let found = result_found look a.0 results reply (result_ok (result_for look a.0 results) reply a.2) in
    record { action = a.0; is_asked = a.1; is_stored = found.0; complete = found.1 }
