-- What a complete result is, said of each blob that it names by itself (remote_execution.proto,
-- ActionCache.GetActionResult).
use Rattle.std.specs.Prelude.{◌≡◌, ◌≤◌, true, ℕ, List, length, Option, Some, Ok, is_some, IfSome}
use Rattle.std.specs.List.{AllByRecursion}
use Rattle.std.specs.Map.{lookup}
use Rattle.protobuf_wire.specs.Fields.{value_of_text}
use Rattle.digest.specs.declared.Digest.{Digest}
use Rattle.digest.specs.Naming.{same_digest}
use Rattle.instance_view.specs.Visible.{Blob, blobs_length}
use Rattle.reapi_messages.specs.Digests.{DigestValue}
use Rattle.tree_messages.specs.Directories.{DirectoryValue, TreeValue, tree_of}
use Rattle.tree_messages.specs.Results.{ActionResultValue, action_result_of}
use Rattle.input_tree.specs.Directories.{written_digest}
use Rattle.input_tree.specs.Listing.{Lookup}
pub use Rattle.instance_limits.specs.Limits.{LimitsValue, IsLimits}
use Rattle.tree_calls.specs.Asking.{action_asked}
use Rattle.tree_calls.specs.GetTree.{texts_seen}

-- a digest is written, and its blob is there
pub record HasBlob (look : Lookup) (written : Option DigestValue) : Type 0 where
  pub digest : Digest
  pub is : written_digest written ≡ Some digest
  pub there : is_some (look digest) ≡ true

-- the blob of each file in a directory is there
abbrev pub HasFiles : Lookup → DirectoryValue → Type 0
HasFiles look v = AllByRecursion (λ file. HasBlob look file.digest) v.files

-- the blob is there and spells a tree, and so is that of each file in the tree
pub record HasTree (look : Lookup) (written : Option DigestValue) : Type 0 where
  pub digest : Digest
  pub is : written_digest written ≡ Some digest
  pub text : List ℕ
  pub there : look digest ≡ Some text
  pub tree : TreeValue
  pub spelled : value_of_text tree_of text ≡ Ok tree
  pub root : IfSome tree.root (HasFiles look)
  pub children : AllByRecursion (HasFiles look) tree.children

-- a text spells a result, and each blob that it names is there
pub record IsComplete (look : Lookup) (text : List ℕ) : Type 0 where
  pub value : ActionResultValue
  pub spelled : value_of_text action_result_of text ≡ Ok value
  pub files : AllByRecursion (λ file. HasBlob look file.digest) value.output_files
  pub trees : AllByRecursion (λ tree. HasTree look tree.tree_digest) value.output_directories
  pub stdout : IfSome value.stdout_digest (λ written. HasBlob look (Some written))
  pub stderr : IfSome value.stderr_digest (λ written. HasBlob look (Some written))

-- a reply is the text of the action's result, as it is stored, and that is complete
pub record IsCompleteReply (own : List ℕ) (visible results : List Blob)
    (request reply : List ℕ) : Type 0 where
  pub action : Digest
  pub is_asked : action_asked own request ≡ Ok action
  pub is_stored : lookup (same_digest action) results ≡ Some reply
  pub complete : IsComplete (texts_seen visible) reply

-- results are no more, and have no more bytes together, than the limits allow
pub record AreResultsWithin (limits : LimitsValue) (results : List Blob) : Type 0 where
  pub few : length results ≤ limits.results
  pub short : blobs_length results ≤ limits.result_bytes
