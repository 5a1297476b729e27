-- GetTree (remote_execution.proto, ContentAddressableStorage): a function of the texts that the
-- instance sees and the message.
use Rattle.std.specs.Prelude.{ℕ, List, Result, Ok, Err}
use Rattle.reapi_messages.specs.Results.{◌>>=◌}
use Rattle.rpc.specs.declared.refusal.Refusal.{Refusal}
use Rattle.rpc.specs.declared.refusal.Refusal.TheVariants.{BlobNotFound, TreeTooLarge}
use Rattle.rpc.specs.declared.refusal.Refusal.TheVariants as Refused
use Rattle.digest.specs.declared.Digest.{Digest}
use Rattle.instance_view.specs.Visible.{Blob, visible_text}
use Rattle.input_tree.specs.declared.error.TreeRefusal.{TreeRefusal}
use Rattle.input_tree.specs.declared.error.TreeRefusal.TheVariants.{NotFound, BadDirectory, TooMany, BadPage}
use Rattle.input_tree.specs.declared.error.GetTreeError.TheVariants as Tree
use Rattle.cas_service.specs.declared.error.CallError.TheVariants as Call
use Rattle.input_tree.specs.Listing.{Lookup, tree_list}
use Rattle.input_tree.specs.Pages.{get_tree_reply}
use Rattle.cas_service.specs.Changes.{TextChange, uses}
use Rattle.tree_calls.specs.Asking.{TreeAskedValue, tree_asked}

-- the texts that an instance sees
abbrev pub texts_seen : List Blob → Lookup
texts_seen visible d = visible_text d visible

abbrev pub tree_refusal : TreeRefusal → Refusal
tree_refusal NotFound = BlobNotFound
tree_refusal BadDirectory = Refused.BadDirectory
tree_refusal TooMany = TreeTooLarge
tree_refusal BadPage = Refused.BadPage

abbrev pub of_tree : {A : Type 0} → Result A TreeRefusal → Result A Refusal
of_tree (Ok x) = Ok x
of_tree (Err fault) = Err (tree_refusal fault)

-- the pages of a tree's list, as messages in order
abbrev pub pages_asked : List Blob → TreeAskedValue → Result (List (List ℕ)) Refusal
pages_asked visible asked =
    of_tree (get_tree_reply (texts_seen visible) asked.root asked.page_size asked.page_token)

-- the directories of a tree's list
abbrev pub directories_asked : List Blob → TreeAskedValue → Result (List Digest) Refusal
directories_asked visible asked = of_tree (tree_list (texts_seen visible) asked.root)

-- the messages of the reply, for an instance of this name that sees these texts
abbrev pub get_tree_replies : List ℕ → List Blob → List ℕ → Result (List (List ℕ)) Refusal
get_tree_replies own visible message = tree_asked own message >>= pages_asked visible

-- the directories of the list, where the call is answered
abbrev pub directories_used : List Blob → TreeAskedValue → Result (List Digest) Refusal
directories_used visible asked =
    pages_asked visible asked >>= λ pages. directories_asked visible asked

-- each directory of the list is used, in order
abbrev pub get_tree_changes : List ℕ → List Blob → List ℕ → List TextChange
get_tree_changes own visible message = uses (tree_asked own message >>= directories_used visible)
