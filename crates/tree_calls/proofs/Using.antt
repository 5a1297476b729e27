-- What calls change: the uses of digests, one after another.
use Rattle.std.proofs.Common.{◌≡◌, ℕ, ℤ, List, [], ◌∷◌, map, Result, Ok, refl, sym, ap, subst, ◌∙◌, arith}
use Rattle.protobuf_wire.proofs.Tools.{bind_ok}
use Rattle.reapi_messages.specs.Results.{◌>>=◌}
use Rattle.rpc.specs.declared.refusal.Refusal.{Refusal}
use Rattle.digest.specs.declared.Digest.{Digest}
use Rattle.blob_pool.specs.Slots.{Slots}
use Rattle.instance_view.specs.Visible.{Blob, visible_after_use}
use Rattle.instance_view.specs.Shown.{ViewValue, visible_in, holders}
use Rattle.cas_service.specs.Within.{AreBlobsWithin}
use Rattle.cas_service.specs.InPool.{IsViewInPool}
use Rattle.cas_service.proofs.Limits.{used_within}
use Rattle.input_tree.specs.declared.error.TreeRefusal.{TreeRefusal}
use Rattle.input_tree.specs.declared.error.GetTreeError.{GetTreeError}
use Rattle.input_tree.specs.declared.error.GetTreeError.TheVariants as Tree
use Rattle.input_tree.specs.Answers as input_tree
use Rattle.input_tree.specs.Listing.{tree_list}
use Rattle.input_tree.specs.Pages.{digests_of, get_tree_reply, pages_of}
use Rattle.input_tree.specs.Uses.{visible_after_uses}
use Rattle.action_cache.specs.Answering.{blobs_used}
use Rattle.cas_service.specs.declared.error.CallError.{CallError}
use Rattle.cas_service.specs.Answers.{Fails}
use Rattle.cas_service.specs.Changes.{Use, visible_after_changes, uses}
use Rattle.tree_calls.specs.Asking.{TreeAskedValue, action_asked, tree_asked}
use Rattle.tree_calls.specs.GetTree.{texts_seen, of_tree, pages_asked, directories_used, get_tree_replies, get_tree_changes}
use Rattle.tree_calls.specs.TreeErrors.{tree_error}
use Rattle.tree_calls.specs.Results.{get_action_result_changes}

pub all_changed : (limit quota : ℕ) (ds : List Digest) (visible : List Blob) →
    visible_after_uses ds visible ≡ visible_after_changes limit quota (map Use ds) visible
all_changed limit quota [] visible = refl
all_changed limit quota (d ∷ ds) visible = all_changed limit quota ds (visible_after_use d visible)

all_within : (limit quota : ℕ) (ds : List Digest) (visible : List Blob) → AreBlobsWithin limit quota visible →
    AreBlobsWithin limit quota (visible_after_uses ds visible)
all_within limit quota [] visible h = h
all_within limit quota (d ∷ ds) visible h = all_within limit quota ds (visible_after_use d visible) (used_within limit quota d visible h)

-- uses keep what an instance relies on
pub all_kept : (quota : ℕ) (ds : List Digest) (p : Slots) (v w : ViewValue) → IsViewInPool quota p v → w.limit ≡ v.limit →
    visible_in p w ≡ visible_after_uses ds (visible_in p v) → ((k : ℕ) → holders w k ≡ holders v k) → IsViewInPool quota p w
all_kept quota ds p v w kept limit is same = record {
  held = record { counted = λ k. omega (arith, same k, kept.held.counted k); others = λ k. omega (arith, same k, kept.held.others k) };
  within = subst (λ (n : ℕ). AreBlobsWithin n quota (visible_in p w)) (sym limit)
      (subst (AreBlobsWithin v.limit quota) (sym is) (all_within v.limit quota ds (visible_in p v) kept.within));
}

-- ---- GetTree

uses_of : (pages : Result (List (List ℕ)) TreeRefusal) (list : Result (List Digest) TreeRefusal) (ms : List (List ℕ)) (ds : List Digest) →
    pages ≡ Ok ms → list ≡ Ok ds → uses (of_tree pages >>= λ _. of_tree list) ≡ map Use (digests_of list)
uses_of pages list ms ds h g = rw (h, g) refl

pub tree_changes : (own : List ℕ) (visible : List Blob) (request : List ℕ) (asked : TreeAskedValue) (size : ℤ) (ms : List (List ℕ)) →
    tree_asked own request ≡ Ok asked → size ≡ asked.page_size
    → get_tree_reply (texts_seen visible) asked.root size asked.page_token ≡ Ok ms →
    get_tree_changes own visible request ≡ map Use (digests_of (tree_list (texts_seen visible) asked.root))
tree_changes own visible request asked size ms is sized gives =
    let look = texts_seen visible in
    let given = subst (λ (z : ℤ). get_tree_reply look asked.root z asked.page_token ≡ Ok ms) sized gives in
    let listed = bind_ok (tree_list look asked.root) (pages_of look asked.page_size asked.page_token) ms given in
    ap (λ (r : Result TreeAskedValue Refusal). uses (r >>= directories_used visible)) is
    ∙ uses_of (get_tree_reply look asked.root asked.page_size asked.page_token) (tree_list look asked.root) ms listed.0 given listed.1

pub tree_fails : (own : List ℕ) (visible : List Blob) (request : List ℕ) (asked : TreeAskedValue) (size : ℤ) (error : GetTreeError)
    (result : CallError) → tree_asked own request ≡ Ok asked → size ≡ asked.page_size
    → input_tree.Fails error (get_tree_reply (texts_seen visible) asked.root size asked.page_token) → result ≡ tree_error error →
    Fails result (get_tree_replies own visible request)
tree_fails own visible request asked size error result is sized gives same =
    let fails = subst (λ (z : ℤ). input_tree.Fails error (get_tree_reply (texts_seen visible) asked.root z asked.page_token)) sized gives in
    subst (λ (e : CallError). Fails e (get_tree_replies own visible request)) (sym same) (go error fails)
  where
    go : (error : GetTreeError) → input_tree.Fails error (get_tree_reply (texts_seen visible) asked.root asked.page_size asked.page_token) →
        Fails (tree_error error) (get_tree_replies own visible request)
    go (Tree.Refused refusal) h = ap (λ (r : Result TreeAskedValue Refusal). r >>= pages_asked visible) is
        ∙ ap (λ (r : Result (List (List ℕ)) TreeRefusal). of_tree r) h
    go Tree.NoMemory h = tt

-- ---- GetActionResult

pub result_changes : (own : List ℕ) (visible results : List Blob) (request : List ℕ) (action : Digest) →
    action_asked own request ≡ Ok action → get_action_result_changes own visible results request
    ≡ map Use (blobs_used (texts_seen visible) action results)
result_changes own visible results request action is =
    ap (λ (r : Result Digest Refusal). uses (r >>= λ (a : Digest). Ok (blobs_used (texts_seen visible) a results))) is
