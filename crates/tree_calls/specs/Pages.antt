-- What the pages of a reply are, said of each page by itself and of all of them joined.
use Rattle.std.specs.Prelude.{◌≡◌, ◌<◌, ◌≤◌, ◌⊎◌, ℕ, ◌+◌, List, [], ◌∷◌, length, map, drop, Some, Ok}
use Rattle.std.specs.Fmt.{decimal}
use Rattle.std.specs.List.{AllByRecursion, flat_map}
use Rattle.digest.specs.declared.Digest.{Digest}
use Rattle.digest.specs.Naming.{Names}
use Rattle.instance_view.specs.Visible.{Blob}
use Rattle.tree_messages.specs.GetTree.{GetTreeResponseValue}
use Rattle.input_tree.specs.Listing.{tree_list}
use Rattle.input_tree.specs.Pages.{page_bytes, page_text, place_asked, size_asked, texts}
use Rattle.input_tree.specs.declared.pages.TheConstants.{MOST_PAGE_BYTES}
use Rattle.tree_calls.specs.Asking.{TreeAskedValue, tree_asked}
use Rattle.tree_calls.specs.GetTree.{texts_seen}
use Rattle.tree_calls.specs.Lists.{IsDigestListed}

-- a page has a directory, and no more than a number; where it has several, their records have at
-- most MOST_PAGE_BYTES
pub record IsPageBounded (size : ℕ) (page : GetTreeResponseValue) : Type 0 where
  pub some : 0 < length page.directories
  pub few : length page.directories ≤ size
  pub short : (page_bytes page.directories ≤ MOST_PAGE_BYTES) ⊎ (length page.directories ≡ 1)

-- the token of a page behind which these come, the first of which begins at a place
abbrev pub token_before : ℕ → List GetTreeResponseValue → List ℕ
token_before place [] = []
token_before place (page ∷ pages) = decimal place

-- pages of which the first begins at a place: each says where the next begins
abbrev pub AreContinued : ℕ → List GetTreeResponseValue → Type 0
AreContinued place [] = Unit {0}
AreContinued place (page ∷ pages) =
    (page.next_page_token ≡ token_before (place + length page.directories) pages)
    × AreContinued (place + length page.directories) pages

abbrev pub directories_of : List GetTreeResponseValue → List (List ℕ)
directories_of pages = flat_map (λ page. page.directories) pages

-- messages are pages of so many directories at most, which joined give these, the first of which
-- has a place in the list
pub record AreTreePages (size place : ℕ) (directories messages : List (List ℕ)) : Type 0 where
  pub pages : List GetTreeResponseValue
  pub written : messages ≡ map page_text pages
  pub joined : directories_of pages ≡ directories
  pub bounded : AllByRecursion (IsPageBounded size) pages
  pub continued : AreContinued place pages

-- messages are the pages of the list that a request asks for, from the place that it asks for on
pub record GiveTheList (own : List ℕ) (visible : List Blob) (request : List ℕ)
    (messages : List (List ℕ)) : Type 0 where
  pub asked : TreeAskedValue
  pub is_asked : tree_asked own request ≡ Ok asked
  pub listed : List Digest
  pub is_listed : tree_list (texts_seen visible) asked.root ≡ Ok listed
  pub size : ℕ
  pub is_size : size_asked asked.page_size ≡ Some size
  pub place : ℕ
  pub is_place : place_asked asked.page_token (length listed) ≡ Some place
  pub given : AreTreePages size place (texts (texts_seen visible) (drop place listed)) messages

-- ---- what digests name

-- a text is what a digest of the list names
pub record IsNamedAmong (listed : List Digest) (text : List ℕ) : Type 0 where
  pub digest : Digest
  pub is_listed : IsDigestListed listed digest
  pub names : Names digest text

-- a message is a page, and each directory of it is what a digest of the list names
pub record IsNamedPage (listed : List Digest) (message : List ℕ) : Type 0 where
  pub page : GetTreeResponseValue
  pub written : message ≡ page_text page
  pub named : AllByRecursion (IsNamedAmong listed) page.directories

-- messages are pages of what the digests name that a request's list has
pub record AreNamedReplies (own : List ℕ) (visible : List Blob) (request : List ℕ)
    (messages : List (List ℕ)) : Type 0 where
  pub asked : TreeAskedValue
  pub is_asked : tree_asked own request ≡ Ok asked
  pub listed : List Digest
  pub is_listed : tree_list (texts_seen visible) asked.root ≡ Ok listed
  pub pages : AllByRecursion (IsNamedPage listed) messages
