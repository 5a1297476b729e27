-- The pages of a tree's list, each a response of GetTree (remote_execution.proto, GetTreeResponse).
use Rattle.std.specs.Prelude.{ℕ, ℤ, pos, negsuc, ◌+◌, Bool, List, [], ◌∷◌, ◌++◌, map, length, drop, Option, Some, None, Result, Ok, Err, nat_le, nat_lt, unwrap_or, ◌==◌, ◌&&◌, ◌||◌, if◌then◌else◌}
use Rattle.std.specs.Fmt.{decimal}
use Rattle.protobuf_wire.specs.Results.{◌>>=◌}
use Rattle.protobuf_wire.specs.Writing.{records_text}
use Rattle.protobuf_wire.specs.Parts.{text_for, repeated_octets_field}
use Rattle.digest.specs.declared.Digest.{Digest}
use Rattle.numerals.specs.Number.{decimal_of}
use Rattle.tree_messages.specs.GetTree.{GetTreeResponseValue, get_tree_response_records}
use Rattle.input_tree.specs.Listing.{Lookup, tree_list}
use Rattle.input_tree.specs.declared.error.TreeRefusal.{TreeRefusal}
use Rattle.input_tree.specs.declared.error.TreeRefusal.TheVariants.{BadPage}
use Rattle.input_tree.specs.declared.pages.TheConstants.{MOST_PAGE_BYTES}

-- how many bytes the records of directories take
abbrev pub page_bytes : List (List ℕ) → ℕ
page_bytes directories = length (records_text (repeated_octets_field 1 directories))

-- a page of so many directories and bytes takes one more where it has none, or where it then has at
-- most the size asked for and MOST_PAGE_BYTES
abbrev pub takes_more : ℕ → ℕ → ℕ → ℕ → Bool
takes_more size count bytes more =
    count == 0 || (nat_lt count size && nat_le (bytes + more) MOST_PAGE_BYTES)

abbrev pub takes : ℕ → List (List ℕ) → List ℕ → Bool
takes size page t = takes_more size (length page) (page_bytes page) (page_bytes (t ∷ []))

abbrev pub page_text : GetTreeResponseValue → List ℕ
page_text page = text_for get_tree_response_records page

-- the last page, where it has any directory
abbrev pub last_page : List (List ℕ) → List (List ℕ)
last_page page =
    if length page == 0 then []
    else page_text (record { directories = page; next_page_token = [] }) ∷ []

-- the page that ends before a directory of this place, where it does not take it
abbrev pub page_before : Bool → ℕ → List (List ℕ) → List (List ℕ)
page_before goes_on place page =
    if goes_on then []
    else page_text (record { directories = page; next_page_token = decimal place }) ∷ []

abbrev pub page_from : Bool → List (List ℕ) → List (List ℕ)
page_from goes_on page = if goes_on then page else []

-- the responses, where a page has these directories so far and the next in the list has a place
unfoldable pub pages_along : ℕ → ℕ → List (List ℕ) → List (List ℕ) → List (List ℕ)
pages_along size place page [] = last_page page
pages_along size place page (t ∷ ts) =
    page_before (takes size page t) place page
    ++ pages_along size (place + 1) (page_from (takes size page t) page ++ t ∷ []) ts

-- ---- what a request asks for

-- the most directories of a page: 0 and more than 1,000 are 1,000
abbrev pub size_asked : ℤ → Option ℕ
size_asked (pos n) = Some (if n == 0 || nat_lt 1000 n then 1000 else n)
size_asked (negsuc n) = None

abbrev pub place_within : ℕ → Option ℕ → Option ℕ
place_within count None = None
place_within count (Some place) = if nat_le place count then Some place else None

-- the place in the list at which to begin: a number in decimal, or nothing for the list's beginning
abbrev pub place_asked : List ℕ → ℕ → Option ℕ
place_asked token count =
    if length token == 0 then Some 0 else place_within count (decimal_of token)

abbrev pub text_or_none : Lookup → Digest → List ℕ
text_or_none look d = unwrap_or (look d) []

-- the texts of digests
abbrev pub texts : Lookup → List Digest → List (List ℕ)
texts look ds = map (text_or_none look) ds

-- the responses from a place on, with so many directories at most
abbrev pub pages_at : Lookup → List Digest → Option ℕ → Option ℕ →
    Result (List (List ℕ)) TreeRefusal
pages_at look ds None place = Err BadPage
pages_at look ds (Some size) None = Err BadPage
pages_at look ds (Some size) (Some place) =
    Ok (pages_along size place [] (texts look (drop place ds)))

-- the responses that give the directories of a list, in order
abbrev pub pages_of : Lookup → ℤ → List ℕ → List Digest → Result (List (List ℕ)) TreeRefusal
pages_of look size token ds = pages_at look ds (size_asked size) (place_asked token (length ds))

-- the responses to a request, in order
abbrev pub get_tree_reply : Lookup → Digest → ℤ → List ℕ → Result (List (List ℕ)) TreeRefusal
get_tree_reply look root size token = tree_list look root >>= pages_of look size token

-- the digests of a list that there is
abbrev pub digests_of : Result (List Digest) TreeRefusal → List Digest
digests_of (Ok ds) = ds
digests_of (Err e) = []
