-- A list of a tree's directories that is made in steps. For the code alone: no promise speaks of it.
use Rattle.std.specs.Prelude.{◌≡◌, ◌≤◌, ℕ, ◌+◌, ◌-◌, ◌*◌, Bool, true, false, not, ◌&&◌, nat_eq, nat_le, List, [], ◌∷◌, ◌++◌, Option, Some, None, is_some, IfSome, drop, length, Result}
use Rattle.std.specs.List.{list_any}
use Rattle.digest.specs.declared.Digest.{Digest}
use Rattle.digest.specs.Naming.{same_digest}
use Rattle.input_tree.specs.Listing.{Lookup, listed_along, tree_list, with_all_listed, with_listed}
use Rattle.input_tree.specs.ListingSteps.{AreDue, AreNone}
use Rattle.input_tree.specs.Taken.{taken_at}
use Rattle.input_tree.specs.Taking.{bytes_left, given_by}
use Rattle.input_tree.specs.Work.{named_along, named_in_tree}
use Rattle.input_tree.specs.declared.directory.TheConstants.{MOST_DIRECTORY_BYTES}
use Rattle.input_tree.specs.declared.error.TreeRefusal.{TreeRefusal}
use Rattle.input_tree.specs.declared.listing.TheConstants.{MOST_DIRECTORIES}
use Rattle.input_tree.specs.declared.listing.Listing.{Listing}
use Rattle.input_tree.specs.declared.listing.ChildReading.{ChildReading}

-- a directory is read that is not listed yet
abbrev pub IsReading : Lookup → List Digest → ChildReading → Type 0
IsReading look listed r =
    (taken_at look r.digest ≡ Some (given_by r.directory))
    × (list_any (same_digest r.digest) listed ≡ false)

-- the list with the directory that is being read
abbrev pub with_reading : Lookup → List Digest → Option ChildReading → List Digest
with_reading look listed None = listed
with_reading look listed (Some r) = with_listed look listed r.digest

-- what is left in the directory that is gone over
abbrev pub left_of : Listing → List Digest
left_of l = drop l.next l.inside.items

-- the list, where the root is listed
abbrev pub list_on : Lookup → Listing → List Digest
list_on look l =
    with_all_listed look (with_reading look l.known.listed.keys l.reading) (left_of l)

abbrev pub list_from : Lookup → Bool → Listing → Result (List Digest) TreeRefusal
list_from look false l = tree_list look l.root
list_from look true l = listed_along (MOST_DIRECTORIES - l.place) look (list_on look l) l.place

-- what is still named, in order and with repeats
abbrev pub named_from : Lookup → Bool → Option ChildReading → Listing → List Digest
named_from look false None l = named_in_tree look l.root
named_from look false (Some r) l = named_along MOST_DIRECTORIES look (l.root ∷ []) 0
named_from look true r l =
    left_of l ++ named_along (MOST_DIRECTORIES - l.place) look (list_on look l) l.place

abbrev pub named_left : Lookup → Listing → List Digest
named_left look l = named_from look l.is_begun l.reading l

-- gone on with to its end, a listing gives the list that the definition says
pub record LeadsTo (look : Lookup) (l : Listing) : Type 0 where
  pub same : list_from look l.is_begun l ≡ tree_list look l.root
  pub reading_is : IfSome l.reading (IsReading look l.known.listed.keys)
  pub others_are : AreNone look l.known.others.keys
  pub due_are : AreDue look l.place l.known.listed.keys l.known.due.items
  pub few : l.place ≤ MOST_DIRECTORIES
  pub first : l.is_begun ≡ false → (l.known.listed.keys ≡ []) × (left_of l ≡ []) × (l.place ≡ 0)
      × IfSome l.reading (λ r. r.digest ≡ l.root)

abbrev pub is_over : Listing → Bool
is_over l =
    l.is_begun && (not (is_some l.reading) &&
    (nat_le (length l.inside.items) l.next && nat_eq (length l.known.due.items) 0))

-- ---- the steps that are left

abbrev pub reading_left : Option ChildReading → ℕ
reading_left None = 0
reading_left (Some r) = bytes_left r.directory + 1

-- each directory is named or gone over once, and its text is read
abbrev pub steps_left : Lookup → Listing → ℕ
steps_left look l =
    (length (named_left look l) + (MOST_DIRECTORIES - l.place)) * (MOST_DIRECTORY_BYTES + 2)
    + reading_left l.reading

-- ---- steps

-- the listing, where this directory is being read
abbrev pub with_read : Listing → ChildReading → Listing
with_read l r = record l { reading = Some r }

-- a directory was looked for
pub record Opens (look : Lookup) (old new : Listing) : Type 0 where
  pub leads : LeadsTo look new
  pub named : length (named_left look old) ≡ 1 + length (named_left look new)

-- a directory was read, or the next is gone over
pub record Closes (look : Lookup) (old new : Listing) : Type 0 where
  pub leads : LeadsTo look new
  pub named : length (named_left look new) ≡ length (named_left look old)
