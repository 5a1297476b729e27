-- Pages, one after another.
use Rattle.std.proofs.Common.{◌≡◌, ℕ, pos, negsuc, ◌+◌, ◌<◌, ◌≤◌, ◌⊎◌, inl, inr, Bool, true, false, List, [], ◌∷◌, ◌++◌, ◌||◌, ◌==◌, length, drop, Option, Some, None, Result, Ok, Err, refl, ap, subst, ◌∙◌, arith, append_assoc, if◌then◌else◌}
use Rattle.std.specs.Prelude.{ℤ, nat_le, nat_lt}
use Rattle.std.specs.Fmt.{decimal}
use Rattle.std.proofs.lemmas.Bool.{and_parts}
use Rattle.std.proofs.lemmas.Bool.Decides.{nat_tests}
use Rattle.std.proofs.lemmas.List.{length-append}
use Rattle.protobuf_wire.specs.Record.{Record}
use Rattle.protobuf_wire.specs.Writing.{records_text}
use Rattle.protobuf_wire.specs.Parts.{repeated_octets_field}
use Rattle.protobuf_wire.proofs.Tools.{bind_ok}
use Rattle.digest.specs.declared.Digest.{Digest}
use Rattle.instance_view.specs.Visible.{Blob}
use Rattle.tree_messages.specs.GetTree.{GetTreeResponseValue}
use Rattle.input_tree.specs.declared.error.TreeRefusal.{TreeRefusal}
use Rattle.input_tree.specs.Listing.{Lookup, tree_list}
use Rattle.input_tree.specs.Pages.{last_page, page_before, page_bytes, page_from, page_text, pages_along, pages_at, pages_of, place_asked, size_asked, takes, texts, get_tree_reply}
use Rattle.tree_calls.specs.Asking.{tree_asked}
use Rattle.tree_calls.specs.GetTree.{texts_seen, of_tree, pages_asked, get_tree_replies}
use Rattle.tree_calls.specs.Pages.{IsPageBounded, token_before, directories_of, AreTreePages, GiveTheList}
use Rattle.tree_calls.proofs.Sizes.{both_written}

-- ---- one page

records_last : (page : List (List ℕ)) (t : List ℕ) →
    repeated_octets_field 1 (page ++ t ∷ []) ≡ repeated_octets_field 1 page ++ repeated_octets_field 1 (t ∷ [])
records_last [] t = refl
records_last (u ∷ us) t = ap (λ (rs : List Record). repeated_octets_field 1 (u ∷ []) ++ rs) (records_last us t)

bytes_last : (page : List (List ℕ)) (t : List ℕ) → page_bytes (page ++ t ∷ []) ≡ page_bytes page + page_bytes (t ∷ [])
bytes_last page t = ap (λ (rs : List Record). length (records_text rs)) (records_last page t)
    ∙ both_written (repeated_octets_field 1 page) (repeated_octets_field 1 (t ∷ []))

-- the directories of a page so far
pub record IsBegun (size : ℕ) (page : List (List ℕ)) : Type 0 where
  pub few : length page ≤ size
  pub short : (page_bytes page ≤ 4000000) ⊎ (length page ≤ 1)

begun_none : (size : ℕ) → IsBegun size []
begun_none size = record { few = omega arith; short = inr (omega arith) }

begun_one : (size : ℕ) (t : List ℕ) → 0 < size → IsBegun size (t ∷ [])
begun_one size t some = record { few = omega arith; short = inr (omega arith) }

begun_more : (size : ℕ) (page : List (List ℕ)) (t : List ℕ) → 0 < size → takes size page t ≡ true → IsBegun size (page ++ t ∷ [])
begun_more size [] t some h = begun_one size t some
begun_more size (u ∷ us) t some h =
    let page = u ∷ us in
    let has : (length page == 0) ≡ false = grind (arith, nat_tests) in
    let parts = and_parts (nat_lt (length page) size) (nat_le (page_bytes page + page_bytes (t ∷ [])) 4000000) (rw has at h) in
    record {
      few = let less = parts.0 in let count = length-append page (t ∷ []) in rw count (grind (arith, nat_tests));
      short = inl (let less = parts.1 in rw (bytes_last page t) (grind (arith, nat_tests)));
    }

some_begun : (size : ℕ) (page : List (List ℕ)) (t : List ℕ) → takes size page t ≡ false → 0 < length page
some_begun size [] t h = absurd (cc)
some_begun size (u ∷ us) t h = omega arith

ended : (size : ℕ) (page : List (List ℕ)) (token : List ℕ) → 0 < length page → IsBegun size page →
    IsPageBounded size (record { directories = page; next_page_token = token })
ended size page token some begun = record {
  some = some;
  few = begun.few;
  short = elim begun.short [ inl h ↦ inl h | inr h ↦ inr (omega (arith, h, some)) ];
}

-- ---- all of them

token_is : (place : ℕ) (pages : List GetTreeResponseValue) (t : List ℕ) (ts : List (List ℕ)) → directories_of pages ≡ t ∷ ts →
    decimal place ≡ token_before place pages
token_is place [] t ts h = absurd (cc)
token_is place (p ∷ ps) t ts h = refl

last_given : (size start : ℕ) (page : List (List ℕ)) → IsBegun size page → AreTreePages size start (page ++ []) (last_page page)
last_given size start [] begun = record { pages = []; written = refl; joined = refl; bounded = tt; continued = tt }
last_given size start (u ∷ us) begun = record {
  pages = record { directories = u ∷ us; next_page_token = [] } ∷ [];
  written = let has : (length (u ∷ us) == 0) ≡ false = grind (arith, nat_tests) in rw has refl;
  joined = refl;
  bounded = (ended size (u ∷ us) [] (omega arith) begun, tt);
  continued = (refl, tt);
}

-- one directory more, on the same page or on a new one
more_given : (size start place : ℕ) (page ts : List (List ℕ)) (t : List ℕ) → 0 < size → start + length page ≡ place → IsBegun size page
    → ((start : ℕ) (page : List (List ℕ)) → start + length page ≡ place + 1 → IsBegun size page →
    AreTreePages size start (page ++ ts) (pages_along size (place + 1) page ts))
    → AreTreePages size start (page ++ t ∷ ts) (page_before (takes size page t) place page
    ++ pages_along size (place + 1) (page_from (takes size page t) page ++ t ∷ []) ts)
more_given size start place page ts t some at begun later = go (takes size page t) refl where
  go : (b : Bool) → takes size page t ≡ b → AreTreePages size start (page ++ t ∷ ts)
      (page_before b place page ++ pages_along size (place + 1) (page_from b page ++ t ∷ []) ts)
  go true is =
      let count = length-append page (t ∷ []) in
      let rest = later start (page ++ t ∷ []) (omega (arith, count, at)) (begun_more size page t some is) in
      subst (λ (ds : List (List ℕ)). AreTreePages size start ds (pages_along size (place + 1) (page ++ t ∷ []) ts))
      (append_assoc page (t ∷ []) ts) rest
  go false is =
      let rest = later place (t ∷ []) (omega arith) (begun_one size t some) in
      record {
        pages = record { directories = page; next_page_token = decimal place } ∷ rest.pages;
        written = ap (λ (ms : List (List ℕ)). page_text (record { directories = page; next_page_token = decimal place }) ∷ ms) rest.written;
        joined = ap (λ (ds : List (List ℕ)). page ++ ds) rest.joined;
        bounded = (ended size page (decimal place) (some_begun size page t is) begun, rest.bounded);
        continued = rw at (token_is place rest.pages t ts rest.joined, rest.continued);
      }

pub given : (size start place : ℕ) (page ts : List (List ℕ)) → 0 < size → start + length page ≡ place → IsBegun size page →
    AreTreePages size start (page ++ ts) (pages_along size place page ts)
unfolding pages_along
given size start place page [] some at begun = last_given size start page begun
given size start place page (t ∷ ts) some at begun =
    more_given size start place page ts t some at begun (λ s p same begun. given size s (place + 1) p ts some same begun)

-- ---- a reply

size_some : (z : ℤ) (size : ℕ) → size_asked z ≡ Some size → 0 < size
size_some (negsuc n) size h = absurd (cc)
size_some (pos n) size h = go (n == 0) refl (nat_lt 1000 n) refl h where
  go : (a : Bool) → (n == 0) ≡ a → (b : Bool) → nat_lt 1000 n ≡ b → Some (if a || b then 1000 else n) ≡ Some size → 0 < size
  go true is b more h = let e : 1000 ≡ size = cc in omega (arith, e)
  go false is true more h = let e : 1000 ≡ size = cc in omega (arith, e)
  go false is false more h = let e : n ≡ size = cc in rw (← e) (grind (arith, nat_tests))

tree_ok : {A : Type 0} (r : Result A TreeRefusal) (x : A) → of_tree r ≡ Ok x → r ≡ Ok x
tree_ok (Ok y) x h = cc
tree_ok (Err e) x h = absurd (cc)

-- what was asked for, where there are pages
record IsPlaced (look : Lookup) (listed : List Digest) (size_of place_of : Option ℕ) (messages : List (List ℕ)) : Type 0 where
  size : ℕ
  is_size : size_of ≡ Some size
  place : ℕ
  is_place : place_of ≡ Some place
  are : messages ≡ pages_along size place [] (texts look (drop place listed))

placed : (look : Lookup) (listed : List Digest) (size place : Option ℕ) (messages : List (List ℕ)) →
    pages_at look listed size place ≡ Ok messages → IsPlaced look listed size place messages
placed look listed None place messages h = absurd (cc)
placed look listed (Some size) None messages h = absurd (cc)
placed look listed (Some size) (Some place) messages h = record { size = size; is_size = refl; place = place; is_place = refl; are = cc }

reply_given : (look : Lookup) (listed : List Digest) (size place : ℕ) (messages : List (List ℕ)) → 0 < size →
    messages ≡ pages_along size place [] (texts look (drop place listed)) →
    AreTreePages size place (texts look (drop place listed)) messages
reply_given look listed size place messages some is =
    rw is (given size place place [] (texts look (drop place listed)) some (omega arith) (begun_none size))

pub list_given : (own : List ℕ) (visible : List Blob) (request : List ℕ) (messages : List (List ℕ)) →
    get_tree_replies own visible request ≡ Ok messages → GiveTheList own visible request messages
list_given own visible request messages h =
    let look = texts_seen visible in
    let a = bind_ok (tree_asked own request) (pages_asked visible) messages h in
    let asked = a.0 in
    let whole = tree_ok (get_tree_reply look asked.root asked.page_size asked.page_token) messages a.2 in
    let l = bind_ok (tree_list look asked.root) (pages_of look asked.page_size asked.page_token) messages whole in
    let p = placed look l.0 (size_asked asked.page_size) (place_asked asked.page_token (length l.0)) messages l.2 in
    record {
      asked = asked;
      is_asked = a.1;
      listed = l.0;
      is_listed = l.1;
      size = p.size;
      is_size = p.is_size;
      place = p.place;
      is_place = p.is_place;
      given = reply_given look l.0 p.size p.place messages (size_some asked.page_size p.size p.is_size) p.are;
    }
