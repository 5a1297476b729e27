-- Lists of directories, as they grow.
use Rattle.std.proofs.Common.{◌≡◌, ℕ, zero, suc, ◌+◌, ◌-◌, ◌<◌, length, map, drop, Bool, true, false, List, [], ◌∷◌, ◌++◌, ◌||◌, Option, Some, None, Result, Ok, Err, is_some, slice_get, unwrap_or, refl, sym, ap, ◌∙◌, arith, if◌then◌else◌}
use Rattle.std.specs.List.{list_any}
use Rattle.std.specs.declared.alloc.Global.{Global}
use Rattle.std.specs.declared.vec.Vec.{Vec}
use Rattle.std.proofs.lemmas.List.{drop-append-le, length-append, map-append}
use Rattle.digest.specs.declared.Digest.{Digest}
use Rattle.digest.specs.Naming.{same_digest}
use Rattle.digest.proofs.Same.{same_equal}
use Rattle.input_tree.specs.declared.error.TreeRefusal.{TreeRefusal}
use Rattle.input_tree.specs.declared.error.TreeRefusal.TheVariants.{TooMany}
use Rattle.input_tree.specs.Listing.{Lookup, children, with_children, listed_along}
use Rattle.input_tree.specs.ListingSteps.{AreDue, AreNone, children_of_each}
use Rattle.input_tree.specs.Work.{named_along}

any_last : (test : Digest → Bool) (ks : List Digest) (d : Digest) → list_any test (ks ++ d ∷ []) ≡ true → list_any test ks ≡ false →
    test d ≡ true
any_last test [] d h none = go (test d) refl h where
  go : (b : Bool) → test d ≡ b → (b || false) ≡ true → test d ≡ true
  go true e h = e
  go false e h = cc
any_last test (k ∷ ks) d h none = go (test k) h none (any_last test ks d) where
  go : (b : Bool) → (b || list_any test (ks ++ d ∷ [])) ≡ true → (b || list_any test ks) ≡ false →
      (list_any test (ks ++ d ∷ []) ≡ true → list_any test ks ≡ false → test d ≡ true) → test d ≡ true
  go true h none later = cc
  go false h none later = later h none

-- a digest that has no directory is added to others of the kind
pub none_with : (look : Lookup) (ks new : List Digest) (d : Digest) → AreNone look ks → children look d ≡ None →
    new ≡ (if list_any (same_digest d) ks then ks else ks ++ d ∷ []) → AreNone look new
none_with look ks new d none this is e h = go (list_any (same_digest d) ks)
    (ap (λ (xs : List Digest). list_any (same_digest e) xs) (sym is) ∙ h) where
      among : (b : Bool) → list_any (same_digest e) ks ≡ b → list_any (same_digest e) (ks ++ d ∷ []) ≡ true → children look e ≡ None
      among true there h = none e there
      among false absent h = ap (λ (x : Digest). children look x) (same_equal e d (any_last (same_digest e) ks d h absent)) ∙ this

      go : (b : Bool) → list_any (same_digest e) (if b then ks else ks ++ d ∷ []) ≡ true → children look e ≡ None
      go true h = none e h
      go false h = among (list_any (same_digest e) ks) refl h

-- ---- going along

pub along_full : (most place : ℕ) (look : Lookup) (ds : List Digest) (m : Result (List Digest) TreeRefusal) →
    listed_along (most - place) look ds place ≡ m → place ≡ most → is_some (slice_get ds place) ≡ true → m ≡ Err TooMany
unfolding listed_along
along_full most place look ds m h full there =
    let nothing : most - place ≡ 0 = omega arith in
    sym h ∙ rw (nothing, there) refl

pub along_next : (most place : ℕ) (look : Lookup) (ds : List Digest) (d : Digest) → place < most → slice_get ds place ≡ Some d →
    listed_along (most - place) look ds place ≡ listed_along (most - (place + 1)) look (with_children look ds d) (place + 1)
unfolding listed_along
along_next most place look ds d h there =
    let more : most - place ≡ suc (most - (place + 1)) = omega arith in
    rw (more, there) refl

pub along_end : (n place : ℕ) (look : Lookup) (ds : List Digest) → slice_get ds place ≡ None → listed_along n look ds place ≡ Ok ds
unfolding listed_along
along_end zero place look ds h = rw h refl
along_end (suc n) place look ds h = rw h refl

-- what the next directory names, and what those after it name
pub named_next : (most place : ℕ) (look : Lookup) (ds : List Digest) (d : Digest) (inside : List Digest) → place < most →
    slice_get ds place ≡ Some d → unwrap_or (children look d) [] ≡ inside → length (named_along (most - place) look ds place)
    ≡ length inside + length (named_along (most - (place + 1)) look (with_children look ds d) (place + 1))
unfolding named_along
named_next most place look ds d inside h there is =
    let more : most - place ≡ suc (most - (place + 1)) = omega arith in
    rw (more, there) (length-append (unwrap_or (children look d) []) (named_along (most - (place + 1)) look (with_children look ds d)
    (place + 1)) ∙ ap (λ (xs : List Digest). length xs + length (named_along (most - (place + 1)) look (with_children look ds d) (place + 1)))
    is)

-- ---- what is due

abbrev due_shown : List (Vec Digest Global) → List (List Digest)
due_shown due = map (λ v. v.items) due

-- a directory is listed last, and what is in it is due last
pub due_more : (look : Lookup) (place : ℕ) (ds : List Digest) (due : List (Vec Digest Global)) (d : Digest) (inside : Vec Digest Global) →
    AreDue look place ds due → children look d ≡ Some inside.items → AreDue look place (ds ++ d ∷ []) (due ++ inside ∷ [])
due_more look place ds due d inside h is =
    let within = h.0 in
    let first : unwrap_or (children look d) [] ≡ inside.items = ap (λ (o : Option (List Digest)). unwrap_or o []) is in (
      omega (arith, within, length-append ds (d ∷ [])),
      ap (children_of_each look) (drop-append-le place ds (d ∷ []) within)
          ∙ map-append (λ e. unwrap_or (children look e) []) (drop place ds) (d ∷ [])
          ∙ ap (λ (xs : List (List Digest)). xs ++ unwrap_or (children look d) [] ∷ []) h.1
          ∙ ap (λ (x : List Digest). due_shown due ++ x ∷ []) first
          ∙ sym (map-append (λ (v : Vec Digest Global). v.items) due (inside ∷ [])),
    )

-- the first that is due is that of the place
pub record IsNextDue (look : Lookup) (place : ℕ) (ds : List Digest) (inside : Vec Digest Global)
    (rest : List (Vec Digest Global)) : Type 0 where
  pub directory : Digest
  pub there : slice_get ds place ≡ Some directory
  pub inside_is : unwrap_or (children look directory) [] ≡ inside.items
  pub rest_due : AreDue look (place + 1) ds rest

pub due_next : (look : Lookup) (place : ℕ) (ds : List Digest) (inside : Vec Digest Global) (rest : List (Vec Digest Global)) →
    AreDue look place ds (inside ∷ rest) → IsNextDue look place ds inside rest
due_next look zero [] inside rest h = let no = h.1 in cc
due_next look zero (d ∷ ds) inside rest h =
    let is = h.1 in
    record { directory = d; there = refl; inside_is = cc; rest_due = (omega arith, cc) }
due_next look (suc n) [] inside rest h = let no = h.1 in cc
due_next look (suc n) (d ∷ ds) inside rest h =
    let next = due_next look n ds inside rest (let within = h.0 in omega (arith, within), h.1) in
    let place : suc n + 1 ≡ suc (n + 1) = omega arith in
    record {
      directory = next.directory;
      there = next.there;
      inside_is = next.inside_is;
      rest_due = (let within = next.rest_due.0 in omega (arith, within), rw place next.rest_due.1);
    }

nothing_at : (look : Lookup) (place : ℕ) (ds : List Digest) → AreDue look place ds [] → slice_get ds place ≡ None
nothing_at look zero [] h = refl
nothing_at look zero (d ∷ ds) h = let no = h.1 in cc
nothing_at look (suc n) [] h = refl
nothing_at look (suc n) (d ∷ ds) h = let within = h.0 in nothing_at look n ds (omega (arith, within), h.1)

-- where nothing is due, the list ends
pub none_due : (look : Lookup) (place : ℕ) (ds : List Digest) (due : List (Vec Digest Global)) → length due ≡ 0 → AreDue look place ds due →
    slice_get ds place ≡ None
none_due look place ds [] none h = nothing_at look place ds h
none_due look place ds (v ∷ vs) none h = absurd (omega arith)
