-- Places that paths lead to.
use Rattle.std.proofs.Common.{◌≡◌, ℕ, List, [], ◌∷◌, ◌++◌, Option, true, refl, sym, ap, append_assoc, ◌∙◌}
use Rattle.std.specs.Str.{bytes_eq}
use Rattle.std.proofs.lemmas.Slice.Eq.{bytes_eq-Decides}
use Rattle.run_folders.specs.Entering.{LeadsThrough}
use Rattle.run_folders.specs.Segments.{segments_of}
use Rattle.system.specs.Places.{OnTheWay, entry, place_below}

below-append : (place : Option (List (List ℕ))) (names more : List (List ℕ))
    → place_below place (names ++ more) ≡ place_below (place_below place names) more
below-append place [] more = refl
below-append place (name ∷ names) more = below-append (entry name place) names more

way-append : (may : Option (List (List ℕ)) → Type 0) (place : Option (List (List ℕ))) (names more : List (List ℕ))
    → OnTheWay may place (names ++ more) → OnTheWay may (place_below place names) more
way-append may place [] more h = h
way-append may place (name ∷ names) more h = way-append may (entry name place) names more h.1

-- a path leads through each place that a front of it leads to
pub leads : (from here : Option (List (List ℕ))) (path front left : List (List ℕ))
    → here ≡ place_below from front → path ≡ front ++ left → LeadsThrough from here path left
leads from here path front left at whole = record { front = front; at = at; whole = whole }

pub begins : (from here : Option (List (List ℕ))) (path left : List (List ℕ))
    → here ≡ from → left ≡ path → LeadsThrough from here path left
begins from here path left at whole = record { front = []; at = at; whole = sym whole }

-- what is left of a path leads from where its front led to where it leads
pub arrives : (from here : Option (List (List ℕ))) (path left : List (List ℕ))
    → LeadsThrough from here path left → place_below here left ≡ place_below from path
arrives from here path left through =
    rw (through.at, through.whole) (sym (below-append from through.front left))

pub goes_on : (may : Option (List (List ℕ)) → Type 0) (from here : Option (List (List ℕ))) (path left : List (List ℕ))
    → LeadsThrough from here path left → OnTheWay may from path → OnTheWay may here left
goes_on may from here path left through h =
    rw through.at (way-append may from through.front left (rw through.whole at h))

-- one more name was passed of both
pub passes : (path above : List (List ℕ)) (first rest one other : List ℕ) (passed left names : List (List ℕ))
    → path ≡ names ++ segments_of rest → above ≡ names ++ segments_of first
    → segments_of first ≡ one ∷ passed → segments_of rest ≡ other ∷ left → bytes_eq one other ≡ true
    → (more : List (List ℕ)) × (path ≡ more ++ left) × (above ≡ more ++ passed)
passes path above first rest one other passed left names p a f r same =
    let e : one ≡ other = (bytes_eq-Decides one other).0 same in (
      names ++ one ∷ [],
      p ∙ ap (λ s. names ++ s) (r ∙ ap (λ n. n ∷ left) (sym e)) ∙ sym (append_assoc names (one ∷ []) left),
      a ∙ ap (λ s. names ++ s) f ∙ sym (append_assoc names (one ∷ []) passed),
    )
