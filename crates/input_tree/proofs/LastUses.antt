-- Uses leave the texts as those of the last occurrences alone do.
use Rattle.std.proofs.Common.{◌≡◌, Bool, true, false, cond, List, [], ◌∷◌, ◌++◌, ◌||◌, Option, Some, None, refl, sym, ap, ◌∙◌, if◌then◌else◌}
use Rattle.std.specs.List.{list_any}
use Rattle.std.specs.Map.{lookup_entry, remove_entry}
use Rattle.digest.specs.declared.Digest.{Digest}
use Rattle.digest.specs.Naming.{same_digest}
use Rattle.digest.proofs.Same.{same_equal, same_refl}
use Rattle.instance_view.specs.Visible.{Blob, visible_after_use}
use Rattle.input_tree.specs.Uses.{AreAmong, last_uses, visible_after_uses}

-- no key passes both tests
abbrev AreApart : (Digest → Bool) → (Digest → Bool) → Type 0
AreApart t u = (k : Digest) → t k ≡ true → u k ≡ false

apart_keys : (d e : Digest) → same_digest d e ≡ false → AreApart (same_digest d) (same_digest e)
apart_keys d e other k h = go (same_digest e k) refl where
  go : (b : Bool) → same_digest e k ≡ b → b ≡ false
  go false is = refl
  go true is = let same : d ≡ e = same_equal d k h ∙ sym (same_equal e k is) in let again : same_digest d e ≡ true =
      rw same (same_refl e) in cc

apart_turned : (t u : Digest → Bool) → AreApart t u → AreApart u t
apart_turned t u apart k h = go (t k) refl where
  go : (b : Bool) → t k ≡ b → b ≡ false
  go false is = refl
  go true is = let other : u k ≡ false = apart k is in cc

-- ---- first entries

found_passes : (t : Digest → Bool) (v : List Blob) (p : Blob) → lookup_entry t v ≡ Some p → t p.0 ≡ true
found_passes t [] p h = cc
found_passes t (x ∷ xs) p h = go (t x.0) refl h (λ later. found_passes t xs p later) where
  go : (b : Bool) → t x.0 ≡ b → cond b (Some x) (lookup_entry t xs) ≡ Some p → (lookup_entry t xs ≡ Some p → t p.0 ≡ true) → t p.0 ≡ true
  go true is h later = let same : x ≡ p = cc in rw (← same) is
  go false is h later = later h

removed_none : (t : Digest → Bool) (v : List Blob) → lookup_entry t v ≡ None → remove_entry t v ≡ v
removed_none t [] h = refl
removed_none t (x ∷ xs) h = go (t x.0) refl h (λ later. removed_none t xs later) where
  go : (b : Bool) → t x.0 ≡ b → cond b (Some x) (lookup_entry t xs) ≡ None → (lookup_entry t xs ≡ None → remove_entry t xs ≡ xs) →
      remove_entry t (x ∷ xs) ≡ x ∷ xs
  go true is h later = cc
  go false is h later = rw is (ap (λ (ys : List Blob). x ∷ ys) (later h))

other_found : (t u : Digest → Bool) (v : List Blob) → AreApart t u → lookup_entry u (remove_entry t v) ≡ lookup_entry u v
other_found t u [] apart = refl
other_found t u (x ∷ xs) apart = go (t x.0) refl (other_found t u xs apart) where
  go : (b : Bool) → t x.0 ≡ b → lookup_entry u (remove_entry t xs) ≡ lookup_entry u xs →
      lookup_entry u (remove_entry t (x ∷ xs)) ≡ lookup_entry u (x ∷ xs)
  go true is ih = let other : u x.0 ≡ false = apart x.0 is in rw (is, other) refl
  go false is ih = rw (is, ih) refl

removed_both : (t u : Digest → Bool) (v : List Blob) → AreApart t u → remove_entry t (remove_entry u v) ≡ remove_entry u (remove_entry t v)
removed_both t u [] apart = refl
removed_both t u (x ∷ xs) apart = go (t x.0) (u x.0) refl refl (removed_both t u xs apart) where
  go : (b c : Bool) → t x.0 ≡ b → u x.0 ≡ c → remove_entry t (remove_entry u xs) ≡ remove_entry u (remove_entry t xs) →
      remove_entry t (remove_entry u (x ∷ xs)) ≡ remove_entry u (remove_entry t (x ∷ xs))
  go true true is at ih = let other : u x.0 ≡ false = apart x.0 is in cc
  go true false is at ih = rw (is, at, is) refl
  go false true is at ih = rw (is, at) refl
  go false false is at ih = rw (is, at, is) (ap (λ (ys : List Blob). x ∷ ys) ih)

-- ---- texts that are alike but for the place of one digest's pair

record AreAlike (d : Digest) (v w : List Blob) : Type 0 where
  found : lookup_entry (same_digest d) v ≡ lookup_entry (same_digest d) w
  others : remove_entry (same_digest d) v ≡ remove_entry (same_digest d) w

alike_used : (d : Digest) (v : List Blob) → AreAlike d (visible_after_use d v) v
alike_used d v = go (lookup_entry (same_digest d) v) refl where
  go : (o : Option Blob) → lookup_entry (same_digest d) v ≡ o → AreAlike d (visible_after_use d v) v
  go None is = record { found = rw is is; others = rw is refl }
  go (Some p) is = let passes = found_passes (same_digest d) v p is in
      record { found = rw (is, passes) refl; others = rw (is, passes) refl }

used_alike : (d : Digest) (v w : List Blob) → AreAlike d v w → visible_after_use d v ≡ visible_after_use d w
used_alike d v w alike = go (lookup_entry (same_digest d) w) refl where
  go : (o : Option Blob) → lookup_entry (same_digest d) w ≡ o → visible_after_use d v ≡ visible_after_use d w
  go None is = let there = alike.found ∙ is in rw (there, is)
      (sym (removed_none (same_digest d) v there) ∙ alike.others ∙ removed_none (same_digest d) w is)
  go (Some p) is = let there = alike.found ∙ is in rw (there, is) (ap (λ (ys : List Blob). p ∷ ys) alike.others)

module _ (d e : Digest) (other : same_digest d e ≡ false) where
  apart : AreApart (same_digest d) (same_digest e)
  apart = apart_keys d e other

  back : AreApart (same_digest e) (same_digest d)
  back = apart_turned (same_digest d) (same_digest e) apart

  used_found : (v : List Blob) → lookup_entry (same_digest d) (visible_after_use e v) ≡ lookup_entry (same_digest d) v
  used_found v = go (lookup_entry (same_digest e) v) refl where
    go : (o : Option Blob) → lookup_entry (same_digest e) v ≡ o →
        lookup_entry (same_digest d) (visible_after_use e v) ≡ lookup_entry (same_digest d) v
    go None is = rw is refl
    go (Some q) is = let not : same_digest d q.0 ≡ false = back q.0 (found_passes (same_digest e) v q is) in
        rw (is, not) (other_found (same_digest e) (same_digest d) v back)

  used_others : (v : List Blob) → remove_entry (same_digest d) (visible_after_use e v)
      ≡ visible_after_use e (remove_entry (same_digest d) v)
  used_others v = go (lookup_entry (same_digest e) v) refl where
    there : lookup_entry (same_digest e) (remove_entry (same_digest d) v) ≡ lookup_entry (same_digest e) v
    there = other_found (same_digest d) (same_digest e) v apart

    go : (o : Option Blob) → lookup_entry (same_digest e) v ≡ o →
        remove_entry (same_digest d) (visible_after_use e v) ≡ visible_after_use e (remove_entry (same_digest d) v)
    go None is = rw (there, is) refl
    go (Some q) is = let not : same_digest d q.0 ≡ false = back q.0 (found_passes (same_digest e) v q is) in
        rw (there, is, not) (ap (λ (ys : List Blob). q ∷ ys) (removed_both (same_digest d) (same_digest e) v apart))

  alike_after : (v w : List Blob) → AreAlike d v w → AreAlike d (visible_after_use e v) (visible_after_use e w)
  alike_after v w alike = record {
    found = used_found v ∙ alike.found ∙ sym (used_found w);
    others = used_others v ∙ ap (visible_after_use e) alike.others ∙ sym (used_others w);
  }

-- ---- uses

-- a digest's place makes no difference where it is used further on
alike_in_the_end : (d : Digest) (ds : List Digest) (v w : List Blob) → AreAlike d v w → list_any (same_digest d) ds ≡ true →
    visible_after_uses ds v ≡ visible_after_uses ds w
alike_in_the_end d [] v w alike h = cc
alike_in_the_end d (e ∷ es) v w alike h = go (same_digest d e) refl h (λ x y like later. alike_in_the_end d es x y like later) where
  go : (b : Bool) → same_digest d e ≡ b → (b || list_any (same_digest d) es) ≡ true →
      ((x y : List Blob) → AreAlike d x y → list_any (same_digest d) es ≡ true → visible_after_uses es x ≡ visible_after_uses es y) →
      visible_after_uses es (visible_after_use e v) ≡ visible_after_uses es (visible_after_use e w)
  go true is h later = let same : d ≡ e = same_equal d e is in rw (← same) (ap (visible_after_uses es) (used_alike d v w alike))
  go false is h later = later (visible_after_use e v) (visible_after_use e w) (alike_after d e is v w alike) h

pub used_again : (d : Digest) (ds : List Digest) (v : List Blob) → list_any (same_digest d) ds ≡ true →
    visible_after_uses (d ∷ ds) v ≡ visible_after_uses ds v
used_again d ds v h = alike_in_the_end d ds (visible_after_use d v) v (alike_used d v) h

pub last_uses_do : (ds : List Digest) (v : List Blob) → visible_after_uses (last_uses ds) v ≡ visible_after_uses ds v
last_uses_do [] v = refl
last_uses_do (d ∷ ds) v = go (list_any (same_digest d) ds) refl (last_uses_do ds) where
  go : (b : Bool) → list_any (same_digest d) ds ≡ b → ((w : List Blob) → visible_after_uses (last_uses ds) w ≡ visible_after_uses ds w) →
      visible_after_uses (if b then last_uses ds else d ∷ last_uses ds) v ≡ visible_after_uses (d ∷ ds) v
  go true h later = later v ∙ sym (used_again d ds v h)
  go false h later = later (visible_after_use d v)

any_behind : (t : Digest → Bool) (bs cs : List Digest) → list_any t cs ≡ true → list_any t (bs ++ cs) ≡ true
any_behind t [] cs h = h
any_behind t (b ∷ bs) cs h = go (t b) (any_behind t bs cs h) where
  go : (c : Bool) → list_any t (bs ++ cs) ≡ true → (c || list_any t (bs ++ cs)) ≡ true
  go true later = refl
  go false later = later

-- digests that stand among those that follow can be left out, wherever they stand
pub covered_uses_do : (before bs cs : List Digest) (v : List Blob) → AreAmong bs cs →
    visible_after_uses (before ++ bs ++ cs) v ≡ visible_after_uses (before ++ cs) v
covered_uses_do (d ∷ ds) bs cs v among = covered_uses_do ds bs cs (visible_after_use d v) among
covered_uses_do [] [] cs v among = refl
covered_uses_do [] (b ∷ bs) cs v among = used_again b (bs ++ cs) v (any_behind (same_digest b) bs cs among.0)
    ∙ covered_uses_do [] bs cs v among.1
