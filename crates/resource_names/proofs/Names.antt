-- Steps of reading a name, and what they found.
use Rattle.std.proofs.Common.{◌≡◌, ℕ, ◌==◌, Bool, true, false, cond, List, [], ◌∷◌, ◌++◌, length, Option, Some, None, Ok, Err, refl, sym, ap, subst, ◌∙◌, append_assoc, arith}
use Rattle.std.specs.Prelude.{codes}
use Rattle.std.specs.List.{AllByRecursion, join_with_byte}
use Rattle.std.proofs.lemmas.Bool.Decides.{nat_tests}
use Rattle.std.proofs.lemmas.List.Splits.{join_with_byte-slice_split}
use Rattle.std.proofs.lemmas.Slice.Eq.{bytes_eq-Decides}
use Rattle.resource_names.specs.declared.name.NameError.{NameError}
use Rattle.resource_names.specs.declared.name.NameError.TheVariants.{Form}
use Rattle.resource_names.specs.Names.{or_fault, instance_of, is_blobs}
use Rattle.resource_names.specs.Segments.{segments_of, joined_segments}
use Rattle.resource_names.specs.Written.{NoneDivides, HasNoSlash, instance_text}
use Rattle.resource_names.proofs.SegmentLemmas.{join-append}
use Rattle.resource_names.proofs.Divisions.{segments-joined_segments, instance_before}

pub was_some : {A : Type 0} (e : NameError) (o : Option A) (x : A) → or_fault e o ≡ Ok x → o ≡ Some x
was_some e (Some y) x h = let same : y ≡ x = cc in ap Some same
was_some e None x h = cc

pub is_blobs-found : (segment : List ℕ) → is_blobs segment ≡ true → segment ≡ codes "blobs"
is_blobs-found segment h = (bytes_eq-Decides segment (codes "blobs")).0 h

pub instance_found : (before : Option (List ℕ)) (name : List ℕ) → instance_of before ≡ Ok name → before ≡ instance_before name
instance_found None name h = let same : [] ≡ name = cc in subst (λ (n : List ℕ). None ≡ instance_before n) same refl
instance_found (Some []) name h = cc
instance_found (Some (byte ∷ text)) name h = go (length (byte ∷ text) == 0) refl h where
  go : (b : Bool) → (length (byte ∷ text) == 0) ≡ b → cond b (Err Form) (Ok (byte ∷ text)) ≡ Ok name →
      Some (byte ∷ text) ≡ instance_before name
  go true e h = cc
  go false e h = let same : byte ∷ text ≡ name = cc in subst (λ (n : List ℕ). Some (byte ∷ text) ≡ instance_before n) same refl

pub instance_read : (name : List ℕ) → instance_of (instance_before name) ≡ Ok name
instance_read [] = refl
instance_read (byte ∷ name) = let filled : (length (byte ∷ name) == 0) ≡ false = grind (arith, nat_tests) in rw filled refl

pub same_segments : (passed : List (List ℕ)) (s t : List ℕ) (after others : List (List ℕ)) → s ≡ t → after ≡ others →
    passed ++ s ∷ after ≡ passed ++ t ∷ others
same_segments passed s t after others e f = rw (e, f) refl

-- a text is its instance with a slash, and its other segments
pub text_divided : (text name : List ℕ) (passed : List (List ℕ)) (segment next : List ℕ) (after : List (List ℕ)) →
    segments_of text ≡ passed ++ segment ∷ next ∷ after
    → instance_before name ≡ joined_segments passed → text ≡ instance_text name ++ (segment ++ 47 ∷ join_with_byte 47 (next ∷ after))
text_divided text [] [] segment next after h i = sym (join_with_byte-slice_split 47 text) ∙ ap (join_with_byte 47) h
text_divided text (byte ∷ name) [] segment next after h i = cc
text_divided text [] (first ∷ passed) segment next after h i = cc
text_divided text (byte ∷ name) (first ∷ passed) segment next after h i =
    let same : join_with_byte 47 (first ∷ passed) ≡ byte ∷ name = cc in
    let rest = segment ++ 47 ∷ join_with_byte 47 (next ∷ after) in
    sym (join_with_byte-slice_split 47 text) ∙ ap (join_with_byte 47) h
    ∙ join-append first passed segment (next ∷ after)
    ∙ ap (λ (front : List ℕ). front ++ 47 ∷ rest) same
    ∙ sym (append_assoc (byte ∷ name) (47 ∷ []) rest)

-- the segments of an instance are those that were passed
pub none_found : (divides : List ℕ → Bool) (name : List ℕ) (passed : List (List ℕ)) → divides [] ≡ false →
    AllByRecursion HasNoSlash passed → NoneDivides divides passed
    → instance_before name ≡ joined_segments passed → NoneDivides divides (segments_of name)
none_found divides [] passed empty clean none i = (empty, tt)
none_found divides (byte ∷ name) [] empty clean none i = cc
none_found divides (byte ∷ name) (first ∷ passed) empty clean none i =
    let same : join_with_byte 47 (first ∷ passed) ≡ byte ∷ name = cc in
    subst (λ (n : List ℕ). NoneDivides divides (segments_of n)) same
    (subst (NoneDivides divides) (sym (segments-joined_segments first passed clean)) none)
