-- A text and the segments at which it is divided.
use Rattle.std.proofs.Common.{◌≡◌, ℕ, ◌<◌, Bool, true, false, cond, List, [], ◌∷◌, ◌++◌, length, Option, Some, None, refl, sym, ap, subst, ◌∙◌, append_assoc, arith}
use Rattle.std.proofs.lemmas.List.{append-nil}
use Rattle.std.proofs.lemmas.List.Splits.{slice_split-cons_yes, slice_split-cons_no, length-slice_split, join_with_byte-slice_split}
use Rattle.std.specs.List.{AllByRecursion, join_with_byte, onto_first}
use Rattle.resource_names.specs.Segments.{segments_of, joined_segments, DivisionValue, division_after}
use Rattle.resource_names.specs.Written.{NoneDivides, HasNoSlash, instance_text}
use Rattle.resource_names.proofs.SegmentLemmas.{is_slash}

-- a text without a slash is its only segment
pub segments-word : (word : List ℕ) → HasNoSlash word → segments_of word ≡ word ∷ []
segments-word [] h = refl
segments-word (byte ∷ word) h = slice_split-cons_no is_slash byte word h.0 ∙ ap (onto_first byte) (segments-word word h.1)

some-segments : (text : List ℕ) → 0 < length (segments_of text)
some-segments text = omega (arith, length-slice_split is_slash text)

onto-append : (byte : ℕ) (segments more : List (List ℕ)) → 0 < length segments →
    onto_first byte (segments ++ more) ≡ onto_first byte segments ++ more
onto-append byte [] more some = absurd (omega arith)
onto-append byte (segment ∷ segments) more some = refl

-- a slash parts the segments before it from those after it
pub segments-append : (front rest : List ℕ) → segments_of (front ++ 47 ∷ rest) ≡ segments_of front ++ segments_of rest
segments-append [] rest = slice_split-cons_yes is_slash 47 rest refl
segments-append (byte ∷ front) rest = go (is_slash byte) refl (segments-append front rest) where
  go : (b : Bool) → is_slash byte ≡ b → segments_of (front ++ 47 ∷ rest) ≡ segments_of front ++ segments_of rest
      → segments_of ((byte ∷ front) ++ 47 ∷ rest) ≡ segments_of (byte ∷ front) ++ segments_of rest
  go true e later =
      slice_split-cons_yes is_slash byte (front ++ 47 ∷ rest) e ∙ ap (λ segments. [] ∷ segments) later
      ∙ sym (ap (λ segments. segments ++ segments_of rest) (slice_split-cons_yes is_slash byte front e))
  go false e later =
      slice_split-cons_no is_slash byte (front ++ 47 ∷ rest) e ∙ ap (onto_first byte) later
      ∙ onto-append byte (segments_of front) (segments_of rest) (some-segments front)
      ∙ sym (ap (λ segments. segments ++ segments_of rest) (slice_split-cons_no is_slash byte front e))

-- no segment has a slash
clean-onto : (byte : ℕ) (segments : List (List ℕ)) → is_slash byte ≡ false → AllByRecursion HasNoSlash segments →
    AllByRecursion HasNoSlash (onto_first byte segments)
clean-onto byte [] e h = ((e, tt), tt)
clean-onto byte (segment ∷ segments) e h = ((e, h.0), h.1)

pub segments-clean : (text : List ℕ) → AllByRecursion HasNoSlash (segments_of text)
segments-clean [] = (tt, tt)
segments-clean (byte ∷ text) = go (is_slash byte) refl (segments-clean text) where
  go : (b : Bool) → is_slash byte ≡ b → AllByRecursion HasNoSlash (segments_of text) → AllByRecursion HasNoSlash (segments_of (byte ∷ text))
  go true e later = subst (AllByRecursion HasNoSlash) (sym (slice_split-cons_yes is_slash byte text e)) (tt, later)
  go false e later = subst (AllByRecursion HasNoSlash) (sym (slice_split-cons_no is_slash byte text e))
      (clean-onto byte (segments_of text) e later)

-- segments that are joined are found again
pub segments-joined_segments : (first : List ℕ) (more : List (List ℕ)) → AllByRecursion HasNoSlash (first ∷ more) →
    segments_of (join_with_byte 47 (first ∷ more)) ≡ first ∷ more
segments-joined_segments first [] clean = segments-word first clean.0
segments-joined_segments first (next ∷ more) clean =
    segments-append first (join_with_byte 47 (next ∷ more))
    ∙ ap (λ segments. segments ++ segments_of (join_with_byte 47 (next ∷ more))) (segments-word first clean.0)
    ∙ ap (λ segments. first ∷ segments) (segments-joined_segments next more clean.1)

pub clean-front : (front rest : List (List ℕ)) → AllByRecursion HasNoSlash (front ++ rest) →
    AllByRecursion HasNoSlash front × AllByRecursion HasNoSlash rest
clean-front [] rest h = (tt, h)
clean-front (segment ∷ front) rest h = let later = clean-front front rest h.1 in ((h.0, later.0), later.1)

-- where a test first passes
pub record DividesAt (divides : List ℕ → Bool) (before segments : List (List ℕ)) (d : DivisionValue) : Type 0 where
  pub passed : List (List ℕ)
  pub segments_are : segments ≡ passed ++ d.segment ∷ d.after
  pub none : NoneDivides divides passed
  pub before_is : d.before ≡ joined_segments (before ++ passed)
  pub test : divides d.segment ≡ true

pub divided-found : (divides : List ℕ → Bool) (before segments : List (List ℕ)) (d : DivisionValue) →
    division_after before divides segments ≡ Some d → DividesAt divides before segments d
divided-found divides before [] d e = cc
divided-found divides before (segment ∷ segments) d e =
    go (divides segment) refl e (λ h. divided-found divides (before ++ segment ∷ []) segments d h) where
      go : (b : Bool) → divides segment ≡ b
          → cond b (Some (record { before = joined_segments before; segment = segment; after = segments }))
          (division_after (before ++ segment ∷ []) divides segments) ≡ Some d
          → (division_after (before ++ segment ∷ []) divides segments ≡ Some d → DividesAt divides (before ++ segment ∷ []) segments d)
          → DividesAt divides before (segment ∷ segments) d
      go true t h later =
          let same : record { before = joined_segments before; segment = segment; after = segments } ≡ d = cc in
          record {
            passed = [];
            segments_are = rw (← same) refl;
            none = tt;
            before_is = rw (← same) (ap joined_segments (sym (append-nil before)));
            test = rw (← same) t;
          }
      go false t h later =
          let r = later h in
          record {
            passed = segment ∷ r.passed;
            segments_are = ap (λ rest. segment ∷ rest) r.segments_are;
            none = (t, r.none);
            before_is = r.before_is ∙ ap joined_segments (append_assoc before (segment ∷ []) r.passed);
            test = r.test;
          }

pub divided-at : (divides : List ℕ → Bool) (before passed : List (List ℕ)) (segment : List ℕ) (after : List (List ℕ)) →
    NoneDivides divides passed → divides segment ≡ true
    → division_after before divides (passed ++ segment ∷ after)
    ≡ Some (record { before = joined_segments (before ++ passed); segment = segment; after = after })
divided-at divides before [] segment after none test =
    rw test (ap (λ front. Some (record { before = joined_segments front; segment = segment; after = after })) (sym (append-nil before)))
divided-at divides before (first ∷ passed) segment after none test =
    let later = divided-at divides (before ++ first ∷ []) passed segment after none.1 test in
    rw (none.0) (later ∙ ap (λ front. Some (record { before = joined_segments front; segment = segment; after = after }))
    (append_assoc before (first ∷ []) passed))

-- the segments of an instance's name, none where it is empty
abbrev pub instance_segments : List ℕ → List (List ℕ)
instance_segments [] = []
instance_segments (byte ∷ name) = segments_of (byte ∷ name)

pub segments-instance : (name rest : List ℕ) → segments_of (instance_text name ++ rest) ≡ instance_segments name ++ segments_of rest
segments-instance [] rest = refl
segments-instance (byte ∷ name) rest = ap segments_of (append_assoc (byte ∷ name) (47 ∷ []) rest) ∙ segments-append (byte ∷ name) rest

pub none-instance : (divides : List ℕ → Bool) (name : List ℕ) → NoneDivides divides (segments_of name) →
    NoneDivides divides (instance_segments name)
none-instance divides [] h = tt
none-instance divides (byte ∷ name) h = h

-- what stands before the slash of an instance's name
abbrev pub instance_before : List ℕ → Option (List ℕ)
instance_before [] = None
instance_before (byte ∷ name) = Some (byte ∷ name)

joined_segments-some : (segments : List (List ℕ)) → 0 < length segments → joined_segments segments ≡ Some (join_with_byte 47 segments)
joined_segments-some [] h = absurd (omega arith)
joined_segments-some (segment ∷ segments) h = refl

pub joined_segments-instance : (name : List ℕ) → joined_segments (instance_segments name) ≡ instance_before name
joined_segments-instance [] = refl
joined_segments-instance (byte ∷ name) = joined_segments-some (segments_of (byte ∷ name)) (some-segments (byte ∷ name))
    ∙ ap Some (join_with_byte-slice_split 47 (byte ∷ name))
