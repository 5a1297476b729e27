-- Segments taken off the front of a text, one after another.
use Rattle.std.proofs.Common.{◌≡◌, ℕ, ◌+◌, ◌-◌, ◌<◌, ◌≤◌, ◌==◌, Bool, List, [], ◌∷◌, ◌++◌, length, take, get_or, Some, None, refl, sym, ap, ◌∙◌, append_assoc, length-append, arith}
use Rattle.std.proofs.lemmas.List.Splits.{slice_split_first, slice_split_none, length-slice_split, join_with_byte-slice_split}
use Rattle.std.proofs.lemmas.List.Sums.{fails_before_first}
use Rattle.std.specs.List.{position_or_len, before_first, after_first, join_with_byte, count_by}
use Rattle.resource_names.specs.Segments.{segments_of, joined_segments}

abbrev pub is_slash : ℕ → Bool
is_slash byte = byte == 47

pub segments_of-cut : (text segment rest : List ℕ) → position_or_len is_slash text < length text
    → segment ≡ before_first is_slash text → rest ≡ after_first is_slash text → segments_of text ≡ segment ∷ segments_of rest
segments_of-cut text segment rest within here later = rw (here, later) (slice_split_first is_slash text 0 within)

pub segments_of-last : (text : List ℕ) → position_or_len is_slash text ≡ length text → segments_of text ≡ text ∷ []
segments_of-last text none = slice_split_none is_slash text (λ k d lt. fails_before_first is_slash text k d (omega arith))

-- there is a first segment
first_of : (segments : List (List ℕ)) (n : ℕ) → length segments ≡ n + 1 →
    (first : List ℕ) × (more : List (List ℕ)) × (segments ≡ first ∷ more)
first_of [] n h = absurd (omega arith)
first_of (first ∷ more) n h = (first, more, refl)

pub join-append : (first : List ℕ) (firsts : List (List ℕ)) (next : List ℕ) (more : List (List ℕ))
    → join_with_byte 47 ((first ∷ firsts) ++ next ∷ more) ≡ join_with_byte 47 (first ∷ firsts) ++ 47 ∷ join_with_byte 47 (next ∷ more)
join-append first [] next more = refl
join-append first (second ∷ firsts) next more =
    ap (λ later. first ++ 47 ∷ later) (join-append second firsts next more)
    ∙ sym (append_assoc first (47 ∷ join_with_byte 47 (second ∷ firsts)) (47 ∷ join_with_byte 47 (next ∷ more)))

-- what follows no segment is the whole text
pub rest-alone : (text rest : List ℕ) → segments_of text ≡ [] ++ segments_of rest → text ≡ rest
rest-alone text rest h = sym (join_with_byte-slice_split 47 text) ∙ ap (join_with_byte 47) h ∙ join_with_byte-slice_split 47 rest

-- what follows segments stands after a slash
pub rest-after : (text rest first : List ℕ) (firsts : List (List ℕ)) → segments_of text ≡ (first ∷ firsts) ++ segments_of rest
    → text ≡ join_with_byte 47 (first ∷ firsts) ++ 47 ∷ rest
rest-after text rest first firsts h =
    let next = first_of (segments_of rest) (count_by is_slash rest) (length-slice_split is_slash rest) in
    let whole : join_with_byte 47 (next.0 ∷ next.1) ≡ rest = ap (join_with_byte 47) (sym next.2) ∙ join_with_byte-slice_split 47 rest in
    sym (join_with_byte-slice_split 47 text) ∙ ap (join_with_byte 47) h
    ∙ ap (λ segments. join_with_byte 47 ((first ∷ firsts) ++ segments)) next.2 ∙ join-append first firsts next.0 next.1
    ∙ ap (λ later. join_with_byte 47 (first ∷ firsts) ++ 47 ∷ later) whole

pub rest-short : (text rest : List ℕ) (passed : List (List ℕ)) → segments_of text ≡ passed ++ segments_of rest → length rest ≤ length text
rest-short text rest [] h = let e = ap length (rest-alone text rest h) in omega arith
rest-short text rest (first ∷ firsts) h =
    let e = ap length (rest-after text rest first firsts h) in
    let n = length-append (join_with_byte 47 (first ∷ firsts)) (47 ∷ rest) in
    omega arith

-- where nothing stands before what is left, no segment was passed
pub joined_segments-none : (text rest : List ℕ) (passed : List (List ℕ)) → segments_of text ≡ passed ++ segments_of rest
    → length text - length rest ≡ 0 → joined_segments passed ≡ None
joined_segments-none text rest [] h same = refl
joined_segments-none text rest (first ∷ firsts) h same =
    let e = ap length (rest-after text rest first firsts h) in
    let n = length-append (join_with_byte 47 (first ∷ firsts)) (47 ∷ rest) in
    absurd (omega arith)

take-front : (front rest : List ℕ) → take (length front) (front ++ rest) ≡ front
take-front [] rest = refl
take-front (byte ∷ front) rest = ap (λ later. byte ∷ later) (take-front front rest)

get-front : (front rest : List ℕ) (byte : ℕ) → get_or (front ++ byte ∷ rest) (length front) 0 ≡ byte
get-front [] rest byte = refl
get-front (first ∷ front) rest byte = get-front front rest byte

-- a text with a slash before what is left of it: what stands before that slash
record HasFront (text front rest : List ℕ) (start : ℕ) : Type 0 where
  whole : text ≡ front ++ 47 ∷ rest
  place : start - 1 ≡ length front
  within : start - 1 ≤ length text

has_front : (text rest first : List ℕ) (firsts : List (List ℕ)) (start : ℕ) → segments_of text ≡ (first ∷ firsts) ++ segments_of rest
    → start ≡ length text - length rest → HasFront text (join_with_byte 47 (first ∷ firsts)) rest start
has_front text rest first firsts start h is =
    let front = join_with_byte 47 (first ∷ firsts) in
    let whole : text ≡ front ++ 47 ∷ rest = rest-after text rest first firsts h in
    let e = ap length whole in
    let n = length-append front (47 ∷ rest) in
    record { whole = whole; place = omega arith; within = omega arith }

some_passed : (text rest : List ℕ) (start : ℕ) → segments_of text ≡ segments_of rest → start ≡ length text - length rest → (start ≡ 0 → ⊥) →
    ⊥
some_passed text rest start h is some = let e = ap length (rest-alone text rest h) in some (omega arith)

-- otherwise the segments passed, joined, are what stands before the last slash before it
pub joined_segments-some : (text rest : List ℕ) (passed : List (List ℕ)) (start : ℕ) → segments_of text ≡ passed ++ segments_of rest
    → start ≡ length text - length rest → (start ≡ 0 → ⊥) → joined_segments passed ≡ Some (take (start - 1) text)
joined_segments-some text rest [] start h is some = absurd (some_passed text rest start h is some)
joined_segments-some text rest (first ∷ firsts) start h is some =
    let f = has_front text rest first firsts start h is in
    ap Some (sym (rw (f.place, f.whole) (take-front (join_with_byte 47 (first ∷ firsts)) (47 ∷ rest))))

pub slash-before : (text rest : List ℕ) (passed : List (List ℕ)) (start : ℕ) → segments_of text ≡ passed ++ segments_of rest
    → start ≡ length text - length rest → (start ≡ 0 → ⊥) → (start - 1 ≤ length text) × (get_or text (start - 1) 0 ≡ 47)
slash-before text rest [] start h is some = absurd (some_passed text rest start h is some)
slash-before text rest (first ∷ firsts) start h is some =
    let f = has_front text rest first firsts start h is in
    (f.within, rw (f.place, f.whole) (get-front (join_with_byte 47 (first ∷ firsts)) rest 47))
