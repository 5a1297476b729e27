-- What one call of a reader says of the split of the text that it stands for.
use Rattle.std.proofs.Common.{◌≡◌, ℕ, ◌+◌, ◌<◌, ◌≤◌, ◌⊎◌, inl, inr, Bool, true, false, cond, nat_eq, List, [], ◌∷◌, ◌++◌, length, drop, Option, Some, None, Result, Ok, Err, IfOk, IfErr, refl, sym, ap, subst, ◌∙◌, length-drop, IsTrue, arith}
use Rattle.std.proofs.lemmas.List.{append-nil}
use Rattle.std.specs.List.{starts_with}
use Rattle.byteorder.specs.Endian.{big_number}
use Rattle.http2_frames.specs.Items.{behind, rest_only, fault_only}
use Rattle.http2_frames.proofs.WireItemsDivisions.{divide_partial, divide_fault, divide_whole_more, divide_fault_more}
use Rattle.http2_frames.proofs.Givings.{given_more, given_all, given_fault}
use Rattle.http2_frames.specs.declared.error.FrameError.{FrameError}
use Rattle.http2_frames.specs.declared.error.FrameError.TheVariants.{Preface}
use Rattle.http2_frames.specs.declared.frame.RawFrame.{RawFrame}
use Rattle.http2_frames.specs.Wire.{Split}
use Rattle.http2_frames.specs.Reading.{whole_at, frame_at, frame_format, split_frames, split}
use Rattle.http2_frames.specs.Reader.{FrameReaderValue, unread_of, text_left, split_left, with_more_bytes, IsReader, HasFrame, front_of}
use Rattle.http2_frames.specs.Step.{IsJoined, first_of, frames_from, after_preface, is_whole, after_look, look_behind_preface, look, behind_front, WaitsShortly}
use Rattle.http2_frames.proofs.Fronts.{partial_is, steady, joined_first}
use Rattle.http2_frames.proofs.Splits.{short, past_more, off_more}

abbrev Reader : Type 0
Reader = Result FrameReaderValue FrameError

-- what is left when more bytes follow
abbrev left : Reader → List ℕ → Split
left v more = split_left (with_more_bytes v more)

-- the frames in an answer
abbrev frames_in : Result (Option RawFrame) FrameError → List RawFrame
frames_in (Ok None) = []
frames_in (Ok (Some f)) = f ∷ []
frames_in (Err e) = []

-- the frame at the front is looked for and passed at once
abbrev step_by_front : Result (Option ℕ) FrameError → List ℕ → Result (Option RawFrame) FrameError × Reader
step_by_front (Ok None) bytes = (Ok None, frames_from bytes)
step_by_front (Ok (Some n)) bytes = (Ok (Some (frame_at bytes)), frames_from (drop (9 + n) bytes))
step_by_front (Err e) bytes = (Err e, Err e)

-- unless the preface has to come still
abbrev step_behind_preface : List ℕ → List ℕ → Result (Option RawFrame) FrameError × Reader
step_behind_preface [] bytes = step_by_front (whole_at bytes) bytes
step_behind_preface (p ∷ ps) bytes = (Ok None, Ok (record { preface = p ∷ ps; text = bytes }))

abbrev step : Reader → Result (Option RawFrame) FrameError × Reader
step (Ok u) = step_behind_preface u.preface u.text
step (Err e) = (Err e, Err e)

abbrev chosen_preface : Bool → Bool → FrameReaderValue → Reader
chosen_preface a b u = cond a (frames_from (drop (length u.preface) u.text)) (cond b (Ok u) (Err Preface))

past_follows : (v : Reader) (more : List ℕ) → split_left (with_more_bytes v more) ≡ split_left (with_more_bytes (after_preface v) more)
past_follows (Err e) more = refl
past_follows (Ok u) more = go (starts_with nat_eq u.text u.preface) (starts_with nat_eq u.preface u.text) refl refl where
  go : (a b : Bool) → starts_with nat_eq u.text u.preface ≡ a → starts_with nat_eq u.preface u.text ≡ b →
      split u.preface (u.text ++ more) ≡ split_left (with_more_bytes (chosen_preface a b u) more)
  go true b e d = past_more u.preface u.text more e
  go false true e d = refl
  go false false e d = off_more u.preface u.text more e d

-- behind a preface that is read, or in the middle of one
abbrev IsPast : Reader → Type 0
IsPast (Ok u) = (u.preface ≡ []) ⊎ (split u.preface u.text ≡ rest_only u.text)
IsPast (Err e) = Unit {0}

past_is : (v : Reader) → IsPast (after_preface v)
past_is (Err e) = tt
past_is (Ok u) = go (starts_with nat_eq u.text u.preface) (starts_with nat_eq u.preface u.text) refl refl where
  go : (a b : Bool) → starts_with nat_eq u.text u.preface ≡ a → starts_with nat_eq u.preface u.text ≡ b → IsPast (chosen_preface a b u)
  go true b e d = inl refl
  go false true e d = inr (short u.preface u.text e d)
  go false false e d = tt

taken_follows : (v : Reader) (more : List ℕ) →
    split_left (with_more_bytes v more) ≡ behind (frames_in (step v).0) (split_left (with_more_bytes (step v).1 more))
taken_follows (Err e) more = refl
taken_follows (Ok u) more = at_preface u.preface where
  at_preface : (p : List ℕ) → split p (u.text ++ more)
      ≡ behind (frames_in (step_behind_preface p u.text).0) (split_left (with_more_bytes (step_behind_preface p u.text).1 more))
  at_preface (p ∷ ps) = refl
  at_preface [] = at_front (whole_at u.text) refl where
    at_front : (w : Result (Option ℕ) FrameError) → whole_at u.text ≡ w →
        split_frames (u.text ++ more) ≡ behind (frames_in (step_by_front w u.text).0)
        (split_left (with_more_bytes (step_by_front w u.text).1 more))
    at_front (Ok None) e = refl
    at_front (Ok (Some n)) e = divide_whole_more frame_format steady u.text more n e
    at_front (Err d) e = divide_fault_more frame_format steady u.text more d e

-- what the answer says of the split where no frame is taken
abbrev SaysEnd : Reader → Result (Option RawFrame) FrameError → Reader → Type 0
SaysEnd old (Ok None) new = split_left old ≡ rest_only (text_left new)
SaysEnd old (Ok (Some f)) new = Unit {0}
SaysEnd old (Err e) new = (split_left old ≡ fault_only e) × (new ≡ Err e)

taken_ends : (v : Reader) → IsPast v → SaysEnd v (step v).0 (step v).1
taken_ends (Err e) h = (refl, refl)
taken_ends (Ok u) h = at_preface u.preface h where
  at_preface : (p : List ℕ) → IsPast (Ok (record { preface = p; text = u.text })) →
      SaysEnd (Ok (record { preface = p; text = u.text })) (step_behind_preface p u.text).0 (step_behind_preface p u.text).1
  at_preface (p ∷ ps) (inl e) = absurd cc
  at_preface (p ∷ ps) (inr e) = e
  at_preface [] h = at_front (whole_at u.text) refl where
    at_front : (w : Result (Option ℕ) FrameError) → whole_at u.text ≡ w →
        SaysEnd (Ok (record { preface = []; text = u.text })) (step_by_front w u.text).0 (step_by_front w u.text).1
    at_front (Ok None) e = divide_partial frame_format steady u.text e
    at_front (Ok (Some n)) e = tt
    at_front (Err d) e = (divide_fault frame_format steady u.text d e, refl)

taken_as : (old : Reader) (r : Result (Option RawFrame) FrameError) (new : Reader) → step old ≡ (r, new) → (more : List ℕ) →
    split_left (with_more_bytes old more) ≡ behind (frames_in r) (split_left (with_more_bytes new more))
taken_as old r new e more = taken_follows old more
    ∙ ap (λ (x : Result (Option RawFrame) FrameError × Reader). behind (frames_in x.0) (split_left (with_more_bytes x.1 more))) e

stands_after : (old : Reader) (r : Result (Option RawFrame) FrameError) (new : Reader) → step (after_preface old) ≡ (r, new)
    → (p t : List ℕ) (gs : List RawFrame) → IsReader p old t gs → IsReader p new t (gs ++ frames_in r)
stands_after old r new h p t gs stands = given_more (split p) (left old) t gs stands (left new) (frames_in r)
    (λ more. past_follows old more ∙ taken_as (after_preface old) r new h more)

followed_by_none : (v : Reader) → with_more_bytes v [] ≡ v
followed_by_none (Ok u) = ap (λ (x : List ℕ). Ok (record { preface = u.preface; text = x })) (append-nil u.text)
followed_by_none (Err e) = refl

-- what is left now, where nothing follows
left_now : (v : Reader) → left v [] ≡ split_left (after_preface v)
left_now v = past_follows v [] ∙ ap split_left (followed_by_none (after_preface v))

says_end : (old : Reader) (r : Result (Option RawFrame) FrameError) (new : Reader) → step (after_preface old) ≡ (r, new) →
    SaysEnd (after_preface old) r new
says_end old r new h = subst (λ (x : Result (Option RawFrame) FrameError × Reader). SaysEnd (after_preface old) x.0 x.1) h
    (taken_ends (after_preface old) (past_is old))

abbrev IsAllGiven : Reader → Reader → Type 0
IsAllGiven old new = (p t : List ℕ) (gs : List RawFrame) → IsReader p old t gs → split p t ≡ record { items = gs; end = Ok (text_left new) }

abbrev IsFaultOf : Reader → FrameError → Type 0
IsFaultOf old e = (p t : List ℕ) (gs : List RawFrame) → IsReader p old t gs → split p t ≡ record { items = gs; end = Err e }

none_after : (old new : Reader) → step (after_preface old) ≡ (Ok None, new) → IsAllGiven old new
none_after old new h p t gs stands = given_all (split p) (left old) t gs stands (text_left new)
    (left_now old ∙ says_end old (Ok None) new h)

fault_as : (old : Reader) (e : FrameError) (new : Reader) → step (after_preface old) ≡ (Err e, new) → IsFaultOf old e
fault_as old e new h p t gs stands = given_fault (split p) (left old) t gs stands e (left_now old ∙ (says_end old (Err e) new h).0)

-- what a look at the front says, as a step
abbrev Found : Reader → Result Bool FrameError → Type 0
Found v (Ok true) = HasFrame v
Found v (Ok false) = step v ≡ (Ok None, v)
Found v (Err e) = step v ≡ (Err e, Err e)

found : (v : Reader) → Found v (look v)
found (Err e) = refl
found (Ok u) = at_preface u.preface refl where
  at_preface : (p : List ℕ) → u.preface ≡ p → Found (Ok u) (look_behind_preface p u.text)
  at_preface (p ∷ ps) h = ap (λ (q : List ℕ). step_behind_preface q u.text) h
      ∙ ap (λ (q : List ℕ). (Ok None, Ok (record { preface = q; text = u.text }))) (sym h)
  at_preface [] h = at_front (whole_at u.text) refl where
    behind : step (Ok u) ≡ step_by_front (whole_at u.text) u.text
    behind = ap (λ (q : List ℕ). step_behind_preface q u.text) h

    at_front : (w : Result (Option ℕ) FrameError) → whole_at u.text ≡ w → Found (Ok u) (is_whole w)
    at_front (Ok None) e = behind ∙ ap (λ (x : Result (Option ℕ) FrameError). step_by_front x u.text) e
        ∙ ap (λ (q : List ℕ). (Ok None, Ok (record { preface = q; text = u.text }))) (sym h)
    at_front (Ok (Some n)) e = (h, grind arith, grind arith)
    at_front (Err d) e = behind ∙ ap (λ (x : Result (Option ℕ) FrameError). step_by_front x u.text) e

found_by : (v : Reader) (r : Result Bool FrameError) → r ≡ look v → Found v r
found_by v r is = subst (λ (x : Result Bool FrameError). Found v x) (sym is) (found v)

-- ---- the clauses of `find`

follows_preface : (old : Reader) (p t : List ℕ) (gs : List RawFrame) → IsReader p old t gs → IsReader p (after_preface old) t gs
follows_preface old p t gs stands more = stands more ∙ ap (behind gs) (past_follows old more)

abbrev StandsAlike : Reader → Reader → Type 0
StandsAlike old new = (p t : List ℕ) (gs : List RawFrame) → IsReader p old t gs → IsReader p new t gs

none_more : (old new : Reader) (r : Result (Option RawFrame) FrameError) → frames_in r ≡ [] → step (after_preface old) ≡ (r, new) →
    StandsAlike old new
none_more old new r none h p t gs stands =
    subst (λ (fs : List RawFrame). IsReader p new t fs) (ap (λ (fs : List RawFrame). gs ++ fs) none ∙ append-nil gs)
    (stands_after old r new h p t gs stands)

pub stands_found : (old : Reader) (r : Result Bool FrameError) (new : Reader) → r ≡ look (after_preface old) →
    new ≡ after_look r (after_preface old) → StandsAlike old new
stands_found old (Ok whole) new is after p t gs stands =
    subst (λ (v : Reader). IsReader p v t gs) (sym after) (follows_preface old p t gs stands)
stands_found old (Err e) new is after p t gs stands =
    subst (λ (v : Reader). IsReader p v t gs) (sym after)
    (none_more old (Err e) (Err e) refl (found_by (after_preface old) (Err e) is) p t gs stands)

pub whole_found : (old : Reader) (r : Result Bool FrameError) (new : Reader) → r ≡ look (after_preface old) →
    new ≡ after_look r (after_preface old) → IfOk r (λ whole. IsTrue whole → HasFrame new)
whole_found old (Ok true) new is after = λ t. subst HasFrame (sym after) (found_by (after_preface old) (Ok true) is)
whole_found old (Ok false) new is after = λ t. absurd cc
whole_found old (Err e) new is after = tt

shorter_past : (old : Reader) → length (text_left (after_preface old)) ≤ length (text_left old)
shorter_past (Err e) = omega arith
shorter_past (Ok u) = go (starts_with nat_eq u.text u.preface) (starts_with nat_eq u.preface u.text) where
  go : (a b : Bool) → length (text_left (chosen_preface a b u)) ≤ length u.text
  go true b = omega (arith, length-drop (length u.preface) u.text)
  go false true = omega arith
  go false false = omega arith

pub no_longer : (old : Reader) (r : Result Bool FrameError) (new : Reader) → new ≡ after_look r (after_preface old) →
    length (text_left new) ≤ length (text_left old)
no_longer old (Ok whole) new after = omega (arith, shorter_past old, ap (λ (v : Reader). length (text_left v)) after)
no_longer old (Err e) new after = omega (arith, ap (λ (v : Reader). length (text_left v)) after)

pub all_given : (old : Reader) (r : Result Bool FrameError) (new : Reader) → r ≡ look (after_preface old) →
    new ≡ after_look r (after_preface old) → IfOk r (λ whole. whole ≡ false → IsAllGiven old new)
all_given old (Ok true) new is after = λ no. absurd cc
all_given old (Ok false) new is after = λ no. subst (IsAllGiven old) (sym after)
    (none_after old (after_preface old) (found_by (after_preface old) (Ok false) is))
all_given old (Err e) new is after = tt

pub fault_of : (old : Reader) (r : Result Bool FrameError) → r ≡ look (after_preface old) → IfErr r (λ e. IsFaultOf old e)
fault_of old (Ok whole) is = tt
fault_of old (Err e) is = fault_as old e (Err e) (found_by (after_preface old) (Err e) is)

kept_at : (v : Reader) → WaitsShortly v → (step v).0 ≡ Ok None → length (text_left (step v).1) < 9 + 16384
kept_at (Err e) h n = omega arith
kept_at (Ok u) h n = at_preface u.preface h n where
  at_preface : (p : List ℕ) → WaitsShortly (Ok (record { preface = p; text = u.text })) → (step_behind_preface p u.text).0 ≡ Ok None →
      length (text_left (step_behind_preface p u.text).1) < 9 + 16384
  at_preface (p ∷ ps) h n = let short : length u.text ≤ 24 = h (λ e. cc) in omega arith
  at_preface [] h n = at_front (whole_at u.text) refl n where
    at_front : (w : Result (Option ℕ) FrameError) → whole_at u.text ≡ w → (step_by_front w u.text).0 ≡ Ok None →
        length (text_left (step_by_front w u.text).1) < 9 + 16384
    at_front (Ok None) e n = elim (partial_is u.text e) [ inl less ↦ omega arith | inr h ↦ (let a = h.0 in let b = h.1 in omega arith) ]
    at_front (Ok (Some k)) e n = absurd cc
    at_front (Err d) e n = absurd cc

pub kept_after : (old : Reader) (r : Result Bool FrameError) (new : Reader) → WaitsShortly old → r ≡ look old → new ≡ after_look r old →
    IfOk r (λ whole. whole ≡ false → length (text_left new) < 9 + 16384)
kept_after old (Ok true) new short is after = λ no. absurd cc
kept_after old (Ok false) new short is after = λ no.
    let found : step old ≡ (Ok None, old) = found_by old (Ok false) is in
    let less = kept_at old short (ap (λ (x : Result (Option RawFrame) FrameError × Reader). x.0) found) in
    subst (λ (v : Reader). length (text_left v) < 9 + 16384)
    (ap (λ (x : Result (Option RawFrame) FrameError × Reader). x.1) found ∙ sym after) less
kept_after old (Err e) new short is after = tt

-- ---- the clauses of `pass`

steps : (v : Reader) → HasFrame v → step v ≡ (Ok (Some (front_of v)), behind_front v)
steps (Err e) has = absurd has
steps (Ok u) has =
    let short = has.1 in
    let fits = has.2 in
    let whole : whole_at u.text ≡ Ok (Some (big_number 3 u.text)) = grind arith in
    ap (λ (q : List ℕ). step_behind_preface q u.text) has.0 ∙ ap (λ (x : Result (Option ℕ) FrameError). step_by_front x u.text) whole
    ∙ ap (λ (q : List ℕ). (Ok (Some (frame_at u.text)), Ok (record { preface = q; text = drop (9 + big_number 3 u.text) u.text })))
    (sym has.0)

pub stands_passed : (old new : Reader) → HasFrame old → new ≡ behind_front old → (p t : List ℕ) (gs : List RawFrame) → IsReader p old t gs →
    IsReader p new t (gs ++ front_of old ∷ [])
stands_passed old new has after p t gs stands =
    subst (λ (v : Reader). IsReader p v t (gs ++ front_of old ∷ [])) (sym after)
    (given_more (split p) (left old) t gs stands (left (behind_front old)) (front_of old ∷ [])
    (taken_as old (Ok (Some (front_of old))) (behind_front old) (steps old has)))

pub less_is_left : (old new : Reader) → HasFrame old → new ≡ behind_front old → length (text_left new) < length (text_left old)
less_is_left (Err e) new has after = absurd has
less_is_left (Ok u) new has after = let fits = has.2 in
    omega (arith, length-drop (9 + big_number 3 u.text) u.text, ap (λ (v : Reader). length (text_left v)) after)

-- the first of the unread bytes are the frame at the front
pub first_is_front : (p j r : List ℕ) (e : Option FrameError) (v : Reader) → unread_of p (j ++ r) e ≡ v → IsJoined p j → HasFrame v →
    frame_at (first_of j r) ≡ front_of v
first_is_front p j r (Some e) v is joined whole = absurd (subst HasFrame (sym is) whole)
first_is_front p j r None v is joined whole =
    subst (λ (x : Reader). HasFrame x → frame_at (first_of j r) ≡ front_of x) is
    (λ h. joined_first j r (subst (λ (q : List ℕ). IsJoined q j) h.0 joined)) whole
