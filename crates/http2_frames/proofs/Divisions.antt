-- The grammar of a text of frames, and reading it.
use Rattle.std.proofs.Common.{◌≡◌, ◌≢◌, ℕ, suc, ◌+◌, ◌%◌, ◌^◌, ◌≤◌, ◌⊎◌, inl, inr, Bool, true, false, ◌==◌, List, [], ◌∷◌, ◌++◌, length, take, drop, slice_index, Some, Ok, Err, refl, sym, ap, subst, ◌∙◌, append_assoc, arith, length-append}
use Rattle.std.proofs.Math.Seq.{drop-append_seam, take-length}
use Rattle.std.proofs.lemmas.Bool.Decides.{eqb_tells}
use Rattle.std.proofs.lemmas.List.{length-take-le}
use Rattle.byteorder.specs.Endian.{big_number}
use Rattle.http2_frames.specs.Items.{rest_only, fault_only}
use Rattle.http2_frames.specs.Grammar.{IsOneItem, Reads}
use Rattle.http2_frames.proofs.Heads.{three_of, four_of}
use Rattle.http2_frames.proofs.WireItemsDivisions.{division_only, division_found}
use Rattle.http2_frames.specs.declared.error.FrameError.{FrameError}
use Rattle.http2_frames.specs.declared.error.FrameError.TheVariants.{Preface}
use Rattle.http2_frames.specs.declared.frame.RawFrame.{RawFrame}
use Rattle.http2_frames.specs.Wire.{IsFrameText, Split, IsEnd, IsInFrames, Leaves, IsCutShort, IsSplit}
use Rattle.http2_frames.specs.Reading.{whole_at, frame_at, frame_format, split_frames, split}
use Rattle.http2_frames.proofs.Fronts.{begins, begin, IsWhole, whole_is, is_whole, oversized_is, is_oversized, partial_is, is_partial, steady}
use Rattle.http2_frames.proofs.Splits.{past, short, off}

-- ---- a frame's text

nine_more : (n : ℕ) → 9 + n ≡ suc (suc (suc (suc (suc (suc (suc (suc (suc n))))))))
nine_more n = omega arith

item_at_front : (a b c k g w x y z : ℕ) (f : RawFrame) → big_number 3 (a ∷ b ∷ c ∷ []) ≡ length f.payload → k ≡ f.kind → g ≡ f.flags →
    big_number 4 (w ∷ x ∷ y ∷ z ∷ []) % 2 ^ 31 ≡ f.stream → length f.payload ≤ 16384
    → IsOneItem frame_format (a ∷ b ∷ c ∷ k ∷ g ∷ w ∷ x ∷ y ∷ z ∷ f.payload) f
item_at_front a b c k g w x y z f size kind flags stream small =
    let text : List ℕ = a ∷ b ∷ c ∷ k ∷ g ∷ w ∷ x ∷ y ∷ z ∷ f.payload in
    let same : big_number 3 text ≡ length f.payload = size in
    let payload : take (big_number 3 text) f.payload ≡ f.payload = ap (λ (n : ℕ). take n f.payload) same ∙ take-length f.payload in
    record {
      size = length f.payload;
      whole = is_whole text (length f.payload) (record { size = sym same; short = small; fits = omega arith });
      sized = nine_more (length f.payload);
      is = rw (kind, flags, stream, payload) refl;
    }

is_item : (t : List ℕ) (f : RawFrame) → IsFrameText t f → IsOneItem frame_format t f
is_item t f h =
    let s = three_of h.size h.three in
    let n = four_of h.number h.four in
    let first = ap (λ (q : List ℕ). (q ++ f.kind ∷ f.flags ∷ h.number) ++ f.payload) s.3 in
    let second = ap (λ (q : List ℕ). ((s.0 ∷ s.1 ∷ s.2 ∷ []) ++ f.kind ∷ f.flags ∷ q) ++ f.payload) n.4 in
    let size = ap (big_number 3) (sym s.3) ∙ h.sized in
    let stream = ap (λ (q : List ℕ). big_number 4 q % 2 ^ 31) (sym n.4) ∙ h.stream in
    subst (λ (q : List ℕ). IsOneItem frame_format q f) (sym (h.parts ∙ first ∙ second))
    (item_at_front s.0 s.1 s.2 f.kind f.flags n.0 n.1 n.2 n.3 f size refl refl stream h.short)

frame_text_at : (a b c k g w x y z : ℕ) (r : List ℕ) (n : ℕ) → n ≡ big_number 3 (a ∷ b ∷ c ∷ []) → n ≤ 16384 → n ≤ length r
    → IsFrameText (take (9 + n) (a ∷ b ∷ c ∷ k ∷ g ∷ w ∷ x ∷ y ∷ z ∷ r))
    (record { kind = k; flags = g; stream = big_number 4 (w ∷ x ∷ y ∷ z ∷ []) % 2 ^ 31; payload = take n r })
frame_text_at a b c k g w x y z r n size small fits =
    let len = length-take-le n r fits in
    record {
      size = a ∷ b ∷ c ∷ [];
      number = w ∷ x ∷ y ∷ z ∷ [];
      parts = ap (λ (m : ℕ). take m (a ∷ b ∷ c ∷ k ∷ g ∷ w ∷ x ∷ y ∷ z ∷ r)) (nine_more n);
      three = refl;
      sized = sym size ∙ sym len;
      four = refl;
      stream = refl;
      short = omega arith;
    }

frame_text_is : (t : List ℕ) (n : ℕ) → IsWhole t n →
    IsFrameText (take (9 + n) t) (record {
      kind = slice_index t 3;
      flags = slice_index t 4;
      stream = big_number 4 (drop 5 t) % 2 ^ 31;
      payload = take n (drop 9 t);
    })
frame_text_is (a ∷ b ∷ c ∷ k ∷ g ∷ w ∷ x ∷ y ∷ z ∷ r) n h = let f = h.fits in
    frame_text_at a b c k g w x y z r n h.size h.short (omega arith)
frame_text_is [] n h = let f = h.fits in absurd (omega arith)
frame_text_is (a ∷ []) n h = let f = h.fits in absurd (omega arith)
frame_text_is (a ∷ b ∷ []) n h = let f = h.fits in absurd (omega arith)
frame_text_is (a ∷ b ∷ c ∷ []) n h = let f = h.fits in absurd (omega arith)
frame_text_is (a ∷ b ∷ c ∷ k ∷ []) n h = let f = h.fits in absurd (omega arith)
frame_text_is (a ∷ b ∷ c ∷ k ∷ g ∷ []) n h = let f = h.fits in absurd (omega arith)
frame_text_is (a ∷ b ∷ c ∷ k ∷ g ∷ w ∷ []) n h = let f = h.fits in absurd (omega arith)
frame_text_is (a ∷ b ∷ c ∷ k ∷ g ∷ w ∷ x ∷ []) n h = let f = h.fits in absurd (omega arith)
frame_text_is (a ∷ b ∷ c ∷ k ∷ g ∷ w ∷ x ∷ y ∷ []) n h = let f = h.fits in absurd (omega arith)

frame_found : (t : List ℕ) (n : ℕ) → whole_at t ≡ Ok (Some n) → IsFrameText (take (9 + n) t) (frame_at t)
frame_found t n e =
    let w = whole_is t n e in
    subst (λ (j : ℕ). IsFrameText (take (9 + n) t)
    (record {
      kind = slice_index t 3;
      flags = slice_index t 4;
      stream = big_number 4 (drop 5 t) % 2 ^ 31;
      payload =
          take j (drop 9 t);
    })) w.size (frame_text_is t n w)

fault_found : (t : List ℕ) (d : FrameError) → whole_at t ≡ Err d → IsEnd t (Err d)
fault_found t d e = let o = oversized_is t d e in (o.is, o.nine, o.long)

reads : Reads frame_format IsFrameText IsEnd
reads = record {
  item = is_item;
  is_item = frame_found;
  rest = λ t r h. (h.0, is_partial t h.1);
  is_rest = λ t e. (refl, partial_is t e);
  fault = λ t d h. is_oversized t d (record { is = h.0; nine = h.1; long = h.2 });
  is_fault = fault_found;
}

-- ---- the preface

abbrev pub Compared : List ℕ → List ℕ → Type 0
Compared p t = ((after : List ℕ) × (t ≡ p ++ after)) ⊎ (IsCutShort p t ⊎ Leaves p t)

longer : (b : ℕ) (p t : List ℕ) → Compared p t → Compared (b ∷ p) (b ∷ t)
longer b p t (inl h) = inl (h.0, ap (λ (q : List ℕ). b ∷ q) h.1)
longer b p t (inr (inl h)) = inr (inl (record { next = h.next; rest = h.rest; preface_is = ap (λ (q : List ℕ). b ∷ q) h.preface_is }))
longer b p t (inr (inr h)) = inr (inr (record {
  same = b ∷ h.same;
  wanted = h.wanted;
  found = h.found;
  rest = h.rest;
  more = h.more;
  preface_is = ap (λ (q : List ℕ). b ∷ q) h.preface_is;
  text_is = ap (λ (q : List ℕ). b ∷ q) h.text_is;
  other = h.other;
}))

pub compared : (p t : List ℕ) → Compared p t
compared [] t = inl (t, refl)
compared (b ∷ p) [] = inr (inl (record { next = b; rest = p; preface_is = refl }))
compared (b ∷ p) (c ∷ t) = go (eqb_tells b c) (compared p t) where
  go : ((b == c ≡ true) × (b ≡ c)) ⊎ ((b == c ≡ false) × (b ≢ c)) → Compared p t → Compared (b ∷ p) (c ∷ t)
  go (inl h) rest = subst (λ (x : ℕ). Compared (b ∷ p) (x ∷ t)) h.1 (longer b p t rest)
  go (inr h) rest = inr (inr (record {
    same = [];
    wanted = b;
    found = c;
    rest = p;
    more = t;
    preface_is = refl;
    text_is = refl;
    other =
        λ (e : c ≡ b). h.1 (sym e);
  }))

not_true : (b : Bool) → (b ≡ true → ⊥) → b ≡ false
not_true true h = absurd (h refl)
not_true false h = refl

not_longer : (p t after : List ℕ) → IsCutShort p t → t ≡ p ++ after → ⊥
not_longer p t after h e =
    let a = ap (length {A = ℕ}) e in
    let b = ap (length {A = ℕ}) h.preface_is in
    let c = length-append p after in
    let d = length-append t (h.next ∷ h.rest) in
    omega arith

same_next : (same xs ys : List ℕ) (a b : ℕ) → same ++ a ∷ xs ≡ same ++ b ∷ ys → a ≡ b
same_next [] xs ys a b e = cc
same_next (s ∷ same) xs ys a b e = same_next same xs ys a b cc

never_begins : (p t after : List ℕ) → Leaves p t → t ≡ p ++ after → ⊥
never_begins p t after h e =
    h.other (same_next h.same h.more (h.rest ++ after) h.found h.wanted
    (sym h.text_is ∙ e ∙ ap (λ (q : List ℕ). q ++ after) h.preface_is ∙ append_assoc h.same (h.wanted ∷ h.rest) after))

never_begun : (p t after : List ℕ) → Leaves p t → p ≡ t ++ after → ⊥
never_begun p t after h e =
    h.other (sym (same_next h.same h.rest (h.more ++ after) h.wanted h.found
    (sym h.preface_is ∙ e ∙ ap (λ (q : List ℕ). q ++ after) h.text_is ∙ append_assoc h.same (h.found ∷ h.more) after)))

pub past_only : (p t after : List ℕ) → t ≡ p ++ after → split p t ≡ split_frames after
past_only p t after e = past p t (begin p t after e) ∙ ap split_frames (ap (drop (length p)) e ∙ drop-append_seam p after)

pub short_only : (p t : List ℕ) → IsCutShort p t → split p t ≡ rest_only t
short_only p t h = short p t (not_true _ (λ e. not_longer p t (drop (length p) t) h (begins p t e)))
    (begin t p (h.next ∷ h.rest) h.preface_is)

pub off_only : (p t : List ℕ) → Leaves p t → split p t ≡ fault_only Preface
off_only p t h = off p t (not_true _ (λ e. never_begins p t (drop (length p) t) h (begins p t e)))
    (not_true _ (λ e. never_begun p t (drop (length t) p) h (begins t p e)))

pub split_only : (p t : List ℕ) (s : Split) → IsSplit p t s → split p t ≡ s
split_only p t s (inl (after, e, h)) = past_only p t after e ∙ division_only frame_format steady IsFrameText IsEnd reads after s h
split_only p t s (inr (inl (h, e))) = short_only p t h ∙ sym e
split_only p t s (inr (inr (h, e))) = off_only p t h ∙ sym e

pub split_found : (p t : List ℕ) → IsSplit p t (split p t)
split_found p t = go (compared p t) where
  go : Compared p t → IsSplit p t (split p t)
  go (inl (after, e)) = inl (
    after,
    e,
    subst (IsInFrames after) (sym (past_only p t after e))
        (division_found frame_format steady IsFrameText IsEnd reads after),
  )
  go (inr (inl h)) = inr (inl (h, short_only p t h))
  go (inr (inr h)) = inr (inr (h, off_only p t h))
