-- What stands around the content of a padded frame.
use Rattle.std.proofs.Common.{◌≡◌, ℕ, ◌-◌, ◌≤◌, Bool, true, false, cond, ◌||◌, ◌&&◌, nat_lt, List, ◌++◌, length, take, drop, slice_range, Result, Ok, Err, refl, sym, ap, ◌∙◌, arith}
use Rattle.std.proofs.lemmas.List.{drop-drop, length-drop, length-take-le, take-append-drop}
use Rattle.http2_frames.specs.declared.codes.ErrorCode.{ErrorCode}
use Rattle.http2_frames.specs.declared.frame.RawFrame.{RawFrame}
use Rattle.http2_frames.specs.declared.frame.Frame.{Frame}
use Rattle.http2_frames.specs.Frames.{lead_length, pad_length, unpadded_content, may_be_padded, is_misaddressed, is_missized, is_overpadded, frame_of, IsPadded}

-- xs in three parts, the last of them n long
three_parts : (xs : List ℕ) (m n : ℕ) → m ≤ length xs → n ≤ length xs - m →
    xs ≡ take m xs ++ (slice_range xs m (length xs - n) ++ drop (length xs - n) xs)
three_parts xs m n p q =
    let k : ℕ = length xs - n - m in
    let back : drop k (drop m xs) ≡ drop (length xs - n) xs = drop-drop k m xs ∙ ap (λ (j : ℕ). drop j xs) (omega arith) in
    sym (take-append-drop m xs) ∙ ap (λ (ys : List ℕ). take m xs ++ ys)
    (sym (take-append-drop k (drop m xs)) ∙ ap (λ (ys : List ℕ). take k (drop m xs) ++ ys) back)

untaken : {A : Type 0} (b : Bool) (e : ErrorCode) (r : Result A ErrorCode) (x : A) → cond b (Err e) r ≡ Ok x → (b ≡ false) × (r ≡ Ok x)
untaken true e r x h = absurd cc
untaken false e r x h = (refl, h)

last_false : (a b : Bool) → (a || b) ≡ false → b ≡ false
last_false true b e = absurd cc
last_false false b e = e

right_false : (a b : Bool) → a ≡ true → (a && b) ≡ false → b ≡ false
right_false true b t e = e
right_false false b t e = absurd cc

at_least : (n m : ℕ) → nat_lt n m ≡ false → m ≤ n
at_least n m e = grind arith

has_fields : (f : RawFrame) → may_be_padded f ≡ true → is_missized f ≡ false → lead_length f ≤ length f.payload
has_fields f may e = at_least (length f.payload) (lead_length f) (right_false (may_be_padded f) _ may (last_false _ _ e))

has_room : (f : RawFrame) → may_be_padded f ≡ true → is_overpadded f ≡ false → pad_length f ≤ length f.payload - lead_length f
has_room f may e = at_least (length f.payload - lead_length f) (pad_length f) (right_false (may_be_padded f) _ may e)

pub padded : (f : RawFrame) (x : Frame) → may_be_padded f ≡ true → frame_of f ≡ Ok x → IsPadded f (unpadded_content f)
padded f x may h =
    let a = untaken (is_misaddressed f) _ _ x h in
    let b = untaken (is_missized f) _ _ x a.1 in
    let d = untaken (is_overpadded f) _ _ x b.1 in
    let m = has_fields f may b.0 in
    let n = has_room f may d.0 in
    record {
      fields = take (lead_length f) f.payload;
      padding = drop (length f.payload - pad_length f) f.payload;
      parts = three_parts f.payload (lead_length f) (pad_length f) m n;
      fields_length = length-take-le (lead_length f) f.payload m;
      padding_length = omega (arith, length-drop (length f.payload - pad_length f) f.payload);
    }
