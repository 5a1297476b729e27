-- What stands at the front of a text, and what stays there when more follows.
use Rattle.std.proofs.Common.{◌≡◌, ℕ, ◌+◌, ◌<◌, ◌≤◌, ◌⊎◌, true, nat_eq, List, [], ◌∷◌, ◌++◌, length, take, drop, Some, None, Ok, Err, refl, sym, ap, ◌∙◌, arith, length-append}
use Rattle.std.specs.List.{starts_with}
use Rattle.std.proofs.Math.Seq.{take-append_seam}
use Rattle.std.proofs.lemmas.Bool.Decides.{Decides-eqb}
use Rattle.std.proofs.lemmas.List.{take-append-le, take-append-drop, drop-append-le, get_or_append_left, length-drop}
use Rattle.std.proofs.lemmas.Slice.Eq.{starts_is}
use Rattle.byteorder.specs.Endian.{big_number}
use Rattle.byteorder.specs.Numbers.{big_from-append}
use Rattle.http2_frames.specs.Items.{IsSteady}
use Rattle.http2_frames.specs.declared.error.FrameError.{FrameError}
use Rattle.http2_frames.specs.declared.error.FrameError.TheVariants.{Size}
use Rattle.http2_frames.specs.Reading.{whole_at, frame_at, frame_format}
use Rattle.http2_frames.specs.Step.{IsJoined, first_of}

pub begins : (p t : List ℕ) → starts_with nat_eq t p ≡ true → t ≡ p ++ drop (length p) t
begins p t e = (starts_is Decides-eqb t p (starts_with nat_eq t p) refl).0 e

pub begin : (p t rest : List ℕ) → t ≡ p ++ rest → starts_with nat_eq t p ≡ true
begin p t rest e = (starts_is Decides-eqb t p (starts_with nat_eq t p) refl).1 rest e

-- of two beginnings of one text the shorter begins the longer
pub front_of : (xs ys us vs : List ℕ) → xs ++ ys ≡ us ++ vs → length us ≤ length xs → xs ≡ us ++ drop (length us) xs
front_of xs ys us vs e le =
    let same : take (length us) xs ≡ us = sym (take-append-le (length us) xs ys le) ∙ ap (take (length us)) e ∙ take-append_seam us vs in
    sym (take-append-drop (length us) xs) ∙ ap (λ (z : List ℕ). z ++ drop (length us) xs) same

pub record IsWhole (t : List ℕ) (n : ℕ) : Type 0 where
  pub size : n ≡ big_number 3 t
  pub short : n ≤ 16384
  pub fits : 9 + n ≤ length t

pub whole_is : (t : List ℕ) (n : ℕ) → whole_at t ≡ Ok (Some n) → IsWhole t n
whole_is t n e = record { size = grind arith; short = grind arith; fits = grind arith }

pub is_whole : (t : List ℕ) (n : ℕ) → IsWhole t n → whole_at t ≡ Ok (Some n)
is_whole t n h = let a = h.size in let b = h.short in let d = h.fits in grind arith

pub record IsOversized (t : List ℕ) (e : FrameError) : Type 0 where
  pub is : e ≡ Size
  pub nine : 9 ≤ length t
  pub long : 16384 < big_number 3 t

pub oversized_is : (t : List ℕ) (e : FrameError) → whole_at t ≡ Err e → IsOversized t e
oversized_is t e h = record { is = grind arith; nine = grind arith; long = grind arith }

pub is_oversized : (t : List ℕ) (e : FrameError) → IsOversized t e → whole_at t ≡ Err e
is_oversized t e h = let a = h.is in let b = h.nine in let d = h.long in grind arith

abbrev pub IsPartial : List ℕ → Type 0
IsPartial t = (length t < 9) ⊎ (big_number 3 t ≤ 16384) × (length t < 9 + big_number 3 t)

pub partial_is : (t : List ℕ) → whole_at t ≡ Ok None → IsPartial t
partial_is t e = grind arith

pub is_partial : (t : List ℕ) → IsPartial t → whole_at t ≡ Ok None
is_partial t h = grind arith

pub whole_more : (t more : List ℕ) (n : ℕ) → whole_at t ≡ Ok (Some n) → whole_at (t ++ more) ≡ Ok (Some n)
whole_more t more n e =
    let w = whole_is t n e in
    let s = w.size in let b = w.short in let f = w.fits in
    let same = big_from-append 3 t more (omega arith) in
    let len = length-append t more in
    is_whole (t ++ more) n (record { size = s ∙ sym same; short = b; fits = omega arith })

pub oversized_more : (t more : List ℕ) (e : FrameError) → whole_at t ≡ Err e → whole_at (t ++ more) ≡ Err e
oversized_more t more e h =
    let w = oversized_is t e h in
    let i = w.is in let n = w.nine in let l = w.long in
    let same = big_from-append 3 t more (omega arith) in
    let len = length-append t more in
    is_oversized (t ++ more) e (record { is = i; nine = omega arith; long = omega arith })

pub frame_more : (t more : List ℕ) (n : ℕ) → whole_at t ≡ Ok (Some n) → frame_at (t ++ more) ≡ frame_at t
frame_more t more n e =
    let w = whole_is t n e in
    let s = w.size in let f = w.fits in
    let nine : 9 ≤ length t = omega arith in
    let size = big_from-append 3 t more (omega arith) in
    let kind = get_or_append_left t more 0 3 (omega arith) in
    let flags = get_or_append_left t more 0 4 (omega arith) in
    let five = drop-append-le 5 t more (omega arith) in
    let stream = big_from-append 4 (drop 5 t) more (omega (arith, length-drop 5 t)) in
    let past = drop-append-le 9 t more nine in
    let payload = take-append-le (big_number 3 t) (drop 9 t) more (omega (arith, length-drop 9 t)) in
    rw (kind, flags, five, stream, size, past, payload) refl

pub steady : IsSteady frame_format
steady = record {
  some = omega arith;
  fits = λ t n e. (whole_is t n e).fits;
  whole = whole_more;
  item = frame_more;
  fault = oversized_more;
}

pub joined_first : (joined received : List ℕ) → IsJoined [] joined → frame_at (first_of joined received) ≡ frame_at (joined ++ received)
joined_first [] received h = refl
joined_first (b ∷ bs) received h =
    let w = h (λ e. cc) in
    let short = w.1 in
    let long = w.2 in
    sym (frame_more (b ∷ bs) received (big_number 3 (b ∷ bs))
    (is_whole (b ∷ bs) (big_number 3 (b ∷ bs)) (record { size = refl; short = short; fits = omega arith })))
