-- What stands at the front of a text, and what stays there when more follows.
use Rattle.std.proofs.Common.{◌≡◌, ℕ, ◌+◌, ◌≤◌, List, ◌++◌, length, drop, Some, None, Ok, Err, refl, sym, ap, ◌∙◌, arith, length-append}
use Rattle.std.proofs.lemmas.List.{take-append-le, drop-append-le, get_or_append_left, length-drop}
use Rattle.byteorder.specs.Endian.{big_number}
use Rattle.byteorder.specs.Numbers.{big_from-append}
use Rattle.http2_frames.specs.Items.{IsSteady}
use Rattle.grpc_messages.specs.declared.error.MessagesError.{MessagesError}
use Rattle.grpc_messages.specs.declared.error.MessagesError.TheVariants.{Compressed, TooLarge, CutOff, NoMemory}
use Rattle.grpc_messages.specs.Wire.{flag_of, size_of, IsUnfinished, IsEnd}
use Rattle.grpc_messages.specs.Reading.{whole_at, message_at, message_format}

pub record IsWhole (limit : ℕ) (t : List ℕ) (n : ℕ) : Type 0 where
  pub plain : flag_of t ≡ 0
  pub size : n ≡ size_of t
  pub short : n ≤ limit
  pub fits : 5 + n ≤ length t

pub whole_is : (limit : ℕ) (t : List ℕ) (n : ℕ) → whole_at limit t ≡ Ok (Some n) → IsWhole limit t n
whole_is limit t n e = record { plain = grind arith; size = grind arith; short = grind arith; fits = grind arith }

pub is_whole : (limit : ℕ) (t : List ℕ) (n : ℕ) → IsWhole limit t n → whole_at limit t ≡ Ok (Some n)
is_whole limit t n h = let p = h.plain in let a = h.size in let b = h.short in let d = h.fits in grind arith

pub fault_is : (limit : ℕ) (t : List ℕ) (e : MessagesError) → whole_at limit t ≡ Err e → IsEnd limit t (Err e)
fault_is limit t Compressed h = (grind arith, grind arith)
fault_is limit t TooLarge h = (grind arith, grind arith, grind arith)
fault_is limit t CutOff h = grind arith
fault_is limit t NoMemory h = grind arith

pub is_fault : (limit : ℕ) (t : List ℕ) (e : MessagesError) → IsEnd limit t (Err e) → whole_at limit t ≡ Err e
is_fault limit t Compressed h = let a = h.0 in let b = h.1 in grind arith
is_fault limit t TooLarge h = let a = h.0 in let b = h.1 in let c = h.2 in grind arith
is_fault limit t CutOff h = absurd h
is_fault limit t NoMemory h = absurd h

pub unfinished_is : (limit : ℕ) (t : List ℕ) → whole_at limit t ≡ Ok None → IsUnfinished limit t
unfinished_is limit t e = grind arith

pub is_unfinished : (limit : ℕ) (t : List ℕ) → IsUnfinished limit t → whole_at limit t ≡ Ok None
is_unfinished limit t h = grind arith

-- the five bytes at the front stay, whatever follows
pub flag_more : (t more : List ℕ) → 5 ≤ length t → flag_of (t ++ more) ≡ flag_of t
flag_more t more five = get_or_append_left t more 0 0 (omega arith)

pub size_more : (t more : List ℕ) → 5 ≤ length t → size_of (t ++ more) ≡ size_of t
size_more t more five =
    ap (big_number 4) (drop-append-le 1 t more (omega arith)) ∙ big_from-append 4 (drop 1 t) more (omega (arith, length-drop 1 t))

pub whole_more : (limit : ℕ) (t more : List ℕ) (n : ℕ) → whole_at limit t ≡ Ok (Some n) → whole_at limit (t ++ more) ≡ Ok (Some n)
whole_more limit t more n e =
    let w = whole_is limit t n e in
    let p = w.plain in let s = w.size in let b = w.short in let f = w.fits in
    let flag = flag_more t more (omega arith) in
    let size = size_more t more (omega arith) in
    let len = length-append t more in
    is_whole limit (t ++ more) n (record { plain = flag ∙ p; size = s ∙ sym size; short = b; fits = omega arith })

pub fault_more : (limit : ℕ) (t more : List ℕ) (e : MessagesError) → whole_at limit t ≡ Err e → whole_at limit (t ++ more) ≡ Err e
fault_more limit t more e h = is_fault limit (t ++ more) e (go e (fault_is limit t e h)) where
  go : (d : MessagesError) → IsEnd limit t (Err d) → IsEnd limit (t ++ more) (Err d)
  go Compressed w = let five = w.0 in let flag = flag_more t more five in let len = length-append t more in
      (omega arith, λ z. w.1 (sym flag ∙ z))
  go TooLarge w = let five = w.0 in let large = w.2 in let flag = flag_more t more five in let size = size_more t more five in let len =
      length-append t more in (omega arith, flag ∙ w.1, omega arith)
  go CutOff w = absurd w
  go NoMemory w = absurd w

pub message_more : (limit : ℕ) (t more : List ℕ) (n : ℕ) → whole_at limit t ≡ Ok (Some n) → message_at (t ++ more) ≡ message_at t
message_more limit t more n e =
    let w = whole_is limit t n e in
    let s = w.size in let f = w.fits in
    let five : 5 ≤ length t = omega arith in
    let size = size_more t more five in
    let past = drop-append-le 5 t more five in
    let message = take-append-le (size_of t) (drop 5 t) more (omega (arith, length-drop 5 t)) in
    rw (size, past, message) refl

pub steady : (limit : ℕ) → IsSteady (message_format limit)
steady limit = record {
  some = omega arith;
  fits = λ t n e. (whole_is limit t n e).fits;
  whole = whole_more limit;
  item = message_more limit;
  fault = fault_more limit;
}
