-- A field list with one more field behind it.
use Rattle.std.proofs.Common.{◌≡◌, ℕ, ◌+◌, ◌-◌, List, [], ◌∷◌, ◌++◌, length, take, drop, refl, sym, ap, ◌∙◌, arith}
use Rattle.std.proofs.Math.Seq.{drop-append_seam, take-length}
use Rattle.std.proofs.lemmas.List.{take-append-le, drop-append-le, length-append, length-drop}
use Rattle.hpack.specs.declared.headers.FieldLengths.{FieldLengths}
use Rattle.hpack.specs.FieldLists.{header_in, headers_in, fields_length, text_behind, BeginsWith}

pub behind_is : (before more text : List ℕ) → text ≡ before ++ more → text_behind before text ≡ more
behind_is before more text is = ap (drop (length before)) is ∙ drop-append_seam before more

pub begins : (before more text : List ℕ) → text ≡ before ++ more → BeginsWith before text
begins before more text is = is ∙ ap (λ (y : List ℕ). before ++ y) (sym (behind_is before more text is))

pub total_push : (ls : List FieldLengths) (l : FieldLengths) → fields_length (ls ++ l ∷ []) ≡ fields_length ls + (l.name + l.value)
total_push [] l = omega arith
total_push (k ∷ ls) l = let t = total_push ls l in omega arith

pub count_of : (ls : List FieldLengths) (text : List ℕ) → length (headers_in ls text) ≡ length ls
count_of [] text = refl
count_of (l ∷ ls) text = let n = count_of ls (drop l.value (drop l.name text)) in omega arith

pushed : (ls : List FieldLengths) (text more : List ℕ) (l : FieldLengths) → fields_length ls ≡ length text →
    headers_in (ls ++ l ∷ []) (text ++ more) ≡ headers_in ls text ++ header_in l more ∷ []
pushed [] [] more l h = refl
pushed [] (x ∷ xs) more l h = absurd (omega arith)
pushed (k ∷ ls) text more l h =
    let rest = drop k.name text in
    let shorter = length-drop k.name text in
    let shortest = length-drop k.value rest in
    let name = take-append-le k.name text more (omega arith) in
    let behind = drop-append-le k.name text more (omega arith) in
    let value = take-append-le k.value rest more (omega arith) in
    let others = drop-append-le k.value rest more (omega arith) in
    let last = pushed ls (drop k.value rest) more l (omega arith) in
    rw (name, behind, value, others, last) refl

-- a field that was added behind the others
pub headers_push : (ls : List FieldLengths) (before text : List ℕ) (l : FieldLengths) → fields_length ls ≡ length before →
    BeginsWith before text → headers_in (ls ++ l ∷ []) text ≡ headers_in ls before ++ header_in l (text_behind before text) ∷ []
headers_push ls before text l total is = ap (headers_in (ls ++ l ∷ [])) is ∙ pushed ls before (text_behind before text) l total

pub length_behind : (before text : List ℕ) → BeginsWith before text → length text ≡ length before + length (text_behind before text)
length_behind before text is = ap (length {A = ℕ}) is ∙ length-append before (text_behind before text)

pub slice_behind : (before text whole : List ℕ) (n : ℕ) → n ≡ length before → whole ≡ text →
    take (length whole - n) (drop n whole) ≡ text_behind before text
slice_behind before text whole n at is =
    rw (is, at) (ap (λ (k : ℕ). take k (drop (length before) text)) (sym (length-drop (length before) text))
    ∙ take-length (drop (length before) text))
