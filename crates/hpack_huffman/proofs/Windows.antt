-- What the first thirty bits say of a list of bits.
use Rattle.std.proofs.Common.{◌≡◌, ℕ, ◌+◌, ◌-◌, ◌*◌, ◌/◌, ◌^◌, ◌<◌, ◌≤◌, true, false, List, [], ◌∷◌, ◌++◌, length, take, drop, replicate, None, Ok, Err, refl, sym, ap, ◌∙◌, arith}
use Rattle.std.proofs.lemmas.Bool.{false_from_ne_true}
use Rattle.std.proofs.lemmas.List.{append_assoc, drop_at, length-append, replicate-append-replicate, take-append-drop, take-append-le, take-replicate, take-take, take_at}
use Rattle.hpack_huffman.specs.declared.HuffmanError.TheVariants.{Eos, Padding}
use Rattle.hpack_huffman.specs.Code.{eos, bits, bits_of, code, code_length}
use Rattle.hpack_huffman.specs.Left.{window_of}
use Rattle.hpack_huffman.specs.Reading.{symbol_at, is_padding, text_of_bits, with_first}
use Rattle.hpack_huffman.proofs.BitLists.{bits-add, bits_ones, length-bits}
use Rattle.hpack_huffman.proofs.Canonical.{code-eos, code_length_least, length-code, one_symbol}
use Rattle.hpack_huffman.proofs.Symbols.{ones_none, symbol_at_none}
use Rattle.hpack_huffman.proofs.Texts.{is_padding-ones, is_padding_is, text_end, text_eos, text_symbol}

-- ---- thirty ones

pub ones_is : (bs : List ℕ) → bits 30 0x3fffffff ≡ window_of bs → window_of bs ≡ replicate 30 1
ones_is bs e = sym e ∙ bits_ones 30

pub ones_long : (bs : List ℕ) → 30 ≤ length bs → window_of bs ≡ replicate 30 1 → text_of_bits bs ≡ Err Eos
unfolding window_of
ones_long bs le e =
    let front : take 30 bs ≡ code eos = sym (take-append-le 30 bs (replicate 30 1) le) ∙ e ∙ sym code-eos in
    text_eos bs (drop 30 bs) (sym (take-append-drop 30 bs) ∙ ap (λ (xs : List ℕ). xs ++ drop 30 bs) front)

ones_short : (bs : List ℕ) → length bs < 30 → window_of bs ≡ replicate 30 1 → bs ≡ replicate (length bs) 1
unfolding window_of
ones_short bs lt e =
    sym (take_at bs (replicate 30 1) (length bs) refl) ∙ sym (take-take (length bs) 30 (bs ++ replicate 30 1) (omega arith))
    ∙ ap (take (length bs)) e ∙ take-replicate (length bs) 30 1 (omega arith)

pub ones_padding : (bs : List ℕ) → length bs ≤ 7 → window_of bs ≡ replicate 30 1 → text_of_bits bs ≡ Ok []
ones_padding bs le e =
    let ones = ones_short bs (omega arith) e in
    let none : symbol_at bs ≡ None = ap symbol_at ones ∙ ones_none (length bs) (omega arith) in
    let padded : is_padding bs ≡ true = ap is_padding ones ∙ is_padding-ones (length bs) le in
    text_end bs none ∙ rw padded refl

pub ones_too_long : (bs : List ℕ) → 8 ≤ length bs → length bs < 30 → window_of bs ≡ replicate 30 1 → text_of_bits bs ≡ Err Padding
ones_too_long bs le lt e =
    let none : symbol_at bs ≡ None = ap symbol_at (ones_short bs lt e) ∙ ones_none (length bs) lt in
    let not_padded : is_padding bs ≡ false = false_from_ne_true (is_padding bs)
    (λ h. let is = is_padding_is bs h in let short = is.0 in omega arith) in
    text_end bs none ∙ rw not_padded refl

-- ---- a symbol's code, and more

pub code_there : (s : ℕ) (bs rest : List ℕ) → code_length s ≤ 30 → code_length s ≤ length bs → window_of bs ≡ code s ++ rest →
    bs ≡ code s ++ drop (code_length s) bs
unfolding window_of
code_there s bs rest short le e =
    let n = code_length s in
    let front : take n bs ≡ code s =
    sym (take-append-le n bs (replicate 30 1) le) ∙ sym (take-take n 30 (bs ++ replicate 30 1) short) ∙ ap (take n) e
    ∙ take_at (code s) rest n (length-code s) in
    sym (take-append-drop n bs) ∙ ap (λ (xs : List ℕ). xs ++ drop n bs) front

-- the bits end within the code
no_code : (s : ℕ) (bs tail : List ℕ) → s < 256 → length bs < code_length s → bs ++ replicate 30 1 ≡ code s ++ tail → symbol_at bs ≡ None
no_code s bs tail known lt whole = symbol_at_none bs (λ t more le h.
    let other : bs ++ replicate 30 1 ≡ code t ++ (more ++ replicate 30 1) =
    ap (λ (xs : List ℕ). xs ++ replicate 30 1) h ∙ append_assoc (code t) more (replicate 30 1) in
    let same : s ≡ t = one_symbol s t (omega arith) le tail (more ++ replicate 30 1) (sym whole ∙ other) in
    let long : length (code t) ≡ code_length s = ap (λ (k : ℕ). length (code k)) (sym same) ∙ length-code s in
    let parts : length bs ≡ length (code t) + length more = ap length h ∙ length-append (code t) more in
    omega arith)

no_padding : (s : ℕ) (bs tail : List ℕ) → s < 256 → bs ++ replicate 30 1 ≡ code s ++ tail → is_padding bs ≡ false
no_padding s bs tail known whole = false_from_ne_true (is_padding bs) (λ h.
    let ones : bs ≡ replicate (length bs) 1 = (is_padding_is bs h).1 in
    let turned : length bs + 30 ≡ 30 + length bs = omega arith in
    let other : bs ++ replicate 30 1 ≡ code eos ++ replicate (length bs) 1 =
    ap (λ (xs : List ℕ). xs ++ replicate 30 1) ones ∙ replicate-append-replicate (length bs) 30 1
    ∙ ap (λ (k : ℕ). replicate k 1) turned
    ∙ sym (replicate-append-replicate 30 (length bs) 1) ∙ ap (λ (xs : List ℕ). xs ++ replicate (length bs) 1) (sym code-eos) in
    let same : s ≡ 256 = one_symbol s eos (omega arith) (omega arith) tail (replicate (length bs) 1) (sym whole ∙ other) in
    omega arith)

pub code_beyond : (s : ℕ) (bs rest : List ℕ) → s < 256 → length bs < code_length s → window_of bs ≡ code s ++ rest →
    text_of_bits bs ≡ Err Padding
unfolding window_of
code_beyond s bs rest known lt e =
    let tail = rest ++ drop 30 (bs ++ replicate 30 1) in
    let whole : bs ++ replicate 30 1 ≡ code s ++ tail =
    sym (take-append-drop 30 (bs ++ replicate 30 1)) ∙ ap (λ (xs : List ℕ). xs ++ drop 30 (bs ++ replicate 30 1)) e
    ∙ append_assoc (code s) rest (drop 30 (bs ++ replicate 30 1)) in
    let not_padded = no_padding s bs tail known whole in
    text_end bs (no_code s bs tail known lt whole) ∙ rw not_padded refl

-- ---- how many bits are left

pub left_at_least : (held buffer : ℕ) (octets : List ℕ) → held ≤ length (bits held buffer ++ bits_of octets)
left_at_least held buffer octets = let long = length-bits held buffer in omega (arith, length-append (bits held buffer) (bits_of octets))

pub left_exactly : (held buffer : ℕ) (octets : List ℕ) → octets ≡ [] → length (bits held buffer ++ bits_of octets) ≡ held
unfolding bits_of
left_exactly held buffer octets none = ap (λ (xs : List ℕ). length (bits held buffer ++ bits_of xs)) none
    ∙ length-append (bits held buffer) [] ∙ (let long = length-bits held buffer in omega arith)

-- fewer bits are held after a symbol
pub left_after : (held buffer used : ℕ) (octets : List ℕ) → used ≤ held →
    drop used (bits held buffer ++ bits_of octets) ≡ bits (held - used) buffer ++ bits_of octets
left_after held buffer used octets le =
    let high = bits used (buffer / 2 ^ (held - used)) in
    let split : bits held buffer ≡ high ++ bits (held - used) buffer =
    ap (λ (k : ℕ). bits k buffer) (let e : held ≡ used + (held - used) = omega arith in e) ∙ bits-add used (held - used) buffer in
    ap (λ (xs : List ℕ). drop used (xs ++ bits_of octets)) split
    ∙ ap (drop used) (append_assoc high (bits (held - used) buffer) (bits_of octets))
    ∙ drop_at high (bits (held - used) buffer ++ bits_of octets) used (length-bits used (buffer / 2 ^ (held - used)))

-- a symbol is read
pub symbol_read : (s : ℕ) (bs left rest : List ℕ) → s < 256 → code_length s ≤ 30 → code_length s ≤ length bs →
    window_of bs ≡ code s ++ rest → drop (code_length s) bs ≡ left → text_of_bits bs ≡ with_first s (text_of_bits left)
symbol_read s bs left rest known short le e after =
    text_symbol s bs left known (code_there s bs rest short le e ∙ ap (λ (xs : List ℕ). code s ++ xs) after)

pub left_shorter : (s held buffer used : ℕ) (octets : List ℕ) → s ≤ eos → used ≡ code_length s → used ≤ held →
    length (bits (held - used) buffer ++ bits_of octets) + 5 ≤ length (bits held buffer ++ bits_of octets)
left_shorter s held buffer used octets known e le =
    let least = code_length_least s known in
    let before = length-append (bits held buffer) (bits_of octets) in
    let after = length-append (bits (held - used) buffer) (bits_of octets) in
    let long = length-bits held buffer in
    let short = length-bits (held - used) buffer in
    omega arith

pub length-bits_of : (octets : List ℕ) → length (bits_of octets) ≡ 8 * length octets
unfolding bits_of
length-bits_of [] = refl
length-bits_of (octet ∷ octets) = length-append (bits 8 octet) (bits_of octets)
    ∙ (let one = length-bits 8 octet in let rest = length-bits_of octets in omega arith)
