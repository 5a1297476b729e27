-- What the reading of one representation can be refused for.
use Rattle.std.proofs.Common.{◌≡◌, ℕ, ◌-◌, ◌+◌, ◌*◌, ◌^◌, Bool, true, false, cond, ltb, leb, eqb, List, [], ◌∷◌, length, take, drop, Option, Some, None, Result, Ok, Err, subst}
use Rattle.hpack_huffman.specs.declared.HuffmanError.{HuffmanError}
use Rattle.hpack_huffman.specs.Reading.{text_of_octets}
use Rattle.hpack.specs.declared.error.HpackError.{HpackError}
use Rattle.hpack.specs.declared.error.HpackError.TheVariants.{Integer, String as TooShort, SizeUpdate, ListTooLarge, NoMemory, Failed}
use Rattle.hpack.specs.Results.{◌>>=◌}
use Rattle.hpack.specs.Integer.{below_limit, groups_at, integer_at}
use Rattle.hpack.specs.StringLiteral.{octets_at, expansion, expansion_of, string_at}
use Rattle.hpack.specs.Table.{Table, largest_table, header_at}
use Rattle.hpack.specs.Representation.{entry_or_fault, name_at, literal_at, indexed_at, field_at}
use Rattle.hpack.specs.Block.{update_at}
use Rattle.hpack.proofs.Continuations.{finished, entry_name, with_value, entry_of, kept, added, refused, checked}

-- a fault of one representation, not of the list
abbrev pub IsPlainFault : HpackError → Type 0
IsPlainFault ListTooLarge = ⊥
IsPlainFault NoMemory = ⊥
IsPlainFault Failed = ⊥
IsPlainFault e = Unit {0}

abbrev pub Sound : {A : Type 0} → Result A HpackError → Type 0
Sound (Ok x) = Unit {0}
Sound (Err e) = IsPlainFault e

pub sound_fault : {A : Type 0} (r : Result A HpackError) (e : HpackError) → Sound r → r ≡ Err e → IsPlainFault e
sound_fault {A} r e s h = let P : Result A HpackError → Type 0 = λ x. Sound x in subst P h s

bind : {A B : Type 0} (r : Result A HpackError) (f : A → Result B HpackError) → Sound r → ((x : A) → Sound (f x)) → Sound (r >>= f)
bind (Ok x) f s g = g x
bind (Err e) f s g = s

either : {A : Type 0} (b : Bool) (x y : Result A HpackError) → Sound x → Sound y → Sound (cond b x y)
either true x y p q = p
either false x y p q = q

limit_sound : (n : ℕ) (rest : List ℕ) → Sound (below_limit n rest)
limit_sound n rest = either (ltb n (2 ^ 32)) (Ok (n, rest)) (Err Integer) tt tt

groups_sound : (left : ℕ) (bytes : List ℕ) → Sound (groups_at left bytes)
unfolding groups_at
groups_sound left [] = tt
groups_sound left (b ∷ bs) =
    either (ltb b 128) (Ok (b, bs)) (cond (leb left 1) (Err Integer)
    (groups_at (left - 1) bs >>= λ high. below_limit (128 * high.0 + (b - 128)) high.1)) tt
    (either (leb left 1) (Err Integer) (groups_at (left - 1) bs >>= λ high. below_limit (128 * high.0 + (b - 128)) high.1) tt
    (bind (groups_at (left - 1) bs) (λ high. below_limit (128 * high.0 + (b - 128)) high.1) (groups_sound (left - 1) bs)
    (λ high. limit_sound (128 * high.0 + (b - 128)) high.1)))

integer_sound : (full prefix : ℕ) (bytes : List ℕ) → Sound (integer_at full prefix bytes)
unfolding integer_at
integer_sound full prefix bytes =
    either (ltb prefix full) (Ok (prefix, bytes))
    (cond (ltb full prefix) (Err Integer) (groups_at 5 bytes >>= λ beyond. below_limit (full + beyond.0) beyond.1)) tt
    (either (ltb full prefix) (Err Integer) (groups_at 5 bytes >>= λ beyond. below_limit (full + beyond.0) beyond.1) tt
    (bind (groups_at 5 bytes) (λ beyond. below_limit (full + beyond.0) beyond.1) (groups_sound 5 bytes)
    (λ beyond. limit_sound (full + beyond.0) beyond.1)))

octets_sound : (count : ℕ) (bytes : List ℕ) → Sound (octets_at count bytes)
octets_sound count bytes = either (ltb (length bytes) count) (Err TooShort) (Ok (take count bytes, drop count bytes)) tt tt

expanded_sound : (r : Result (List ℕ) HuffmanError) → Sound (expansion_of r)
expanded_sound (Ok text) = tt
expanded_sound (Err e) = tt

string_sound : (bytes : List ℕ) → Sound (string_at bytes)
unfolding string_at
string_sound [] = tt
string_sound (b ∷ bs) =
    either (ltb b 128) (integer_at 127 b bs >>= λ n. octets_at n.0 n.1)
    (integer_at 127 (b - 128) bs >>= λ n. octets_at n.0 n.1 >>= finished)
    (bind (integer_at 127 b bs) (λ n. octets_at n.0 n.1) (integer_sound 127 b bs) (λ n. octets_sound n.0 n.1))
    (bind (integer_at 127 (b - 128) bs) (λ n. octets_at n.0 n.1 >>= finished) (integer_sound 127 (b - 128) bs)
    (λ n. bind (octets_at n.0 n.1) finished (octets_sound n.0 n.1)
    (λ s. bind (expansion s.0) (λ text. Ok (text, s.1)) (expanded_sound (text_of_octets s.0)) (λ text. tt))))

there_sound : {A : Type 0} (o : Option A) → Sound (entry_or_fault o)
there_sound None = tt
there_sound (Some x) = tt

name_sound : (table : Table) (full prefix : ℕ) (bytes : List ℕ) → Sound (name_at table full prefix bytes)
unfolding name_at
name_sound table full prefix bytes =
    bind (integer_at full prefix bytes) (λ i. cond (eqb i.0 0) (string_at i.1) (entry_name table i)) (integer_sound full prefix bytes)
    (λ i. either (eqb i.0 0) (string_at i.1) (entry_name table i) (string_sound i.1)
    (bind (entry_or_fault (header_at table i.0)) (λ entry. Ok (entry.name, i.1)) (there_sound (header_at table i.0)) (λ entry. tt)))

literal_sound : (table : Table) (full prefix : ℕ) (bytes : List ℕ) → Sound (literal_at table full prefix bytes)
unfolding literal_at
literal_sound table full prefix bytes =
    bind (name_at table full prefix bytes) with_value (name_sound table full prefix bytes)
    (λ name. bind (string_at name.1) (λ value. Ok (record { name = name.0; value = value.0 }, value.1)) (string_sound name.1) (λ value. tt))

indexed_sound : (table : Table) (prefix : ℕ) (bytes : List ℕ) → Sound (indexed_at table prefix bytes)
unfolding indexed_at
indexed_sound table prefix bytes =
    bind (integer_at 127 prefix bytes) (entry_of table) (integer_sound 127 prefix bytes)
    (λ i. bind (entry_or_fault (header_at table i.0)) (λ entry. Ok (entry, i.1)) (there_sound (header_at table i.0)) (λ entry. tt))

pub field_sound : (table : Table) (bytes : List ℕ) → Sound (field_at table bytes)
unfolding field_at
field_sound table [] = tt
field_sound table (b ∷ bs) =
    let indexed = bind (indexed_at table (b - 128) bs) (kept table) (indexed_sound table (b - 128) bs) (λ x. tt) in
    let incremental = bind (literal_at table 63 (b - 64) bs) (added table) (literal_sound table 63 (b - 64) bs) (λ x. tt) in
    let update = bind (integer_at 31 (b - 32) bs) refused (integer_sound 31 (b - 32) bs) (λ x. tt) in
    let never = bind (literal_at table 15 (b - 16) bs) (kept table) (literal_sound table 15 (b - 16) bs) (λ x. tt) in
    let without = bind (literal_at table 15 b bs) (kept table) (literal_sound table 15 b bs) (λ x. tt) in
    either (ltb b 16) (literal_at table 15 b bs >>= kept table)
    (cond (ltb b 32) (literal_at table 15 (b - 16) bs >>= kept table)
    (cond (ltb b 64) (integer_at 31 (b - 32) bs >>= refused)
    (cond (ltb b 128) (literal_at table 63 (b - 64) bs >>= added table) (indexed_at table (b - 128) bs >>= kept table)))) without
    (either (ltb b 32) (literal_at table 15 (b - 16) bs >>= kept table)
    (cond (ltb b 64) (integer_at 31 (b - 32) bs >>= refused)
    (cond (ltb b 128) (literal_at table 63 (b - 64) bs >>= added table) (indexed_at table (b - 128) bs >>= kept table))) never
    (either (ltb b 64) (integer_at 31 (b - 32) bs >>= refused)
    (cond (ltb b 128) (literal_at table 63 (b - 64) bs >>= added table) (indexed_at table (b - 128) bs >>= kept table)) update
    (either (ltb b 128) (literal_at table 63 (b - 64) bs >>= added table)
    (indexed_at table (b - 128) bs >>= kept table) incremental indexed)))

pub update_sound : (bytes : List ℕ) → Sound (update_at bytes)
update_sound [] = tt
update_sound (b ∷ bs) = bind (integer_at 31 (b - 32) bs) checked (integer_sound 31 (b - 32) bs)
    (λ m. either (ltb largest_table m.0) (Err SizeUpdate) (Ok m) tt tt)
