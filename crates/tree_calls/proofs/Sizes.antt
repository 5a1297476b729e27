-- How long texts are, beside what they say: what is read is no longer than its text, and what is
-- written not much longer.
use Rattle.std.proofs.Common.{◌≡◌, ℕ, ◌+◌, ◌*◌, ◌^◌, ◌<◌, ◌≤◌, Bool, true, false, cond, eqb, List, [], ◌∷◌, ◌++◌, length, Result, Ok, Err, refl, ap, ◌∙◌, arith}
use Rattle.std.specs.Int.{w64, cast_signed, cast_unsigned}
use Rattle.std.specs.List.{AllByRecursion}
use Rattle.std.proofs.lemmas.Int.{of_z-to_z}
use Rattle.std.proofs.lemmas.List.{length-append}
use Rattle.std.proofs.lemmas.List.Concat.{flat_map-cons}
use Rattle.protobuf_wire.proofs.Groups.{some_groups}
use Rattle.protobuf_wire.specs.declared.field.WireError.{WireError}
use Rattle.protobuf_wire.specs.Record.{Value, Number, Eight, Payload, Four, Record}
use Rattle.protobuf_wire.specs.Reading.{records_of}
use Rattle.protobuf_wire.specs.Spelling.{IsContent, IsRecord, Spells}
use Rattle.protobuf_wire.specs.Writing.{varint, record_text, records_text, number_field, bytes_field, message_field}
use Rattle.protobuf_wire.proofs.Texts.{spells_read, varint_is}
use Rattle.protobuf_wire.proofs.Tools.{bind_ok, ok_is}
use Rattle.protobuf_wire.specs.declared.error.MessageError.{MessageError}
use Rattle.protobuf_wire.specs.Answers.{of_wire}
use Rattle.protobuf_wire.specs.Fields.{records_in, value_of_text, payloads, numbers, last_or, each_of, utf8, string, int64}
use Rattle.protobuf_wire.proofs.FieldTexts.{text_append}

-- ---- what is read

abbrev pub payload_size : Value → ℕ
payload_size (Number n) = 0
payload_size (Eight b) = 0
payload_size (Payload b) = length b
payload_size (Four b) = 0

-- each record takes two bytes at least besides its payload
abbrev pub weight : List Record → ℕ
weight [] = 0
weight (r ∷ rs) = 2 + payload_size r.value + weight rs

abbrev pub IsNarrow : Value → Type 0
IsNarrow (Number n) = n < 2 ^ 64
IsNarrow (Eight b) = Unit {0}
IsNarrow (Payload b) = Unit {0}
IsNarrow (Four b) = Unit {0}

content_weight : (bytes : List ℕ) (v : Value) → IsContent bytes v → 1 + payload_size v ≤ length bytes
content_weight bytes (Number n) h = let some = some_groups bytes h.whole h.groups in omega arith
content_weight bytes (Eight b) h = let e = ap (length {A = ℕ}) h.1 in let eight = h.0 in omega arith
content_weight bytes (Payload b) h = let some = some_groups h.0 h.1.whole h.1.groups in let e = ap (length {A = ℕ}) h.2 in let parts =
    length-append h.0 b in omega arith
content_weight bytes (Four b) h = let e = ap (length {A = ℕ}) h.1 in let four = h.0 in omega arith

content_narrow : (bytes : List ℕ) (v : Value) → IsContent bytes v → IsNarrow v
content_narrow bytes (Number n) h = let e = h.value in omega arith
content_narrow bytes (Eight b) h = tt
content_narrow bytes (Payload b) h = tt
content_narrow bytes (Four b) h = tt

record_weight : (front : List ℕ) (r : Record) → IsRecord front r → 2 + payload_size r.value ≤ length front
record_weight front r h =
    let tag = some_groups h.tag h.tagged.whole h.tagged.groups in
    let content = content_weight h.content r.value h.filled in
    let e = ap (length {A = ℕ}) h.parts in
    let parts = length-append h.tag h.content in
    omega arith

spelled_weight : (t : List ℕ) (rs : List Record) → Spells t rs → weight rs ≤ length t
spelled_weight t [] h = omega arith
spelled_weight t (r ∷ rs) h =
    let first = record_weight h.0 r h.3 in
    let rest = spelled_weight h.1 rs h.4 in
    let e = ap (length {A = ℕ}) h.2 in
    let parts = length-append h.0 h.1 in
    omega arith

abbrev pub AllNarrow : List Record → Type 0
AllNarrow rs = AllByRecursion (λ (r : Record). IsNarrow r.value) rs

spelled_narrow : (t : List ℕ) (rs : List Record) → Spells t rs → AllNarrow rs
spelled_narrow t [] h = tt
spelled_narrow t (r ∷ rs) h = (content_narrow h.3.content r.value h.3.filled, spelled_narrow h.1 rs h.4)

lifted_ok : {A : Type 0} (r : Result A WireError) (x : A) → of_wire r ≡ Ok x → r ≡ Ok x
lifted_ok (Ok y) x h = cc
lifted_ok (Err e) x h = absurd (cc)

-- a text that was read has records that are no longer than it
pub record IsReadFrom {V : Type 0} (value_of : List Record → Result V MessageError) (t : List ℕ) (v : V) : Type 0 where
  pub records : List Record
  pub light : weight records ≤ length t
  pub narrow : AllNarrow records
  pub means : value_of records ≡ Ok v

pub read_from : {V : Type 0} (value_of : List Record → Result V MessageError) (t : List ℕ) (v : V) → value_of_text value_of t ≡ Ok v →
    IsReadFrom value_of t v
unfolding records_in
read_from value_of t v h =
    let b = bind_ok (of_wire (records_of t)) value_of v h in
    let spells = spells_read t b.0 (lifted_ok (records_of t) b.0 b.1) in
    record { records = b.0; light = spelled_weight t b.0 spells; narrow = spelled_narrow t b.0 spells; means = b.2 }

-- payloads, each with two bytes more
abbrev pub sizes : List (List ℕ) → ℕ
sizes [] = 0
sizes (p ∷ ps) = 2 + length p + sizes ps

pub payloads_weight : (field : ℕ) (rs : List Record) → sizes (payloads field rs) ≤ weight rs
unfolding payloads
payloads_weight field [] = omega arith
payloads_weight field (r ∷ rs) = go (eqb r.number field) r.value refl (payloads_weight field rs) where
  go : (b : Bool) (v : Value) → eqb r.number field ≡ b → sizes (payloads field rs) ≤ weight rs →
      sizes (payloads field (record { number = r.number; value = v } ∷ rs)) ≤ 2 + payload_size v + weight rs
  go false v is ih = rw is (omega arith)
  go true (Number n) is ih = rw is (omega arith)
  go true (Eight b) is ih = rw is (omega arith)
  go true (Payload b) is ih = rw is (omega arith)
  go true (Four b) is ih = rw is (omega arith)

pub numbers_narrow : (field : ℕ) (rs : List Record) → AllNarrow rs → AllByRecursion (λ n. n < 2 ^ 64) (numbers field rs)
unfolding numbers
numbers_narrow field [] h = tt
numbers_narrow field (r ∷ rs) h = go (eqb r.number field) r.value refl h.0 (numbers_narrow field rs h.1) where
  go : (b : Bool) (v : Value) → eqb r.number field ≡ b → IsNarrow v → AllByRecursion (λ n. n < 2 ^ 64) (numbers field rs) →
      AllByRecursion (λ n. n < 2 ^ 64) (numbers field (record { number = r.number; value = v } ∷ rs))
  go false v is one ih = rw is ih
  go true (Number n) is one ih = rw is (one, ih)
  go true (Eight b) is one ih = rw is ih
  go true (Payload b) is one ih = rw is ih
  go true (Four b) is one ih = rw is ih

last_narrow : (default : ℕ) (ns : List ℕ) → default < 2 ^ 64 → AllByRecursion (λ n. n < 2 ^ 64) ns → last_or default ns < 2 ^ 64
unfolding last_or
last_narrow default [] d h = d
last_narrow default (n ∷ ns) d h = last_narrow n ns h.0 h.1

-- a number that was read can be written
pub int64_narrow : (field : ℕ) (rs : List Record) → AllNarrow rs → cast_unsigned w64 (int64 field rs) < 2 ^ 64
int64_narrow field rs h =
    let x = last_narrow 0 (numbers field rs) (omega arith) (numbers_narrow field rs h) in
    rw (of_z-to_z w64 (last_or 0 (numbers field rs)) x) x

last_size : (default : List ℕ) (ps : List (List ℕ)) → length (last_or default ps) ≤ length default + sizes ps
unfolding last_or
last_size default [] = omega arith
last_size default (p ∷ ps) = let ih = last_size p ps in omega arith

utf8_ok : (b t : List ℕ) → utf8 b ≡ Ok t → t ≡ b
utf8_ok b t h = go (Rattle.std.specs.Str.is_utf8 b) h where
  go : (c : Bool) → cond c (Ok b) (Err Rattle.protobuf_wire.specs.declared.error.MessageError.TheVariants.NotUtf8) ≡ Ok t → t ≡ b
  go true h = cc
  go false h = absurd (cc)

texts_size : (ps ts : List (List ℕ)) → each_of utf8 ps ≡ Ok ts → sizes ts ≤ sizes ps
unfolding each_of
texts_size [] ts h = let e : [] ≡ ts = ok_is [] ts h in rw (← e) (omega arith)
texts_size (p ∷ ps) ts h =
    let first = bind_ok (utf8 p) _ ts h in
    let rest = bind_ok (each_of utf8 ps) _ ts first.2 in
    let ih = texts_size ps rest.0 rest.1 in
    let e = ok_is (first.0 ∷ rest.0) ts rest.2 in
    let same = ap (length {A = ℕ}) (utf8_ok p first.0 first.1) in
    rw (← e) (omega arith)

-- a string is no longer than the records that it was read from
pub string_size : (field : ℕ) (rs : List Record) (t : List ℕ) → string field rs ≡ Ok t → length t ≤ weight rs
string_size field rs t h =
    let b = bind_ok (each_of utf8 (payloads field rs)) _ t h in
    let e = ok_is (last_or [] b.0) t b.2 in
    let whole = payloads_weight field rs in
    let texts = texts_size (payloads field rs) b.0 b.1 in
    let last = last_size [] b.0 in
    rw (← e) (omega arith)

-- ---- what is written

one_record : (r : Record) → length (records_text (r ∷ [])) ≡ length (record_text r)
one_record r = let e = ap (length {A = ℕ}) (flat_map-cons record_text r []) in let parts =
    length-append (record_text r) (records_text []) in omega arith

pub message_written : (field : ℕ) (b : List ℕ) → field < 2 ^ 29 → length b < 2 ^ 64 →
    length (records_text (message_field field b)) ≤ 20 + length b
message_written field b small fits =
    let tag = (varint_is (8 * field + 2) (omega arith)).short in
    let len = (varint_is (length b) fits).short in
    let whole = one_record (record { number = field; value = Payload b }) in
    let parts = length-append (varint (8 * field + 2)) (varint (length b) ++ b) in
    let inside = length-append (varint (length b)) b in
    omega arith

pub bytes_written : (field : ℕ) (b : List ℕ) → field < 2 ^ 29 → length b < 2 ^ 64 →
    length (records_text (bytes_field field b)) ≤ 20 + length b
bytes_written field b small fits = go (eqb (length b) 0) where
  go : (c : Bool) → length (records_text (cond c [] (message_field field b))) ≤ 20 + length b
  go true = omega arith
  go false = message_written field b small fits

pub number_written : (field n : ℕ) → field < 2 ^ 29 → n < 2 ^ 64 → length (records_text (number_field field n)) ≤ 20
number_written field n small fits = go (eqb n 0) where
  go : (c : Bool) → length (records_text (cond c [] (record { number = field; value = Number n } ∷ []))) ≤ 20
  go true = omega arith
  go false =
      let tag = (varint_is (8 * field + 0) (omega arith)).short in
      let len = (varint_is n fits).short in
      let whole = one_record (record { number = field; value = Number n }) in
      let parts = length-append (varint (8 * field + 0)) (varint n) in
      omega arith

pub both_written : (a b : List Record) → length (records_text (a ++ b)) ≡ length (records_text a) + length (records_text b)
both_written a b = ap (length {A = ℕ}) (text_append a b) ∙ length-append (records_text a) (records_text b)
