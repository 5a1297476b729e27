-- A text that fits in memory has payloads that do.
use Rattle.std.proofs.Common.{◌≡◌, ℕ, ℤ, ◌+◌, ◌*◌, ◌^◌, ◌<◌, Bool, true, false, cond, eqb, List, [], ◌∷◌, ◌++◌, length, Option, Some, None, Ok, refl, ap, arith, FitsSigned}
use Rattle.std.specs.List.{AllByRecursion}
use Rattle.std.specs.Int.{w32, w64, cast_unsigned}
use Rattle.std.proofs.Math.Facts.{Fits-of_z}
use Rattle.std.proofs.lemmas.List.{length-append}
use Rattle.std.proofs.lemmas.List.Concat.{flat_map-cons}
use Rattle.protobuf_wire.specs.Record.{Value, Number, Eight, Payload, Four, Record}
use Rattle.protobuf_wire.specs.Spelling.{wire_type}
use Rattle.protobuf_wire.specs.Writing.{varint, content_text, record_text, records_text, number_field, bytes_field, message_field, FitsContent, IsWritable}
use Rattle.protobuf_wire.proofs.Texts.{reads_spelled, text_spells}
use Rattle.protobuf_wire.specs.Fields.{records_in}
use Rattle.protobuf_wire.specs.Parts.{text_for, each_field, embedded_field, repeated_field, int64_field, int32_field, flag_field, sent_field}
use Rattle.protobuf_wire.proofs.FieldTexts.{text_append}
use Rattle.protobuf_wire.proofs.ReadAgain.{int32_below}

-- what a record needs besides a length that fits
abbrev pub HasContent : Value → Type 0
HasContent (Number n) = n < 2 ^ 64
HasContent (Eight bytes) = length bytes ≡ 8
HasContent (Payload bytes) = Unit {0}
HasContent (Four bytes) = length bytes ≡ 4

pub record IsNumbered (r : Record) : Type 0 where
  pub positive : 0 < r.number
  pub small : r.number < 2 ^ 29
  pub content : HasContent r.value

content_shorter : (v : Value) → HasContent v → length (content_text v) < 2 ^ 64 → FitsContent v
content_shorter (Number n) h short = h
content_shorter (Eight b) h short = h
content_shorter (Payload b) h short = let e = length-append (varint (length b)) b in omega arith
content_shorter (Four b) h short = h

pub all_writable : (rs : List Record) → AllByRecursion IsNumbered rs → length (records_text rs) < 2 ^ 64 → AllByRecursion IsWritable rs
all_writable [] h short = tt
all_writable (r ∷ rs) h short =
    let whole = ap (length {A = ℕ}) (flat_map-cons record_text r rs) in
    let parts = length-append (record_text r) (records_text rs) in
    let tagged = length-append (varint (8 * r.number + wire_type r.value)) (content_text r.value) in (
      record { positive = h.0.positive; small = h.0.small; value = content_shorter r.value h.0.content (omega arith) },
      all_writable rs h.1
          (omega arith),
    )

-- what is written is read again as the same records
pub parsed_again : (rs : List Record) → AllByRecursion IsNumbered rs → length (records_text rs) < 2 ^ 64 →
    records_in (records_text rs) ≡ Ok rs
unfolding records_in
parsed_again rs h short = rw (reads_spelled (records_text rs) rs (text_spells rs (all_writable rs h short))) refl

pub first_shorter : (a b : List Record) → length (records_text (a ++ b)) < 2 ^ 64 → length (records_text a) < 2 ^ 64
first_shorter a b short = let e = ap (length {A = ℕ}) (text_append a b) in let parts = length-append (records_text a) (records_text b) in
    omega arith

pub second_shorter : (a b : List Record) → length (records_text (a ++ b)) < 2 ^ 64 → length (records_text b) < 2 ^ 64
second_shorter a b short = let e = ap (length {A = ℕ}) (text_append a b) in let parts = length-append (records_text a) (records_text b) in
    omega arith

-- ---- what each kind of field is written as

pub numbered_both : (a b : List Record) → AllByRecursion IsNumbered a → AllByRecursion IsNumbered b → AllByRecursion IsNumbered (a ++ b)
numbered_both [] b h g = g
numbered_both (r ∷ a) b h g = (h.0, numbered_both a b h.1 g)

-- a record of the field
pub record IsOf (field : ℕ) (r : Record) : Type 0 where
  pub number : r.number ≡ field
  pub content : HasContent r.value

abbrev pub AreOf : ℕ → List Record → Type 0
AreOf field rs = AllByRecursion (IsOf field) rs

module _ (field : ℕ) where
  message_of : (t : List ℕ) → AreOf field (message_field field t)
  message_of t = (record { number = refl; content = tt }, tt)

  number_of : (n : ℕ) → n < 2 ^ 64 → AreOf field (number_field field n)
  number_of n fits = go (eqb n 0) where
    go : (b : Bool) → AreOf field (cond b [] (record { number = field; value = Number n } ∷ []))
    go true = tt
    go false = (record { number = refl; content = fits }, tt)

  pub int64_of : (z : ℤ) → FitsSigned w64 z → AreOf field (int64_field field z)
  int64_of z fits = number_of (cast_unsigned w64 z) (Fits-of_z fits).fits

  pub int32_of : (z : ℤ) → FitsSigned w32 z → AreOf field (int32_field field z)
  int32_of z fits = number_of (cast_unsigned w64 z) (int32_below z fits)

  pub flag_of : (b : Bool) → AreOf field (flag_field field b)
  flag_of true = number_of 1 (omega arith)
  flag_of false = number_of 0 (omega arith)

  pub bytes_of : (t : List ℕ) → AreOf field (bytes_field field t)
  bytes_of t = go (eqb (length t) 0) where
    go : (b : Bool) → AreOf field (cond b [] (message_field field t))
    go true = tt
    go false = message_of t

  pub each_of : (ts : List (List ℕ)) → AreOf field (each_field field ts)
  each_of [] = tt
  each_of (t ∷ ts) = (record { number = refl; content = tt }, each_of ts)

  pub embedded_of : {V : Type 0} (records_for : V → List Record) (o : Option V) → AreOf field (embedded_field records_for field o)
  embedded_of records_for None = tt
  embedded_of records_for (Some v) = message_of (text_for records_for v)

  pub sent_of : (o : Option (List ℕ)) → AreOf field (sent_field field o)
  sent_of None = tt
  sent_of (Some t) = message_of t

-- ---- embedded texts are no longer than the text that they stand in

pub payload_shorter : (field : ℕ) (t : List ℕ) → length (records_text (message_field field t)) < 2 ^ 64 → length t < 2 ^ 64
payload_shorter field t short =
    let whole = ap (length {A = ℕ}) (flat_map-cons record_text (record { number = field; value = Payload t }) []) in
    let nothing = length-append (record_text (record { number = field; value = Payload t })) (records_text []) in
    let tagged = length-append (varint (8 * field + 2)) (varint (length t) ++ t) in
    let inside = length-append (varint (length t)) t in
    omega arith

pub payloads_shorter : {V : Type 0} (records_for : V → List Record) (field : ℕ) (vs : List V) →
    length (records_text (repeated_field records_for field vs)) < 2 ^ 64 → AllByRecursion (λ v. length (text_for records_for v) < 2 ^ 64) vs
payloads_shorter records_for field [] short = tt
payloads_shorter records_for field (v ∷ vs) short =
    let t : List ℕ = text_for records_for v in
    let first = first_shorter (message_field field t) (repeated_field records_for field vs) short in
    let rest = second_shorter (message_field field t) (repeated_field records_for field vs) short in
    (payload_shorter field t first, payloads_shorter records_for field vs rest)
