-- What is written of a field is read again, whatever other fields stand beside it.
use Rattle.std.proofs.Common.{◌≡◌, ℕ, ℤ, pos, negsuc, ◌%◌, ◌^◌, ◌<◌, Bool, true, false, cond, eqb, ltb, List, [], ◌∷◌, length, map, Option, Some, None, Result, Ok, Err, refl, sym, ap, ◌∙◌, FitsSigned, arith}
use Rattle.std.specs.Prelude.{IfSome, IsOk}
use Rattle.std.specs.List.{AllByRecursion}
use Rattle.std.specs.Int.{w32, w64, cast_signed, cast_unsigned}
use Rattle.std.specs.Str.{is_utf8}
use Rattle.std.proofs.lemmas.Bool.{eqb-true, eq-eqb}
use Rattle.std.proofs.lemmas.List.{nil_from_length, append-nil}
use Rattle.std.proofs.lemmas.Int.{to_z-of_z, ints}
use Rattle.std.proofs.Math.Facts.{Fits-of_z}
use Rattle.protobuf_wire.specs.Results.{◌>>=◌}
use Rattle.protobuf_wire.specs.Record.{Number, Record}
use Rattle.protobuf_wire.specs.Reading.{items_in, numbers_of}
use Rattle.protobuf_wire.specs.Writing.{packed_text, number_field, bytes_field, message_field, packed_field}
use Rattle.protobuf_wire.proofs.Tools.{bind_ok}
use Rattle.protobuf_wire.proofs.Texts.{numbers_spelled, packed_spells}
use Rattle.protobuf_wire.specs.declared.error.MessageError.{MessageError}
use Rattle.protobuf_wire.specs.Answers.{of_wire}
use Rattle.protobuf_wire.specs.Fields.{records_in, value_of_text, numbers, payloads, last_or, each_of, int64, int32, int32_of, flag, octets, utf8, string, repeated_string, repeated_numbers, repeated_enum, concatenation, embedded_value, repeated_values, repeated_octets, sent_bytes}
use Rattle.protobuf_wire.specs.Parts.{text_for, int64_field, int32_field, flag_field, string_field, repeated_enum_field, each_field, repeated_string_field, embedded_field, repeated_field, repeated_octets_field, sent_field}
use Rattle.protobuf_wire.specs.Again.{HasField, IsReadAgain}
use Rattle.protobuf_wire.proofs.Places.{numbers_in_part, payloads_in_part, repeated_numbers_in_part}

same : (field : ℕ) → eqb field field ≡ true
same field = eq-eqb field field refl

-- ---- numbers

number_alone : (field n : ℕ) → last_or 0 (numbers field (number_field field n)) ≡ n
unfolding numbers last_or
number_alone field n = go (eqb n 0) refl where
  go : (b : Bool) → eqb n 0 ≡ b → last_or 0 (numbers field (cond b [] (record { number = field; value = Number n } ∷ []))) ≡ n
  go true h = sym (eqb-true n 0 h)
  go false h = rw (same field) refl

pub number_again : (field n : ℕ) (rs : List Record) → HasField field (number_field field n) rs → last_or 0 (numbers field rs) ≡ n
number_again field n rs h = ap (last_or 0) (numbers_in_part field (number_field field n) rs h) ∙ number_alone field n

pub int64_again : (field : ℕ) (z : ℤ) (rs : List Record) → FitsSigned w64 z → HasField field (int64_field field z) rs → int64 field rs ≡ z
int64_again field z rs fits h = ap (cast_signed w64) (number_again field (cast_unsigned w64 z) rs h) ∙ to_z-of_z w64 z fits

-- ten bytes of a 32-bit number give it back
low_half : (z : ℤ) → FitsSigned w32 z → cast_unsigned w64 z % 2 ^ 32 ≡ cast_unsigned w32 z
low_half (pos n) h = let f = (Fits-of_z {w = w32} h).fits in omega arith
low_half (negsuc n) h = let f = (Fits-of_z {w = w32} h).fits in omega (arith, ints)

int32_value : (z : ℤ) → FitsSigned w32 z → int32_of (cast_unsigned w64 z) ≡ z
int32_value z h = rw (low_half z h) (to_z-of_z w32 z h)

pub int32_again : (field : ℕ) (z : ℤ) (rs : List Record) → FitsSigned w32 z → HasField field (int32_field field z) rs → int32 field rs ≡ z
int32_again field z rs fits h = ap int32_of (number_again field (cast_unsigned w64 z) rs h) ∙ int32_value z fits

flag_value : (b : Bool) → ltb 0 (cond b 1 0) ≡ b
flag_value true = refl
flag_value false = refl

pub flag_again : (field : ℕ) (b : Bool) (rs : List Record) → HasField field (flag_field field b) rs → flag field rs ≡ b
flag_again field b rs h = ap (ltb 0) (number_again field (cond b 1 0) rs h) ∙ flag_value b

-- ---- bytes and strings

payload_alone : (field : ℕ) (t : List ℕ) → payloads field (message_field field t) ≡ t ∷ []
unfolding payloads
payload_alone field t = rw (same field) refl

octets_alone : (field : ℕ) (t : List ℕ) → last_or [] (payloads field (bytes_field field t)) ≡ t
unfolding payloads last_or
octets_alone field t = go (eqb (length t) 0) refl where
  go : (b : Bool) → eqb (length t) 0 ≡ b → last_or [] (payloads field (cond b [] (message_field field t))) ≡ t
  go true h = sym (nil_from_length t (eqb-true _ _ h))
  go false h = ap (last_or []) (payload_alone field t)

pub octets_again : (field : ℕ) (t : List ℕ) (rs : List Record) → HasField field (bytes_field field t) rs → octets field rs ≡ t
octets_again field t rs h = ap (last_or []) (payloads_in_part field (bytes_field field t) rs h) ∙ octets_alone field t

-- the last of the payloads, each of which is UTF-8
abbrev string_in : List (List ℕ) → Result (List ℕ) MessageError
string_in bs = each_of utf8 bs >>= λ texts. Ok (last_or [] texts)

string_alone : (field : ℕ) (t : List ℕ) → is_utf8 t ≡ true → string_in (payloads field (bytes_field field t)) ≡ Ok t
unfolding payloads last_or each_of
string_alone field t ok = go (eqb (length t) 0) refl where
  go : (b : Bool) → eqb (length t) 0 ≡ b → string_in (payloads field (cond b [] (message_field field t))) ≡ Ok t
  go true h = ap (λ (x : List ℕ). Ok x) (sym (nil_from_length t (eqb-true _ _ h)))
  go false h = rw (payload_alone field t, ok) refl

pub string_again : (field : ℕ) (t : List ℕ) (rs : List Record) → is_utf8 t ≡ true → HasField field (string_field field t) rs →
    string field rs ≡ Ok t
string_again field t rs ok h = ap string_in (payloads_in_part field (bytes_field field t) rs h) ∙ string_alone field t ok

each_alone : (field : ℕ) (ts : List (List ℕ)) → payloads field (each_field field ts) ≡ ts
unfolding payloads
each_alone field [] = refl
each_alone field (t ∷ ts) = rw (same field, each_alone field ts) refl

all_utf8 : (ts : List (List ℕ)) → AllByRecursion (λ t. is_utf8 t ≡ true) ts → each_of utf8 ts ≡ Ok ts
unfolding each_of
all_utf8 [] h = refl
all_utf8 (t ∷ ts) h = rw (h.0, all_utf8 ts h.1) refl

pub repeated_string_again : (field : ℕ) (ts : List (List ℕ)) (rs : List Record) → AllByRecursion (λ t. is_utf8 t ≡ true) ts →
    HasField field (repeated_string_field field ts) rs → repeated_string field rs ≡ Ok ts
repeated_string_again field ts rs ok h = ap (each_of utf8) (payloads_in_part field (each_field field ts) rs h ∙ each_alone field ts)
    ∙ all_utf8 ts ok

pub repeated_octets_again : (field : ℕ) (ts : List (List ℕ)) (rs : List Record) → HasField field (repeated_octets_field field ts) rs →
    repeated_octets field rs ≡ ts
repeated_octets_again field ts rs h = payloads_in_part field (each_field field ts) rs h ∙ each_alone field ts

-- ---- repeated enums

packed_alone : (field : ℕ) (ns : List ℕ) → numbers_of (packed_text ns) ≡ Ok ns → repeated_numbers field (packed_field field ns) ≡ Ok ns
unfolding each_of concatenation items_in
packed_alone field ns payload = go (eqb (length (packed_text ns)) 0) refl where
  go : (b : Bool) → eqb (length (packed_text ns)) 0 ≡ b → repeated_numbers field (cond b [] (message_field field (packed_text ns))) ≡ Ok ns
  go true h = ap (λ (t : List ℕ). of_wire (numbers_of t)) (sym (nil_from_length (packed_text ns) (eqb-true _ _ h)))
      ∙ ap (λ r. of_wire r) payload
  go false h = rw (same field, payload, append-nil ns) refl

pub int32_below : (z : ℤ) → FitsSigned w32 z → cast_unsigned w64 z < 2 ^ 64
int32_below (pos n) h = let f = (Fits-of_z {w = w32} h).fits in omega arith
int32_below (negsuc n) h = let f = (Fits-of_z {w = w32} h).fits in omega (arith, ints)

all_below : (zs : List ℤ) → AllByRecursion (FitsSigned w32) zs → AllByRecursion (λ n. n < 2 ^ 64) (map (cast_unsigned w64) zs)
all_below [] h = tt
all_below (z ∷ zs) h = (int32_below z h.0, all_below zs h.1)

int32_values : (zs : List ℤ) → AllByRecursion (FitsSigned w32) zs → map int32_of (map (cast_unsigned w64) zs) ≡ zs
int32_values [] h = refl
int32_values (z ∷ zs) h = rw (int32_value z h.0, int32_values zs h.1) refl

pub repeated_enum_again : (field : ℕ) (zs : List ℤ) (rs : List Record) → AllByRecursion (FitsSigned w32) zs →
    HasField field (repeated_enum_field field zs) rs → repeated_enum field rs ≡ Ok zs
repeated_enum_again field zs rs fit h =
    let ns : List ℕ = map (cast_unsigned w64) zs in
    let payload : numbers_of (packed_text ns) ≡ Ok ns = numbers_spelled (packed_text ns) ns (packed_spells ns (all_below zs fit)) in
    let found : repeated_numbers field rs ≡ Ok ns =
    repeated_numbers_in_part field (packed_field field ns) rs h ∙ packed_alone field ns payload in
    rw (found, int32_values zs fit) refl

-- ---- embedded messages

module _ {V : Type 0} (value_of : List Record → Result V MessageError) (records_for : V → List Record) where
  well_formed : (v : V) → IsReadAgain value_of records_for v → (rs : List Record) × (records_in (text_for records_for v) ≡ Ok rs)
  well_formed v again = let found = bind_ok (records_in (text_for records_for v)) value_of v again in (found.0, found.1)

  pub embedded_again : (field : ℕ) (v : V) (rs : List Record) → IsReadAgain value_of records_for v →
      HasField field (embedded_field records_for field (Some v)) rs → embedded_value value_of field rs ≡ Ok (Some v)
  unfolding each_of
  embedded_again field v rs again h =
      let t : List ℕ = text_for records_for v in
      let payload : payloads field rs ≡ t ∷ [] = payloads_in_part field (message_field field t) rs h ∙ payload_alone field t in
      let formed = well_formed v again in
      rw (payload, formed.1, append-nil t, again) refl

  pub absent_again : (field : ℕ) (rs : List Record) → HasField field (embedded_field records_for field None) rs →
      embedded_value value_of field rs ≡ Ok None
  unfolding each_of payloads
  absent_again field rs h = rw (payloads_in_part field [] rs h) refl

  values_again : (vs : List V) → AllByRecursion (IsReadAgain value_of records_for) vs →
      each_of (value_of_text value_of) (map (text_for records_for) vs) ≡ Ok vs
  unfolding each_of
  values_again [] h = refl
  values_again (v ∷ vs) h = rw (h.0, values_again vs h.1) refl

  pub repeated_again : (field : ℕ) (vs : List V) (rs : List Record) → AllByRecursion (IsReadAgain value_of records_for) vs →
      HasField field (repeated_field records_for field vs) rs → repeated_values value_of field rs ≡ Ok vs
  repeated_again field vs rs again h =
      let ts : List (List ℕ) = map (text_for records_for) vs in
      ap (each_of (value_of_text value_of)) (payloads_in_part field (each_field field ts) rs h ∙ each_alone field ts)
      ∙ values_again vs again

-- ---- messages as they were sent

value_there : {A E : Type 0} (r : Result A E) → IsOk r → (x : A) × (r ≡ Ok x)
value_there (Ok x) h = (x, refl)
value_there (Err e) h = absurd cc

module _ {V : Type 0} (value_of : List Record → Result V MessageError) where
  pub sent_again : (field : ℕ) (o : Option (List ℕ)) (rs : List Record) → IfSome o (λ t. IsOk (value_of_text value_of t)) →
      HasField field (sent_field field o) rs → sent_bytes value_of field rs ≡ Ok o
  unfolding each_of payloads
  sent_again field None rs fit h = rw (payloads_in_part field [] rs h) refl
  sent_again field (Some t) rs fit h =
      let meant = value_there (value_of_text value_of t) fit in
      let formed = bind_ok (records_in t) value_of meant.0 meant.1 in
      let payload : payloads field rs ≡ t ∷ [] = payloads_in_part field (message_field field t) rs h ∙ payload_alone field t in
      rw (payload, formed.1, append-nil t, meant.1) refl
