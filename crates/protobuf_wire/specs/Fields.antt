-- What a message's records say of one field, by the field's kind.
use Rattle.std.specs.Prelude.{Bool, ℕ, ℤ, ◌%◌, ◌^◌, List, [], ◌∷◌, ◌++◌, map, Option, Some, None, Result, Ok, Err, nat_lt, ◌==◌, if◌then◌else◌}
use Rattle.std.specs.List.{concat, filter_map}
use Rattle.std.specs.Str.{is_utf8}
use Rattle.std.specs.Int.{w32, w64, cast_signed}
use Rattle.protobuf_wire.specs.Results.{◌>>=◌}
use Rattle.protobuf_wire.specs.Record.{Value, Number, Eight, Payload, Four, Record}
use Rattle.protobuf_wire.specs.Reading.{records_of, numbers_of}
use Rattle.protobuf_wire.specs.declared.error.MessageError.{MessageError}
use Rattle.protobuf_wire.specs.declared.error.MessageError.TheVariants.{NotUtf8}
use Rattle.protobuf_wire.specs.Answers.{of_wire}

-- the records that a text spells
unfoldable pub records_in : List ℕ → Result (List Record) MessageError
records_in text = of_wire (records_of text)

-- what a text means, where value_of says what records mean
abbrev pub value_of_text : {V : Type 0} → (List Record → Result V MessageError) → List ℕ →
    Result V MessageError
value_of_text value_of text = records_in text >>= value_of

-- ---- the contents of a field; one with another wire type is skipped, as an unknown field is

abbrev pub number_value : Value → Option ℕ
number_value (Number n) = Some n
number_value (Eight b) = None
number_value (Payload b) = None
number_value (Four b) = None

abbrev pub payload_value : Value → Option (List ℕ)
payload_value (Number n) = None
payload_value (Eight b) = None
payload_value (Payload b) = Some b
payload_value (Four b) = None

abbrev pub number_in : ℕ → Record → Option ℕ
number_in field r = if r.number == field then number_value r.value else None

abbrev pub payload_in : ℕ → Record → Option (List ℕ)
payload_in field r = if r.number == field then payload_value r.value else None

-- all of them, in order
unfoldable pub numbers : ℕ → List Record → List ℕ
numbers field rs = filter_map (number_in field) rs

unfoldable pub payloads : ℕ → List Record → List (List ℕ)
payloads field rs = filter_map (payload_in field) rs

-- ---- lists

-- the last, or the default where there is none (Encoding, "Last One Wins")
unfoldable pub last_or : {A : Type 0} → A → List A → A
last_or default [] = default
last_or default (x ∷ xs) = last_or x xs

-- what a step gives for each, in order, or the first fault
unfoldable pub each_of : {A B : Type 0} → (A → Result B MessageError) → List A →
    Result (List B) MessageError
each_of step [] = Ok []
each_of step (x ∷ xs) = step x >>= λ y. each_of step xs >>= λ ys. Ok (y ∷ ys)

-- ---- numbers

abbrev pub int64 : ℕ → List Record → ℤ
int64 field rs = cast_signed w64 (last_or 0 (numbers field rs))

-- an int32 or an enum: the low 32 bits, with a sign
abbrev pub int32_of : ℕ → ℤ
int32_of n = cast_signed w32 (n % 2 ^ 32)

abbrev pub int32 : ℕ → List Record → ℤ
int32 field rs = int32_of (last_or 0 (numbers field rs))

abbrev pub flag : ℕ → List Record → Bool
flag field rs = nat_lt 0 (last_or 0 (numbers field rs))

-- the numbers of a repeated field in one record: one by itself, or several packed (Encoding,
-- "Packed Repeated Fields")
abbrev pub value_numbers : Value → Result (List ℕ) MessageError
value_numbers (Number n) = Ok (n ∷ [])
value_numbers (Eight b) = Ok []
value_numbers (Payload b) = of_wire (numbers_of b)
value_numbers (Four b) = Ok []

abbrev pub record_numbers : ℕ → Record → Result (List ℕ) MessageError
record_numbers field r = if r.number == field then value_numbers r.value else Ok []

unfoldable pub concatenation : {A : Type 0} → List (List A) → List A
concatenation [] = []
concatenation (xs ∷ xss) = xs ++ concatenation xss

abbrev pub repeated_numbers : ℕ → List Record → Result (List ℕ) MessageError
repeated_numbers field rs = each_of (record_numbers field) rs >>= λ nss. Ok (concatenation nss)

abbrev pub repeated_enum : ℕ → List Record → Result (List ℤ) MessageError
repeated_enum field rs = repeated_numbers field rs >>= λ ns. Ok (map int32_of ns)

-- ---- bytes and strings

abbrev pub octets : ℕ → List Record → List ℕ
octets field rs = last_or [] (payloads field rs)

abbrev pub utf8 : List ℕ → Result (List ℕ) MessageError
utf8 b = if is_utf8 b then Ok b else Err NotUtf8

-- each record of a string field is UTF-8
abbrev pub repeated_string : ℕ → List Record → Result (List (List ℕ)) MessageError
repeated_string field rs = each_of utf8 (payloads field rs)

-- the bytes of each record
abbrev pub repeated_octets : ℕ → List Record → List (List ℕ)
repeated_octets field rs = payloads field rs

abbrev pub string : ℕ → List Record → Result (List ℕ) MessageError
string field rs = repeated_string field rs >>= λ texts. Ok (last_or [] texts)

-- ---- embedded messages

-- all payloads joined, where there are any
abbrev pub joined_payloads : List (List ℕ) → Option (List ℕ)
joined_payloads [] = None
joined_payloads (b ∷ bs) = Some (concat (b ∷ bs))

-- the meaning of all payloads joined, where there are any
abbrev pub joined_value : {V : Type 0} → (List Record → Result V MessageError) → List (List ℕ) →
    Result (Option V) MessageError
joined_value value_of [] = Ok None
joined_value value_of (b ∷ bs) = value_of_text value_of (concat (b ∷ bs)) >>= λ v. Ok (Some v)

-- each payload is well formed by itself (Encoding, "Last One Wins": records of one embedded message
-- are merged)
abbrev pub embedded_value : {V : Type 0} → (List Record → Result V MessageError) → ℕ → List Record →
    Result (Option V) MessageError
embedded_value value_of field rs =
    each_of records_in (payloads field rs) >>= λ _. joined_value value_of (payloads field rs)

abbrev pub repeated_values : {V : Type 0} → (List Record → Result V MessageError) → ℕ →
    List Record → Result (List V) MessageError
repeated_values value_of field rs = each_of (value_of_text value_of) (payloads field rs)

-- the bytes of an embedded message as they were sent
abbrev pub bytes_as_sent : ℕ → List Record → Option (List ℕ)
bytes_as_sent field rs = joined_payloads (payloads field rs)

-- the bytes as they were sent, where they mean a message
abbrev pub sent_bytes : {V : Type 0} → (List Record → Result V MessageError) → ℕ → List Record →
    Result (Option (List ℕ)) MessageError
sent_bytes value_of field rs = embedded_value value_of field rs >>= λ _. Ok (bytes_as_sent field rs)
