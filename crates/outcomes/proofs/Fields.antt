-- How long fields are whose numbers are below 15: their tags have one byte.
use Rattle.std.proofs.Common.{◌≡◌, ℕ, ◌+◌, ◌*◌, ◌^◌, ◌<◌, ◌≤◌, Bool, true, false, cond, eqb, List, [], ◌∷◌, ◌++◌, length, ap, arith}
use Rattle.std.proofs.lemmas.List.{length-append}
use Rattle.std.proofs.lemmas.List.Concat.{flat_map-cons}
use Rattle.protobuf_wire.specs.Record.{Number, Payload, Record}
use Rattle.protobuf_wire.specs.Writing.{varint, record_text, records_text, number_field, bytes_field, message_field}
use Rattle.protobuf_wire.specs.Parts.{each_field, flag_field}
use Rattle.protobuf_wire.proofs.Groups.{groups_few, groups_small}
use Rattle.protobuf_wire.proofs.Texts.{varint_is}
use Rattle.tree_calls.proofs.Sizes.{both_written}

small : (n : ℕ) → n < 128 → length (varint n) ≡ 1
small n lt = ap (length {A = ℕ}) (groups_small n lt)

one_record : (r : Record) → length (records_text (r ∷ [])) ≡ length (record_text r)
one_record r = let e = ap (length {A = ℕ}) (flat_map-cons record_text r []) in let parts =
    length-append (record_text r) (records_text []) in omega arith

payload_is : (field : ℕ) (b : List ℕ) → field < 15 →
    length (records_text (message_field field b)) ≡ 1 + length (varint (length b)) + length b
payload_is field b few =
    let tag = small (8 * field + 2) (omega arith) in
    let whole = one_record (record { number = field; value = Payload b }) in
    let parts = length-append (varint (8 * field + 2)) (varint (length b) ++ b) in
    let inside = length-append (varint (length b)) b in
    omega arith

pub payload_written : (field : ℕ) (b : List ℕ) → field < 15 → length b < 2 ^ 64 →
    length (records_text (message_field field b)) ≤ 11 + length b
payload_written field b few fits =
    let whole = payload_is field b few in
    let size = (varint_is (length b) fits).short in
    omega arith

pub few_written : (field : ℕ) (b : List ℕ) → field < 15 → length b < 128 → length (records_text (message_field field b)) ≡ 2 + length b
few_written field b few fits =
    let whole = payload_is field b few in
    let size = small (length b) fits in
    omega arith

-- its length takes two bytes at most
pub middle_written : (field : ℕ) (b : List ℕ) → field < 15 → length b < 16384 → length (records_text (message_field field b)) ≤ 3 + length b
middle_written field b few fits =
    let whole = payload_is field b few in
    let size = groups_few 2 (length b) (omega arith) (omega arith) in
    omega arith

pub text_written : (field : ℕ) (b : List ℕ) → field < 15 → length b < 2 ^ 64 → length (records_text (bytes_field field b)) ≤ 11 + length b
text_written field b few fits = go (eqb (length b) 0) where
  go : (c : Bool) → length (records_text (cond c [] (message_field field b))) ≤ 11 + length b
  go true = omega arith
  go false = payload_written field b few fits

pub few_text_written : (field : ℕ) (b : List ℕ) → field < 15 → length b < 128 → length (records_text (bytes_field field b)) ≤ 2 + length b
few_text_written field b few fits = go (eqb (length b) 0) where
  go : (c : Bool) → length (records_text (cond c [] (message_field field b))) ≤ 2 + length b
  go true = omega arith
  go false = let e = few_written field b few fits in omega arith

pub middle_text_written : (field : ℕ) (b : List ℕ) → field < 15 → length b < 16384 →
    length (records_text (bytes_field field b)) ≤ 3 + length b
middle_text_written field b few fits = go (eqb (length b) 0) where
  go : (c : Bool) → length (records_text (cond c [] (message_field field b))) ≤ 3 + length b
  go true = omega arith
  go false = middle_written field b few fits

number_is : (field n : ℕ) → field < 15 → length (records_text (number_field field n)) ≤ 1 + length (varint n)
number_is field n few = go (eqb n 0) where
  go : (c : Bool) → length (records_text (cond c [] (record { number = field; value = Number n } ∷ []))) ≤ 1 + length (varint n)
  go true = omega arith
  go false =
      let tag = small (8 * field + 0) (omega arith) in
      let whole = one_record (record { number = field; value = Number n }) in
      let parts = length-append (varint (8 * field + 0)) (varint n) in
      omega arith

pub number_written : (field n : ℕ) → field < 15 → n < 2 ^ 64 → length (records_text (number_field field n)) ≤ 11
number_written field n few fits =
    let whole = number_is field n few in
    let size = (varint_is n fits).short in
    omega arith

pub flag_written : (field : ℕ) (b : Bool) → field < 15 → length (records_text (flag_field field b)) ≤ 2
flag_written field true few = let whole = number_is field 1 few in let size = small 1 (omega arith) in omega arith
flag_written field false few = omega arith

-- one payload more
pub more_written : (field : ℕ) (t : List ℕ) (ts : List (List ℕ)) → field < 15 → length t < 2 ^ 64 →
    length (records_text (each_field field (t ∷ ts))) ≤ 11 + length t + length (records_text (each_field field ts))
more_written field t ts few fits =
    let both = both_written (message_field field t) (each_field field ts) in
    let first = payload_written field t few fits in
    omega arith

pub middle_more : (field : ℕ) (t : List ℕ) (ts : List (List ℕ)) → field < 15 → length t < 16384 →
    length (records_text (each_field field (t ∷ ts))) ≤ 3 + length t + length (records_text (each_field field ts))
middle_more field t ts few fits =
    let both = both_written (message_field field t) (each_field field ts) in
    let first = middle_written field t few fits in
    omega arith
