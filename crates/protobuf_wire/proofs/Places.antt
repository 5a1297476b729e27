-- What a field's readers see of records is what they see of the part that has the field.
use Rattle.std.proofs.Common.{◌≡◌, ◌≢◌, ℕ, false, eqb, List, [], ◌∷◌, ◌++◌, Option, None, Result, Ok, Err, refl, sym, ap, ◌∙◌, append_assoc}
use Rattle.std.specs.List.{filter_map}
use Rattle.std.proofs.lemmas.Bool.{ne_eqb}
use Rattle.std.proofs.lemmas.List.{append-nil}
use Rattle.std.proofs.lemmas.List.Elements.{filter_map-append}
use Rattle.protobuf_wire.specs.Results.{◌>>=◌}
use Rattle.protobuf_wire.specs.Record.{Record}
use Rattle.protobuf_wire.specs.declared.error.MessageError.{MessageError}
use Rattle.protobuf_wire.specs.Fields.{number_in, payload_in, numbers, payloads, each_of, record_numbers, concatenation, repeated_numbers}
use Rattle.protobuf_wire.specs.Again.{Lacks, HasField}

other : (r : Record) (field : ℕ) → r.number ≢ field → eqb r.number field ≡ false
other r field ne = ne_eqb r.number field ne

-- ---- fields of which one record is one value

module _ {A : Type 0} (content_in : Record → Option A) (field : ℕ) (others : (r : Record) → r.number ≢ field → content_in r ≡ None) where
  none_in : (rs : List Record) → Lacks field rs → filter_map content_in rs ≡ []
  none_in [] h = refl
  none_in (r ∷ rs) h = rw (others r h.0, none_in rs h.1) refl

  contents_in_part : (part rs : List Record) → HasField field part rs → filter_map content_in rs ≡ filter_map content_in part
  contents_in_part part rs h =
      ap (filter_map content_in) h.parts
      ∙ filter_map-append content_in (h.front ++ part) h.back
      ∙ rw (filter_map-append content_in h.front part, none_in h.front h.before, none_in h.back h.behind)
      (append-nil (filter_map content_in part))

other_number : (field : ℕ) (r : Record) → r.number ≢ field → number_in field r ≡ None
other_number field r ne = let test = other r field ne in rw test refl

other_payload : (field : ℕ) (r : Record) → r.number ≢ field → payload_in field r ≡ None
other_payload field r ne = let test = other r field ne in rw test refl

pub numbers_in_part : (field : ℕ) (part rs : List Record) → HasField field part rs → numbers field rs ≡ numbers field part
unfolding numbers
numbers_in_part field part rs h = contents_in_part (number_in field) field (other_number field) part rs h

pub payloads_in_part : (field : ℕ) (part rs : List Record) → HasField field part rs → payloads field rs ≡ payloads field part
unfolding payloads
payloads_in_part field part rs h = contents_in_part (payload_in field) field (other_payload field) part rs h

-- ---- repeated numbers, of which a record has several

abbrev Read : Type 0
Read = Result (List (List ℕ)) MessageError

abbrev all_of : Read → Result (List ℕ) MessageError
all_of r = r >>= λ nss. Ok (concatenation nss)

skips : (rest : Read) → all_of (rest >>= λ nss. Ok ([] ∷ nss)) ≡ all_of rest
unfolding concatenation
skips (Ok nss) = refl
skips (Err e) = refl

other_record : (field : ℕ) (r : Record) → r.number ≢ field → record_numbers field r ≡ Ok []
other_record field r ne = let test = other r field ne in rw test refl

skip_front : (field : ℕ) (front rest : List Record) → Lacks field front →
    repeated_numbers field (front ++ rest) ≡ repeated_numbers field rest
unfolding each_of
skip_front field [] rest h = refl
skip_front field (r ∷ rs) rest h = rw (other_record field r h.0)
    (skips (each_of (record_numbers field) (rs ++ rest)) ∙ skip_front field rs rest h.1)

-- one record's numbers before those of the rest
abbrev and_then : List ℕ → Result (List ℕ) MessageError → Result (List ℕ) MessageError
and_then ns rest = rest >>= λ ms. Ok (ns ++ ms)

takes_first : (ns : List ℕ) (rest : Read) → all_of (rest >>= λ nss. Ok (ns ∷ nss)) ≡ and_then ns (all_of rest)
unfolding concatenation
takes_first ns (Ok nss) = refl
takes_first ns (Err e) = refl

drop_back : (field : ℕ) (part back : List Record) → Lacks field back → repeated_numbers field (part ++ back) ≡ repeated_numbers field part
unfolding each_of concatenation
drop_back field [] [] h = refl
drop_back field [] (r ∷ rs) h = rw (other_record field r h.0) (skips (each_of (record_numbers field) rs) ∙ drop_back field [] rs h.1)
drop_back field (r ∷ part) back h = go (record_numbers field r) (drop_back field part back h) where
  go : (first : Result (List ℕ) MessageError) → repeated_numbers field (part ++ back) ≡ repeated_numbers field part →
      all_of (first >>= λ ns. each_of (record_numbers field) (part ++ back) >>= λ nss. Ok (ns ∷ nss))
      ≡ all_of (first >>= λ ns. each_of (record_numbers field) part >>= λ nss. Ok (ns ∷ nss))
  go (Err e) same = refl
  go (Ok ns) same = takes_first ns (each_of (record_numbers field) (part ++ back)) ∙ ap (and_then ns) same
      ∙ sym (takes_first ns (each_of (record_numbers field) part))

pub repeated_numbers_in_part : (field : ℕ) (part rs : List Record) → HasField field part rs →
    repeated_numbers field rs ≡ repeated_numbers field part
repeated_numbers_in_part field part rs h =
    ap (repeated_numbers field) h.parts ∙ drop_back field (h.front ++ part) h.back h.behind ∙ skip_front field h.front part h.before

-- ---- finding the place of a part

lacks_both : (field : ℕ) (a b : List Record) → Lacks field a → Lacks field b → Lacks field (a ++ b)
lacks_both field [] b h g = g
lacks_both field (r ∷ a) b h g = (h.0, lacks_both field a b h.1 g)

pub after : (field : ℕ) (a part : List Record) → Lacks field a → HasField field part (a ++ part)
after field a part h = record { front = a; back = []; parts = sym (append-nil (a ++ part)); before = h; behind = tt }

pub before : (field : ℕ) (part rs b : List Record) → HasField field part rs → Lacks field b → HasField field part (rs ++ b)
before field part rs b h g = record {
  front = h.front;
  back = h.back ++ b;
  parts =
      ap (λ (x : List Record). x ++ b) h.parts ∙ append_assoc (h.front ++ part) h.back b;
  before = h.before;
  behind =
      lacks_both field h.back b h.behind g;
}
