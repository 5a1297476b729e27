-- A message that is written field by field, by rising numbers: what readers of its fields see.
use Rattle.std.proofs.Common.{◌≡◌, ◌≢◌, ℕ, ℤ, ◌^◌, ◌<◌, ◌≤◌, Bool, true, false, cond, ltb, List, [], ◌∷◌, ◌++◌, length, map, Option, Ok, refl, sym, subst, FitsSigned, arith}
use Rattle.std.specs.List.{AllByRecursion}
use Rattle.std.specs.Int.{w32, w64, cast_unsigned}
use Rattle.std.proofs.lemmas.Bool.{ltb-true}
use Rattle.protobuf_wire.specs.Record.{Record}
use Rattle.protobuf_wire.specs.Writing.{records_text, bytes_field, packed_text}
use Rattle.protobuf_wire.specs.Fields.{records_in}
use Rattle.protobuf_wire.specs.Parts.{text_for, string_field, int64_field, int32_field, flag_field, repeated_string_field, repeated_octets_field, repeated_enum_field, embedded_field, repeated_field, sent_field}
use Rattle.protobuf_wire.specs.Again.{Lacks, HasField}
use Rattle.protobuf_wire.proofs.Places.{after, before}
use Rattle.protobuf_wire.proofs.Lengths.{IsNumbered, AreOf, int64_of, int32_of, flag_of, bytes_of, each_of, embedded_of, sent_of, numbered_both, parsed_again, first_shorter, second_shorter}

-- the records that a field is written as
pub record Part : Type 0 where
  pub field : ℕ
  pub records : List Record
  pub own : AreOf field records

-- records, and behind them those of each part
abbrev pub joined : List Record → List Part → List Record
joined front [] = front
joined front (p ∷ ps) = joined (front ++ p.records) ps

-- the fields' numbers rise, and the last is one of a field
abbrev pub rises : ℕ → List Part → Bool
rises last [] = ltb last (2 ^ 29)
rises last (p ∷ ps) = cond (ltb last p.field) (rises p.field ps) false

-- ---- the kinds of fields

abbrev pub string_part : ℕ → List ℕ → Part
string_part field t = record { field = field; records = string_field field t; own = bytes_of field t }

abbrev pub octets_part : ℕ → List ℕ → Part
octets_part field t = record { field = field; records = bytes_field field t; own = bytes_of field t }

abbrev pub int64_part : ℕ → (z : ℤ) → FitsSigned w64 z → Part
int64_part field z fits = record { field = field; records = int64_field field z; own = int64_of field z fits }

abbrev pub int32_part : ℕ → (z : ℤ) → FitsSigned w32 z → Part
int32_part field z fits = record { field = field; records = int32_field field z; own = int32_of field z fits }

abbrev pub flag_part : ℕ → Bool → Part
flag_part field b = record { field = field; records = flag_field field b; own = flag_of field b }

abbrev pub repeated_string_part : ℕ → List (List ℕ) → Part
repeated_string_part field ts = record { field = field; records = repeated_string_field field ts; own = each_of field ts }

abbrev pub repeated_octets_part : ℕ → List (List ℕ) → Part
repeated_octets_part field ts = record { field = field; records = repeated_octets_field field ts; own = each_of field ts }

abbrev pub repeated_enum_part : ℕ → List ℤ → Part
repeated_enum_part field zs = record {
  field = field;
  records = repeated_enum_field field zs;
  own = bytes_of field (packed_text (map (cast_unsigned w64) zs));
}

abbrev pub embedded_part : {V : Type 0} → ℕ → (V → List Record) → Option V → Part
embedded_part field records_for o = record { field = field; records = embedded_field records_for field o; own = embedded_of field records_for o }

abbrev pub repeated_part : {V : Type 0} → ℕ → (V → List Record) → List V → Part
repeated_part field records_for vs = record {
  field = field;
  records = repeated_field records_for field vs;
  own = each_of field (map (text_for records_for) vs);
}

abbrev pub sent_part : ℕ → Option (List ℕ) → Part
sent_part field o = record { field = field; records = sent_field field o; own = sent_of field o }

-- ---- the numbers

abbrev Rising : ℕ → List Part → Type 0
Rising last [] = last < 2 ^ 29
Rising last (p ∷ ps) = (last < p.field) × Rising p.field ps

both : (a b : Bool) → cond a b false ≡ true → (a ≡ true) × (b ≡ true)
both true b h = (refl, h)
both false b h = absurd cc

rising : (last : ℕ) (ps : List Part) → rises last ps ≡ true → Rising last ps
rising last [] h = ltb-true last (2 ^ 29) h
rising last (p ∷ ps) h = let t = both (ltb last p.field) (rises p.field ps) h in (ltb-true last p.field t.0, rising p.field ps t.1)

small : (last : ℕ) (ps : List Part) → Rising last ps → last < 2 ^ 29
small last [] r = r
small last (p ∷ ps) r = let less = r.0 in let rest = small p.field ps r.1 in omega arith

numbered : (field : ℕ) (rs : List Record) → 0 < field → field < 2 ^ 29 → AreOf field rs → AllByRecursion IsNumbered rs
numbered field [] positive below h = tt
numbered field (r ∷ rs) positive below h = let same = h.0.number in (
  record { positive = omega arith; small = omega arith; content = h.0.content },
  numbered field rs positive below h.1,
)

all_numbered : (last : ℕ) (front : List Record) (ps : List Part) → AllByRecursion IsNumbered front → Rising last ps →
    AllByRecursion IsNumbered (joined front ps)
all_numbered last front [] h r = h
all_numbered last front (p ∷ ps) h r = let less = r.0 in let own = numbered p.field p.records (omega arith) (small p.field ps r.1) p.own in
    all_numbered p.field (front ++ p.records) ps (numbered_both front p.records h own) r.1

-- ---- the places

abbrev UpTo : ℕ → List Record → Type 0
UpTo last rs = AllByRecursion (λ r. r.number ≤ last) rs

lacks_other : (field another : ℕ) (rs : List Record) → another ≢ field → AreOf another rs → Lacks field rs
lacks_other field another [] ne h = tt
lacks_other field another (r ∷ rs) ne h = (subst (λ (n : ℕ). n ≢ field) (sym h.0.number) ne, lacks_other field another rs ne h.1)

lacks_above : (last field : ℕ) (rs : List Record) → last < field → UpTo last rs → Lacks field rs
lacks_above last field [] less h = tt
lacks_above last field (r ∷ rs) less h = let le = h.0 in ((λ e. omega arith), lacks_above last field rs less h.1)

up_to : (last field : ℕ) (front part : List Record) → last < field → UpTo last front → AreOf field part → UpTo field (front ++ part)
up_to last field [] [] less h g = tt
up_to last field [] (r ∷ rs) less h g = let same = g.0.number in (omega arith, up_to last field [] rs less h g.1)
up_to last field (r ∷ front) part less h g = let le = h.0 in (omega arith, up_to last field front part less h.1 g)

stays : (field last : ℕ) (part rs : List Record) (ps : List Part) → field ≤ last → HasField field part rs → Rising last ps →
    HasField field part (joined rs ps)
stays field last part rs [] le place r = place
stays field last part rs (p ∷ ps) le place r =
    let less = r.0 in
    let ne : p.field ≢ field = λ e. omega arith in
    stays field p.field part (rs ++ p.records) ps (omega arith)
    (before field part rs p.records place (lacks_other field p.field p.records ne p.own)) r.1

places_of : (last : ℕ) (front : List Record) (ps : List Part) → UpTo last front → Rising last ps →
    AllByRecursion (λ p. HasField p.field p.records (joined front ps)) ps
places_of last front [] h r = tt
places_of last front (p ∷ ps) h r =
    let place = after p.field front p.records (lacks_above last p.field front r.0 h) in (
      stays p.field p.field p.records (front ++ p.records) ps (omega arith) place r.1,
      places_of p.field (front ++ p.records) ps (up_to last p.field front p.records r.0 h p.own) r.1,
    )

-- ---- the lengths

front_shorter : (front : List Record) (ps : List Part) → length (records_text (joined front ps)) < 2 ^ 64 →
    length (records_text front) < 2 ^ 64
front_shorter front [] short = short
front_shorter front (p ∷ ps) short = first_shorter front p.records (front_shorter (front ++ p.records) ps short)

each_shorter : (front : List Record) (ps : List Part) → length (records_text (joined front ps)) < 2 ^ 64 →
    AllByRecursion (λ p. length (records_text p.records) < 2 ^ 64) ps
each_shorter front [] short = tt
each_shorter front (p ∷ ps) short =
    (second_shorter front p.records (front_shorter (front ++ p.records) ps short), each_shorter (front ++ p.records) ps short)

-- ---- a message that is written as these parts

pub record IsWritten (ps : List Part) : Type 0 where
  pub parsed : records_in (records_text (joined [] ps)) ≡ Ok (joined [] ps)
  pub places : AllByRecursion (λ p. HasField p.field p.records (joined [] ps)) ps
  pub shorts : AllByRecursion (λ p. length (records_text p.records) < 2 ^ 64) ps

pub is_written : (ps : List Part) → rises 0 ps ≡ true → length (records_text (joined [] ps)) < 2 ^ 64 → IsWritten ps
is_written ps rise short = let r = rising 0 ps rise in record {
  parsed = parsed_again (joined [] ps) (all_numbered 0 [] ps tt r) short;
  places = places_of 0 [] ps tt r;
  shorts = each_shorter [] ps short;
}
