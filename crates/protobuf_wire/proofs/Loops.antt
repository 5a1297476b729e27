-- A loop that writes one item after another, where the list of the items that come is as the code
-- takes its first.
use Rattle.std.proofs.Common.{◌≡◌, ℕ, ◌-◌, ◌<◌, List, [], ◌∷◌, ◌++◌, length, take, drop, slice_index_or, map, refl, sym, ap, ◌∙◌, arith}
use Rattle.std.specs.List.{flat_map}
use Rattle.std.proofs.Math.Seq.{take-length}
use Rattle.std.proofs.lemmas.List.Concat.{flat_map-cons}
use Rattle.protobuf_wire.specs.Writing.{WriterValue, followed_by, varint, packed_text, records_text, message_field}
use Rattle.protobuf_wire.proofs.Written.{followed_by_none, followed_by_both}
use Rattle.protobuf_wire.specs.Parts.{each_field}
use Rattle.protobuf_wire.proofs.FieldTexts.{text_append}

module _ {A : Type 0} (text : List A → List ℕ) (part : A → List ℕ) (empty : text [] ≡ [])
    (first : (x : A) (xs : List A) → text (x ∷ xs) ≡ part x ++ text xs) where
  pub next_written : (all now next : WriterValue) (left : List A) (default : A) → 0 < length left → followed_by now (text left) ≡ all →
      next ≡ followed_by now (part (slice_index_or left 0 default)) → followed_by next (text (take (length left - 1) (drop 1 left))) ≡ all
  next_written all now next [] default some h is = absurd (omega arith)
  next_written all now next (x ∷ xs) default some h is =
      let count : length (x ∷ xs) - 1 ≡ length xs = omega arith in
      rw (count, take-length) (ap (λ (w : WriterValue). followed_by w (text xs)) is ∙ sym (followed_by_both now (part x) (text xs))
      ∙ ap (followed_by now) (sym (first x xs)) ∙ h)

  pub all_written : (all now : WriterValue) (left : List A) → length left < 1 → followed_by now (text left) ≡ all → now ≡ all
  all_written all now [] short h = sym (followed_by_none now) ∙ ap (followed_by now) (sym empty) ∙ h
  all_written all now (x ∷ xs) short h = absurd (omega arith)

-- payloads of a field
module _ {A : Type 0} (payload : A → List ℕ) (field : ℕ) where
  abbrev each_text : List A → List ℕ
  each_text xs = records_text (each_field field (map payload xs))

  abbrev one_text : A → List ℕ
  one_text x = records_text (message_field field (payload x))

  first_text : (x : A) (xs : List A) → each_text (x ∷ xs) ≡ one_text x ++ each_text xs
  first_text x xs = text_append (message_field field (payload x)) (each_field field (map payload xs))

  pub next_payload : (all now next : WriterValue) (left : List A) (default : A) → 0 < length left → followed_by now (each_text left) ≡ all →
      next ≡ followed_by now (one_text (slice_index_or left 0 default)) →
      followed_by next (each_text (take (length left - 1) (drop 1 left))) ≡ all
  next_payload all now next left default some h is = next_written each_text one_text refl first_text all now next left default some h is

  pub all_payloads : (all now : WriterValue) (left : List A) → length left < 1 → followed_by now (each_text left) ≡ all → now ≡ all
  all_payloads all now left short h = all_written each_text one_text refl first_text all now left short h

-- numbers of a packed field
module _ {A : Type 0} (number : A → ℕ) where
  abbrev numbers_text : List A → List ℕ
  numbers_text xs = packed_text (map number xs)

  abbrev number_text : A → List ℕ
  number_text x = varint (number x)

  first_number : (x : A) (xs : List A) → numbers_text (x ∷ xs) ≡ number_text x ++ numbers_text xs
  first_number x xs = flat_map-cons varint (number x) (map number xs)

  pub next_number : (all now next : WriterValue) (left : List A) (default : A) → 0 < length left →
      followed_by now (numbers_text left) ≡ all → next ≡ followed_by now (number_text (slice_index_or left 0 default)) →
      followed_by next (numbers_text (take (length left - 1) (drop 1 left))) ≡ all
  next_number all now next left default some h is =
      next_written numbers_text number_text refl first_number all now next left default some h is

  pub all_numbers : (all now : WriterValue) (left : List A) → length left < 1 → followed_by now (numbers_text left) ≡ all → now ≡ all
  all_numbers all now left short h = all_written numbers_text number_text refl first_number all now left short h

-- pieces of a payload
module _ {A : Type 0} (piece : A → List ℕ) where
  abbrev pieces_text : List A → List ℕ
  pieces_text xs = flat_map piece xs

  pub next_piece : (all now next : WriterValue) (left : List A) (default : A) → 0 < length left → followed_by now (pieces_text left) ≡ all →
      next ≡ followed_by now (piece (slice_index_or left 0 default)) →
      followed_by next (pieces_text (take (length left - 1) (drop 1 left))) ≡ all
  next_piece all now next left default some h is =
      next_written pieces_text piece refl (flat_map-cons piece) all now next left default some h is

  pub all_pieces : (all now : WriterValue) (left : List A) → length left < 1 → followed_by now (pieces_text left) ≡ all → now ≡ all
  all_pieces all now left short h = all_written pieces_text piece refl (flat_map-cons piece) all now left short h
