-- What holds of the texts that are there, and of each that is named, holds of those that a message
-- of a Write leaves.
use Rattle.std.proofs.Common.{◌≡◌, ◌-◌, ℕ, Bool, true, false, cond, List, [], ◌∷◌, length, take, Option, Some, None, Result, Ok, Err, refl, subst, inl, inr}
use Rattle.std.specs.Prelude.{is_some, nat_le, nat_lt}
use Rattle.std.specs.List.{AllByRecursion}
use Rattle.std.specs.Map.{lookup_entry, remove_entry}
use Rattle.std.proofs.lemmas.List.Elements.{All-contains_itself, recursion_from_All}
use Rattle.digest.specs.declared.Digest.{Digest}
use Rattle.digest.specs.Naming.{Names, same_digest}
use Rattle.instance_view.specs.Visible.{Blob, visible_text, visible_after_use, with_match_first}
use Rattle.quota_evict.specs.Admission.{longest_front, visible_after_admission}
use Rattle.quota_evict.proofs.Limits.{take-all}
use Rattle.uploads.specs.declared.error.UploadError.{UploadError}
use Rattle.uploads.specs.Uploads.{KeyValue, text_so_far}
use Rattle.uploads.specs.Writing.{finish_answer, after_piece}
use Rattle.bytestream.specs.Writing.{PartValue, WriteState, part_outcome, after_last_part, after_end, after_taking, after_part}
use Rattle.instance_core.specs.State.{InstanceState}
use Rattle.instance_core.specs.Writes.{write_state, with_piece, with_part}
use Rattle.instance_core.specs.Named.{IsOldOrNamed}
use Rattle.instance_core.proofs.WriteLimits.{finish_names}

abbrev IsNamed : Blob → Type 0
IsNamed b = Names b.0 b.1

-- ---- a use, and an admission

removed_all : (P : Blob → Type 0) (t : Digest → Bool) (bs : List Blob) → AllByRecursion P bs → AllByRecursion P (remove_entry t bs)
removed_all P t [] h = h
removed_all P t (b ∷ bs) h = go (t b.0) refl (removed_all P t bs h.1) where
  go : (c : Bool) → t b.0 ≡ c → AllByRecursion P (remove_entry t bs) → AllByRecursion P (remove_entry t (b ∷ bs))
  go true is ih = rw is h.1
  go false is ih = rw is (h.0, ih)

found_has : (P : Blob → Type 0) (t : Digest → Bool) (bs : List Blob) (b : Blob) → AllByRecursion P bs → lookup_entry t bs ≡ Some b → P b
found_has P t [] b h is = absurd (cc)
found_has P t (x ∷ xs) b h is = go (t x.0) is (λ later. found_has P t xs b h.1 later) where
  go : (c : Bool) → cond c (Some x) (lookup_entry t xs) ≡ Some b → (lookup_entry t xs ≡ Some b → P b) → P b
  go true is ih = let equal : x ≡ b = cc in subst P equal h.0
  go false is ih = ih is

pub used_all : (P : Blob → Type 0) (d : Digest) (bs : List Blob) → AllByRecursion P bs → AllByRecursion P (visible_after_use d bs)
used_all P d bs h = go (lookup_entry (same_digest d) bs) refl where
  go : (o : Option Blob) → lookup_entry (same_digest d) bs ≡ o → AllByRecursion P (with_match_first (same_digest d) bs)
  go None is = rw is h
  go (Some b) is = rw is (found_has P (same_digest d) bs b h is, removed_all P (same_digest d) bs h)

front_all : (P : Blob → Type 0) (room : ℕ) (bs : List Blob) → AllByRecursion P bs → AllByRecursion P (longest_front room bs)
front_all P room [] h = h
front_all P room (b ∷ bs) h = go (nat_le (length b.1) room) (front_all P (room - length b.1) bs h.1) where
  go : (t : Bool) → AllByRecursion P (longest_front (room - length b.1) bs) →
      AllByRecursion P (cond t (b ∷ longest_front (room - length b.1) bs) [])
  go true ih = (h.0, ih)
  go false ih = tt

pub admitted_all : (P : Blob → Type 0) (limit quota : ℕ) (d : Digest) (text : List ℕ) (bs : List Blob) → P (d, text) → AllByRecursion P bs →
    AllByRecursion P (visible_after_admission limit quota d text bs)
admitted_all P limit quota d text bs new h = go (is_some (visible_text d bs)) (nat_lt quota (length text)) where
  go : (s t : Bool) → AllByRecursion P (cond s (visible_after_use d bs)
      (cond t bs ((d, text) ∷ take (limit - 1) (longest_front (quota - length text) bs))))
  go true t = used_all P d bs h
  go false true = h
  go false false = (new, take-all P (limit - 1) (longest_front (quota - length text) bs) (front_all P (quota - length text) bs h))

-- ---- a part of a Write

abbrev HoldsNamed : (Blob → Type 0) → Type 0
HoldsNamed P = (b : Blob) → IsNamed b → P b

finished_all : (P : Blob → Type 0) (limit quota : ℕ) (key : KeyValue) (w : WriteState) (r : Result Unit UploadError) → HoldsNamed P →
    r ≡ finish_answer key w.uploads → AllByRecursion P w.visible → AllByRecursion P (after_last_part limit quota key r w).visible
finished_all P limit quota key w (Ok u) named is h =
    admitted_all P limit quota key.digest (text_so_far key w.uploads) w.visible
    (named (key.digest, text_so_far key w.uploads) (finish_names key w.uploads u is)) h
finished_all P limit quota key w (Err e) named is h = h

end_all : (P : Blob → Type 0) (limit quota : ℕ) (part : PartValue) (w : WriteState) → HoldsNamed P → AllByRecursion P w.visible →
    AllByRecursion P (after_end limit quota part w).visible
end_all P limit quota part w named h = go part.is_last where
  go : (last : Bool) → AllByRecursion P (cond last (after_last_part limit quota part.key (finish_answer part.key w.uploads) w) w).visible
  go true = finished_all P limit quota part.key w (finish_answer part.key w.uploads) named refl h
  go false = h

part_all : (P : Blob → Type 0) (limit quota moment : ℕ) (part : PartValue) (w : WriteState) (r : Result Unit UploadError) → HoldsNamed P →
    AllByRecursion P w.visible → AllByRecursion P (after_taking limit quota moment part r w).visible
part_all P limit quota moment part w (Ok u) named h =
    end_all P limit quota part (record w { uploads = after_piece moment part.key part.piece (Ok u) w.uploads }) named h
part_all P limit quota moment part w (Err e) named h = h

-- ---- old texts, and named ones

old_ones : (bs : List Blob) → AllByRecursion (IsOldOrNamed bs) bs
old_ones bs = recursion_from_All (IsOldOrNamed bs) bs (λ k d within. inl (All-contains_itself bs k d within))

pub whole_adds : (first : Bool) (s : InstanceState) (part : PartValue) →
    AllByRecursion (IsOldOrNamed s.visible) (after_part first s.limits.blobs s.quota s.moment part (write_state s)).visible
whole_adds first s part = part_all (IsOldOrNamed s.visible) s.limits.blobs s.quota s.moment part (write_state s)
    (part_outcome first s.quota part s.uploads) (λ b named. inr named) (old_ones s.visible)

-- a piece changes no text
pub piece_adds : (first : Bool) (s : InstanceState) (part : PartValue) →
    AllByRecursion (IsOldOrNamed s.visible) (with_part first s part).visible
piece_adds first s part = go (part_outcome first s.quota part s.uploads) where
  go : (r : Result Unit UploadError) → AllByRecursion (IsOldOrNamed s.visible) (with_piece s.moment part r (write_state s)).visible
  go (Ok u) = old_ones s.visible
  go (Err e) = old_ones s.visible
