-- Texts that are held once more.
use Rattle.std.proofs.Common.{◌≡◌, ℕ, zero, suc, false, List, [], ◌∷◌, ◌++◌, Option, Some, None, refl, sym, ap, ◌∙◌, arith}
use Rattle.std.specs.Prelude.{option_map}
use Rattle.std.specs.Map.{lookup}
use Rattle.std.proofs.lemmas.List.{map-append}
use Rattle.digest.specs.declared.Digest.{Digest}
use Rattle.digest.specs.Naming.{same_digest, is_empty_digest}
use Rattle.blob_pool.specs.Slots.{Slots, text_at}
use Rattle.blob_pool.specs.Moves.{Moves, one_at, no_holders}
use Rattle.blob_pool.proofs.Moves.{moves_more}
use Rattle.instance_view.specs.Visible.{visible_text}
use Rattle.instance_view.specs.declared.view.Seen.{Seen}
use Rattle.instance_view.specs.declared.view.Seen.TheVariants.{Empty, Text}
use Rattle.execution.specs.declared.keeping.KeptText.{KeptText}
use Rattle.execution.specs.Keeping.{kept_entry, kept_entries, seen_blobs}
use Rattle.instance_view.specs.Shown.{text_seen, ViewEntry, ViewValue, entry_holders, visible_in}
use Rattle.instance_view.proofs.Entries.{holders-push, lookup-shown}
use Rattle.instance_view.specs.Sight.{SightValue, seen_in}
use Rattle.instance_view.proofs.Either.{both, both_shown}
use Rattle.input_tree.specs.Texts.{texts_of}
use Rattle.execution.specs.Job.{found_text, kept_text}

-- a pool whose slot has a byte
slot_with : ℕ → Slots
slot_with zero = Some (record { text = 0 ∷ []; count = 1 }) ∷ []
slot_with (suc k) = None ∷ slot_with k

abbrev byte_at : ℕ → Type 0
byte_at k = text_at (slot_with k) k ≡ 0 ∷ []

has_byte : (k : ℕ) → byte_at k
unfolding slot_with
has_byte zero = refl
has_byte (suc k) = has_byte k

-- what is found of a digest in every pool is not always empty, unless the digest is that of the
-- empty text
pub not_empty : (v : ViewValue) (d : Digest) → is_empty_digest d ≡ false → ((p : Slots) → Some [] ≡ visible_text d (visible_in p v)) → ⊥
not_empty v d other always = go (lookup (same_digest d) v.entries) refl where
  found : (p : Slots) → Some [] ≡ option_map (text_at p) (lookup (same_digest d) v.entries)
  found p = let is : Some [] ≡ visible_text d (visible_in p v) = always p in (rw other at is) ∙ lookup-shown p (same_digest d) v.entries

  go : (o : Option ℕ) → lookup (same_digest d) v.entries ≡ o → ⊥
  go None none = let is : Some [] ≡ option_map (text_at []) None = found [] ∙ ap (option_map (text_at [])) none in let o : Option (List ℕ) =
      Some [] in let no : o ≡ None = is in cc
  go (Some k) there =
      let p : Slots = slot_with k in
      let is : Some [] ≡ Some (text_at p k) = found p ∙ ap (option_map (text_at p)) there in
      let byte = has_byte k in
      let o : Option (List ℕ) = Some [] in
      let no : o ≡ Some (0 ∷ []) = is ∙ ap (λ (t : List ℕ). Some t) byte in
      cc

pub pushed_moves : (p q : Slots) (es : List ViewEntry) (d : Digest) (k : ℕ) → Moves p q no_holders (one_at k) →
    Moves p q (entry_holders es) (entry_holders (es ++ (d, k) ∷ []))
pushed_moves p q es d k m = moves_more p q no_holders (one_at k) (entry_holders es) (entry_holders es) (entry_holders (es ++ (d, k) ∷ []))
    (λ j. omega arith) (λ j. omega (arith, holders-push es (d, k) j)) m

pub seen_kept : (s : SightValue) (d : Digest) (seen : Seen) → is_empty_digest d ≡ false →
    ((p : Slots) → Some (text_seen p seen) ≡ visible_text d (seen_in p s)) → (p : Slots) → seen_blobs p d seen ≡ kept_text (texts_of p s) d
seen_kept s d Empty other always p = absurd (not_empty (both s) d other (λ p. always p ∙ ap (visible_text d) (sym (both_shown p s))))
seen_kept s d (Text k) other always p =
    let kept : kept_text (texts_of p s) d ≡ found_text d (texts_of p s d) = rw other refl in
    sym (kept ∙ ap (found_text d) (sym (always p)))

pub kept_pushed : (ts : List KeptText) (t : KeptText) → kept_entries (ts ++ t ∷ []) ≡ kept_entries ts ++ kept_entry t ∷ []
kept_pushed ts t = map-append kept_entry ts (t ∷ [])
