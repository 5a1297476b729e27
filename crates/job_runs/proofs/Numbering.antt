-- The numbers of digests, and the texts that they find.
use Rattle.std.proofs.Common.{◌≡◌, ℕ, zero, suc, ◌+◌, Bool, true, false, List, [], ◌∷◌, Option, Some, None, slice_get, unwrap_or, refl, ap, ◌∙◌, arith}
use Rattle.std.specs.Map.{lookup}
use Rattle.digest.specs.declared.Digest.{Digest}
use Rattle.digest.specs.Naming.{same_digest}
use Rattle.blob_pool.specs.Slots.{Slots, text_at}
use Rattle.instance_view.specs.Visible.{Blob}
use Rattle.instance_view.specs.Shown.{blobs_in}
use Rattle.execution.specs.declared.keeping.KeptText.{KeptText}
use Rattle.execution.specs.Keeping.{kept_entries}
use Rattle.execution.specs.Numbers.{kept_digests}
use Rattle.job_runs.specs.Texts.{blob_digests, lent_in, numbered_text, text_number}

-- their digests are the same in any pool
pub digests_in : (p : Slots) (ts : List KeptText) → blob_digests (blobs_in p (kept_entries ts)) ≡ kept_digests ts
digests_in p [] = refl
digests_in p (t ∷ ts) = ap (λ (ds : List Digest). t.digest ∷ ds) (digests_in p ts)

text_behind : (b : Blob) (bs : List Blob) (n : ℕ) → numbered_text (b ∷ bs) (1 + n) ≡ numbered_text bs n
text_behind b bs n = let next : 1 + n ≡ suc n = omega arith in rw next refl

-- a digest's number finds its text
pub number_finds : (texts : List Blob) (d : Digest) →
    numbered_text texts (text_number texts d) ≡ unwrap_or (lookup (same_digest d) texts) []
number_finds [] d = refl
number_finds (b ∷ bs) d = by (same_digest d b.0) refl (number_finds bs d)
  where
    by : (s : Bool) → same_digest d b.0 ≡ s → numbered_text bs (text_number bs d) ≡ unwrap_or (lookup (same_digest d) bs) []
        → numbered_text (b ∷ bs) (text_number (b ∷ bs) d) ≡ unwrap_or (lookup (same_digest d) (b ∷ bs)) []
    by true is later = rw is refl
    by false is later = rw is (text_behind b bs (text_number bs d) ∙ later)

-- the text of a number among those that are lent
pub lent_text : (lent : Option Slots) (p : Slots) (ts : List KeptText) (n : ℕ) (t : KeptText) → lent ≡ Some p → slice_get ts n ≡ Some t
    → numbered_text (lent_in lent ts) n ≡ text_at p t.text
lent_text lent p ts n t there found = ap (λ (o : Option Slots). numbered_text (lent_in o ts) n) there ∙ go ts n found
  where
    go : (ts : List KeptText) (n : ℕ) → slice_get ts n ≡ Some t → numbered_text (blobs_in p (kept_entries ts)) n ≡ text_at p t.text
    go [] n found = let none : None ≡ Some t = found in absurd cc
    go (x ∷ xs) zero found = let same : x ≡ t = cc in ap (λ (x : KeptText). text_at p x.text) same
    go (x ∷ xs) (suc n) found = go xs n found

pub no_text : (lent : Option Slots) (p : Slots) (ts : List KeptText) (n : ℕ) → lent ≡ Some p → slice_get ts n ≡ None →
    numbered_text (lent_in lent ts) n ≡ []
no_text lent p ts n there found = ap (λ (o : Option Slots). numbered_text (lent_in o ts) n) there ∙ go ts n found
  where
    go : (ts : List KeptText) (n : ℕ) → slice_get ts n ≡ None → numbered_text (blobs_in p (kept_entries ts)) n ≡ []
    go [] n found = refl
    go (x ∷ xs) zero found = let none : Some x ≡ None = found in absurd cc
    go (x ∷ xs) (suc n) found = go xs n found
