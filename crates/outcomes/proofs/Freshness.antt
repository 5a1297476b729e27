-- Sizes of texts that are not there.
use Rattle.std.proofs.Common.{◌≡◌, ℕ, ◌+◌, Bool, true, false, List, [], ◌∷◌, map, refl, ap, arith}
use Rattle.std.specs.Prelude.{filter, is_some, not}
use Rattle.digest.specs.declared.Digest.{Digest}
use Rattle.instance_view.specs.Visible.{Blob, visible_text}
use Rattle.outcomes.specs.declared.completion.OutputBlob.{OutputBlob}
use Rattle.outcomes.specs.Completing.{blob_shown}
use Rattle.outcomes.specs.Fresh.{fresh_size, fresh_sum}
use Rattle.outcomes.specs.Results.{sizes_of}

pub fresh_sizes : (visible : List Blob) (ds : List Digest) →
    fresh_sum visible ds ≡ sizes_of (filter (λ d. not (is_some (visible_text d visible))) ds)
fresh_sizes visible [] = refl
fresh_sizes visible (d ∷ ds) = go (is_some (visible_text d visible)) refl (fresh_sizes visible ds) where
  go : (b : Bool) → is_some (visible_text d visible) ≡ b →
      fresh_sum visible ds ≡ sizes_of (filter (λ d. not (is_some (visible_text d visible))) ds) →
      fresh_sum visible (d ∷ ds) ≡ sizes_of (filter (λ d. not (is_some (visible_text d visible))) (d ∷ ds))
  go true is later = rw is (omega (arith, later))
  go false is later = rw is (ap (λ (n : ℕ). d.size + n) later)

pub firsts : (bs : List OutputBlob) → map (λ (b : OutputBlob). (blob_shown b).0) bs ≡ map (λ (b : Blob). b.0) (map blob_shown bs)
firsts [] = refl
firsts (b ∷ bs) = ap (λ (ds : List Digest). (blob_shown b).0 ∷ ds) (firsts bs)
