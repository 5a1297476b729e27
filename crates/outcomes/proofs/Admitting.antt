-- Blobs that are admitted, one after another.
use Rattle.std.proofs.Common.{◌≡◌, ℕ, List, [], ◌∷◌, ◌++◌, refl, sym, ap, ◌∙◌}
use Rattle.std.proofs.lemmas.List.{append_assoc}
use Rattle.instance_view.specs.Visible.{Blob}
use Rattle.quota_evict.specs.Admission.{visible_after_admission}
use Rattle.cas_service.specs.Changes.{MadeInPart, TextChange, visible_after_change, visible_after_changes}
use Rattle.outcomes.specs.Ending.{admission_of, admissions}

after_both : (limit quota : ℕ) (cs ds : List TextChange) (visible : List Blob) →
    visible_after_changes limit quota (cs ++ ds) visible
    ≡ visible_after_changes limit quota ds (visible_after_changes limit quota cs visible)
after_both limit quota [] ds visible = refl
after_both limit quota (c ∷ cs) ds visible = after_both limit quota cs ds (visible_after_change limit quota c visible)

-- of all changes those of the blobs that come are left
pub record Underway (limit quota : ℕ) (all : List TextChange) (old now : List Blob) (left : List Blob) : Type 0 where
  pub part : MadeInPart limit quota all old now
  pub left_is : part.left ≡ admissions left

pub begun : (limit quota : ℕ) (old blobs left : List Blob) → left ≡ blobs → Underway limit quota (admissions blobs) old old left
begun limit quota old blobs left is = record {
  part = record { made = []; left = admissions blobs; front = refl; so_far = refl };
  left_is = ap admissions (sym is);
}

pub gone_on : (limit quota : ℕ) (all : List TextChange) (old now next : List Blob) (b : Blob) (left : List Blob) →
    Underway limit quota all old now (b ∷ left)
    → next ≡ visible_after_admission limit quota b.0 b.1 now → Underway limit quota all old next left
gone_on limit quota all old now next b left u is =
    let p = u.part in
    let first : List TextChange = admission_of b ∷ [] in
    record {
      part = record {
        made = p.made ++ first;
        left = admissions left;
        front = p.front ∙ ap (λ (cs : List TextChange). p.made ++ cs) u.left_is ∙ sym (append_assoc p.made first (admissions left));
        so_far = is ∙ ap (visible_after_changes limit quota first) p.so_far ∙ sym (after_both limit quota p.made first old);
      };
      left_is = refl;
    }
