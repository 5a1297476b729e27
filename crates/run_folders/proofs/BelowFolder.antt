-- What lies below a folder, by its path.
use Rattle.std.proofs.Common.{◌≡◌, ◌∙◌, ◌⊎◌, ◌↔◌, ◌==◌, ◌<◌, ◌≤◌, ℕ, Bool, true, false, List, [], ◌∷◌, ◌++◌, length, take, drop, inl, inr, refl, sym, ap, subst, true≢false, append-nil, arith}
use Rattle.std.specs.Prelude.{IsTrue, get_or, nat_eq}
use Rattle.std.specs.Cmp.{unsigned_Decides}
use Rattle.std.proofs.Math.Seq.{take-append_seam, take-length}
use Rattle.std.proofs.lemmas.List.{append_cancel_left, take-append-drop}
use lib.Pointwise.{bytes_decides, pointwise}
use Rattle.run_folders.specs.Below.{IsBelow}

module _ (folder path : List ℕ) where
  abbrev pub BeginsSo : Bool → Type 0
  BeginsSo b = pointwise nat_eq (take (length folder) path) folder ≡ b

  whole : (x : List ℕ) → BeginsSo true → x ≡ drop (length folder) path → path ≡ folder ++ x
  whole x h e =
      let front : take (length folder) path ≡ folder =
      (bytes_decides (take (length folder) path) folder).0 h in
      sym (take-append-drop (length folder) path)
      ∙ ap (λ (f : List ℕ). f ++ drop (length folder) path) front
      ∙ ap (λ (y : List ℕ). folder ++ y) (sym e)

  -- nothing follows
  pub is_itself : (x : List ℕ) → BeginsSo true → x ≡ drop (length folder) path → length x < 1
      → IsTrue true ↔ IsBelow folder path
  is_itself [] h e none = (λ t. inl (whole [] h e ∙ append-nil folder), λ below. refl)
  is_itself (byte ∷ rest) h e none = absurd (omega (arith, none))

  -- something follows
  pub goes_on : (x : List ℕ) → BeginsSo true → x ≡ drop (length folder) path → 1 ≤ length x
      → IsTrue (get_or x 0 0 == 47) ↔ IsBelow folder path
  goes_on [] h e more = absurd (omega (arith, more))
  goes_on (byte ∷ rest) h e more = (forth, back)
    where
      path_is : path ≡ folder ++ byte ∷ rest
      path_is = whole (byte ∷ rest) h e

      forth : IsTrue (byte == 47) → IsBelow folder path
      forth is = inr (
        rest,
        path_is ∙ ap (λ (b : ℕ). folder ++ b ∷ rest) ((unsigned_Decides byte 47).0 is),
      )

      none : byte ∷ rest ≡ [] → IsTrue (byte == 47)
      none wrong = cc

      back : IsBelow folder path → IsTrue (byte == 47)
      back (inl same) = none (append_cancel_left folder (byte ∷ rest) []
          (sym path_is ∙ same ∙ sym (append-nil folder)))
      back (inr so) = (unsigned_Decides byte 47).1 (ap (λ (l : List ℕ). get_or l 0 0)
          (append_cancel_left folder (byte ∷ rest) (47 ∷ so.0) (sym path_is ∙ so.1)))

  -- it begins in another way
  pub is_elsewhere : BeginsSo false → IsTrue false ↔ IsBelow folder path
  is_elsewhere h = (
    λ wrong. absurd (true≢false (sym wrong)),
    λ below. absurd (true≢false (sym (begins (front below)) ∙ h)),
  )
    where
      front : IsBelow folder path → take (length folder) path ≡ folder
      front (inl same) = ap (λ (p : List ℕ). take (length folder) p) same ∙ take-length folder
      front (inr so) = ap (λ (p : List ℕ). take (length folder) p) so.1
          ∙ take-append_seam folder (47 ∷ so.0)

      begins : take (length folder) path ≡ folder → BeginsSo true
      begins e = (bytes_decides (take (length folder) path) folder).1 e

-- the same of what these are
pub of_both : (f p folder path : List ℕ) (b : Bool) → f ≡ folder → p ≡ path
    → IsTrue b ↔ IsBelow f p → IsTrue b ↔ IsBelow folder path
of_both f p folder path b is_folder is_path h =
    subst (λ (g : List ℕ). IsTrue b ↔ IsBelow g path) is_folder
    (subst (λ (q : List ℕ). IsTrue b ↔ IsBelow f q) is_path h)
