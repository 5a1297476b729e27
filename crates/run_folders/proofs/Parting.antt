-- A path, parted at its last slash.
use Rattle.std.proofs.Common.{◌≡◌, ◌∙◌, ℕ, List, [], ◌∷◌, ◌++◌, None, inl, inr, refl, sym, ap, ap₂, subst, take, drop, arith, take-append-drop}
use Rattle.std.specs.Str.Pattern.{RFindsChar, SplitsAroundMatch}
use Rattle.std.proofs.lemmas.Str.Pattern.{NoCharPasses-char, drop_at_char}
use Rattle.run_folders.specs.Folders.{HasNoSlash, IsParted}

pub in_two : (path above name : List ℕ) → SplitsAroundMatch (RFindsChar 47) path above name
    → IsParted path above name
in_two path above name h =
    let i = h.0 in
    let j = h.1 in
    let lacks : HasNoSlash (drop j path) =
    λ at l e. NoCharPasses-char 47 (drop j path) at h.2.0 (omega (arith)) l e in (
      subst HasNoSlash (sym h.4) lacks,
      inl (sym (take-append-drop i path)
          ∙ ap (λ l. take i path ++ l) (drop_at_char 47 path i j h.2.1 (omega (arith)))
          ∙ sym (ap₂ (λ a n. a ++ 47 ∷ n) h.3 h.4)),
    )

pub in_one : (path : List ℕ) → RFindsChar 47 path None → IsParted path [] path
in_one path h = (
  (λ at l e. NoCharPasses-char 47 path at h (omega (arith)) l e),
  inr (refl, refl),
)
