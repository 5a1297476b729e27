-- Names behind those of a path.
use Rattle.std.proofs.Common.{◌≡◌, ◌<◌, ◌+◌, ◌∙◌, ℕ, List, [], ◌∷◌, Option, None, Some, map, length, refl, sym, ap, arith}
use Rattle.run_folders.specs.Segments.{names_behind}

-- none are behind a path that has names where there are none
pub none_behind : {X : Type 0} (bytes : X → List ℕ) (names : List X) (path : List (List ℕ)) (segment : List ℕ)
    (more : List (List ℕ)) (answer : Option (List (List ℕ))) → length names < 1 → path ≡ segment ∷ more
    → names_behind path (map bytes names) ≡ answer → None ≡ answer
none_behind bytes [] path segment more answer short is e =
    ap (λ (p : List (List ℕ)). names_behind p []) (sym is) ∙ e
none_behind bytes (x ∷ xs) path segment more answer short is e = absurd (omega arith)
