-- Two numbers in decimal, with a `-` between them, are read from their text.
use Rattle.std.proofs.Common.{◌≡◌, ◌<◌, ◌^◌, ℕ, List, [], ◌∷◌, ◌++◌, refl, subst, arith}
use Rattle.std.specs.Prelude.{codes}
use Rattle.std.specs.Fmt.{decimal}
use Rattle.std.specs.Char.{digit_value}
use Rattle.std.specs.Str.Parse.{AllDigits}
use Rattle.std.proofs.lemmas.Fmt.{decimal_injective, decimal_is_IsNumeral}
use Rattle.std.proofs.lemmas.List.{append_cancel_left}
use Rattle.run_folders.specs.Folders.{root_name, root_path}

-- the first `-` behind digits is the only place to cut
cut_once : (a b x y : List ℕ) → AllDigits 10 a → AllDigits 10 b → a ++ 45 ∷ x ≡ b ++ 45 ∷ y → (a ≡ b) × (x ≡ y)
cut_once [] [] x y da db h = (refl, cc)
cut_once [] (c ∷ b) x y da db h = let same : c ≡ 45 = cc in let not : digit_value 45 < 10 =
    subst (λ (n : ℕ). digit_value n < 10) same db.0 in grind (arith)
cut_once (c ∷ a) [] x y da db h = let same : c ≡ 45 = cc in let not : digit_value 45 < 10 =
    subst (λ (n : ℕ). digit_value n < 10) same da.0 in grind (arith)
cut_once (c ∷ a) (d ∷ b) x y da db h =
    let first : c ≡ d = cc in
    let rest : a ++ 45 ∷ x ≡ b ++ 45 ∷ y = cc in
    let both = cut_once a b x y da.1 db.1 rest in
    let tail = both.0 in
    (cc, both.1)

pub two_runs : (start : List ℕ) (i j k l : ℕ) → i < 2 ^ 32 → j < 2 ^ 64 → k < 2 ^ 32 → l < 2 ^ 64
    → root_path start i j ≡ root_path start k l → (i ≡ k) × (j ≡ l)
two_runs start i j k l hi hj hk hl h =
    let small_i : i < 2 ^ 64 = grind (arith) in
    let small_k : k < 2 ^ 64 = grind (arith) in
    let slashed = append_cancel_left start (codes "/" ++ root_name i j) (codes "/" ++ root_name k l) h in
    let names = append_cancel_left (codes "/") (root_name i j) (root_name k l) slashed in
    let both = cut_once (decimal i) (decimal k) (decimal j) (decimal l)
    (decimal_is_IsNumeral i small_i).0.1 (decimal_is_IsNumeral k small_k).0.1 names in
    (decimal_injective i k small_i small_k both.0, decimal_injective j l hj hl both.1)
