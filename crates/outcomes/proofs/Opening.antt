-- Directories that are opened down to a level.
use Rattle.std.proofs.Common.{◌≡◌, ◌≤◌, ◌<◌, ℕ, zero, suc, ◌+◌, ◌-◌, List, [], ◌∷◌, length, map, refl, sym, ap, ◌∙◌, arith, rules}
use Rattle.tree_messages.specs.Directories.{DirectoryValue}
use Rattle.std.proofs.lemmas.List.{length-map}
use Rattle.outcomes.specs.declared.folder.OpenFolder.{OpenFolder}
use Rattle.outcomes.specs.Gathering.{below_nothing, down_to, nothing, open_shown}

more_nothing : (n : ℕ) (vs : List DirectoryValue) → below_nothing n (nothing ∷ vs) ≡ nothing ∷ below_nothing n vs
more_nothing zero vs = refl
more_nothing (suc n) vs = ap (λ (ws : List DirectoryValue). nothing ∷ ws) (more_nothing n vs)

pub down_next : (level : ℕ) (vs : List DirectoryValue) → length vs < level → down_to level (nothing ∷ vs) ≡ down_to level vs
down_next level vs less =
    let gap : level - length vs ≡ suc (level - suc (length vs)) = omega arith in
    rw gap (more_nothing (level - suc (length vs)) vs)

pub down_end : (level : ℕ) (vs : List DirectoryValue) → level ≤ length vs → down_to level vs ≡ vs
down_end level vs there =
    let none : level - length vs ≡ 0 = omega arith in
    rw none refl

length_nothing : (n : ℕ) (vs : List DirectoryValue) → length (below_nothing n vs) ≡ n + length vs
length_nothing zero vs = omega arith
length_nothing (suc n) vs = let later = length_nothing n vs in omega (arith, later)

pub down_length : (level : ℕ) (vs : List DirectoryValue) → level ≤ length (down_to level vs)
down_length level vs = let long = length_nothing (level - length vs) vs in omega (arith, long)

-- ---- of folders

pub opened_next : (level : ℕ) (fs : List OpenFolder) (f : OpenFolder) → length fs < level → open_shown f ≡ nothing →
    down_to level (map open_shown (f ∷ fs)) ≡ down_to level (map open_shown fs)
opened_next level fs f less is =
    let long : length (map open_shown fs) ≡ length fs = length-map fs open_shown in
    rw is (down_next level (map open_shown fs) (omega (arith, long, less)))

pub opened_end : (level : ℕ) (fs : List OpenFolder) → level ≤ length fs → down_to level (map open_shown fs) ≡ map open_shown fs
opened_end level fs there =
    let long : length (map open_shown fs) ≡ length fs = length-map fs open_shown in
    down_end level (map open_shown fs) (omega (arith, long, there))

pub opened_some : (level : ℕ) (vs : List DirectoryValue) → 1 ≤ level → [] ≡ down_to level vs → ⊥
opened_some level vs some none =
    let long = down_length level vs in
    let zero : 0 ≡ length (down_to level vs) = ap (λ (ws : List DirectoryValue). length ws) none in
    absurd (omega (arith, long, zero, some))
