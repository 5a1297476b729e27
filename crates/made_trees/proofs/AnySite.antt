-- Where nodes of runs are made that have trees.
use Rattle.std.proofs.Common.{◌≡◌, ◌∙◌, ◌≤◌, ◌-◌, List, [], ◌∷◌, ℕ, Some, ap, arith, drop, get_or, length, subst, sym, take}
use Rattle.std.proofs.Math.Seq.{take-length}
use Rattle.run_calls.specs.declared.task.RunKey.{RunKey}
use Rattle.made_trees.specs.Trees.{HeldValue, Trees, held}
use Rattle.made_trees.specs.declared.tree.TreeKey.{TreeKey}
use Rattle.run_folders.specs.Segments.{names_behind, path_names}
use Rattle.made_trees.specs.RunTrees.{IfTree, RunTreeValue, SiteValue, bound, in_tree, own, place_of, site_behind, site_of, there}

-- what holds of each folder holds of that of a tree
pub if_tree : (site : SiteValue) (P : RunKey → Type 0) → ((folder : RunKey) → P folder) → IfTree site P
if_tree own P h = tt
if_tree (place_of folder) P h = h folder
if_tree (bound digest) P h = tt
if_tree (in_tree folder names) P h = h folder
if_tree there P h = tt

-- a list has a first, and others behind it
pub first_and_rest : {A : Type 0} (xs : List A) (x : A) → 1 ≤ length xs → x ≡ get_or xs 0 x
    → xs ≡ x ∷ take (length xs - 1) (drop 1 xs)
first_and_rest [] x le is = absurd (omega (arith, le))
first_and_rest (y ∷ ys) x le is =
    let n : length (y ∷ ys) - 1 ≡ length ys = omega arith in
    ap (λ z. z ∷ ys) (sym is) ∙ ap (λ zs. x ∷ zs) (sym (ap (λ k. take k ys) n ∙ take-length ys))

-- the first of some trees is at what has these names, or above it
found_first : (run : RunKey) (es : Trees) (first : RunTreeValue) (ts left : List RunTreeValue)
    (names rest : List (List ℕ)) (site : SiteValue) → left ≡ first ∷ ts
    → Some rest ≡ names_behind (path_names first.path) names
    → site ≡ site_behind (held run first.key es) first.key.digest rest
    → site ≡ site_of run es left names
found_first run es first ts left names rest site is found e = rw is (rw (sym found) e)

pub found_at : (run : RunKey) (es : Trees) (first : RunTreeValue) (ts left : List RunTreeValue)
    (names rest : List (List ℕ)) (path : List ℕ) (key : TreeKey) (has : HeldValue) (site : SiteValue)
    → left ≡ first ∷ ts → path ≡ first.path → key ≡ first.key
    → Some rest ≡ names_behind (path_names path) names → has ≡ held run key es
    → site ≡ site_behind has key.digest rest → site ≡ site_of run es left names
found_at run es first ts left names rest path key has site is is_path is_key found holds e =
    found_first run es first ts left names rest site is
    (subst (λ (p : List ℕ). Some rest ≡ names_behind (path_names p) names) is_path found)
    (e ∙ ap (λ (h : HeldValue). site_behind h key.digest rest) holds
    ∙ ap (λ (k : TreeKey). site_behind (held run k es) k.digest rest) is_key)
