-- What a change of one tree leaves of all of them.
use Rattle.std.proofs.Common.{◌≡◌, ◌∙◌, ◌+◌, ◌≤◌, ◌⊎◌, ◌==◌, ℕ, Bool, true, false, [], ◌∷◌, ◌++◌, Option, None, Some, inl, inr, refl, sym, ap, subst, arith, if◌then◌else◌}
use Rattle.std.specs.Prelude.{OnErr, Result, Ok, Err}
use Rattle.run_calls.specs.declared.task.RunKey.{RunKey}
use Rattle.std.specs.Map.{lookup, remove_entry, set_value}
use Rattle.made_trees.specs.Trees.{AreRising, IsLetGo, StoreValue, Trees, TreeState, TreeValue, changed, leaving, sizes_of, tree_at, tree_folder, with_state, whole, same_tree}
use Rattle.made_trees.specs.Claims.{IsClaimedSo, IsFoundSo, IsSeenSo, LetGo, MakesRoom, Rest}
use Rattle.made_trees.specs.declared.store.Claim.{Claim}
use Rattle.made_trees.specs.declared.store.Claim.TheVariants.{Bound, Make, Waits, Copied}
use Rattle.made_trees.specs.declared.tree.TreeKey.{TreeKey}

pub rising_from : (least from to : ℕ) (es : Trees) → least ≤ from → AreRising from to es → AreRising least to es
rising_from least from to [] l r = omega arith
rising_from least from to (e ∷ es) l r = (let first = r.0 in omega arith, r.1)

pub let_go_refl : (i : ℕ) (es : Trees) → LetGo i es es
let_go_refl i [] = tt
let_go_refl i (e ∷ es) = (inl refl, let_go_refl i es)

-- what one tree counts of those of an instance
abbrev part : ℕ → TreeKey × TreeValue → ℕ
part i e = if e.0.instance == i then e.1.size else 0

same_part : (i : ℕ) (k : TreeKey) (t u : TreeValue) → t.size ≡ u.size → part i (k, t) ≡ part i (k, u)
same_part i k t u s = ap (λ (n : ℕ). if k.instance == i then n else 0) s

-- where no tree's bytes change, the limits are kept
pub same_within : (most : ℕ) (es fs : Trees) → ((i : ℕ) → sizes_of i fs ≡ sizes_of i es)
    → ((i : ℕ) → sizes_of i es ≤ most) → (i : ℕ) → sizes_of i fs ≤ most
same_within most es fs same within i = omega (arith, same i, within i)

module _ (test : TreeKey → Bool) where
  found_first : (e : TreeKey × TreeValue) (es : Trees) (t : TreeValue) → test e.0 ≡ true → lookup test (e ∷ es) ≡ Some t → e.1 ≡ t
  found_first e es t k h = let h' = rw k at h in cc

  pub set_same : (es : Trees) (t : TreeValue) → lookup test es ≡ Some t → set_value test es t ≡ es
  set_same [] t h = refl
  set_same (e ∷ es) t h = by (test e.0) refl (λ k. set_same es t (rw k at h))
    where
      by : (b : Bool) → test e.0 ≡ b → (test e.0 ≡ false → set_value test es t ≡ es)
          → set_value test (e ∷ es) t ≡ e ∷ es
      by true k more = let same = found_first e es t k h in
          rw k (ap (λ (u : TreeValue). (e.0, u) ∷ es) (sym same))
      by false k more = rw k (ap (λ (r : Trees). e ∷ r) (more k))

  pub set_sizes : (i : ℕ) (es : Trees) (t v : TreeValue) → lookup test es ≡ Some t → v.size ≡ t.size
      → sizes_of i (set_value test es v) ≡ sizes_of i es
  set_sizes i [] t v h s = refl
  set_sizes i (e ∷ es) t v h s = by (test e.0) refl (λ k. set_sizes i es t v (rw k at h) s)
    where
      by : (b : Bool) → test e.0 ≡ b → (test e.0 ≡ false → sizes_of i (set_value test es v) ≡ sizes_of i es)
          → sizes_of i (set_value test (e ∷ es) v) ≡ sizes_of i (e ∷ es)
      by true k more =
          let same = found_first e es t k h in
          rw k (ap (λ (n : ℕ). n + sizes_of i es)
          (same_part i e.0 v e.1 (s ∙ ap (λ (u : TreeValue). u.size) (sym same))))
      by false k more = rw k (ap (λ (n : ℕ). part i e + n) (more k))

  pub set_rising : (from to : ℕ) (es : Trees) (t v : TreeValue) → lookup test es ≡ Some t → v.number ≡ t.number
      → AreRising from to es → AreRising from to (set_value test es v)
  set_rising from to [] t v h n r = r
  set_rising from to (e ∷ es) t v h n r = by (test e.0) refl
      (λ k. set_rising (e.1.number + 1) to es t v (rw k at h) n r.1)
    where
      by : (b : Bool) → test e.0 ≡ b
          → (test e.0 ≡ false → AreRising (e.1.number + 1) to (set_value test es v))
          → AreRising from to (set_value test (e ∷ es) v)
      by true k more =
          let same : v.number ≡ e.1.number = n ∙ ap (λ (u : TreeValue). u.number) (sym (found_first e es t k h)) in
          rw (k, same) r
      by false k more = rw k (r.0, more k)

  pub remove_sizes : (i : ℕ) (es : Trees) → sizes_of i (remove_entry test es) ≤ sizes_of i es
  remove_sizes i [] = omega arith
  remove_sizes i (e ∷ es) = by (test e.0) refl (remove_sizes i es)
    where
      by : (b : Bool) → test e.0 ≡ b → sizes_of i (remove_entry test es) ≤ sizes_of i es
          → sizes_of i (remove_entry test (e ∷ es)) ≤ sizes_of i (e ∷ es)
      by true k more = rw k (omega arith)
      by false k more = rw k (omega arith)

  pub remove_rising : (from to : ℕ) (es : Trees) → AreRising from to es → AreRising from to (remove_entry test es)
  remove_rising from to [] r = r
  remove_rising from to (e ∷ es) r = by (test e.0) refl (remove_rising (e.1.number + 1) to es r.1)
    where
      by : (b : Bool) → test e.0 ≡ b → AreRising (e.1.number + 1) to (remove_entry test es)
          → AreRising from to (remove_entry test (e ∷ es))
      by true k more = rw k (rising_from from (e.1.number + 1) to es (let least = r.0 in omega arith) r.1)
      by false k more = rw k (r.0, more)

pub let_go_set : (key : TreeKey) (es : Trees) (t v : TreeValue) → tree_at key es ≡ Some t → IsLetGo t v
    → LetGo key.instance es (set_value (same_tree key) es v)
let_go_set key [] t v h g = tt
let_go_set key (e ∷ es) t v h g = by (same_tree key e.0) refl (λ k. let_go_set key es t v (rw k at h) g)
  where
    by : (b : Bool) → same_tree key e.0 ≡ b
        → (same_tree key e.0 ≡ false → LetGo key.instance es (set_value (same_tree key) es v))
        → LetGo key.instance (e ∷ es) (set_value (same_tree key) (e ∷ es) v)
    by true k more =
        let of_it : e.0.instance ≡ key.instance = grind arith in
        rw k (
          inr (
            of_it,
            refl,
            subst (λ (u : TreeValue). IsLetGo u v)
                (sym (found_first (same_tree key) e es t k h)) g,
          ),
          let_go_refl key.instance es,
        )
    by false k more = rw k (inl refl, more k)

pub append_sizes : (i : ℕ) (es : Trees) (key : TreeKey) (t : TreeValue)
    → sizes_of i (es ++ (key, t) ∷ []) ≡ sizes_of i es + (if key.instance == i then t.size else 0)
append_sizes i [] key t = omega arith
append_sizes i (e ∷ es) key t = let more = append_sizes i es key t in omega arith

-- a tree for which there is room keeps the limits of all instances
pub append_within : (most : ℕ) (es : Trees) (key : TreeKey) (t : TreeValue)
    → ((i : ℕ) → sizes_of i es ≤ most) → sizes_of key.instance es + t.size ≤ most
    → (i : ℕ) → sizes_of i (es ++ (key, t) ∷ []) ≤ most
append_within most es key t within room i = by (key.instance == i) refl (append_sizes i es key t)
  where
    by : (b : Bool) → (key.instance == i) ≡ b
        → sizes_of i (es ++ (key, t) ∷ []) ≡ sizes_of i es + (if key.instance == i then t.size else 0)
        → sizes_of i (es ++ (key, t) ∷ []) ≤ most
    by true k sum =
        let it : key.instance ≡ i = grind arith in
        let enough : sizes_of i es + t.size ≤ most = subst (λ (n : ℕ). sizes_of n es + t.size ≤ most) it room in
        let all : sizes_of i (es ++ (key, t) ∷ []) ≡ sizes_of i es + t.size = rw k at sum in
        omega (arith, all, enough)
    by false k sum =
        let all : sizes_of i (es ++ (key, t) ∷ []) ≡ sizes_of i es + 0 = rw k at sum in
        omega (arith, all, within i)

pub append_rising : (from to : ℕ) (es : Trees) (key : TreeKey) (t : TreeValue) → t.number ≡ to
    → AreRising from to es → AreRising from (to + 1) (es ++ (key, t) ∷ [])
append_rising from to [] key t n r = (omega arith, omega arith)
append_rising from to (e ∷ es) key t n r = (r.0, append_rising (e.1.number + 1) to es key t n r.1)

-- ---- trees that go

-- what is of one instance, and was let go or not
abbrev LetGoOne : ℕ → TreeKey × TreeValue → TreeKey × TreeValue → Type 0
LetGoOne i e f = (f ≡ e) ⊎ ((e.0.instance ≡ i) × (f.0 ≡ e.0) × IsLetGo e.1 f.1)

pub one_key : (i : ℕ) (e f : TreeKey × TreeValue) → LetGoOne i e f → f.0 ≡ e.0
one_key i e f (inl s) = ap (λ (x : TreeKey × TreeValue). x.0) s
one_key i e f (inr (o, k, g)) = k

pub one_state : (i : ℕ) (e f : TreeKey × TreeValue) → LetGoOne i e f → IsLetGo e.1 f.1
one_state i e f (inl s) = inl (ap (λ (x : TreeKey × TreeValue). x.1) s)
one_state i e f (inr (o, k, g)) = g

same_size : (t u : TreeValue) → IsLetGo t u → u.size ≡ t.size
same_size t u (inl e) = ap (λ (v : TreeValue). v.size) e
same_size t u (inr (w, e)) = ap (λ (v : TreeValue). v.size) e

same_number : (t u : TreeValue) → IsLetGo t u → u.number ≡ t.number
same_number t u (inl e) = ap (λ (v : TreeValue). v.number) e
same_number t u (inr (w, e)) = ap (λ (v : TreeValue). v.number) e

pub let_go_sizes : (i j : ℕ) (es fs : Trees) → LetGo i es fs → sizes_of j fs ≡ sizes_of j es
let_go_sizes i j [] [] h = refl
let_go_sizes i j [] (f ∷ fs) h = absurd h
let_go_sizes i j (e ∷ es) [] h = absurd h
let_go_sizes i j (e ∷ es) (f ∷ fs) h =
    let key = one_key i e f h.0 in
    let size = same_size e.1 f.1 (one_state i e f h.0) in
    let one : part j f ≡ part j e = rw (key, size) refl in
    let more = let_go_sizes i j es fs h.1 in omega (arith, one, more)

pub let_go_rising : (i from to : ℕ) (es fs : Trees) → LetGo i es fs → AreRising from to es → AreRising from to fs
let_go_rising i from to [] [] h r = r
let_go_rising i from to [] (f ∷ fs) h r = absurd h
let_go_rising i from to (e ∷ es) [] h r = absurd h
let_go_rising i from to (e ∷ es) (f ∷ fs) h r =
    rw (same_number e.1 f.1 (one_state i e f h.0)) (r.0, let_go_rising i (e.1.number + 1) to es fs h.1 r.1)

twice : (t u v : TreeValue) → IsLetGo t u → IsLetGo u v → IsLetGo t v
twice t u v (inl e) h = subst (λ (w : TreeValue). IsLetGo w v) e h
twice t u v (inr (w, e)) (inl f) = inr (w, f ∙ e)
twice t u v (inr (w, e)) (inr (x, f)) =
    inr (w, f ∙ ap (λ (y : TreeValue). with_state leaving y) e)

one_twice : (i : ℕ) (e f g : TreeKey × TreeValue) → LetGoOne i e f → LetGoOne i f g → LetGoOne i e g
one_twice i e f g (inl s) k = subst (λ (x : TreeKey × TreeValue). LetGoOne i x g) s k
one_twice i e f g (inr h) (inl s) = subst (λ (x : TreeKey × TreeValue). LetGoOne i e x) (sym s) (inr h)
one_twice i e f g (inr (o, k, h)) (inr (p, l, m)) = inr (o, l ∙ k, twice e.1 f.1 g.1 h m)

pub let_go_twice : (i : ℕ) (es fs gs : Trees) → LetGo i es fs → LetGo i fs gs → LetGo i es gs
let_go_twice i [] [] gs h k = k
let_go_twice i [] (f ∷ fs) gs h k = absurd h
let_go_twice i (e ∷ es) [] gs h k = absurd h
let_go_twice i (e ∷ es) (f ∷ fs) [] h k = absurd k
let_go_twice i (e ∷ es) (f ∷ fs) (g ∷ gs) h k = (one_twice i e f g h.0 k.0, let_go_twice i es fs gs h.1 k.1)

-- ---- a state that changes

module _ (f : TreeValue → TreeState) where
  abbrev to_state : TreeValue → TreeValue
  to_state t = with_state (f t) t

  pub changed_sizes : (i : ℕ) (key : TreeKey) (es : Trees) → sizes_of i (changed to_state key es) ≡ sizes_of i es
  changed_sizes i key es = by (tree_at key es) refl
    where
      by : (o : Option TreeValue) → tree_at key es ≡ o → sizes_of i (changed to_state key es) ≡ sizes_of i es
      by None k = rw k refl
      by (Some t) k = rw k (set_sizes (same_tree key) i es t (to_state t) k refl)

  pub changed_rising : (from to : ℕ) (key : TreeKey) (es : Trees) → AreRising from to es
      → AreRising from to (changed to_state key es)
  changed_rising from to key es r = by (tree_at key es) refl
    where
      by : (o : Option TreeValue) → tree_at key es ≡ o → AreRising from to (changed to_state key es)
      by None k = rw k r
      by (Some t) k = rw k (set_rising (same_tree key) from to es t (to_state t) k refl r)

-- ---- claims

module _ (run : RunKey) (key : TreeKey) (es fs : Trees) where
  pub found_so : (t v : TreeValue) (claim : Claim) → key.instance ≡ run.instance
      → tree_at key es ≡ Some t → fs ≡ set_value (same_tree key) es v → IsSeenSo run t v claim
      → IsFoundSo run key es fs claim
  found_so t v (Bound folder) own h e seen = record {
    tree = t;
    users = seen.users;
    there = h;
    is_whole = seen.is_whole;
    folder_is = seen.folder_is ∙ ap (λ (i : ℕ). tree_folder i t.number) (sym own);
    used = e ∙ ap (λ (w : TreeValue). set_value (same_tree key) es w) seen.used;
  }
  found_so t v (Make folder) own h e seen = seen
  found_so t v Waits own h e seen = record {
    tree = t;
    maker = seen.maker;
    there = h;
    is_making = seen.is_making;
    other = seen.other;
    same = e ∙ ap (λ (w : TreeValue). set_value (same_tree key) es w) seen.same ∙ set_same (same_tree key) es t h;
  }
  found_so t v Copied own h e seen =
      e ∙ ap (λ (w : TreeValue). set_value (same_tree key) es w) seen ∙ set_same (same_tree key) es t h

  pub found_sizes : (i : ℕ) (claim : Claim) → IsFoundSo run key es fs claim → sizes_of i fs ≡ sizes_of i es
  found_sizes i (Bound folder) h =
      ap (sizes_of i) h.used ∙ set_sizes (same_tree key) i es h.tree (with_state (whole (h.users ++ run ∷ [])) h.tree) h.there refl
  found_sizes i (Make folder) h = absurd h
  found_sizes i Waits h = ap (sizes_of i) h.same
  found_sizes i Copied h = ap (sizes_of i) h

  pub found_rising : (from to : ℕ) (claim : Claim) → IsFoundSo run key es fs claim → AreRising from to es
      → AreRising from to fs
  found_rising from to (Bound folder) h r =
      rw h.used (set_rising (same_tree key) from to es h.tree
      (with_state (whole (h.users ++ run ∷ [])) h.tree) h.there refl r)
  found_rising from to (Make folder) h r = absurd h
  found_rising from to Waits h r = rw h.same r
  found_rising from to Copied h r = rw h r

pub found_claimed : (run : RunKey) (key : TreeKey) (size : ℕ) (old new : StoreValue) (claim : Claim)
    → Rest old new → IsFoundSo run key old.trees new.trees claim → IsClaimedSo run key size old new claim
found_claimed run key size old new (Bound folder) rest h = (h, rest)
found_claimed run key size old new (Make folder) rest h = absurd h
found_claimed run key size old new Waits rest h = (h, rest)
found_claimed run key size old new Copied rest h =
    record {
      trees = subst (λ (l : Trees). LetGo run.instance old.trees l) (sym h) (let_go_refl run.instance old.trees);
      rest = rest;
    }

pub room_refl : (i : ℕ) (s : StoreValue) → MakesRoom i s s
room_refl i s = record { trees = let_go_refl i s.trees; rest = refl }

abbrev put : Trees → StoreValue → StoreValue
put l v = record v { trees = l }

pub room_twice : (i : ℕ) (s t u : StoreValue) → MakesRoom i s t → MakesRoom i t u → MakesRoom i s u
room_twice i s t u h k = record {
  trees = let_go_twice i s.trees t.trees u.trees h.trees k.trees;
  rest = k.rest ∙ ap (put u.trees) h.rest;
}

pub on_err : {A E : Type 0} {P : Type 0} (r : Result A E) → P → OnErr r P
on_err (Ok x) p = tt
on_err (Err e) p = p
