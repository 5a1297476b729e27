-- Directories, each text once.
use Rattle.std.proofs.Common.{◌≡◌, ◌≢◌, ◌⊎◌, inl, inr, ◌<◌, ℕ, Bool, true, false, List, [], ◌∷◌, ◌++◌, length, map, nat_eq, get_or, refl, sym, ap, ◌∙◌, arith, if◌then◌else◌}
use Rattle.std.specs.List.{AllPairs, Contains, list_any}
use Rattle.std.proofs.lemmas.List.Elements.{Contains-append_cases, Contains-append_left, Contains-append_right, Contains-push, Contains-push_cases}
use Rattle.std.proofs.lemmas.List.Folds.{Any-from_list_any, list_any_at}
use Rattle.std.proofs.lemmas.List.Quantifiers.{all_pairs_push}
use lib.Pointwise.{bytes_decides, pointwise}
use Rattle.tree_messages.specs.Directories.{DirectoryValue}
use Rattle.outcomes.specs.Trees.{directory_text, has_text_of, with_child, with_children}

abbrev Differ : DirectoryValue → DirectoryValue → Type 0
Differ u v = directory_text u ≢ directory_text v

differs : (before : List DirectoryValue) (v : DirectoryValue) → list_any (has_text_of v) before ≡ false → (k : ℕ) (d : DirectoryValue) →
    k < length before → Differ (get_or before k d) v
differs before v none k d less = λ same.
    (let test : has_text_of v (get_or before k d) ≡ true =
    (bytes_decides (directory_text v) (directory_text (get_or before k d))).1 (sym same) in
    let some = list_any_at (has_text_of v) before k d less test in cc)

once_more : (before : List DirectoryValue) (v : DirectoryValue) → AllPairs Differ before → AllPairs Differ (with_child before v)
once_more before v h = go (list_any (has_text_of v) before) refl where
  go : (b : Bool) → list_any (has_text_of v) before ≡ b → AllPairs Differ (if b then before else before ++ v ∷ [])
  go true e = h
  go false e = all_pairs_push Differ before v h (differs before v e)

once_all : (before vs : List DirectoryValue) → AllPairs Differ before → AllPairs Differ (with_children before vs)
once_all before [] h = h
once_all before (v ∷ vs) h = once_all (with_child before v) vs (once_more before v h)

none_pairs : AllPairs Differ []
none_pairs = λ i j d less short. absurd (omega arith)

pub each_once : (vs : List DirectoryValue) → AllPairs Differ (with_children [] vs)
each_once vs = once_all [] vs none_pairs

-- ---- each is there

in_none : {X : Type 0} (x : X) → Contains [] x → ⊥
in_none x c = absurd (omega (arith, c.1))

in_cases : {X : Type 0} (y : X) (xs : List X) (x : X) → Contains (y ∷ xs) x → (y ≡ x) ⊎ Contains xs x
in_cases {X = X} y xs x c = go (Contains-append_cases (y ∷ []) xs x c) where
  single : Contains [] x ⊎ (y ≡ x) → (y ≡ x) ⊎ Contains xs x
  single (inl h) = absurd (in_none x h)
  single (inr h) = inl h

  go : Contains (y ∷ []) x ⊎ Contains xs x → (y ≡ x) ⊎ Contains xs x
  go (inl h) = single (Contains-push_cases [] y x h)
  go (inr h) = inr h

abbrev HasText : List DirectoryValue → DirectoryValue → Type 0
HasText us v = (u : DirectoryValue) × Contains us u × (directory_text u ≡ directory_text v)

there : (before : List DirectoryValue) (v : DirectoryValue) → HasText (with_child before v) v
there before v = go (list_any (has_text_of v) before) refl where
  go : (b : Bool) → list_any (has_text_of v) before ≡ b → HasText (if b then before else before ++ v ∷ []) v
  go true e = let found = Any-from_list_any (has_text_of v) before e in
      (found.1, (found.0, found.2, found.3), sym ((bytes_decides (directory_text v) (directory_text found.1)).0 found.4))
  go false e = (v, Contains-push before v, refl)

kept : (before : List DirectoryValue) (w v : DirectoryValue) → HasText before v → HasText (with_child before w) v
kept before w v h = go (list_any (has_text_of w) before) where
  go : (b : Bool) → HasText (if b then before else before ++ w ∷ []) v
  go true = h
  go false = (h.0, Contains-append_left before (w ∷ []) h.0 h.1, h.2)

kept_all : (before vs : List DirectoryValue) (v : DirectoryValue) → HasText before v → HasText (with_children before vs) v
kept_all before [] v h = h
kept_all before (w ∷ ws) v h = kept_all (with_child before w) ws v (kept before w v h)

each_there : (before vs : List DirectoryValue) (v : DirectoryValue) → Contains vs v → HasText (with_children before vs) v
each_there before [] v c = absurd (in_none v c)
each_there before (w ∷ ws) v c = go (in_cases w ws v c) (each_there (with_child before w) ws v) where
  go : (w ≡ v) ⊎ Contains ws v → (Contains ws v → HasText (with_children (with_child before w) ws) v) →
      HasText (with_children (with_child before w) ws) v
  go (inl is) later = rw (← is) (kept_all (with_child before w) ws w (there before w))
  go (inr h) later = later h

pub each_child : (vs : List DirectoryValue) (v : DirectoryValue) → Contains vs v → HasText (with_children [] vs) v
each_child vs v c = each_there [] vs v c
