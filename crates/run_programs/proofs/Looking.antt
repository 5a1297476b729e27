-- What is found among what is looked for, and what is left.
use Rattle.std.proofs.Common.{◌≡◌, ◌∙◌, ◌⊎◌, ℕ, zero, suc, ◌+◌, ◌<◌, sym, ap, subst, inl, inr, refl, Bool, true, false, cond, nat_lt, List, [], ◌∷◌, ◌++◌, length, map, take, drop, Some, None, option_map, find, position, slice_get, slice_index_or, string_bytes, arith}
use Rattle.std.specs.List.{position_from, position_or_len}
use Rattle.std.proofs.lemmas.Iterator.Adapters.{position_from-zero}
use Rattle.std.proofs.lemmas.List.Folds.{find_at}
use Rattle.run_calls.specs.declared.task.RunKey.{RunKey}
use Rattle.run_calls.specs.Values.{CommandValue, command_shown}
use Rattle.run_programs.specs.declared.sought.Sought.{Sought}
use Rattle.run_programs.specs.Launching.{Text}
use Rattle.run_programs.specs.Ways.{IsAmong, SoughtValue, sought_shown}

find-map : {X Y : Type 0} (p : Y → Bool) (f : X → Y) (xs : List X)
    → find p (map f xs) ≡ option_map f (find (λ x. p (f x)) xs)
find-map p f [] = refl
find-map {X} {Y} p f (x ∷ xs) = go (p (f x)) (find-map p f xs)
  where
    go : (b : Bool) → find p (map f xs) ≡ option_map f (find (λ y. p (f y)) xs)
        → cond b (Some (f x)) (find p (map f xs))
        ≡ option_map f (cond b (Some x) (find (λ y. p (f y)) xs))
    go true e = refl
    go false e = e

get_in : {X : Type 0} (xs : List X) (i : ℕ) (d : X) → i < length xs
    → slice_get xs i ≡ Some (slice_index_or xs i d)
get_in [] i d h = absurd (omega (arith, h))
get_in (x ∷ xs) zero d h = refl
get_in (x ∷ xs) (suc i) d h = get_in xs i d (omega (arith, h))

-- the first that passes, by its place
pub found : {X Y : Type 0} (p : Y → Bool) (f : X → Y) (xs : List X) (at : ℕ) (r : X)
    → position (λ x. p (f x)) xs ≡ Some at → at < length xs → r ≡ slice_index_or xs at r
    → Some (f r) ≡ find p (map f xs)
found {X} {Y} p f xs at r placed within is = sym (find-map p f xs ∙ ap (option_map f)
    (find_at (λ x. p (f x)) xs ∙ ap (slice_get xs) (here (nat_lt (position_or_len (λ x. p (f x)) xs)
    (length xs)) placed) ∙ get_in xs at r within ∙ ap Some (sym is)))
  where
    here : (b : Bool) → cond b (Some (position_or_len (λ x. p (f x)) xs)) None ≡ Some at
        → position_or_len (λ x. p (f x)) xs ≡ at
    here true e = cc
    here false e = absurd cc

none_from : {X : Type 0} (p : X → Bool) (i : ℕ) (xs : List X) → position_from p i xs ≡ None
    → find p xs ≡ None
none_from p i [] e = refl
none_from {X} p i (x ∷ xs) e = go (p x) e (none_from p (i + 1) xs)
  where
    go : (b : Bool) → cond b (Some i) (position_from p (i + 1) xs) ≡ None
        → (position_from p (i + 1) xs ≡ None → find p xs ≡ None)
        → cond b (Some x) (find p xs) ≡ None
    go true h later = absurd cc
    go false h later = later h

-- where none has a place none is found
pub none_found : {X Y : Type 0} (p : Y → Bool) (f : X → Y) (xs : List X)
    → position (λ x. p (f x)) xs ≡ None → None ≡ find p (map f xs)
none_found p f xs placed = sym (find-map p f xs ∙ ap (option_map f)
    (none_from (λ x. p (f x)) 0 xs (sym (position_from-zero (λ x. p (f x)) xs) ∙ placed)))

among-append : {X : Type 0} (x : X) (xs ys : List X) → IsAmong x (xs ++ ys)
    → IsAmong x ys ⊎ IsAmong x xs
among-append x [] ys m = inl m
among-append x (y ∷ xs) ys m = elim m [
  | inl e ↦ inr (inl e)
  | inr more ↦ elim (among-append x xs ys more) [
    | inl behind ↦ inl behind
    | inr before ↦ inr (inr before)
  ]
]

-- all that is left when one was taken out was there before
pub among_left : {X Y : Type 0} (f : X → Y) (y : Y) (xs : List X) (at : ℕ)
    → IsAmong y (map f (take at xs ++ drop (suc at) xs)) → IsAmong y (map f xs)
among_left f y [] zero m = m
among_left f y [] (suc at) m = m
among_left f y (x ∷ xs) zero m = inr m
among_left f y (x ∷ xs) (suc at) m = elim m [
  | inl e ↦ inl e
  | inr more ↦ inr (among_left f y xs at more)
]

-- what is found is there
pub among_found : {X : Type 0} (p : X → Bool) (x : X) (xs : List X) → find p xs ≡ Some x
    → IsAmong x xs
among_found p x [] e = absurd cc
among_found {X} p x (y ∷ ys) e = go (p y) e (among_found p x ys)
  where
    go : (b : Bool) → cond b (Some y) (find p ys) ≡ Some x → (find p ys ≡ Some x → IsAmong x ys)
        → IsAmong x (y ∷ ys)
    go true h later = inl cc
    go false h later = inr (later h)

among_one_more : {X : Type 0} (x y : X) (xs : List X) → IsAmong x (xs ++ y ∷ [])
    → (x ≡ y) ⊎ IsAmong x xs
among_one_more x y xs m = elim (among-append x xs (y ∷ []) m) [
  | inl new ↦ elim new [ inl e ↦ inl e | inr none ↦ absurd none ]
  | inr old ↦ inr old
]

-- one more, which is this
pub adds_one : (this that : SoughtValue) (before after : List SoughtValue)
    → after ≡ before ++ that ∷ [] → that ≡ this → (v : SoughtValue) → IsAmong v after
    → (v ≡ this) ⊎ IsAmong v before
adds_one this that before after is same v m =
    elim (among_one_more v that before (subst (λ (vs : List SoughtValue). IsAmong v vs) is m)) [
      | inl e ↦ inl (e ∙ same)
      | inr old ↦ inr old
    ]

abbrev value : RunKey → Text → CommandValue → SoughtValue
value r d o = record { run = r; directory = d; command = o }

pub shown_as : (s : Sought) (run : RunKey) (directory : Text) (command : CommandValue)
    → s.run ≡ run → string_bytes s.directory ≡ directory → command_shown s.ordered ≡ command
    → sought_shown s ≡ record { run = run; directory = directory; command = command }
shown_as s run directory command same_run same_directory same_command =
    ap (λ (r : RunKey). value r (string_bytes s.directory) (command_shown s.ordered)) same_run
    ∙ ap (λ (d : Text). value run d (command_shown s.ordered)) same_directory
    ∙ ap (λ (o : CommandValue). value run directory o) same_command

-- what was taken out, and may be looked for again
pub none_added : (p : SoughtValue → Bool) (s : SoughtValue) (before taken after : List SoughtValue)
    → Some s ≡ find p before → ((v : SoughtValue) → IsAmong v taken → IsAmong v before)
    → ((v : SoughtValue) → IsAmong v after → (v ≡ s) ⊎ IsAmong v taken)
    → (v : SoughtValue) → IsAmong v after → IsAmong v before
none_added p s before taken after is left adds v m = elim (adds v m) [
  | inl e ↦ subst (λ (x : SoughtValue). IsAmong x before) (sym e)
      (among_found p s before (sym is))
  | inr old ↦ left v old
]
