-- Keys that stand once, as runs begin and end and jobs are noted and taken out.
use Rattle.std.proofs.Common.{inl, inr, ◌≡◌, ℕ, Bool, true, false, List, [], ◌∷◌, ◌++◌, refl, sym, ap, subst, ◌∙◌, append-nil, append_assoc}
use Rattle.std.specs.Prelude.{◌||◌, ◌&&◌, ◌==◌, ⊤, Option, Some, None, option_map, Result}
use Rattle.std.specs.List.{list_any}
use Rattle.std.proofs.lemmas.Bool.{eqb-true, eq-eqb, true≢false}
use Rattle.run_calls.specs.declared.task.RunKey.{RunKey}
use Rattle.run_calls.specs.declared.folder.Place.{Place}
use Rattle.runner.specs.declared.fault.RunFault.{RunFault}
use Rattle.run_calls.specs.declared.outcome.Outcome.{Outcome}
use Rattle.runner.specs.declared.stage.State.{State}
use Rattle.runner.specs.declared.stage.State.TheVariants.{Live, Over}
use Rattle.runner.specs.declared.stage.Run.{Run}
use Rattle.run_calls.specs.Calls.{FolderCall, ProgramCall}
use Rattle.runner.specs.Runs.{HasNone, is_run_of, run_of, run_kept, still_left, Ends, GoesOn, IsAsked, IsKilled}
use Rattle.job_runs.specs.Keys.{is_key, has_key, without_key, run_keys, all_keys, AreOnce}

or-false : (a b : Bool) → (a || b) ≡ false → (a ≡ false) × (b ≡ false)
or-false true b h = absurd (true≢false h)
or-false false b h = (refl, h)

or-both : (a b : Bool) → a ≡ false → b ≡ false → (a || b) ≡ false
or-both true b is other = absurd (true≢false is)
or-both false b is other = other

none-append : (k : RunKey) (xs ys : List RunKey) → has_key k xs ≡ false → has_key k ys ≡ false → has_key k (xs ++ ys) ≡ false
none-append k [] ys h g = g
none-append k (x ∷ xs) ys h g =
    let both = or-false (is_key k x) (has_key k xs) h in
    or-both (is_key k x) (has_key k (xs ++ ys)) both.0 (none-append k xs ys both.1 g)

none-front : (k : RunKey) (xs ys : List RunKey) → has_key k (xs ++ ys) ≡ false → has_key k xs ≡ false
none-front k [] ys h = refl
none-front k (x ∷ xs) ys h =
    let both = or-false (is_key k x) (has_key k (xs ++ ys)) h in
    or-both (is_key k x) (has_key k xs) both.0 (none-front k xs ys both.1)

none-back : (k : RunKey) (xs ys : List RunKey) → has_key k (xs ++ ys) ≡ false → has_key k ys ≡ false
none-back k [] ys h = h
none-back k (x ∷ xs) ys h = none-back k xs ys (or-false (is_key k x) (has_key k (xs ++ ys)) h).1

pub none-without : (k key : RunKey) (ks : List RunKey) → has_key k ks ≡ false → has_key k (without_key key ks) ≡ false
none-without k key [] h = refl
none-without k key (x ∷ ks) h =
    let both = or-false (is_key k x) (has_key k ks) h in
    go (is_key key x) refl both.0 (none-without k key ks both.1) where
      go : (b : Bool) → is_key key x ≡ b → is_key k x ≡ false → has_key k (without_key key ks) ≡ false →
          has_key k (without_key key (x ∷ ks)) ≡ false
      go true same apart later = rw same later
      go false other apart later = rw other (or-both (is_key k x) (has_key k (without_key key ks)) apart later)

pub none-left : (key : RunKey) (ks : List RunKey) → has_key key (without_key key ks) ≡ false
none-left key [] = refl
none-left key (x ∷ ks) = go (is_key key x) refl (none-left key ks) where
  go : (b : Bool) → is_key key x ≡ b → has_key key (without_key key ks) ≡ false → has_key key (without_key key (x ∷ ks)) ≡ false
  go true same later = rw same later
  go false other later = rw other (or-both (is_key key x) (has_key key (without_key key ks)) other later)

-- ---- none stands twice

once-filter : (key : RunKey) (ks : List RunKey) → AreOnce ks → AreOnce (without_key key ks)
once-filter key [] h = tt
once-filter key (x ∷ ks) h = go (is_key key x) refl (once-filter key ks h.1) where
  go : (b : Bool) → is_key key x ≡ b → AreOnce (without_key key ks) → AreOnce (without_key key (x ∷ ks))
  go true same later = rw same later
  go false other later = rw other (none-without x key ks h.0, later)

pub once-without : (key : RunKey) (xs ys : List RunKey) → AreOnce (xs ++ ys) → AreOnce (xs ++ without_key key ys)
once-without key [] ys h = once-filter key ys h
once-without key (x ∷ xs) ys h = (
  none-append x xs (without_key key ys) (none-front x xs ys h.0)
      (none-without x key ys (none-back x xs ys h.0)),
  once-without key xs ys h.1,
)

once-remove : (xs : List RunKey) (k : RunKey) (ys : List RunKey) → AreOnce (xs ++ k ∷ ys) → AreOnce (xs ++ ys)
once-remove [] k ys h = h.1
once-remove (x ∷ xs) k ys h = (
  none-append x xs ys (none-front x xs (k ∷ ys) h.0)
      (or-false (is_key x k) (has_key x ys) (none-back x xs (k ∷ ys) h.0)).1,
  once-remove xs k ys h.1,
)

and-true : (a b : Bool) → (a && b) ≡ true → (a ≡ true) × (b ≡ true)
and-true true b h = (refl, h)
and-true false b h = absurd (true≢false (sym h))

and-both : (a b : Bool) → a ≡ true → b ≡ true → (a && b) ≡ true
and-both true b is other = other
and-both false b is other = absurd (true≢false (sym is))

same-both : (a b : RunKey) → is_key a b ≡ false → is_key b a ≡ false
same-both a b h = go (is_key b a) refl where
  go : (t : Bool) → is_key b a ≡ t → is_key b a ≡ false
  go false is = is
  go true is =
      let both = and-true (a.instance == b.instance) (a.job == b.job) is in
      let there : is_key a b ≡ true = and-both (b.instance == a.instance) (b.job == a.job)
      (eq-eqb b.instance a.instance (sym (eqb-true a.instance b.instance both.0)))
      (eq-eqb b.job a.job (sym (eqb-true a.job b.job both.1))) in
      absurd (true≢false (sym there ∙ h))

pub once-insert : (xs : List RunKey) (k : RunKey) (ys : List RunKey) → has_key k (xs ++ ys) ≡ false → AreOnce (xs ++ ys) →
    AreOnce (xs ++ k ∷ ys)
once-insert [] k ys new h = (new, h)
once-insert (x ∷ xs) k ys new h =
    let both = or-false (is_key k x) (has_key k (xs ++ ys)) new in (
      none-append x xs (k ∷ ys) (none-front x xs ys h.0)
          (or-both (is_key x k) (has_key x ys) (same-both k x both.0) (none-back x xs ys h.0)),
      once-insert xs k ys both.1 h.1,
    )

-- ---- of runs

keys-at : (earlier : List Run) (run : Run) (later : List Run) (to_begin : List RunKey) →
    all_keys (earlier ++ run ∷ later) to_begin ≡ run_keys earlier ++ run.place.run ∷ all_keys later to_begin
keys-at [] run later to_begin = refl
keys-at (r ∷ earlier) run later to_begin = ap (λ (ks : List RunKey). r.place.run ∷ ks) (keys-at earlier run later to_begin)

keys-beside : (earlier later : List Run) (to_begin : List RunKey) →
    all_keys (earlier ++ later) to_begin ≡ run_keys earlier ++ all_keys later to_begin
keys-beside [] later to_begin = refl
keys-beside (r ∷ earlier) later to_begin = ap (λ (ks : List RunKey). r.place.run ∷ ks) (keys-beside earlier later to_begin)

behind : (runs : List Run) (run : Run) (to_begin : List RunKey) →
    all_keys (runs ++ run ∷ []) to_begin ≡ run_keys runs ++ run.place.run ∷ to_begin
behind [] run to_begin = refl
behind (r ∷ runs) run to_begin = ap (λ (ks : List RunKey). r.place.run ∷ ks) (behind runs run to_begin)

abbrev StayOnce : List Run → List Run → List RunKey → Type 0
StayOnce old new to_begin = AreOnce (all_keys old to_begin) → AreOnce (all_keys new to_begin)

kept-once : (earlier later : List Run) (place : Place) (kept : Option State) (to_begin : List RunKey) →
    AreOnce (run_keys earlier ++ place.run ∷ all_keys later to_begin) →
    AreOnce (all_keys (earlier ++ (run_kept place kept ++ later)) to_begin)
kept-once earlier later place (Some s) to_begin h = subst AreOnce (sym (keys-at earlier (run_of place s) later to_begin)) h
kept-once earlier later place None to_begin h =
    subst AreOnce (sym (keys-beside earlier later to_begin)) (once-remove (run_keys earlier) place.run (all_keys later to_begin) h)

ends-once : (key : RunKey) (state : State) (old new : List Run) (f g : Option (List FolderCall)) (p q : Option (List ProgramCall))
    (to_begin : List RunKey) → Ends key state old new f g p q → StayOnce old new to_begin
ends-once key state old new f g p q to_begin e h =
    subst (λ (rs : List Run). AreOnce (all_keys rs to_begin)) (sym e.then)
    (kept-once e.earlier e.later e.place (option_map Over (still_left e.left)) to_begin
    (subst AreOnce (keys-at e.earlier (run_of e.place state) e.later to_begin)
    (subst (λ (rs : List Run). AreOnce (all_keys rs to_begin)) e.there h)))

goes-once : (text : ℕ → List ℕ) (key : RunKey) (r : Result (Option Outcome) RunFault) (old new : List Run) (f g : Option (List FolderCall))
    (p q : Option (List ProgramCall)) (to_begin : List RunKey) → GoesOn text key r old new f g p q → StayOnce old new to_begin
goes-once text key r old new f g p q to_begin e h =
    subst (λ (rs : List Run). AreOnce (all_keys rs to_begin)) (sym e.then)
    (kept-once e.earlier e.later e.place e.kept to_begin
    (subst AreOnce (keys-at e.earlier (run_of e.place (Live e.stage)) e.later to_begin)
    (subst (λ (rs : List Run). AreOnce (all_keys rs to_begin)) e.there h)))

pub same-once : (old new : List Run) (to_begin : List RunKey) → new ≡ old → StayOnce old new to_begin
same-once old new to_begin same h = subst (λ (rs : List Run). AreOnce (all_keys rs to_begin)) (sym same) h

pub killed-once : (key : RunKey) (told : Result ⊤ RunFault) (old new : List Run) (f g : Option (List FolderCall))
    (p q : Option (List ProgramCall)) (to_begin : List RunKey) → IsKilled key told old new f g p q → StayOnce old new to_begin
killed-once key told old new f g p q to_begin (inl h) = same-once old new to_begin h.0.1
killed-once key told old new f g p q to_begin (inr ended) = ends-once key ended.0 old new f g p q to_begin ended.1

pub asked-once : (text : ℕ → List ℕ) (key : RunKey) (r : Result (Option Outcome) RunFault) (old new : List Run)
    (f g : Option (List FolderCall)) (p q : Option (List ProgramCall)) (to_begin : List RunKey) → IsAsked text key r old new f g p q →
    StayOnce old new to_begin
asked-once text key r old new f g p q to_begin (inl h) = same-once old new to_begin h.0.1
asked-once text key r old new f g p q to_begin (inr (inl ended)) = ends-once key (Over ended.0) old new f g p q to_begin ended.1
asked-once text key r old new f g p q to_begin (inr (inr goes)) = goes-once text key r old new f g p q to_begin goes

-- ---- of a runner and the jobs noted beside it

begun-once : (key : RunKey) (old new : List Run) (run : Run) (to_begin : List RunKey) → new ≡ old ++ run ∷ [] → run.place.run ≡ key →
    has_key key (all_keys old to_begin) ≡ false → AreOnce (all_keys old to_begin) → AreOnce (all_keys new to_begin)
begun-once key old new run to_begin added same none h =
    subst (λ (rs : List Run). AreOnce (all_keys rs to_begin)) (sym added)
    (subst AreOnce (sym (behind old run to_begin))
    (subst (λ (k : RunKey). AreOnce (run_keys old ++ k ∷ to_begin)) (sym same) (once-insert (run_keys old) key to_begin none h)))

none-of : (key : RunKey) (runs : List Run) → HasNone key runs → has_key key (run_keys runs) ≡ false
none-of key [] h = refl
none-of key (r ∷ rs) h =
    let both = or-false (is_run_of key r) (list_any (is_run_of key) rs) h in
    or-both (is_key key r.place.run) (has_key key (run_keys rs)) both.0 (none-of key rs both.1)

-- one that was not there begins, and is noted no more
pub first-once : (key : RunKey) (old new : List Run) (run : Run) (to_begin : List RunKey) → new ≡ old ++ run ∷ [] → run.place.run ≡ key →
    HasNone key old → AreOnce (all_keys old to_begin) → AreOnce (all_keys new (without_key key to_begin))
first-once key old new run to_begin added same none h =
    let apart : has_key key (all_keys old (without_key key to_begin)) ≡ false =
    none-append key (run_keys old) (without_key key to_begin) (none-of key old none) (none-left key to_begin) in
    begun-once key old new run (without_key key to_begin) added same apart (once-without key (run_keys old) to_begin h)

pub noted-once : (key : RunKey) (runs : List Run) (to_begin : List RunKey) → has_key key (all_keys runs to_begin) ≡ false →
    AreOnce (all_keys runs to_begin) → AreOnce (all_keys runs (to_begin ++ key ∷ []))
noted-once key runs to_begin none h =
    let same : all_keys runs to_begin ≡ all_keys runs to_begin ++ [] = sym (append-nil (all_keys runs to_begin)) in
    subst AreOnce (append_assoc (run_keys runs) to_begin (key ∷ []))
    (once-insert (all_keys runs to_begin) key [] (subst (λ (ks : List RunKey). has_key key ks ≡ false) same none) (subst AreOnce same h))

pub taken-once : (key : RunKey) (runs : List Run) (before now : List RunKey) → now ≡ without_key key before →
    AreOnce (all_keys runs before) → AreOnce (all_keys runs now)
taken-once key runs before now is h = subst (λ (ks : List RunKey). AreOnce (all_keys runs ks)) (sym is)
    (once-without key (run_keys runs) before h)
