-- Digests of which each stands once, in the order met.
use Rattle.std.proofs.Common.{◌≡◌, Bool, true, false, ◌||◌, List, [], ◌∷◌, ◌++◌, refl, sym, ap, ◌∙◌, append_assoc}
use Rattle.std.specs.List.{list_any}
use Rattle.std.proofs.lemmas.List.{append-nil}
use Rattle.std.proofs.lemmas.List.Folds.{list_any-append}
use Rattle.digest.specs.declared.Digest.{Digest}
use Rattle.digest.specs.Naming.{same_digest}
use Rattle.digest.proofs.Same.{same_equal, same_refl, same_symm}
use Rattle.execution_messages.specs.Once.{IsEachOnce}
use Rattle.execution_messages.specs.Statuses.{distinct, with_distinct, with_all_distinct}

abbrev pub among : Digest → List Digest → Bool
among d ds = list_any (same_digest d) ds

last-of : (d c : Digest) → among d (c ∷ []) ≡ same_digest d c
last-of d c = go (same_digest d c) refl where
  go : (b : Bool) → same_digest d c ≡ b → among d (c ∷ []) ≡ b
  go true is = rw is refl
  go false is = rw is refl

push : (d c : Digest) (ds : List Digest) → among d (ds ++ c ∷ []) ≡ (among d ds || same_digest d c)
push d c ds = list_any-append (same_digest d) ds (c ∷ []) ∙ ap (λ (b : Bool). among d ds || b) (last-of d c)

pub or-false : (a b : Bool) → (a || b) ≡ false → (a ≡ false) × (b ≡ false)
or-false true b is = absurd (let no : true ≡ false = is in cc)
or-false false true is = absurd (let no : true ≡ false = is in cc)
or-false false false is = (refl, refl)

pub both-false : (a b : Bool) → a ≡ false → b ≡ false → (a || b) ≡ false
both-false a b x y = rw (x, y) refl

once-push : (c : Digest) (ds : List Digest) → among c ds ≡ false → IsEachOnce ds → IsEachOnce (ds ++ c ∷ [])
once-push c [] new h = (refl, tt)
once-push c (d ∷ ds) new h =
    let apart : (same_digest c d ≡ false) × (among c ds ≡ false) = or-false (same_digest c d) (among c ds) new in
    let other : among d (ds ++ c ∷ []) ≡ false = push d c ds ∙ both-false (among d ds) (same_digest d c) h.0 (same_symm d c ∙ apart.0) in
    (other, once-push c ds apart.1 h.1)

once-with : (ds : List Digest) (c : Digest) → IsEachOnce ds → IsEachOnce (with_distinct ds c)
once-with ds c h = go (among c ds) refl where
  go : (b : Bool) → among c ds ≡ b → IsEachOnce (with_distinct ds c)
  go true is = rw is h
  go false is = rw is (once-push c ds is h)

once-all : (ds cs : List Digest) → IsEachOnce ds → IsEachOnce (with_all_distinct ds cs)
once-all ds [] h = h
once-all ds (c ∷ cs) h = once-all (with_distinct ds c) cs (once-with ds c h)

pub each-once : (met : List Digest) → IsEachOnce (distinct met)
each-once met = once-all [] met tt

or-assoc : (a b c : Bool) → ((a || b) || c) ≡ (a || (b || c))
or-assoc true b c = refl
or-assoc false b c = refl

or-there : (a b : Bool) → (b ≡ true → a ≡ true) → (a || b) ≡ a
or-there true b h = refl
or-there false true h = sym (h refl)
or-there false false h = refl

among-with : (d c : Digest) (ds : List Digest) → among d (with_distinct ds c) ≡ (among d ds || same_digest d c)
among-with d c ds = go (among c ds) refl where
  go : (b : Bool) → among c ds ≡ b → among d (with_distinct ds c) ≡ (among d ds || same_digest d c)
  go true is = rw is (sym (or-there (among d ds) (same_digest d c) (λ one. ap (λ (x : Digest). among x ds) (same_equal d c one) ∙ is)))
  go false is = rw is (push d c ds)

among-all : (d : Digest) (ds cs : List Digest) → among d (with_all_distinct ds cs) ≡ (among d ds || among d cs)
among-all d ds [] = sym (or-there (among d ds) false (λ no. absurd (let other : false ≡ true = no in cc)))
among-all d ds (c ∷ cs) =
    among-all d (with_distinct ds c) cs ∙ ap (λ (b : Bool). b || among d cs) (among-with d c ds)
    ∙ or-assoc (among d ds) (same_digest d c) (among d cs)

pub same-ones : (d : Digest) (met : List Digest) → among d (distinct met) ≡ among d met
same-ones d met = among-all d [] met

all-append : (ds as' bs : List Digest) → with_all_distinct ds (as' ++ bs) ≡ with_all_distinct (with_all_distinct ds as') bs
all-append ds [] bs = refl
all-append ds (a ∷ as') bs = all-append (with_distinct ds a) as' bs

abbrev Begins : List Digest → List Digest → Type 0
Begins ds all = (more : List Digest) × (all ≡ ds ++ more)

begins-with : (ds : List Digest) (c : Digest) → Begins ds (with_distinct ds c)
begins-with ds c = go (among c ds) refl where
  go : (b : Bool) → among c ds ≡ b → Begins ds (with_distinct ds c)
  go true is = ([], rw is (sym (append-nil ds)))
  go false is = (c ∷ [], rw is refl)

begins-all : (ds cs : List Digest) → Begins ds (with_all_distinct ds cs)
begins-all ds [] = ([], sym (append-nil ds))
begins-all ds (c ∷ cs) =
    let first : Begins ds (with_distinct ds c) = begins-with ds c in
    let later : Begins (with_distinct ds c) (with_all_distinct (with_distinct ds c) cs) = begins-all (with_distinct ds c) cs in
    (first.0 ++ later.0, later.1 ∙ ap (λ (xs : List Digest). xs ++ later.0) first.1 ∙ append_assoc ds first.0 later.0)

pub first-first : (met later : List Digest) → (more : List Digest) × (distinct (met ++ later) ≡ distinct met ++ more)
first-first met later =
    let begins : Begins (distinct met) (with_all_distinct (distinct met) later) = begins-all (distinct met) later in
    (begins.0, all-append [] met later ∙ begins.1)
