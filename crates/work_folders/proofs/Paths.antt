-- Where paths below the folder of a run lead.
use Rattle.std.proofs.Common.{◌≡◌, ◌∙◌, ◌⊎◌, ◌<◌, ◌+◌, ◌/◌, ◌%◌, ◌==◌, ℕ, Bool, true, false, suc, zero, List, [], ◌∷◌, ◌++◌, Option, Some, None, inl, inr, refl, sym, ap, subst, cond, arith, append_assoc}
use Rattle.std.specs.Borrow.{Bor}
use Rattle.std.specs.Fmt.{decimal, digits, digits_onto, digit_glyph}
use Rattle.std.specs.List.{All}
use Rattle.std.specs.Option.{option_map_or}
use Rattle.std.proofs.lemmas.List.Elements.{All-append, All-cons, All-head, All-tail}
use Rattle.std.proofs.lemmas.List.Splits.{slice_split_at, slice_split_none}
use Rattle.run_calls.specs.Values.{PlaceValue}
use Rattle.run_calls.specs.declared.task.RunKey.{RunKey}
use Rattle.run_folders.specs.Folders.{HasNoSlash, IsParted, below, below_all, left_path, node_path, root_name}
use Rattle.run_folders.specs.Segments.{path_names, segments_of}
use Rattle.system.specs.Places.{OnTheWay, entry, place_below}
use Rattle.work_folders.specs.Reading.{place_of}
use Rattle.work_folders.specs.Rights.{Below, IsBelow, root_place}

abbrev is_slash : ℕ → Bool
is_slash byte = byte == 47

abbrev IsOther : ℕ → Type 0
IsOther byte = is_slash byte ≡ false

-- ---- names of runs have no slash

behind : (least more : ℕ) → 47 < least → IsOther (least + more)
behind least more h = grind (arith)

either : (b : Bool) (x y : ℕ) → IsOther x → IsOther y → IsOther (cond b x y)
either true x y hx hy = hx
either false x y hx hy = hy

all_either : (b : Bool) (xs ys : List ℕ) → All IsOther xs → All IsOther ys → All IsOther (cond b xs ys)
all_either true xs ys hx hy = hx
all_either false xs ys hx hy = hy

glyph_other : (d : ℕ) → IsOther (digit_glyph false d)
glyph_other d = either _ (48 + d) (87 + d) (behind 48 d (grind (arith))) (behind 87 d (grind (arith)))

onto_other : (k n : ℕ) (acc : List ℕ) → All IsOther acc → All IsOther (digits_onto k 10 false n acc)
onto_other zero n acc h = h
onto_other (suc k) n acc h =
    let more = All-cons IsOther (digit_glyph false (n % 10)) acc (glyph_other (n % 10)) h in
    all_either (n / 10 == 0) (digit_glyph false (n % 10) ∷ acc) _ more
    (onto_other k (n / 10) (digit_glyph false (n % 10) ∷ acc) more)

none_other : All IsOther []
none_other k d h = absurd (omega arith)

decimal_other : (n : ℕ) → All IsOther (decimal n)
unfolding digits
decimal_other n = onto_other 64 n [] none_other

root_other : (instance job : ℕ) → All IsOther (root_name instance job)
root_other instance job = All-append IsOther (decimal instance) (45 ∷ decimal job)
    (decimal_other instance) (All-cons IsOther 45 (decimal job) refl (decimal_other job))

-- ---- the names of a path below that of a run

names_mid : (xs ys : List ℕ) (c : ℕ) → path_names (xs ++ c ∷ ys) ≡ segments_of (xs ++ c ∷ ys)
names_mid [] ys c = refl
names_mid (x ∷ xs) ys c = refl

names_root : (instance job : ℕ) → path_names (root_name instance job) ≡ root_name instance job ∷ []
names_root instance job = names_mid (decimal instance) (decimal job) 45
    ∙ slice_split_none is_slash (root_name instance job) (root_other instance job)

names_behind : (instance job : ℕ) (rest : List ℕ)
    → path_names (root_name instance job ++ 47 ∷ rest) ≡ root_name instance job ∷ segments_of rest
names_behind instance job rest = names_mid (root_name instance job) rest 47
    ∙ slice_split_at is_slash (root_name instance job) 47 rest (root_other instance job) refl

leads : (run : RunKey) (path : List ℕ) → IsBelow (root_name run.instance run.job) path
    → (rest : List (List ℕ)) × (path_names path ≡ root_name run.instance run.job ∷ rest)
leads run path (inl e) = ([], ap path_names e ∙ names_root run.instance run.job)
leads run path (inr (rest, e)) =
    (segments_of rest, ap path_names e ∙ names_behind run.instance run.job rest)

-- ---- a path that is parted

no_slash_within : (xs ys : List ℕ) → All IsOther (xs ++ 47 ∷ ys) → ⊥
no_slash_within [] ys h = let wrong : true ≡ false = All-head IsOther 47 ys h in cc
no_slash_within (x ∷ xs) ys h = no_slash_within xs ys (All-tail IsOther x (xs ++ 47 ∷ ys) h)

no_slash_at : (xs ys : List ℕ) → HasNoSlash (xs ++ 47 ∷ ys) → ⊥
no_slash_at [] ys h = h 0 (grind (arith)) refl
no_slash_at (x ∷ xs) ys h = no_slash_at xs ys (λ at l e. h (suc at) (omega arith) e)

cut : (folder above rest name : List ℕ) → All IsOther folder
    → folder ++ 47 ∷ rest ≡ above ++ 47 ∷ name → IsBelow folder above
cut [] [] rest name h e = inl refl
cut [] (a ∷ above) rest name h e = let first : a ≡ 47 = cc in inr (above, ap (λ c. c ∷ above) first)
cut (c ∷ folder) [] rest name h e =
    let first : c ≡ 47 = cc in
    let wrong : is_slash 47 ≡ false = subst IsOther first (All-head IsOther c folder h) in cc
cut (c ∷ folder) (a ∷ above) rest name h e =
    let first : a ≡ c = cc in
    let more : folder ++ 47 ∷ rest ≡ above ++ 47 ∷ name = cc in
    cut_on c a folder above first
    (cut folder above rest name (All-tail IsOther c folder h) more)
  where
    cut_on : (c a : ℕ) (folder above : List ℕ) → a ≡ c → IsBelow folder above
        → IsBelow (c ∷ folder) (a ∷ above)
    cut_on c a folder above first (inl e) = inl cc
    cut_on c a folder above first (inr (rest, e)) = inr (rest, cc)

parts : (folder path above name : List ℕ) → All IsOther folder → IsBelow folder path
    → IsParted path above name → ((above ≡ []) × (name ≡ folder)) ⊎ IsBelow folder above
parts folder path above name h (inl e) (lacks, inl at) =
    absurd (no_slash_within above name (subst (All IsOther) (sym e ∙ at) h))
parts folder path above name h (inr (rest, e)) (lacks, inl at) =
    inr (cut folder above rest name h (sym e ∙ at))
parts folder path above name h (inl e) (lacks, inr (none, at)) = inl (none, sym at ∙ e)
parts folder path above name h (inr (rest, e)) (lacks, inr (none, at)) =
    absurd (no_slash_at folder rest (subst HasNoSlash (sym at ∙ e) lacks))

-- ---- places

below_one : (place : Option (List (List ℕ))) (names : List (List ℕ)) (name : List ℕ)
    → place_below place (names ++ name ∷ []) ≡ entry name (place_below place names)
below_one place [] name = refl
below_one place (first ∷ names) name = below_one (entry first place) names name

on_the_way : (may : Option (List (List ℕ)) → Type 0) (place : Option (List (List ℕ))) (names : List (List ℕ))
    → Below may place → OnTheWay may place names
on_the_way may place [] h = tt
on_the_way may place (name ∷ names) h =
    (h (name ∷ []), on_the_way may (entry name place) names (λ more. h (name ∷ more)))

from_root : (may : Option (List (List ℕ)) → Type 0) (start : Option (List (List ℕ))) (run : RunKey)
    (names : List (List ℕ)) → Below may (root_place start run)
    → OnTheWay may start (root_name run.instance run.job ∷ names)
from_root may start run names h = (h [], on_the_way may (root_place start run) names h)

-- each directory on the way of a path below the folder of a run
pub way_to : (may : Option (List (List ℕ)) → Type 0) (start : Option (List (List ℕ))) (run : RunKey) (path : List ℕ)
    → IsBelow (root_name run.instance run.job) path → Below may (root_place start run)
    → OnTheWay may start (path_names path)
way_to may start run path under h =
    let (rest, e) = leads run path under in rw e (from_root may start run rest h)

-- each directory above what such a path leads to
pub way_above : (may : Option (List (List ℕ)) → Type 0) (start : Option (List (List ℕ))) (run : RunKey)
    (path above name : List ℕ) → IsBelow (root_name run.instance run.job) path → IsParted path above name
    → Below may (root_place start run) → OnTheWay may start (path_names above)
way_above may start run path above name under parted h = by
    (parts (root_name run.instance run.job) path above name (root_other run.instance run.job) under parted)
  where
    by : (((above ≡ []) × (name ≡ root_name run.instance run.job))
        ⊎ IsBelow (root_name run.instance run.job) above) → OnTheWay may start (path_names above)
    by (inl (none, e)) = rw none tt
    by (inr more) = way_to may start run above more h

-- what such a path leads to
pub at_path : (may : Option (List (List ℕ)) → Type 0) (start : Option (List (List ℕ))) (run : RunKey)
    (path above name : List ℕ) → IsBelow (root_name run.instance run.job) path → IsParted path above name
    → Below may (root_place start run) → may (place_of start above name)
at_path may start run path above name under parted h = by
    (parts (root_name run.instance run.job) path above name (root_other run.instance run.job) under parted)
  where
    by : (((above ≡ []) × (name ≡ root_name run.instance run.job))
        ⊎ IsBelow (root_name run.instance run.job) above) → may (place_of start above name)
    by (inl (none, e)) = rw (none, e) (h [])
    by (inr more) = let (rest, e) = leads run above more in
        rw e (subst may (below_one (root_place start run) rest name) (h (rest ++ name ∷ [])))

-- what is in the directory to which such a path leads, and that itself
pub in_path : (may : Option (List (List ℕ)) → Type 0) (start : Option (List (List ℕ))) (run : RunKey) (path : List ℕ)
    → IsBelow (root_name run.instance run.job) path → Below may (root_place start run)
    → may (place_below start (path_names path))
in_path may start run path under h = let (rest, e) = leads run path under in rw e (h rest)

pub each_in_path : (may : Option (List (List ℕ)) → Type 0) (start : Option (List (List ℕ))) (run : RunKey) (path : List ℕ)
    → IsBelow (root_name run.instance run.job) path → Below may (root_place start run)
    → (name : List ℕ) → may (entry name (place_below start (path_names path)))
each_in_path may start run path under h name = let (rest, e) = leads run path under in
    rw e (subst may (below_one (root_place start run) rest name) (h (rest ++ name ∷ [])))

-- ---- paths of runs

stays_below : (folder path more : List ℕ) → IsBelow folder path → IsBelow folder (below path more)
stays_below folder path [] h = h
stays_below folder path (c ∷ cs) (inl e) = inr (c ∷ cs, ap (λ p. p ++ 47 ∷ c ∷ cs) e)
stays_below folder path (c ∷ cs) (inr (rest, e)) = inr (
  rest ++ 47 ∷ c ∷ cs,
  ap (λ p. p ++ 47 ∷ c ∷ cs) e ∙ append_assoc folder (47 ∷ rest) (47 ∷ c ∷ cs),
)

all_below : (folder path : List ℕ) (names : List (List ℕ)) → IsBelow folder path → IsBelow folder (below_all path names)
all_below folder path [] h = h
all_below folder path (name ∷ names) h =
    all_below folder (below path name) names (stays_below folder path name h)

pub node_below : (run : RunKey) (names : List (List ℕ))
    → IsBelow (root_name run.instance run.job) (node_path run names)
node_below run names = all_below _ _ names (inl refl)

pub left_below : (place : PlaceValue) (path : List ℕ) (names : List (List ℕ))
    → IsBelow (root_name place.run.instance place.run.job) (left_path place path names)
left_below place path names = all_below _ _ names
    (stays_below _ _ path (stays_below _ _ place.directory (inl refl)))

pub file_below : (place : PlaceValue) (path : List ℕ) (names : List (List ℕ)) (name : Option (Bor (List ℕ)))
    → IsBelow (root_name place.run.instance place.run.job) (option_map_or
    (λ n. below (left_path place path names) n.now) name (left_path place path names))
file_below place path names None = left_below place path names
file_below place path names (Some n) =
    stays_below _ (left_path place path names) n.now (left_below place path names)

-- the same of texts that are such paths
pub is_node : (run : RunKey) (names : List (List ℕ)) (path : List ℕ) → path ≡ node_path run names
    → IsBelow (root_name run.instance run.job) path
is_node run names path e = rw e (node_below run names)

pub is_left : (place : PlaceValue) (above : List ℕ) (names : List (List ℕ)) (path : List ℕ)
    → path ≡ left_path place above names → IsBelow (root_name place.run.instance place.run.job) path
is_left place above names path e = rw e (left_below place above names)

pub is_file : (place : PlaceValue) (above : List ℕ) (names : List (List ℕ)) (name : Option (Bor (List ℕ))) (path : List ℕ)
    → path ≡ option_map_or (λ n. below (left_path place above names) n.now) name (left_path place above names)
    → IsBelow (root_name place.run.instance place.run.job) path
is_file place above names name path e = rw e (file_below place above names name)
