-- The folders in which runs work.
use Rattle.std.specs.Prelude.{◌≡◌, ◌<◌, ◌⊎◌, ℕ, List, [], ◌∷◌, ◌++◌, codes, get_or, length}
use Rattle.std.specs.Fmt.{decimal}
use Rattle.run_calls.specs.Values.{PlaceValue}
use Rattle.run_calls.specs.declared.task.RunKey.{RunKey}

-- `INSTANCE-JOB`, in decimal
abbrev pub root_name : ℕ → ℕ → List ℕ
root_name instance job = decimal instance ++ (codes "-" ++ decimal job)

-- a run's folder, in that of a start
abbrev pub root_path : List ℕ → ℕ → ℕ → List ℕ
root_path start instance job = start ++ (codes "/" ++ root_name instance job)

-- what has a path from a folder on; the folder itself where that is empty
abbrev pub below : List ℕ → List ℕ → List ℕ
below folder [] = folder
below folder (c ∷ cs) = folder ++ (codes "/" ++ (c ∷ cs))

-- the directory in which the program of a run works
abbrev pub working_path : List ℕ → PlaceValue → List ℕ
working_path start place = below (root_path start place.run.instance place.run.job) place.directory

-- what has these names from a folder on, each below the one before
abbrev pub below_all : List ℕ → List (List ℕ) → List ℕ
below_all folder [] = folder
below_all folder (name ∷ names) = below_all (below folder name) names

-- the folder beside a run's own, for what is removed of it
abbrev pub aside_name : ℕ → ℕ → List ℕ
aside_name instance job = decimal instance ++ (codes "-" ++ (decimal job ++ codes ".aside"))

-- what has these names from a run's folder on, in that of a start
abbrev pub node_path : RunKey → List (List ℕ) → List ℕ
node_path run names = below_all (root_name run.instance run.job) names

-- what has these names from an output on, whose own path is from the working directory on
abbrev pub left_path : PlaceValue → List ℕ → List (List ℕ) → List ℕ
left_path place path names =
    below_all (below (below (root_name place.run.instance place.run.job) place.directory) path) names

-- no slash is in a text
abbrev pub HasNoSlash : List ℕ → Type 0
HasNoSlash text = (at : ℕ) → at < length text → get_or text at 0 ≡ 47 → ⊥

-- a path is what is above, a slash, and a name that has none; or it is such a name alone
abbrev pub IsParted : List ℕ → List ℕ → List ℕ → Type 0
IsParted path above name = HasNoSlash name
    × ((path ≡ above ++ 47 ∷ name) ⊎ ((above ≡ []) × (path ≡ name)))
