-- What may be touched where runs work.
use Rattle.std.specs.Prelude.{◌≡◌, ℕ, List, ◌++◌, Option, codes}
use Rattle.run_calls.specs.declared.task.RunKey.{RunKey}
use Rattle.run_folders.specs.Folders.{aside_name, root_name}
pub use Rattle.run_folders.specs.Below.{IsBelow}
use Rattle.system.specs.Places.{AtAndBelow, MayTake, entry, place_below}

-- something may be done at a place, and at each below it
abbrev pub Below : (Option (List (List ℕ)) → Type 0) → Option (List (List ℕ)) → Type 0
Below may place = (names : List (List ℕ)) → may (place_below place names)

-- ---- of a run

-- where its folder stands in that of the start, by its two numbers
abbrev pub root_place : Option (List (List ℕ)) → RunKey → Option (List (List ℕ))
root_place start run = entry (root_name run.instance run.job) start

-- the same of its folder aside
abbrev pub aside_place : Option (List (List ℕ)) → RunKey → Option (List (List ℕ))
aside_place start run = entry (aside_name run.instance run.job) start

-- a file of its folder may get another name in its folder aside, and be opened by that
pub record MayLink (look change settled : Option (List (List ℕ)) → Type 0)
    (start : Option (List (List ℕ))) (run : RunKey) : Type 0 where
  pub aside : look (aside_place start run)
  pub linked : MayTake look change settled (entry (codes "linked") (aside_place start run))

-- its folder may be removed, by way of its folder aside
pub record MayRemove (look change settled : Option (List (List ℕ)) → Type 0)
    (start : Option (List (List ℕ))) (run : RunKey) : Type 0 where
  pub root : MayTake look change settled (root_place start run)
  pub aside : AtAndBelow (MayTake look change settled) (aside_place start run)

-- all that is done for it: below its folder, and in its folder aside
pub record MayRun (look change settled : Option (List (List ℕ)) → Type 0)
    (start : Option (List (List ℕ))) (run : RunKey) : Type 0 where
  pub looks : Below look (root_place start run)
  pub changes : Below change (root_place start run)
  pub is_settled : settled (root_place start run)
  pub aside : AtAndBelow (MayTake look change settled) (aside_place start run)

-- the file that says which trees it has may be written, in its folder aside
pub record MayTell (look change : Option (List (List ℕ)) → Type 0) (start : Option (List (List ℕ)))
    (run : RunKey) : Type 0 where
  pub aside : look (aside_place start run)
  pub file : change (entry (codes "trees") (aside_place start run))

-- ---- of the directory for all

abbrev pub start_name : List ℕ → List ℕ
start_name number = codes "start-" ++ number

-- a name is that of a folder of a start
abbrev pub IsStartName : List ℕ → Type 0
IsStartName name = (number : List ℕ) × (name ≡ start_name number)

-- the folder of a start: itself, the trial whether a folder can be made in it, and those of runs
pub record MayStart (look change settled : Option (List (List ℕ)) → Type 0)
    (start : Option (List (List ℕ))) : Type 0 where
  pub itself : MayTake look change settled start
  pub trial : change (entry (codes "trial") start)
  pub runs : (run : RunKey) → MayRun look change settled start run

-- the directory itself is listed alone; in it stand the mark, the folder for what former starts
-- left, and those of starts
pub record MayWork (look change settled : Option (List (List ℕ)) → Type 0)
    (directory : Option (List (List ℕ))) : Type 0 where
  pub listed : look directory
  pub sees_mark : look (entry (codes "remoted.lock") directory)
  pub makes_mark : change (entry (codes "remoted.lock") directory)
  pub former : AtAndBelow (MayTake look change settled) (entry (codes "former") directory)
  pub starts : (number : List ℕ) → MayStart look change settled (entry (start_name number) directory)

-- a place is the folder of a start in a directory
pub record IsStartIn (directory start : Option (List (List ℕ))) : Type 0 where
  pub number : List ℕ
  pub is : start ≡ entry (start_name number) directory
