-- What the run of an action gives.
use Rattle.std.specs.Prelude.{ℕ, ℤ, Bool, List}

-- what stands in an output directory: a file's text, and whether it may be executed; or a directory
pub data NodeKindValue : Type 0 where
  as_file : List ℕ → Bool → NodeKindValue
  as_directory : NodeKindValue

-- its name in the directory that it stands in, and the level of that, where the output directory
-- itself has level 1
pub record OutputNodeValue : Type 0 where
  pub name : List ℕ
  pub level : ℕ
  pub kind : NodeKindValue

-- a file, by its path, its text, and whether it may be executed; or a directory, by its path and
-- the nodes in it in walk order: of each directory the files, then each directory followed by what
-- is in it
pub data OutputValue : Type 0 where
  output_file : List ℕ → List ℕ → Bool → OutputValue
  output_tree : List ℕ → List OutputNodeValue → OutputValue

pub record ExitedValue : Type 0 where
  pub code : ℤ
  pub stdout : List ℕ
  pub stderr : List ℕ
  pub outputs : List OutputValue

pub data OutcomeValue : Type 0 where
  failed : OutcomeValue
  exited : ExitedValue → OutcomeValue
