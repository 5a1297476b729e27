-- What claims come to.
use Rattle.std.specs.Prelude.{◌≡◌, ◌⊎◌, ◌+◌, ℕ, false, List, [], ◌∷◌, ◌++◌, None, Some}
use Rattle.std.specs.List.{AllZip}
use Rattle.std.specs.Map.{set_value}
use Rattle.run_calls.specs.declared.task.RunKey.{RunKey}
use Rattle.made_trees.specs.Trees.{IsLetGo, StoreValue, Trees, TreeValue, leaving, making, same_run, same_tree, tree_at, tree_folder, whole, with_state}
use Rattle.made_trees.specs.declared.store.Claim.{Claim}
use Rattle.made_trees.specs.declared.store.Claim.TheVariants.{Bound, Make, Waits, Copied}
use Rattle.made_trees.specs.declared.store.Removal.{Removal}
use Rattle.made_trees.specs.declared.tree.TreeKey.{TreeKey}

-- the tree of a key is whole, has this folder, and the run has it from now on
pub record IsBound (run : RunKey) (key : TreeKey) (folder : RunKey) (old new : Trees) : Type 0 where
  pub tree : TreeValue
  pub users : List RunKey
  pub there : tree_at key old ≡ Some tree
  pub is_whole : tree.state ≡ whole users
  pub folder_is : folder ≡ tree_folder key.instance tree.number
  pub used : new ≡ set_value (same_tree key) old (with_state (whole (users ++ run ∷ [])) tree)

-- there was no tree of a key, and the run makes one, of a new number
pub record IsBegunBy (run : RunKey) (key : TreeKey) (size : ℕ) (folder : RunKey)
    (old new : StoreValue) : Type 0 where
  pub none : tree_at key old.trees ≡ None
  pub folder_is : folder ≡ tree_folder key.instance old.next
  pub begun : new ≡ record old {
    trees = old.trees ++ (key, record { number = old.next; size = size; state = making run }) ∷ [];
    next = old.next + 1;
  }

-- another run makes the tree of a key
pub record IsMadeByOther (run : RunKey) (key : TreeKey) (old new : Trees) : Type 0 where
  pub tree : TreeValue
  pub maker : RunKey
  pub there : tree_at key old ≡ Some tree
  pub is_making : tree.state ≡ making maker
  pub other : same_run run maker ≡ false
  pub same : new ≡ old

-- some of an instance, which are whole and no run has, are to be removed from now on; all others
-- stay as they are
abbrev pub LetGo : ℕ → Trees → Trees → Type 0
LetGo instance old new = AllZip (λ e f. (f ≡ e)
    ⊎ ((e.0.instance ≡ instance) × (f.0 ≡ e.0) × IsLetGo e.1 f.1)) old new

-- nothing changes but the trees
abbrev pub Rest : StoreValue → StoreValue → Type 0
Rest old new = new ≡ record old { trees = new.trees }

pub record MakesRoom (instance : ℕ) (old new : StoreValue) : Type 0 where
  pub trees : LetGo instance old.trees new.trees
  pub rest : Rest old new

-- what is answered to a run that claims the tree of a key, and what becomes of the trees
abbrev pub IsClaimedSo : RunKey → TreeKey → ℕ → StoreValue → StoreValue → Claim → Type 0
IsClaimedSo run key size old new (Bound folder) =
    IsBound run key folder old.trees new.trees × Rest old new
IsClaimedSo run key size old new (Make folder) = IsBegunBy run key size folder old new
IsClaimedSo run key size old new Waits = IsMadeByOther run key old.trees new.trees × Rest old new
IsClaimedSo run key size old new Copied = MakesRoom run.instance old new

-- the same of a tree that is there
abbrev pub IsFoundSo : RunKey → TreeKey → Trees → Trees → Claim → Type 0
IsFoundSo run key old new (Bound folder) = IsBound run key folder old new
IsFoundSo run key old new (Make folder) = ⊥
IsFoundSo run key old new Waits = IsMadeByOther run key old new
IsFoundSo run key old new Copied = new ≡ old

-- a tree that is there is to be removed, and has this folder
pub record IsRemoval (trees : Trees) (removal : Removal) : Type 0 where
  pub tree : TreeValue
  pub there : tree_at removal.key trees ≡ Some tree
  pub is_leaving : tree.state ≡ leaving
  pub folder_is : removal.folder ≡ tree_folder removal.key.instance tree.number

-- ---- of one tree

pub record IsUsed (run : RunKey) (folder : RunKey) (old new : TreeValue) : Type 0 where
  pub users : List RunKey
  pub is_whole : old.state ≡ whole users
  pub folder_is : folder ≡ tree_folder run.instance old.number
  pub used : new ≡ with_state (whole (users ++ run ∷ [])) old

pub record IsMadeBy (run : RunKey) (old new : TreeValue) : Type 0 where
  pub maker : RunKey
  pub is_making : old.state ≡ making maker
  pub other : same_run run maker ≡ false
  pub same : new ≡ old

-- what a claim of a run of its instance comes to
abbrev pub IsSeenSo : RunKey → TreeValue → TreeValue → Claim → Type 0
IsSeenSo run old new (Bound folder) = IsUsed run folder old new
IsSeenSo run old new (Make folder) = ⊥
IsSeenSo run old new Waits = IsMadeBy run old new
IsSeenSo run old new Copied = new ≡ old
