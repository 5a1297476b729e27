-- What runs use they use afterwards, too.
use Rattle.std.proofs.Common.{◌≡◌, ℕ, false, List, [], ◌∷◌, refl, sym, subst}
use Rattle.run_calls.specs.declared.task.RunKey.{RunKey}
use Rattle.made_trees.specs.Claims.{IsClaimedSo}
use Rattle.made_trees.specs.Trees.{StoreValue, Trees, changed, finished, given_back, held, same_run, uses, without_leaving}
use Rattle.made_trees.specs.declared.store.Claim.{Claim}
use Rattle.made_trees.specs.declared.tree.TreeKey.{TreeKey}
use Rattle.made_trees.proofs.Staying.{stays_when_claimed, stays_when_finished, stays_when_given_back, stays_when_removed}
use Rattle.made_trees.proofs.Claimed.{view_of}
use Rattle.made_trees.specs.RunTrees.{AllStayUsed, OfRunValue, OthersStayUsed, RunTreeValue, RunTreesValue, all_finished, all_given_back, trees_of}

pub all_same : (es fs : Trees) → fs ≡ es → AllStayUsed es fs
all_same es fs e = λ run key folder h. rw e h

pub all_twice : (es fs gs : Trees) → AllStayUsed es fs → AllStayUsed fs gs → AllStayUsed es gs
all_twice es fs gs h k = λ run key folder u. k run key folder (h run key folder u)

pub all_claimed : (run : RunKey) (key : TreeKey) (size : ℕ) (claim : Claim) (old new : StoreValue)
    → IsClaimedSo run key size old new claim → AllStayUsed old.trees new.trees
all_claimed run key size claim old new h = λ any mine folder u.
    stays_when_claimed any mine folder run key size claim old new h u

all_removed : (key : TreeKey) (es : Trees) → AllStayUsed es (without_leaving key es)
all_removed key es = λ any mine folder u. stays_when_removed any mine folder key es u

pub when_removed : (key : TreeKey) (old new : StoreValue) (runs : List OfRunValue) (view : RunTreesValue)
    → view_of old runs ≡ view → new ≡ record old { trees = without_leaving key old.trees }
    → AllStayUsed view.store.trees new.trees
when_removed key old new runs view is e =
    subst (λ (v : RunTreesValue). AllStayUsed v.store.trees new.trees) is
    (subst (λ (s : StoreValue). AllStayUsed old.trees s.trees) (sym e) (all_removed key old.trees))

others_finished : (run : RunKey) (ts : List RunTreeValue) (es : Trees)
    → OthersStayUsed run es (all_finished run ts es)
others_finished run [] es = λ other apart key folder u. u
others_finished run (t ∷ ts) es = λ other apart key folder u.
    others_finished run ts (changed (finished run) t.key es) other apart key folder
    (stays_when_finished other key folder run t.key es u)

others_given_back : (run : RunKey) (ts : List RunTreeValue) (es : Trees)
    → OthersStayUsed run es (all_given_back run ts es)
others_given_back run [] es = λ other apart key folder u. u
others_given_back run (t ∷ ts) es = λ other apart key folder u.
    others_given_back run ts (changed (given_back run) t.key es) other apart key folder
    (stays_when_given_back other key folder run t.key es apart u)

pub when_finished : (run : RunKey) (ts : List RunTreeValue) (old : StoreValue) (runs : List OfRunValue)
    (view : RunTreesValue) (new : Trees) → view_of old runs ≡ view → new ≡ all_finished run ts old.trees
    → OthersStayUsed run view.store.trees new
when_finished run ts old runs view new is e =
    subst (λ (v : RunTreesValue). OthersStayUsed run v.store.trees new) is
    (subst (OthersStayUsed run old.trees) (sym e) (others_finished run ts old.trees))

pub when_given_back : (run : RunKey) (ts : List RunTreeValue) (old : StoreValue) (runs : List OfRunValue)
    (view : RunTreesValue) (new : Trees) → view_of old runs ≡ view → new ≡ all_given_back run ts old.trees
    → OthersStayUsed run view.store.trees new
when_given_back run ts old runs view new is e =
    subst (λ (v : RunTreesValue). OthersStayUsed run v.store.trees new) is
    (subst (OthersStayUsed run old.trees) (sym e) (others_given_back run ts old.trees))

-- what comes after that
pub others_then : (run : RunKey) (es : Trees) (view : RunTreesValue) (old : StoreValue) (runs : List OfRunValue)
    (gs : Trees) → OthersStayUsed run es view.store.trees → view_of old runs ≡ view
    → AllStayUsed old.trees gs → OthersStayUsed run es gs
others_then run es view old runs gs h is k = λ other apart key folder u.
    k other key folder (subst (λ (v : RunTreesValue). held other key v.store.trees ≡ uses folder) (sym is)
    (h other apart key folder u))

pub others_back : (run : RunKey) (ts : List RunTreeValue) (es fs gs : Trees) → OthersStayUsed run es fs
    → gs ≡ all_given_back run ts fs → OthersStayUsed run es gs
others_back run ts es fs gs h e = λ other apart key folder u. rw e
    (others_given_back run ts fs other apart key folder (h other apart key folder u))

-- ---- the trees of a run that stand first

pub others_first : (run other : RunKey) (ts : List RunTreeValue) (runs : List OfRunValue)
    → same_run other run ≡ false
    → trees_of other (record { run = run; trees = ts } ∷ runs) ≡ trees_of other runs
others_first run other ts runs apart = rw apart refl
