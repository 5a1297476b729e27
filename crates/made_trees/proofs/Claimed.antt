-- Which trees runs have.
use Rattle.std.proofs.Common.{◌≡◌, ◌∙◌, ◌≤◌, ◌-◌, ℕ, Bool, true, false, not, List, [], ◌∷◌, ◌++◌, Contains, map, length, take, drop, get_or, inl, inr, refl, sym, subst, true≢false, append_assoc, append-nil, arith}
use Rattle.std.specs.List.{filter}
use Rattle.std.proofs.lemmas.List.Elements.{All-nil, All-push, Contains-append_left, Contains-append_right, Contains-push}
use Rattle.run_calls.specs.declared.task.RunKey.{RunKey}
use Rattle.run_calls.specs.declared.folder.InputTree.{InputTree}
use Rattle.made_trees.specs.Trees.{StoreValue, Trees, key_of, same_run}
use Rattle.made_trees.specs.Claims.{IsClaimedSo}
use Rattle.made_trees.specs.declared.store.Claim.{Claim}
use Rattle.made_trees.specs.declared.store.Claim.TheVariants.{Bound}
use Rattle.made_trees.proofs.Staying.{held_when_bound}
use Rattle.made_trees.specs.declared.tree.TreeKey.{TreeKey}
use Rattle.made_trees.proofs.AnySite.{first_and_rest}
use Rattle.made_trees.specs.RunTrees.{AllStayUsed, AreBound, AreClaimed, IsAdded, IsUsed, OfRunValue, RunTreeValue, RunTreesValue, StaysUsed, claimed, trees_of}

pub same_self : (run : RunKey) → same_run run run ≡ true
same_self run = grind arith

-- what there is, of its two parts
abbrev pub view_of : StoreValue → List OfRunValue → RunTreesValue
view_of store runs = record { store = store; runs = runs }

-- ---- a run that has none any more

abbrev without : RunKey → List OfRunValue → List OfRunValue
without run runs = filter (λ of. not (same_run run of.run)) runs

gone_of : (run : RunKey) (runs : List OfRunValue) → trees_of run (without run runs) ≡ []
gone_of run [] = refl
gone_of run (r ∷ rs) = by (same_run run r.run) refl (gone_of run rs)
  where
    by : (b : Bool) → same_run run r.run ≡ b → trees_of run (without run rs) ≡ []
        → trees_of run (without run (r ∷ rs)) ≡ []
    by true k more = rw k more
    by false k more = rw k (rw k more)

-- two runs that are one
one_run : (a b c : RunKey) → same_run a c ≡ true → same_run b c ≡ true → same_run a b ≡ true
one_run a b c h k = grind arith

others_of : (run other : RunKey) (runs : List OfRunValue) → same_run other run ≡ false
    → trees_of other (without run runs) ≡ trees_of other runs
others_of run other [] apart = refl
others_of run other (r ∷ rs) apart =
    by (same_run run r.run) (same_run other r.run) refl refl (others_of run other rs apart)
  where
    by : (b c : Bool) → same_run run r.run ≡ b → same_run other r.run ≡ c
        → trees_of other (without run rs) ≡ trees_of other rs
        → trees_of other (without run (r ∷ rs)) ≡ trees_of other (r ∷ rs)
    by true true k l more = absurd (true≢false (sym (one_run other run r.run l k) ∙ apart))
    by true false k l more = rw (k, l) more
    by false true k l more = rw (k, l) refl
    by false false k l more = rw (k, l) more

pub is_gone : (run : RunKey) (runs more : List OfRunValue) → more ≡ without run runs → trees_of run more ≡ []
is_gone run runs more e = rw e (gone_of run runs)

pub others_left : (run : RunKey) (old : StoreValue) (runs more : List OfRunValue) (view : RunTreesValue)
    → view_of old runs ≡ view → more ≡ without run runs → (other : RunKey) → same_run other run ≡ false
    → trees_of other more ≡ trees_of other view.runs
others_left run old runs more view is e = λ other apart.
    subst (λ (v : RunTreesValue). trees_of other more ≡ trees_of other v.runs) is
    (subst (λ (l : List OfRunValue). trees_of other l ≡ trees_of other runs) (sym e) (others_of run other runs apart))

-- ---- those that a run claims

bound_more : (run : RunKey) (es fs : Trees) (own more : List RunTreeValue) (bs : List Bool) (is : List InputTree)
    → StaysUsed run es fs → AreBound run es own bs is → AreBound run fs (own ++ more) bs is
bound_more run es fs own more [] [] stays h = tt
bound_more run es fs own more [] (i ∷ is) stays h = absurd h
bound_more run es fs own more (b ∷ bs) [] stays h = absurd h
bound_more run es fs own more (b ∷ bs) (i ∷ is) stays h = (
  λ is_bound. let was = h.0 is_bound in (
    Contains-append_left own more (claimed run i) was.0,
    (was.1.0, stays (key_of run i.digest) was.1.0 was.1.1),
  ),
  bound_more run es fs own more bs is stays h.1,
)

bound_last : (run : RunKey) (es : Trees) (own : List RunTreeValue) (bs : List Bool) (is : List InputTree) (b : Bool)
    (i : InputTree) → AreBound run es own bs is
    → (b ≡ true → Contains own (claimed run i) × IsUsed run (key_of run i.digest) es)
    → AreBound run es own (bs ++ b ∷ []) (is ++ i ∷ [])
bound_last run es own [] [] b i h last = (last, tt)
bound_last run es own [] (j ∷ is) b i h last = absurd h
bound_last run es own (c ∷ bs) [] b i h last = absurd h
bound_last run es own (c ∷ bs) (j ∷ is) b i h last = (h.0, bound_last run es own bs is b i h.1 last)

among : (run : RunKey) (front : List InputTree) (first : InputTree) (rest : List InputTree)
    → Contains (map (claimed run) (front ++ first ∷ rest)) (claimed run first)
among run [] first rest = Contains-append_left (claimed run first ∷ []) (map (claimed run) rest) (claimed run first)
    (Contains-push [] (claimed run first))
among run (i ∷ front) first rest = Contains-append_right (claimed run i ∷ [])
    (map (claimed run) (front ++ first ∷ rest)) (claimed run first) (among run front first rest)

-- so far as directories were claimed
pub record IsSoFar (run : RunKey) (old : Trees) (inputs left : List InputTree) (es : Trees)
    (own : List RunTreeValue) (bs : List Bool) : Type 0 where
  pub front : List InputTree
  pub whole : inputs ≡ front ++ left
  pub bound : AreBound run es own bs front
  pub claimed_all : AreClaimed run inputs own
  pub stays : AllStayUsed old es

pub begins : (run : RunKey) (inputs : List InputTree) (es : Trees) (own : List RunTreeValue) → own ≡ []
    → IsSoFar run es inputs inputs es own []
begins run inputs es own none = record {
  front = [];
  whole = refl;
  bound = tt;
  claimed_all = rw none (All-nil (λ t. Contains (map (claimed run) inputs) t));
  stays = λ any key folder u. u;
}

goes_on : (run : RunKey) (old : Trees) (inputs : List InputTree) (first : InputTree) (rest : List InputTree)
    (es fs : Trees) (own more : List RunTreeValue) (bs : List Bool) (b : Bool)
    → IsSoFar run old inputs (first ∷ rest) es own bs
    → IsAdded (claimed run first) b own more → (b ≡ true → IsUsed run (key_of run first.digest) fs)
    → AllStayUsed es fs → IsSoFar run old inputs rest fs more (bs ++ b ∷ [])
goes_on run old inputs first rest es fs own more bs b so (inl (same, none)) used stays = record {
  front = so.front ++ first ∷ [];
  whole = so.whole ∙ sym (append_assoc so.front (first ∷ []) rest);
  bound = bound_last run fs more bs so.front b first
      (rw same (subst (λ (l : List RunTreeValue). AreBound run fs l bs so.front) (append-nil own)
      (bound_more run es fs own [] bs so.front (stays run) so.bound)))
      (λ is. absurd (true≢false (sym is ∙ none)));
  claimed_all = rw same so.claimed_all;
  stays = λ any key folder u. stays any key folder (so.stays any key folder u);
}
goes_on run old inputs first rest es fs own more bs b so (inr new) used stays = record {
  front = so.front ++ first ∷ [];
  whole = so.whole ∙ sym (append_assoc so.front (first ∷ []) rest);
  bound = rw new (bound_last run fs (own ++ claimed run first ∷ []) bs so.front b first
      (bound_more run es fs own (claimed run first ∷ []) bs so.front (stays run) so.bound)
      (λ is. (Contains-push own (claimed run first), used is)));
  claimed_all = rw new (All-push (λ t. Contains (map (claimed run) inputs) t) own (claimed run first)
      so.claimed_all (rw so.whole (among run so.front first rest)));
  stays = λ any key folder u. stays any key folder (so.stays any key folder u);
}

-- the next of what is left
pub next : (run : RunKey) (old : Trees) (inputs left : List InputTree) (first : InputTree) (es fs : Trees)
    (own more : List RunTreeValue) (bs cs : List Bool) (b : Bool) → IsSoFar run old inputs left es own bs
    → 1 ≤ length left → first ≡ get_or left 0 first → cs ≡ bs ++ b ∷ []
    → IsAdded (claimed run first) b own more → (b ≡ true → IsUsed run (key_of run first.digest) fs)
    → AllStayUsed es fs
    → IsSoFar run old inputs (take (length left - 1) (drop 1 left)) fs more cs
next run old inputs left first es fs own more bs cs b so some is pushed added used stays =
    subst (λ (l : List Bool). IsSoFar run old inputs (take (length left - 1) (drop 1 left)) fs more l) (sym pushed)
    (goes_on run old inputs first (take (length left - 1) (drop 1 left)) es fs own more bs b
    (subst (λ (l : List InputTree). IsSoFar run old inputs l es own bs) (first_and_rest left first some is) so)
    added used stays)

pub ends : (run : RunKey) (old : Trees) (inputs : List InputTree) (es : Trees) (own : List RunTreeValue)
    (bs : List Bool) → IsSoFar run old inputs [] es own bs → AreBound run es own bs inputs
ends run old inputs es own bs so = rw (so.whole ∙ append-nil so.front) so.bound

-- ---- a claim

pub bound_used : (run : RunKey) (key : TreeKey) (size : ℕ) (claim : Claim) (folder : RunKey)
    (old new : StoreValue) → claim ≡ Bound folder → IsClaimedSo run key size old new claim
    → IsUsed run key new.trees
bound_used run key size claim folder old new is h =
    let b : IsClaimedSo run key size old new (Bound folder) = subst (IsClaimedSo run key size old new) is h in
    (folder, held_when_bound run key folder old.trees new.trees b.0)
