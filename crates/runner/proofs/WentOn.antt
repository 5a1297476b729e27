-- What a runner's calls make of its runs.
use Rattle.std.proofs.Common.{◌≡◌, ◌<◌, ◌+◌, ℕ, zero, suc, List, [], ◌∷◌, ◌++◌, take, drop, length, ap, refl, sym, subst, inl, inr, ◌∙◌, arith}
use Rattle.std.proofs.lemmas.List.{take-append-drop, take_at, drop_at, drop_more, length-take-le, set_split}
use Rattle.std.specs.Prelude.{⊤, Option, Some, None, Result, Ok, Err, IfErr, ◌⊎◌, IsSomeAnd, MatchOption, option_map, slice_get, slice_index_or, slice_set, vec_len}
use Rattle.std.specs.Global.{Vec}
use Rattle.std.specs.Result.{result_and}
use Rattle.run_calls.specs.declared.task.RunKey.{RunKey}
use Rattle.runner.specs.declared.fault.RunFault.{RunFault}
use Rattle.run_calls.specs.declared.outcome.Outcome.{Outcome}
use Rattle.runner.specs.declared.stage.Stage.{Stage}
use Rattle.runner.specs.declared.stage.Ending.{Ending}
use Rattle.runner.specs.declared.stage.State.{State}
use Rattle.runner.specs.declared.stage.State.TheVariants.{Live, Over}
use Rattle.runner.specs.declared.stage.Run.{Run}
use Rattle.run_calls.specs.Calls.{FolderCall, ProgramCall}
use Rattle.runner.specs.Faults.{Counted, FaultFailed}
use Rattle.runner.specs.Runs.{run_of, run_kept, first_kept, kept_at, still_left, end_told, ending_of, EndsBy, Ends, IsAt, IsAsked, IsKilled, IsOver, Becomes, GoesOn}

-- ---- the run that stands there

got : {A : Type 0} (xs rest : List A) (at : ℕ) (x : A) → drop at xs ≡ x ∷ rest → slice_get xs at ≡ Some x
got [] rest zero x e = absurd (omega (arith, ap length e))
got [] rest (suc at) x e = absurd (omega (arith, ap length e))
got (y ∷ ys) rest zero x e = ap (λ zs. slice_get zs 0) e
got (y ∷ ys) rest (suc at) x e = got ys rest at x e

indexed : {A : Type 0} (xs rest : List A) (at : ℕ) (x y : A) → drop at xs ≡ x ∷ rest → y ≡ slice_index_or xs at y → y ≡ x
indexed [] rest zero x y e is = absurd (omega (arith, ap length e))
indexed [] rest (suc at) x y e is = absurd (omega (arith, ap length e))
indexed (z ∷ zs) rest zero x y e is = is ∙ ap (λ ws. slice_index_or ws 0 y) e
indexed (z ∷ zs) rest (suc at) x y e is = indexed zs rest at x y e is

state_there : (runs rest : List Run) (at : ℕ) (run : Run) (state : State) → drop at runs ≡ run ∷ rest
    → option_map (λ (r : Run). r.state) (slice_get runs at) ≡ Some state → run.state ≡ state
state_there runs rest at run state there is =
    let e = sym (ap (option_map (λ (r : Run). r.state)) (got runs rest at run there)) ∙ is in cc

stands : (runs rest : List Run) (at : ℕ) (run : Run) (state : State) → drop at runs ≡ run ∷ rest → run.state ≡ state
    → runs ≡ take at runs ++ run_of run.place state ∷ rest
stands runs rest at run state there is =
    sym (take-append-drop at runs) ∙ ap (λ rs. take at runs ++ rs) (there ∙ ap (λ s. run_of run.place s ∷ rest) is)

-- ---- kept in a state

put : (runs rest : List Run) (at : ℕ) (run : Run) (kept : Option State) → drop at runs ≡ run ∷ rest
    → kept_at runs at kept ≡ take at runs ++ (run_kept run.place kept ++ rest)
put runs rest at run kept there = ap (λ rs. take at runs ++ first_kept rs kept) there

pub put_set : (runs : Vec Run) (at : ℕ) (item : Run) (state now : State) → at < vec_len runs → item ≡ slice_index_or runs.items at item →
    state ≡ now
    → slice_set runs.items at (run_of item.place state) ≡ kept_at runs.items at (Some now)
put_set runs at item state now inside is same =
    let within : at < length runs.items = grind (arith, inside, runs.ok) in
    let next : suc at ≡ at + 1 = omega arith in
    set_split runs.items at (run_of item.place state) within
    ∙ ap (λ n. take at runs.items ++ run_of item.place state ∷ drop n runs.items) next
    ∙ ap (λ s. take at runs.items ++ run_of item.place s ∷ drop (at + 1) runs.items) same
    ∙ sym (put runs.items (drop (at + 1) runs.items) at item (Some now)
    (drop_more runs.items at item within ∙ ap (λ x. x ∷ drop (at + 1) runs.items) (sym is)))

-- and stands there still
put_drop : (runs mid rest : List Run) (at : ℕ) (run : Run) (state : State) → at < length runs → drop at runs ≡ run ∷ rest
    → mid ≡ kept_at runs at (Some state) → drop at mid ≡ run_of run.place state ∷ rest
put_drop runs mid rest at run state inside there is =
    ap (drop at) (is ∙ put runs rest at run (Some state) there)
    ∙ drop_at (take at runs) (run_of run.place state ∷ rest) at (length-take-le at runs (omega (arith, inside)))

put_take : (runs mid rest : List Run) (at : ℕ) (run : Run) (state : State) → at < length runs → drop at runs ≡ run ∷ rest
    → mid ≡ kept_at runs at (Some state) → take at mid ≡ take at runs
put_take runs mid rest at run state inside there is =
    ap (take at) (is ∙ put runs rest at run (Some state) there)
    ∙ take_at (take at runs) (run_of run.place state ∷ rest) at (length-take-le at runs (omega (arith, inside)))

-- once more
put_again : (runs mid rest : List Run) (at : ℕ) (run : Run) (state : State) (kept : Option State) → at < length runs →
    drop at runs ≡ run ∷ rest
    → mid ≡ kept_at runs at (Some state) → kept_at mid at kept ≡ kept_at runs at kept
put_again runs mid rest at run state kept inside there is =
    ap (λ rs. rs ++ first_kept (drop at mid) kept) (put_take runs mid rest at run state inside there is)
    ∙ ap (λ rs. take at runs ++ first_kept rs kept) (put_drop runs mid rest at run state inside there is)
    ∙ sym (put runs rest at run kept there)

-- ---- what is left of it, and what is told

pub left_over : (left : Option Ending) (kept : Option State) → MatchOption left (kept ≡ None) (λ e. IsSomeAnd kept (λ s. s ≡ Over e)) →
    kept ≡ option_map Over left
left_over None kept is = is
left_over (Some e) (Some s) is = ap Some is
left_over (Some e) None is = absurd is

told_left : {A : Type 0} (x : A) (left : Result (Option Ending) RunFault) (told : Result A RunFault) → told ≡ result_and left (Ok x) →
    told ≡ end_told x left
told_left x (Ok l) told is = is
told_left x (Err fault) told is = is

-- ---- asked

pub is_over : (key : RunKey) (e : Ending) (old new : List Run) (f g : Option (List FolderCall)) (p q : Option (List ProgramCall))
    → Ends key (Over e) old new f g p q → IsOver key old
is_over key e old new f g p q ends = record {
  earlier = ends.earlier;
  later = ends.later;
  place = ends.place;
  ending = e;
  there = ends.there;
  same_key = ends.same_key;
}

pub went_on : (text : ℕ → List ℕ) (key : RunKey) (r : Result (Option Outcome) RunFault) (found old mid new : List Run) (at : ℕ)
    (was state : State) (stage : Stage) (item : Run) (kept : Option State)
    (f g : Option (List FolderCall)) (p q : Option (List ProgramCall))
    → found ≡ old → IsAt key found at → at < length found → option_map (λ (run : Run). run.state) (slice_get old at) ≡ Some was →
    was ≡ Live stage
    → mid ≡ kept_at old at (Some state) → item ≡ slice_index_or mid at item
    → new ≡ kept_at mid at kept → Becomes text item.place stage r kept f g p q → GoesOn text key r old new f g p q
went_on text key r found old mid new at was state stage item kept f g p q same is_at within at_was live mid_is item_is new_is becomes =
    let is : IsAt key old at = subst (λ (runs : List Run). IsAt key runs at) same is_at in
    let inside : at < length old = subst (λ (runs : List Run). at < length runs) same within in
    record {
      earlier = take at old;
      later = is.rest;
      place = is.run.place;
      stage = stage;
      kept = kept;
      there = stands old is.rest at is.run (Live stage) is.there (state_there old is.rest at is.run was is.there at_was ∙ live);
      then = new_is ∙ put_again old mid is.rest at is.run state kept inside is.there mid_is ∙ put old is.rest at is.run kept is.there;
      same_key = is.same_key;
      becomes = subst (λ (x : Run). Becomes text x.place stage r kept f g p q)
          (indexed mid is.rest at (run_of is.run.place state) item
          (put_drop old mid is.rest at is.run state inside is.there mid_is) item_is) becomes;
    }

ended_on : (key : RunKey) (old new : List Run) (at : ℕ) (state : State) (left : Result (Option Ending) RunFault)
    (f g : Option (List FolderCall)) (p q : Option (List ProgramCall))
    → (is : IsAt key old at) → is.run.state ≡ state
    → new ≡ kept_at old at (option_map Over (still_left left)) → EndsBy key (ending_of state) left f g p q
    → Ends key state old new f g p q
ended_on key old new at state left f g p q is state_is new_is by = record {
  earlier = take at old;
  later = is.rest;
  place = is.run.place;
  left = left;
  there = stands old is.rest at is.run state is.there state_is;
  then = new_is ∙ put old is.rest at is.run (option_map Over (still_left left)) is.there;
  same_key = is.same_key;
  by = by;
}

pub over_ends : (key : RunKey) (found old mid new : List Run) (at : ℕ) (was state : State) (ending : Ending) (kept : Option State)
    (left : Result (Option Ending) RunFault)
    (f g : Option (List FolderCall)) (p q : Option (List ProgramCall))
    → found ≡ old → IsAt key found at → at < length found → option_map (λ (run : Run). run.state) (slice_get old at) ≡ Some was →
    was ≡ Over ending
    → mid ≡ kept_at old at (Some state) → kept ≡ option_map Over (still_left left) → new ≡ kept_at mid at kept
    → EndsBy key (Some ending) left f g p q → Ends key (Over ending) old new f g p q
over_ends key found old mid new at was state ending kept left f g p q same is_at within there over mid_is kept_is new_is by =
    let is : IsAt key old at = subst (λ (runs : List Run). IsAt key runs at) same is_at in
    let inside : at < length old = subst (λ (runs : List Run). at < length runs) same within in
    ended_on key old new at (Over ending) left f g p q is (state_there old is.rest at is.run was is.there there ∙ over)
    (new_is ∙ put_again old mid is.rest at is.run state kept inside is.there mid_is ∙ ap (kept_at old at) kept_is) by

-- one that was over was asked
pub over_on : (text : ℕ → List ℕ) (key : RunKey) (told : Result (Option Outcome) RunFault) (found old mid new : List Run) (at : ℕ)
    (was state : State) (ending : Ending) (kept : Option State)
    (left : Result (Option Ending) RunFault) (f g : Option (List FolderCall)) (p q : Option (List ProgramCall))
    → found ≡ old → IsAt key found at → at < length found → option_map (λ (run : Run). run.state) (slice_get old at) ≡ Some was →
    was ≡ Over ending
    → mid ≡ kept_at old at (Some state) → kept ≡ option_map Over (still_left left) → new ≡ kept_at mid at kept
    → EndsBy key (Some ending) left f g p q → told ≡ result_and left (Ok None)
    → IsAsked text key told old new f g p q
unfolding over_ends ended_on
over_on text key told found old mid new at was state ending kept left f g p q same is_at within there over mid_is kept_is new_is by
    told_is =
    inr (inl (
      ending,
      over_ends key found old mid new at was state ending kept left f g p q same is_at within there over mid_is kept_is
          new_is by,
      told_left None left told told_is,
    ))

-- a failure is counted
pub over_counts : (key : RunKey) (runs : List Run) (left : Result (Option Ending) RunFault) (told : Result (Option Outcome) RunFault)
    (f g p q : ℕ)
    → IsOver key runs → told ≡ result_and left (Ok None)
    → IfErr left (λ fault. FaultFailed fault f g p q) → Counted told f g p q ⊎ (IsOver key runs × (told ≡ Ok None))
over_counts key runs (Ok l) told f g p q over is failed = inr (over, is)
over_counts key runs (Err fault) told f g p q over is failed =
    inl (subst (λ (r : Result (Option Outcome) RunFault). Counted r f g p q) (sym is) failed)

-- ---- killed

pub killed_on : (key : RunKey) (told : Result ⊤ RunFault) (found old new : List Run) (at : ℕ) (item : Run) (ending : Option Ending)
    (kept : Option State) (left : Result (Option Ending) RunFault)
    (f g : Option (List FolderCall)) (p q : Option (List ProgramCall))
    → found ≡ old → IsAt key found at → item ≡ slice_index_or old at item → ending ≡ ending_of item.state
    → kept ≡ option_map Over (still_left left) → new ≡ kept_at old at kept → EndsBy key ending left f g p q
    → told ≡ result_and left (Ok tt) → IsKilled key told old new f g p q
unfolding ended_on
killed_on key told found old new at item ending kept left f g p q same is_at item_is ends kept_is new_is by told_is =
    let is : IsAt key old at = subst (λ (runs : List Run). IsAt key runs at) same is_at in
    let ending_is : ending ≡ ending_of is.run.state =
    ends ∙ ap (λ (x : Run). ending_of x.state) (indexed old is.rest at is.run item is.there item_is) in
    inr (
      is.run.state,
      ended_on key old new at is.run.state left f g p q is refl (new_is ∙ ap (kept_at old at) kept_is)
          (subst (λ (e : Option Ending). EndsBy key e left f g p q) ending_is by),
      told_left tt left told told_is,
    )
