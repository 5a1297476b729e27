-- The run of a key among all runs, and what a call makes of it.
use Rattle.std.proofs.Common.{◌≡◌, Bool, true, false, List, [], ◌∷◌, ◌++◌, map, refl, sym, ap, subst, ◌∙◌, append-nil, inl, inr}
use Rattle.std.specs.Prelude.{◌||◌, ⊤, fold, Option, Some, None, Result, Ok}
use Rattle.std.specs.List.{list_any}
use Rattle.std.specs.Option.{option_map}
use Rattle.std.proofs.lemmas.Bool.{true≢false}
use Rattle.std.proofs.lemmas.List.Elements.{filter-append}
use Rattle.run_calls.specs.declared.folder.Place.{Place}
use Rattle.run_calls.specs.declared.task.RunKey.{RunKey}
use Rattle.run_calls.specs.Calls.{FolderCall, ProgramCall, ProgramAnswer, RunCall, of_folder, of_programs, folder_calls, program_calls, called, removal_asked, kill_asked, forget_asked, program_done, Adds}
use Rattle.std.specs.declared.io.ErrorKind.{ErrorKind}
use Rattle.runner.specs.declared.fault.RunFault.{RunFault}
use Rattle.runner.specs.declared.stage.Ending.{Ending}
use Rattle.runner.specs.declared.stage.Ending.TheVariants.{Killing, Removing}
use Rattle.runner.specs.declared.stage.Run.{Run}
use Rattle.runner.specs.declared.stage.Stage.{Stage}
use Rattle.runner.specs.declared.stage.State.{State}
use Rattle.runner.specs.declared.stage.State.TheVariants.{Live, Over}
use Rattle.runner.specs.Own.{AreOwn}
use Rattle.runner.specs.Runs.{HasNone, is_run_of, run_of, run_kept, run_left, still_left, ending_of, left_of_kill, forgotten, EndsBy, Ends, IsKilled}
use Rattle.runner.proofs.Calls.{adds_none}
use Rattle.serve.specs.RunEvents.{RunEvent}
use Rattle.job_runs.specs.Keys.{is_key}
use Rattle.job_runs.specs.Ran.{RunStep, told, asked, Order, not_yet, to_run, no_more, ended, order_by, SoFar, step_by, IsRight}
use Rattle.job_runs.specs.Running.{own_runs, IsIdle, IsLive, IsInState, IsLinked}
use Rattle.job_runs.proofs.Ran.{key_same, cond_true, cond_false, AreOf, AreRightOf, right_of_append, after_asked, AreIdle, idle_calls}

-- ---- the runs of a key

or_false : (a b : Bool) → (a || b) ≡ false → (a ≡ false) × (b ≡ false)
or_false true b h = absurd (true≢false h)
or_false false b h = (refl, h)

pub none_own : (key : RunKey) (runs : List Run) → HasNone key runs → own_runs key runs ≡ []
none_own key [] h = refl
none_own key (r ∷ rs) h =
    let both = or_false (is_run_of key r) (list_any (is_run_of key) rs) h in
    cond_false (is_run_of key r) (r ∷ own_runs key rs) (own_runs key rs) both.0 ∙ none_own key rs both.1

pub first_own : (key : RunKey) (r : Run) (rs : List Run) → r.place.run ≡ key → own_runs key (r ∷ rs) ≡ r ∷ own_runs key rs
first_own key r rs same = cond_true (is_run_of key r) (r ∷ own_runs key rs) (own_runs key rs) (ap (is_key key) same ∙ key_same key)

pub first_other : (other : RunKey) (r : Run) (rs : List Run) → is_key other r.place.run ≡ false →
    own_runs other (r ∷ rs) ≡ own_runs other rs
first_other other r rs apart = cond_false (is_run_of other r) (r ∷ own_runs other rs) (own_runs other rs) apart

kept_own : (key : RunKey) (place : Place) (kept : Option State) (rs : List Run) → place.run ≡ key →
    own_runs key (run_kept place kept ++ rs) ≡ run_kept place kept ++ own_runs key rs
kept_own key place None rs same = refl
kept_own key place (Some s) rs same = first_own key (run_of place s) rs same

kept_other : (other : RunKey) (place : Place) (kept : Option State) (rs : List Run) → is_key other place.run ≡ false →
    own_runs other (run_kept place kept ++ rs) ≡ own_runs other rs
kept_other other place None rs apart = refl
kept_other other place (Some s) rs apart = first_other other (run_of place s) rs apart

-- a run of this key is another now, or done with
pub record IsReplaced (key : RunKey) (state : State) (kept : Option State) (old new : List Run) : Type 0 where
  pub earlier : List Run
  pub later : List Run
  pub place : Place
  pub there : old ≡ earlier ++ run_of place state ∷ later
  pub then : new ≡ earlier ++ (run_kept place kept ++ later)
  pub same_key : place.run ≡ key

pub others_stay : (key other : RunKey) (state : State) (kept : Option State) (old new : List Run) → IsReplaced key state kept old new →
    is_key other key ≡ false → own_runs other new ≡ own_runs other old
others_stay key other state kept old new is apart =
    let off : is_key other is.place.run ≡ false = ap (is_key other) is.same_key ∙ apart in
    ap (own_runs other) is.then ∙ filter-append (is_run_of other) is.earlier (run_kept is.place kept ++ is.later)
    ∙ ap (λ (zs : List Run). own_runs other is.earlier ++ zs)
    (kept_other other is.place kept is.later off ∙ sym (first_other other (run_of is.place state) is.later off))
    ∙ sym (filter-append (is_run_of other) is.earlier (run_of is.place state ∷ is.later)) ∙ sym (ap (own_runs other) is.there)

alone : (key : RunKey) (s : SoFar) (xs : List Run) (r : Run) (ys : List Run) → IsLinked key s (xs ++ r ∷ ys) →
    (xs ≡ []) × (ys ≡ []) × IsInState key s r.place r.state
alone key s [] r [] h = (refl, refl, h)
alone key s [] r (y ∷ ys) h = absurd h
alone key s (x ∷ []) r ys h = absurd h
alone key s (x ∷ z ∷ xs) r ys h = absurd h

-- it is the only one, in this state, and then it alone is left
pub record IsOnlyOne (key : RunKey) (s : SoFar) (state : State) (kept : Option State) (place : Place) (new : List Run) : Type 0 where
  pub state_is : IsInState key s place state
  pub left : own_runs key new ≡ run_kept place kept

pub only_one : (key : RunKey) (s : SoFar) (state : State) (kept : Option State) (old new : List Run) →
    (is : IsReplaced key state kept old new) → IsLinked key s (own_runs key old) → IsOnlyOne key s state kept is.place new
only_one key s state kept old new is linked =
    let so : own_runs key old ≡ own_runs key is.earlier ++ run_of is.place state ∷ own_runs key is.later =
    ap (own_runs key) is.there ∙ filter-append (is_run_of key) is.earlier (run_of is.place state ∷ is.later)
    ∙ ap (λ (zs : List Run). own_runs key is.earlier ++ zs) (first_own key (run_of is.place state) is.later is.same_key) in
    let it = alone key s (own_runs key is.earlier) (run_of is.place state) (own_runs key is.later) (subst (IsLinked key s) so linked) in
    record {
      state_is = it.2;
      left = ap (own_runs key) is.then ∙ filter-append (is_run_of key) is.earlier (run_kept is.place kept ++ is.later)
          ∙ ap (λ (zs : List Run). zs ++ own_runs key (run_kept is.place kept ++ is.later)) it.0
          ∙ kept_own key is.place kept is.later is.same_key
          ∙ ap (λ (zs : List Run). run_kept is.place kept ++ zs) it.1 ∙ append-nil (run_kept is.place kept);
    }

-- ---- what a call adds of one key: it is told this, asks so much, and is told more

abbrev pub batch : RunEvent → List RunCall → List RunEvent → List RunStep
batch first cs last = told first ∷ (map asked cs ++ map told last)

pub record Adds1 (key : RunKey) (s : SoFar) (first : RunEvent) (last : List RunEvent) (rs : List Run)
    (f g : Option (List FolderCall)) (p q : Option (List ProgramCall)) : Type 0 where
  pub calls : List RunCall
  pub folders : Adds f g (folder_calls calls)
  pub programs : Adds p q (program_calls calls)
  pub own : AreOwn key calls
  pub of_last : AreOf key (map told last)
  pub right : AreRightOf key s (batch first calls last)
  pub linked : IsLinked key (fold step_by s (batch first calls last)) rs

-- ---- a run that is to be ended

pub record EndCalls (key : RunKey) (f g : Option (List FolderCall)) (p q : Option (List ProgramCall)) : Type 0 where
  pub calls : List RunCall
  pub folders : Adds f g (folder_calls calls)
  pub programs : Adds p q (program_calls calls)
  pub own : AreOwn key calls
  pub idle : AreIdle calls

pub same_adds : {C : Type 0} (before now : Option (List C)) → now ≡ before → Adds before now []
same_adds {C} before now is = subst (λ (o : Option (List C)). Adds before o []) (sym is) (adds_none before)

no_end_calls : (key : RunKey) (f g : Option (List FolderCall)) (p q : Option (List ProgramCall)) → g ≡ f → q ≡ p → EndCalls key f g p q
no_end_calls key f g p q fs ps = record { calls = []; folders = same_adds f g fs; programs = same_adds p q ps; own = tt; idle = tt }

kill_calls : (key : RunKey) (a : Result ProgramAnswer ErrorKind) (e : Ending) (f g : Option (List FolderCall))
    (p q : Option (List ProgramCall)) → g ≡ f → Adds p q (called (kill_asked key) a ++ forgotten key e) → EndCalls key f g p q
kill_calls key a Killing f g p q fs adds = record {
  calls = of_programs record { question = kill_asked key; answer = a } ∷ [];
  folders = same_adds f g fs;
  programs = adds;
  own = (refl, tt);
  idle = ((refl, refl), tt);
}
kill_calls key a Removing f g p q fs adds = record {
  calls = of_programs record { question = kill_asked key; answer = a } ∷ of_programs record
      { question = forget_asked key; answer = Ok program_done } ∷ [];
  folders = same_adds f g fs;
  programs = adds;
  own = (refl, (refl, tt));
  idle = ((refl, refl), ((refl, refl), tt));
}

pub end_calls : (key : RunKey) (e : Option Ending) (left : Result (Option Ending) RunFault) (f g : Option (List FolderCall))
    (p q : Option (List ProgramCall)) → EndsBy key e left f g p q → EndCalls key f g p q
end_calls key None left f g p q by = no_end_calls key f g p q by.1 by.2
end_calls key (Some Killing) left f g p q by = kill_calls key by.3.0 (left_of_kill by.3.0) f g p q by.2 by.3.2
end_calls key (Some Removing) left f g p q by = record {
  calls = of_folder record { question = removal_asked key; answer = by.0 } ∷ [];
  folders = by.2;
  programs = same_adds p q by.3;
  own = (refl, tt);
  idle = ((refl, refl), tt);
}

live_ended : (key : RunKey) (o : Order) (calls : List RunCall) (place : Place) (stage : Stage) → IsLive key o calls place stage →
    ended o ≡ no_more
live_ended key (to_run t) calls place stage h = refl
live_ended key not_yet calls place stage h = absurd h
live_ended key no_more calls place stage h = absurd h

state_ended : (key : RunKey) (s : SoFar) (place : Place) (state : State) → IsInState key s place state → ended s.order ≡ no_more
state_ended key s place (Live stage) h = live_ended key s.order s.calls place stage h
state_ended key s place (Over e) h = ap ended h

idle_ended : (o : Order) (calls : List RunCall) → IsIdle o calls → IsIdle (ended o) calls
idle_ended not_yet calls h = h
idle_ended (to_run t) calls h = tt
idle_ended no_more calls h = tt

left_linked : (key : RunKey) (calls : List RunCall) (place : Place) (left : Option Ending) →
    IsLinked key (record { order = no_more; calls = calls }) (run_left place left)
left_linked key calls place None = tt
left_linked key calls place (Some e) = refl

nothing_linked : (key : RunKey) (s : SoFar) (o : Order) (rs : List Run) → rs ≡ [] → IsIdle o s.calls →
    IsLinked key (record { order = o; calls = s.calls }) rs
nothing_linked key s o rs none idle = subst (IsLinked key (record { order = o; calls = s.calls })) (sym none) idle

was_idle : (key : RunKey) (s : SoFar) (rs : List Run) → rs ≡ [] → IsLinked key s rs → IsIdle s.order s.calls
was_idle key s rs none h = subst (IsLinked key s) none h

-- this ends what is to run under a key
pub record IsEnd (key : RunKey) (s : SoFar) (first : RunEvent) : Type 0 where
  pub order : order_by s.order first ≡ ended s.order
  pub right : IsRight key s (told first)

-- there is no run
pub none_ended : (key : RunKey) (s : SoFar) (first : RunEvent) (old new : List Run) (f g : Option (List FolderCall))
    (p q : Option (List ProgramCall))
    → IsEnd key s first → own_runs key old ≡ [] → new ≡ old → g ≡ f → q ≡ p → IsLinked key s (own_runs key old) →
    Adds1 key s first [] (own_runs key new) f g p q
none_ended key s first old new f g p q end none same fs ps linked = record {
  calls = [];
  folders = same_adds f g fs;
  programs = same_adds p q ps;
  own = tt;
  of_last = tt;
  right = (end.right, tt);
  linked = nothing_linked key s (order_by s.order first) (own_runs key new) (ap (own_runs key) same ∙ none)
      (subst (λ (o : Order). IsIdle o s.calls) (sym end.order)
      (idle_ended s.order s.calls (was_idle key s (own_runs key old) none linked)));
}

pub replaced_end : (key : RunKey) (state : State) (old new : List Run) (f g : Option (List FolderCall)) (p q : Option (List ProgramCall)) →
    (ends : Ends key state old new f g p q) → IsReplaced key state (option_map Over (still_left ends.left)) old new
replaced_end key state old new f g p q ends = record
    { earlier = ends.earlier; later = ends.later; place = ends.place; there = ends.there; then = ends.then; same_key = ends.same_key }

-- the run that is ended is the only one of its key
pub only_ended : (key : RunKey) (s : SoFar) (state : State) (old new : List Run) (f g : Option (List FolderCall))
    (p q : Option (List ProgramCall))
    → (ends : Ends key state old new f g p q) → IsLinked key s (own_runs key old) →
    IsOnlyOne key s state (option_map Over (still_left ends.left)) ends.place new
unfolding replaced_end
only_ended key s state old new f g p q ends linked =
    only_one key s state (option_map Over (still_left ends.left)) old new (replaced_end key state old new f g p q ends) linked

one_ended : (key : RunKey) (s : SoFar) (first : RunEvent) (state : State) (old new : List Run) (f g : Option (List FolderCall))
    (p q : Option (List ProgramCall))
    → IsEnd key s first → (ends : Ends key state old new f g p q) → IsLinked key s (own_runs key old) →
    Adds1 key s first [] (own_runs key new) f g p q
unfolding replaced_end
one_ended key s first state old new f g p q end ends linked =
    let one = only_one key s state (option_map Over (still_left ends.left)) old new (replaced_end key state old new f g p q ends) linked in
    let cs = end_calls key (ending_of state) ends.left f g p q ends.by in
    let now : order_by s.order first ≡ no_more = end.order ∙ state_ended key s ends.place state one.state_is in
    let same : record { order = no_more; calls = s.calls } ≡ step_by s (told first) =
    ap (λ (o : Order). record { order = o; calls = s.calls }) (sym now) in
    record {
      calls = cs.calls;
      folders = cs.folders;
      programs = cs.programs;
      own = cs.own;
      of_last = tt;
      right = (
        end.right,
        right_of_append key (step_by s (told first)) (map asked cs.calls) []
            (subst (λ (r : SoFar). AreRightOf key r (map asked cs.calls)) same (idle_calls key s.calls cs.calls cs.idle)) tt,
      );
      linked = subst (λ (xs : List RunStep). IsLinked key (fold step_by (step_by s (told first)) xs) (own_runs key new))
          (sym (append-nil (map asked cs.calls)))
          (subst (λ (r : SoFar). IsLinked key (fold step_by r (map asked cs.calls)) (own_runs key new)) same
          (subst (λ (r : SoFar). IsLinked key r (own_runs key new))
          (sym (after_asked (record { order = no_more; calls = s.calls }) cs.calls))
          (subst (IsLinked key (record { order = no_more; calls = s.calls ++ cs.calls })) (sym one.left)
          (left_linked key (s.calls ++ cs.calls) ends.place (still_left ends.left)))));
    }

pub killed_adds : (key : RunKey) (s : SoFar) (first : RunEvent) (told_it : Result ⊤ RunFault) (old new : List Run)
    (f g : Option (List FolderCall)) (p q : Option (List ProgramCall))
    → IsEnd key s first → IsKilled key told_it old new f g p q → IsLinked key s (own_runs key old) →
    Adds1 key s first [] (own_runs key new) f g p q
killed_adds key s first told_it old new f g p q end (inl h) linked =
    none_ended key s first old new f g p q end (none_own key old h.0.0) h.0.1 h.0.2 h.0.3 linked
killed_adds key s first told_it old new f g p q end (inr h) linked = one_ended key s first h.0 old new f g p q end h.1 linked

pub killed_others : (key other : RunKey) (told_it : Result ⊤ RunFault) (old new : List Run) (f g : Option (List FolderCall))
    (p q : Option (List ProgramCall))
    → IsKilled key told_it old new f g p q → is_key other key ≡ false → own_runs other new ≡ own_runs other old
killed_others key other told_it old new f g p q (inl h) apart = ap (own_runs other) h.0.1
killed_others key other told_it old new f g p q (inr h) apart =
    others_stay key other h.0 _ old new (replaced_end key h.0 old new f g p q h.1) apart
