-- A run to which its task is lent: what begins it, and what is asked for it.
use Rattle.std.proofs.Common.{◌≡◌, ℕ, false, List, [], ◌∷◌, ◌++◌, map, refl, sym, ap, subst, ◌∙◌, append-nil, inl, inr}
use Rattle.std.specs.Prelude.{fold, Option, Some, None, Result, Ok, Err}
use Rattle.std.specs.Option.{option_map}
use Rattle.std.proofs.lemmas.List.Elements.{filter-append}
use Rattle.execution.specs.Job.{TaskValue}
use Rattle.run_calls.specs.declared.folder.Place.{Place}
use Rattle.run_calls.specs.declared.task.RunKey.{RunKey}
use Rattle.run_calls.specs.declared.task.Task.{Task}
use Rattle.run_calls.specs.Values.{PlaceValue, place_shown}
use Rattle.run_calls.specs.Calls.{FolderCall, ProgramCall, RunCall, of_programs, folder_calls, program_calls, forget_asked, program_done, Adds}
use Rattle.run_calls.specs.declared.outcome.Outcome.{Outcome}
use Rattle.run_calls.specs.declared.outcome.Outcome.TheVariants as outcomes
use Rattle.run_calls.specs.Outcomes.{failed}
use Rattle.runner.specs.declared.fault.RunFault.{RunFault}
use Rattle.runner.specs.declared.fault.RunFault.TheVariants.{Left}
use Rattle.runner.specs.declared.stage.Ending.{Ending}
use Rattle.runner.specs.declared.stage.Ending.TheVariants.{Removing}
use Rattle.runner.specs.declared.stage.Run.{Run}
use Rattle.runner.specs.declared.stage.Stage.{Stage}
use Rattle.runner.specs.declared.stage.State.{State}
use Rattle.runner.specs.declared.stage.State.TheVariants.{Live, Over}
use Rattle.runner.specs.Own.{AreOwn}
use Rattle.runner.specs.Begun.{IsBegun}
use Rattle.runner.specs.Whole.{IsWhole}
use Rattle.runner.specs.Runs.{run_kept, still_left, IsAsked, IsStarted, IsStateOf, is_run_of, Becomes, GoesOn}
use Rattle.runner.proofs.Begun.{has_begun, became, BecameSo, IsNotLeft}
use Rattle.serve.specs.RunEvents.{RunEvent, lent, gave, outcome_events, fault_events}
use Rattle.job_runs.specs.Keys.{is_key}
use Rattle.job_runs.specs.Ran.{RunStep, told, asked, to_run, no_more, SoFar, step_by, IsRunOf}
use Rattle.job_runs.specs.Running.{own_runs, IsAtStage, IsInState, IsLinked}
use Rattle.job_runs.specs.Runs.{IsBegunIf}
use Rattle.job_runs.specs.Tasks.{IsTaskOf}
use Rattle.job_runs.specs.Texts.{numbered_text}
use Rattle.job_runs.proofs.Ran.{key_made, AreOf, AreRightOf, right_of_append, after_asked, right_calls}
use Rattle.job_runs.proofs.Linked.{IsReplaced, others_stay, only_one, first_own, first_other, same_adds, Adds1, replaced_end}

abbrev pub at : TaskValue → List RunCall → SoFar
at t calls = record { order = to_run t; calls = calls }

abbrev pub done_with : List RunCall → SoFar
done_with calls = record { order = no_more; calls = calls }

key_again : (key : RunKey) → record { instance = key.instance; job = key.job } ≡ key
key_again key = key_made (record { instance = key.instance; job = key.job }) key refl refl

outcome_of_key : (key : RunKey) (r : Result (Option Outcome) RunFault) → AreOf key (map told (outcome_events key r))
outcome_of_key key (Ok None) = tt
outcome_of_key key (Ok (Some o)) = (key_again key, tt)
outcome_of_key key (Err Left) = tt
outcome_of_key key (Err fault) = (key_again key, tt)

-- ---- what becomes of it

pub record Becoming (key : RunKey) (t : TaskValue) (before : List RunCall) (last : List RunEvent) (rs : List Run)
    (f g : Option (List FolderCall)) (p q : Option (List ProgramCall)) : Type 0 where
  pub calls : List RunCall
  pub folders : Adds f g (folder_calls calls)
  pub programs : Adds p q (program_calls calls)
  pub own : AreOwn key calls
  pub begun : IsRunOf key t (before ++ calls)
  pub right : AreRightOf key (at t (before ++ calls)) (map told last)
  pub linked : IsLinked key (fold step_by (at t (before ++ calls)) (map told last)) rs

failed_told : (key : RunKey) (fault : RunFault) → IsNotLeft fault → fault_events key fault ≡ gave key.instance key.job failed ∷ []
failed_told key Left h = absurd h
failed_told key fault h = refl

pub over_linked : (key : RunKey) (calls : List RunCall) (place : Place) (left : Option Ending) →
    IsLinked key (done_with calls) (run_kept place (option_map Over left))
over_linked key calls place None = tt
over_linked key calls place (Some e) = refl

live_linked : (key : RunKey) (t : TaskValue) (calls : List RunCall) (place : Place) (stage : Stage) (kept : Option State) →
    kept ≡ Some (Live stage) → IsAtStage key t calls place stage → IsLinked key (at t calls) (run_kept place kept)
live_linked key t calls place stage kept is it = subst (λ (o : Option State). IsLinked key (at t calls) (run_kept place o)) (sym is) it

ended_linked : (key : RunKey) (calls : List RunCall) (place : Place) (kept : Option State) (left : Option Ending) →
    kept ≡ option_map Over left → IsLinked key (done_with calls) (run_kept place kept)
ended_linked key calls place kept left is = subst (λ (o : Option State). IsLinked key (done_with calls) (run_kept place o)) (sym is)
    (over_linked key calls place left)

becoming : (key : RunKey) (t : TaskValue) (before : List RunCall) (place : Place) (stage : Stage) (r : Result (Option Outcome) RunFault)
    (kept : Option State) (f g : Option (List FolderCall)) (p q : Option (List ProgramCall))
    → IsAtStage key t before place stage → Becomes (numbered_text t.texts) place stage r kept f g p q →
    Becoming key t before (outcome_events key r) (run_kept place kept) f g p q
becoming key t before place stage r kept f g p q it becomes =
    let was = became (numbered_text t.texts) place it.task before stage r kept f g p q it.reached becomes in
    let cs : List RunCall = before ++ was.calls in
    let now = told_so r was.calls was.so in
    record {
      calls = was.calls;
      folders = was.folders;
      programs = was.programs;
      own = subst (λ (l : PlaceValue). AreOwn l.run was.calls) it.same_place was.own;
      begun = record {
        task = it.task;
        of_task = it.of_task;
        begun =
            subst (λ (l : PlaceValue). IsBegun (numbered_text t.texts) l it.task cs) it.same_place was.begun;
      };
      right = now.0;
      linked = now.1;
    }
  where
    told_so : (x : Result (Option Outcome) RunFault) (calls : List RunCall) →
        BecameSo (numbered_text t.texts) (place_shown place) it.task (before ++ calls) x kept
        → AreRightOf key (at t (before ++ calls)) (map told (outcome_events key x))
        × IsLinked key (fold step_by (at t (before ++ calls)) (map told (outcome_events key x))) (run_kept place kept)
    told_so (Ok None) calls so = (
      tt,
      live_linked key t (before ++ calls) place so.0 kept so.1
          (record { same_place = it.same_place; task = it.task; of_task = it.of_task; reached = so.2 }),
    )
    told_so (Ok (Some outcomes.Failed)) calls so = absurd so
    told_so (Ok (Some (outcomes.Exited e))) calls so = (
      (
        inr record {
          task = it.task;
          of_task = it.of_task;
          exited = e;
          before = so.0;
          all = so.2 ∙ ap (λ (l : PlaceValue). so.0 ++ of_programs record { question = forget_asked l.run; answer = Ok program_done } ∷ [])
              it.same_place;
          is_whole = subst (λ (l : PlaceValue). IsWhole (numbered_text t.texts) l it.task e so.0) it.same_place so.3;
          told = refl;
        },
        tt,
      ),
      ended_linked key (before ++ calls) place kept (Some Removing) so.1,
    )
    told_so (Err fault) calls so =
        let last = failed_told key fault so.2 in (
          subst (λ (es : List RunEvent). AreRightOf key (at t (before ++ calls)) (map told es)) (sym last) (inl refl, tt),
          subst (λ (es : List RunEvent). IsLinked key (fold step_by (at t (before ++ calls)) (map told es)) (run_kept place kept))
              (sym last)
              (ended_linked key (before ++ calls) place kept so.0 so.1),
        )

-- ---- asked

fold_two : (s : SoFar) (xs ys : List RunStep) → fold step_by s (xs ++ ys) ≡ fold step_by (fold step_by s xs) ys
fold_two s [] ys = refl
fold_two s (x ∷ xs) ys = fold_two (step_by s x) xs ys

-- its task is lent, and then this becomes of it
pub becoming_adds : (key : RunKey) (t : TaskValue) (before : List RunCall) (r : Result (Option Outcome) RunFault) (rs : List Run)
    (f g : Option (List FolderCall)) (p q : Option (List ProgramCall))
    → Becoming key t before (outcome_events key r) rs f g p q →
    Adds1 key (at t before) (lent key.instance key.job (Some t)) (outcome_events key r) rs f g p q
becoming_adds key t before r rs f g p q it =
    let last : List RunStep = map told (outcome_events key r) in
    let so : fold step_by (at t before) (map asked it.calls) ≡ at t (before ++ it.calls) = after_asked (at t before) it.calls in
    record {
      calls = it.calls;
      folders = it.folders;
      programs = it.programs;
      own = it.own;
      of_last = outcome_of_key key r;
      right = (
        tt,
        right_of_append key (at t before) (map asked it.calls) last (right_calls key t before it.calls it.begun)
            (subst (λ (s : SoFar). AreRightOf key s last) (sym so) it.right),
      );
      linked = subst (λ (s : SoFar). IsLinked key s rs) (sym (fold_two (at t before) (map asked it.calls) last))
          (subst (λ (s : SoFar). IsLinked key (fold step_by s last) rs) (sym so) it.linked);
    }

-- nothing is asked, and nothing told
still_adds : (key : RunKey) (t : TaskValue) (before : List RunCall) (rs : List Run) (f g : Option (List FolderCall))
    (p q : Option (List ProgramCall)) → g ≡ f → q ≡ p → IsLinked key (at t before) rs
    → Adds1 key (at t before) (lent key.instance key.job (Some t)) [] rs f g p q
still_adds key t before rs f g p q fs ps linked =
    record {
      calls = [];
      folders = same_adds f g fs;
      programs = same_adds p q ps;
      own = tt;
      of_last = tt;
      right = (tt, tt);
      linked =
          linked;
    }

-- nothing is asked, and that it failed is told
pub failed_adds : (key : RunKey) (t : TaskValue) (before : List RunCall) (rs : List Run) (f g : Option (List FolderCall))
    (p q : Option (List ProgramCall)) → g ≡ f → q ≡ p → rs ≡ []
    → Adds1 key (at t before) (lent key.instance key.job (Some t)) (gave key.instance key.job failed ∷ []) rs f g p q
failed_adds key t before rs f g p q fs ps none = record {
  calls = [];
  folders = same_adds f g fs;
  programs = same_adds p q ps;
  own = tt;
  of_last = (key_again key, tt);
  right = (tt, (inl refl, tt));
  linked = subst (IsLinked key (done_with before)) (sym none) tt;
}

went_on : (text : ℕ → List ℕ) (key : RunKey) (r : Result (Option Outcome) RunFault) (old new : List Run) (f g : Option (List FolderCall))
    (p q : Option (List ProgramCall))
    → (goes : GoesOn text key r old new f g p q) → IsReplaced key (Live goes.stage) goes.kept old new
went_on text key r old new f g p q goes = record
    { earlier = goes.earlier; later = goes.later; place = goes.place; there = goes.there; then = goes.then; same_key = goes.same_key }

no_over : (t : TaskValue) → to_run t ≡ no_more → ⊥
no_over t is = cc

pub asked_adds : (key : RunKey) (t : TaskValue) (before : List RunCall) (r : Result (Option Outcome) RunFault) (old new : List Run)
    (f g : Option (List FolderCall)) (p q : Option (List ProgramCall))
    → IsAsked (numbered_text t.texts) key r old new f g p q → IsLinked key (at t before) (own_runs key old)
    → Adds1 key (at t before) (lent key.instance key.job (Some t)) (outcome_events key r) (own_runs key new) f g p q
unfolding went_on
asked_adds key t before r old new f g p q (inl h) linked =
    subst (λ (x : Result (Option Outcome) RunFault). Adds1 key (at t before) (lent key.instance key.job (Some t)) (outcome_events key x)
    (own_runs key new) f g p q) (sym h.1)
    (still_adds key t before (own_runs key new) f g p q h.0.2 h.0.3
    (subst (λ (rs : List Run). IsLinked key (at t before) (own_runs key rs)) (sym h.0.1) linked))
asked_adds key t before r old new f g p q (inr (inl h)) linked =
    absurd (no_over t (only_one key (at t before) (Over h.0) (option_map Over (still_left h.1.left)) old new
    (replaced_end key (Over h.0) old new f g p q h.1) linked).state_is)
asked_adds key t before r old new f g p q (inr (inr goes)) linked =
    let one = only_one key (at t before) (Live goes.stage) goes.kept old new
    (went_on (numbered_text t.texts) key r old new f g p q goes) linked in
    subst (λ (rs : List Run). Adds1 key (at t before) (lent key.instance key.job (Some t)) (outcome_events key r) rs f g p q) (sym one.left)
    (becoming_adds key t before r (run_kept goes.place goes.kept) f g p q
    (becoming key t before goes.place goes.stage r goes.kept f g p q one.state_is goes.becomes))

pub asked_others : (text : ℕ → List ℕ) (key other : RunKey) (r : Result (Option Outcome) RunFault) (old new : List Run)
    (f g : Option (List FolderCall)) (p q : Option (List ProgramCall))
    → IsAsked text key r old new f g p q → is_key other key ≡ false → own_runs other new ≡ own_runs other old
asked_others text key other r old new f g p q (inl h) apart = ap (own_runs other) h.0.1
asked_others text key other r old new f g p q (inr (inl h)) apart =
    others_stay key other (Over h.0) _ old new (replaced_end key (Over h.0) old new f g p q h.1) apart
asked_others text key other r old new f g p q (inr (inr goes)) apart =
    others_stay key other (Live goes.stage) goes.kept old new (went_on text key r old new f g p q goes) apart

-- ---- begun

started_at : (key : RunKey) (t : TaskValue) (made : Task) (begun : Run) → IsTaskOf t made → IsStarted key made begun →
    IsInState key (at t []) begun.place begun.state
started_at key t made begun of_task started = go begun.state started.1
  where
    go : (state : State) → IsStateOf state made → IsInState key (at t []) begun.place state
    go (Live stage) is = record {
      same_place = ap place_shown started.0 ∙ ap (λ (d : List ℕ). record { run = key; directory = d }) of_task.directory;
      task = made;
      of_task = of_task;
      reached = has_begun (numbered_text t.texts) (place_shown begun.place) made stage is;
    }
    go (Over e) is = absurd is

pub begun_adds : (key : RunKey) (t : TaskValue) (before : List RunCall) (r : Result (Option Outcome) RunFault) (old new : List Run)
    (f g : Option (List FolderCall)) (p q : Option (List ProgramCall))
    → own_runs key old ≡ [] → g ≡ f → q ≡ p → IsBegunIf (Some t) key r old new → IsLinked key (at t before) (own_runs key old)
    → Adds1 key (at t before) (lent key.instance key.job (Some t)) (outcome_events key r) (own_runs key new) f g p q
begun_adds key t before r old new f g p q none fs ps (inl h) linked =
    let b = h.1 in
    let idle : before ≡ [] = subst (IsLinked key (at t before)) none linked in
    let same_key : b.begun.place.run ≡ key = ap (λ (l : Place). l.run) b.started.0 in
    let one : own_runs key new ≡ b.begun ∷ [] = ap (own_runs key) b.added ∙ filter-append (is_run_of key) old (b.begun ∷ [])
    ∙ ap (λ (zs : List Run). zs ++ own_runs key (b.begun ∷ [])) none ∙ first_own key b.begun [] same_key in
    subst (λ (x : Result (Option Outcome) RunFault). Adds1 key (at t before) (lent key.instance key.job (Some t)) (outcome_events key x)
    (own_runs key new) f g p q) (sym h.0)
    (still_adds key t before (own_runs key new) f g p q fs ps (subst (IsLinked key (at t before)) (sym one)
    (subst (λ (cs : List RunCall). IsLinked key (at t cs) (b.begun ∷ [])) (sym idle)
    (started_at key t b.made b.begun b.of_task b.started))))
begun_adds key t before r old new f g p q none fs ps (inr h) linked =
    subst (λ (x : Result (Option Outcome) RunFault). Adds1 key (at t before) (lent key.instance key.job (Some t)) (outcome_events key x)
    (own_runs key new) f g p q) (sym h.0)
    (failed_adds key t before (own_runs key new) f g p q fs ps (ap (own_runs key) h.1 ∙ none))

pub begun_others : (key other : RunKey) (task : Option TaskValue) (r : Result (Option Outcome) RunFault) (old new : List Run) →
    IsBegunIf task key r old new → is_key other key ≡ false → own_runs other new ≡ own_runs other old
begun_others key other None r old new h apart = ap (own_runs other) h.1
begun_others key other (Some t) r old new (inr h) apart = ap (own_runs other) h.1
begun_others key other (Some t) r old new (inl h) apart =
    let b = h.1 in
    ap (own_runs other) b.added ∙ filter-append (is_run_of other) old (b.begun ∷ [])
    ∙ ap (λ (zs : List Run). own_runs other old ++ zs)
    (first_other other b.begun [] (ap (is_key other) (ap (λ (l : Place). l.run) b.started.0) ∙ apart))
    ∙ append-nil (own_runs other old)
