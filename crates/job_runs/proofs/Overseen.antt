-- What ran so far goes on where an operator ends a job.
use Rattle.std.proofs.Common.{◌≡◌, Bool, true, false, List, [], ◌∷◌, ◌++◌, refl, sym, ap, subst, ◌∙◌, inl, inr}
use Rattle.std.specs.Prelude.{⊤, Option, Some, None, Result, Ok, is_some}
use Rattle.std.proofs.lemmas.Bool.{true≢false}
use Rattle.execution.specs.Job.{TaskValue}
use Rattle.run_calls.specs.declared.folder.Place.{Place}
use Rattle.run_calls.specs.declared.task.RunKey.{RunKey}
use Rattle.run_calls.specs.Values.{PlaceValue, place_shown}
use Rattle.run_calls.specs.Calls.{FolderCall, ProgramCall, RunCall, folder_call, program_call, folder_calls, program_calls}
use Rattle.run_calls.specs.declared.outcome.Outcome.{Outcome}
use Rattle.run_calls.specs.declared.outcome.Outcome.TheVariants.{Failed}
use Rattle.runner.specs.declared.fault.RunFault.{RunFault}
use Rattle.runner.specs.declared.stage.Run.{Run}
use Rattle.runner.specs.declared.stage.State.{State}
use Rattle.runner.specs.declared.stage.State.TheVariants.{Live, Over}
use Rattle.runner.specs.Begun.{IsBegun}
use Rattle.runner.specs.Made.{made, made_by}
use Rattle.runner.specs.Told.{starts, start_of}
use Rattle.runner.specs.Runs.{IsKilled, ending_of, run_left, still_left}
use Rattle.runner.proofs.Begun.{begun_more, begun_so_far}
use Rattle.runner.proofs.Collect.{collect_append}
use Rattle.serve.specs.RunEvents.{RunEvent, lent, asked_events, outcome_events}
use Rattle.server_core.specs.declared.server.LentTask.{LentTask}
use Rattle.server_core.specs.Lent.{lent_shown}
use Rattle.job_runs.specs.Keys.{is_key, has_key, without_key}
use Rattle.job_runs.specs.Ran.{IsRunOf, Order, SoFar, no_more, to_run}
use Rattle.job_runs.specs.Running.{own_runs, Carry, IsInState, IsLinked}
use Rattle.job_runs.specs.Runs.{IsEnded}
use Rattle.job_runs.specs.Texts.{numbered_text}
use Rattle.job_runs.proofs.Ran.{AreIdle}
use Rattle.job_runs.proofs.Linked.{Adds1, end_calls, killed_others, none_own, only_ended}
use Rattle.job_runs.proofs.Went.{at, becoming_adds, failed_adds, over_linked}
use Rattle.job_runs.proofs.Carrying.{again, carry, killed_lost, same_lost, taken_notes}

-- ---- what ends a run makes nothing, and starts nothing

idle_makes : (cs : List RunCall) → AreIdle cs → made (folder_calls cs) ≡ []
idle_makes [] idle = refl
idle_makes (c ∷ cs) idle =
    ap made (collect_append folder_call (c ∷ []) cs)
    ∙ collect_append (λ x. made_by x.question) (folder_calls (c ∷ [])) (folder_calls cs)
    ∙ ap (λ zs. zs ++ made (folder_calls cs)) idle.0.0 ∙ idle_makes cs idle.1

idle_starts : (cs : List RunCall) → AreIdle cs → starts (program_calls cs) ≡ []
idle_starts [] idle = refl
idle_starts (c ∷ cs) idle =
    ap starts (collect_append program_call (c ∷ []) cs)
    ∙ collect_append (λ x. start_of x.question) (program_calls (c ∷ [])) (program_calls cs)
    ∙ ap (λ zs. zs ++ starts (program_calls cs)) idle.0.1 ∙ idle_starts cs idle.1

-- so behind a run that has come so far there is still no more than that
still_run : (key : RunKey) (t : TaskValue) (before cs : List RunCall) → AreIdle cs
    → IsRunOf key t before → IsRunOf key t (before ++ cs)
still_run key t before cs idle is = record {
  task = is.task;
  of_task = is.of_task;
  begun = begun_more _ _ is.task before cs (idle_makes cs idle) (idle_starts cs idle) is.begun;
}

no_over : (t : TaskValue) → to_run t ≡ no_more → ⊥
no_over t is = cc

-- a run that is to run has come so far
run_so_far : (key : RunKey) (t : TaskValue) (before : List RunCall) (place : Place) (state : State)
    → IsInState key (at t before) place state → IsRunOf key t before
run_so_far key t before place (Over e) is = absurd (no_over t is)
run_so_far key t before place (Live stage) is = record {
  task = is.task;
  of_task = is.of_task;
  begun = subst (λ (l : PlaceValue). IsBegun (numbered_text t.texts) l is.task before) is.same_place
      (begun_so_far (numbered_text t.texts) (place_shown place) is.task is.reached.from
      _ before is.reached.of_task is.reached.by);
}

-- ---- an operator ends a job: its run is ended, and that it failed is told

abbrev told_failed : Result (Option Outcome) RunFault
told_failed = Ok (Some Failed)

ended_adds : (key : RunKey) (t : TaskValue) (before : List RunCall) (told_it : Result ⊤ RunFault) (old new : List Run)
    (f g : Option (List FolderCall)) (p q : Option (List ProgramCall))
    → IsKilled key told_it old new f g p q → IsLinked key (at t before) (own_runs key old)
    → Adds1 key (at t before) (lent key.instance key.job (Some t)) (outcome_events key told_failed) (own_runs key new) f g p q
ended_adds key t before told_it old new f g p q (inl h) linked =
    failed_adds key t before (own_runs key new) f g p q h.0.2 h.0.3 (ap (own_runs key) h.0.1 ∙ none_own key old h.0.0)
ended_adds key t before told_it old new f g p q (inr h) linked =
    let ends = h.1 in
    let one = only_ended key (at t before) h.0 old new f g p q ends linked in
    let cs = end_calls key (ending_of h.0) ends.left f g p q ends.by in
    subst (λ (rs : List Run). Adds1 key (at t before) (lent key.instance key.job (Some t)) (outcome_events key told_failed) rs f g p q)
    (sym one.left)
    (becoming_adds key t before told_failed (run_left ends.place (still_left ends.left)) f g p q (record {
      calls = cs.calls;
      folders = cs.folders;
      programs = cs.programs;
      own = cs.own;
      begun = still_run key t before cs.calls cs.idle (run_so_far key t before ends.place h.0 one.state_is);
      right = (inl refl, tt);
      linked = over_linked key (before ++ cs.calls) ends.place (still_left ends.left);
    }))

-- of one that runs
ended_carries : (key : RunKey) (t : TaskValue) (told_it : Result ⊤ RunFault) (runs now : List Run) (to_begin noted : List RunKey)
    (f g : Option (List FolderCall)) (p q : Option (List ProgramCall)) (h : List RunEvent)
    → IsKilled key told_it runs now f g p q → noted ≡ without_key key to_begin
    → Carry runs to_begin f p h → Carry now noted g q (h ++ lent key.instance key.job (Some t) ∷ outcome_events key told_failed)
ended_carries key t told_it runs now to_begin noted f g p q h killed taken was =
    let others : (other : RunKey) → is_key other key ≡ false → own_runs other now ≡ own_runs other runs =
    (λ other apart. killed_others key other told_it runs now f g p q killed apart) in
    carry key runs now to_begin noted (lent key.instance key.job (Some t)) (outcome_events key told_failed) f g p q h
    (killed_lost key told_it runs now f g p q killed) (record {
      of_key = again key;
      others = others;
      adds = λ s job linked noted_so.
          (let so : s ≡ at t s.calls = ap (λ (o : Order). record { order = o; calls = s.calls }) job in
          subst (λ (x : SoFar). Adds1 key x (lent key.instance key.job (Some t)) (outcome_events key told_failed)
          (own_runs key now) f g p q) (sym so)
          (ended_adds key t s.calls told_it runs now f g p q killed (subst (λ (x : SoFar). IsLinked key x (own_runs key runs)) so linked)));
      notes = λ s job linked noted_so. taken_notes key runs now to_begin noted taken others noted_so;
    }) was

-- .. and of one that was only noted
noted_ended_carries : (key : RunKey) (t : TaskValue) (runs now : List Run) (to_begin noted : List RunKey)
    (f g : Option (List FolderCall)) (p q : Option (List ProgramCall)) (h : List RunEvent)
    → now ≡ runs → g ≡ f → q ≡ p → has_key key to_begin ≡ true → noted ≡ without_key key to_begin
    → Carry runs to_begin f p h → Carry now noted g q (h ++ lent key.instance key.job (Some t) ∷ outcome_events key told_failed)
noted_ended_carries key t runs now to_begin noted f g p q h same fs ps there taken was =
    let others : (other : RunKey) → is_key other key ≡ false → own_runs other now ≡ own_runs other runs =
    (λ other apart. ap (own_runs other) same) in
    carry key runs now to_begin noted (lent key.instance key.job (Some t)) (outcome_events key told_failed) f g p q h
    (same_lost f g p q fs ps) (record {
      of_key = again key;
      others = others;
      adds = λ s job linked noted_so.
          (let so : s ≡ at t s.calls = ap (λ (o : Order). record { order = o; calls = s.calls }) job in
          subst (λ (x : SoFar). Adds1 key x (lent key.instance key.job (Some t)) (outcome_events key told_failed)
          (own_runs key now) f g p q) (sym so)
          (failed_adds key t s.calls (own_runs key now) f g p q fs ps (ap (own_runs key) same ∙ noted_so key there)));
      notes = λ s job linked noted_so. taken_notes key runs now to_begin noted taken others noted_so;
    }) was

-- whatever killing it came to
pub failed_carries : (key : RunKey) (task : Option LentTask) (runs now : List Run) (to_begin noted : List RunKey)
    (f g : Option (List FolderCall)) (p q : Option (List ProgramCall)) (h : List RunEvent)
    → is_some task ≡ true → (has_key key to_begin ≡ true → (now ≡ runs) × (g ≡ f) × (q ≡ p))
    → (has_key key to_begin ≡ false → IsEnded key runs now f g p q) → noted ≡ without_key key to_begin
    → Carry runs to_begin f p h → Carry now noted g q (h ++ asked_events key task told_failed)
failed_carries key None runs now to_begin noted f g p q h some still ends taken was = absurd (true≢false (sym some))
failed_carries key (Some l) runs now to_begin noted f g p q h some still ends taken was = go (has_key key to_begin) refl
  where
    go : (b : Bool) → has_key key to_begin ≡ b → Carry now noted g q (h ++ asked_events key (Some l) told_failed)
    go true there =
        let same = still there in
        noted_ended_carries key (lent_shown l) runs now to_begin noted f g p q h same.0 same.1 same.2 there taken was
    go false apart =
        let ended = ends apart in
        ended_carries key (lent_shown l) ended.0 runs now to_begin noted f g p q h ended.1 taken was
