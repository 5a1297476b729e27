-- What ran so far goes on where a fault is told in the place of an outcome.
use Rattle.std.proofs.Common.{◌≡◌, Bool, true, false, List, [], ◌∷◌, ◌++◌, map, refl, sym, ap, subst, inl, inr}
use Rattle.std.specs.Prelude.{fold, Option, Some, None, Result, Ok, Err}
use Rattle.std.specs.List.{list_any}
use Rattle.std.specs.Option.{option_map}
use Rattle.std.proofs.lemmas.Option.{none-some, same_Some}
use Rattle.execution.specs.Job.{TaskValue}
use Rattle.run_calls.specs.declared.task.RunKey.{RunKey}
use Rattle.run_calls.specs.Calls.{FolderCall, ProgramCall}
use Rattle.run_calls.specs.declared.outcome.Outcome.{Outcome}
use Rattle.run_calls.specs.declared.outcome.Outcome.TheVariants as outcomes
use Rattle.run_calls.specs.Outcomes.{OutcomeValue, failed}
use Rattle.run_calls.specs.Shown.{exited_shown, outcome_shown}
use Rattle.runner.specs.declared.fault.RunFault.{RunFault}
use Rattle.runner.specs.declared.fault.RunFault.TheVariants.{NoMemory}
use Rattle.runner.specs.declared.stage.Run.{Run}
use Rattle.runner.specs.Runs.{HasNone, IsAsked, is_run_of}
use Rattle.serve.specs.RunEvents.{RunEvent, lent, gave, asked_events, outcome_events}
use Rattle.server_core.specs.declared.server.LentTask.{LentTask}
use Rattle.server_core.specs.Lent.{lent_shown}
use Rattle.job_runs.specs.declared.output_rules.OutputRule.{OutputRule}
use Rattle.job_runs.specs.Keys.{is_key, without_key}
use Rattle.job_runs.specs.Operated.{IsAskedAsEver, IsAskedOrFailed, RunsThen}
use Rattle.job_runs.specs.OutputRules.{IsJudged, IsRefusal, broken_by_run, fault_of_rule}
use Rattle.job_runs.specs.Ran.{IsRightOutcome, Order, to_run, RunStep, SoFar, asked, step_by, told}
use Rattle.job_runs.specs.Running.{own_runs, Carry, IsLinked}
use Rattle.job_runs.specs.Runs.{IsAnsweredFor, IsBegunIf}
use Rattle.job_runs.specs.Texts.{numbered_text}
use Rattle.job_runs.proofs.Ran.{AreRightOf}
use Rattle.job_runs.proofs.Linked.{Adds1}
use Rattle.job_runs.proofs.Went.{at, asked_adds, asked_others}
use Rattle.job_runs.proofs.Carrying.{again, asked_lost, carry, taken_notes}

-- ---- that a run failed may be told wherever an outcome may

abbrev gives : RunKey → OutcomeValue → List RunEvent
gives key o = gave key.instance key.job o ∷ []

may_fail : (key : RunKey) (s : SoFar) (o : OutcomeValue) → IsRightOutcome key s.order s.calls o
    → IsRightOutcome key s.order s.calls failed
may_fail key s o right = go s.order right
  where
    go : (order : Order) → IsRightOutcome key order s.calls o → IsRightOutcome key order s.calls failed
    go (to_run t) is = inl refl
    go order is = absurd is

right_failed : (key : RunKey) (s : SoFar) (xs : List RunStep) (o : OutcomeValue)
    → AreRightOf key s (xs ++ map told (gives key o)) → AreRightOf key s (xs ++ map told (gives key failed))
right_failed key s [] o right = (may_fail key s o right.0, tt)
right_failed key s (x ∷ xs) o right = (right.0, right_failed key (step_by s x) xs o right.1)

-- it leaves the same
left_alike : (key : RunKey) (s : SoFar) (xs : List RunStep) (o : OutcomeValue)
    → fold step_by s (xs ++ map told (gives key o)) ≡ fold step_by s (xs ++ map told (gives key failed))
left_alike key s [] o = refl
left_alike key s (x ∷ xs) o = left_alike key (step_by s x) xs o

failed_adds : (key : RunKey) (s : SoFar) (first : RunEvent) (o : OutcomeValue) (rs : List Run)
    (f g : Option (List FolderCall)) (p q : Option (List ProgramCall))
    → Adds1 key s first (gives key o) rs f g p q → Adds1 key s first (gives key failed) rs f g p q
failed_adds key s first o rs f g p q adds = record {
  calls = adds.calls;
  folders = adds.folders;
  programs = adds.programs;
  own = adds.own;
  of_last = adds.of_last;
  right = (adds.right.0, right_failed key (step_by s (told first)) (map asked adds.calls) o adds.right.1);
  linked = subst (λ (q : SoFar). IsLinked key q rs) (left_alike key (step_by s (told first)) (map asked adds.calls) o) adds.linked;
}

-- ---- an outcome, in whose place that it failed is told

failed_carries : (key : RunKey) (t : TaskValue) (o : Outcome) (runs now : List Run) (to_begin noted : List RunKey)
    (f g : Option (List FolderCall)) (p q : Option (List ProgramCall)) (h : List RunEvent)
    → IsAsked (numbered_text t.texts) key (Ok (Some o)) runs now f g p q → noted ≡ without_key key to_begin
    → Carry runs to_begin f p h → Carry now noted g q (h ++ lent key.instance key.job (Some t) ∷ gives key failed)
failed_carries key t o runs now to_begin noted f g p q h answered taken was =
    let others : (other : RunKey) → is_key other key ≡ false → own_runs other now ≡ own_runs other runs =
    (λ other apart. asked_others (numbered_text t.texts) key other (Ok (Some o)) runs now f g p q answered apart) in
    carry key runs now to_begin noted (lent key.instance key.job (Some t)) (gives key failed) f g p q h
    (asked_lost (numbered_text t.texts) key (Ok (Some o)) runs now f g p q answered) (record {
      of_key = again key;
      others = others;
      adds = λ s job linked noted_so.
          (let so : s ≡ at t s.calls = ap (λ (order : Order). record { order = order; calls = s.calls }) job in
          subst (λ (x : SoFar). Adds1 key x (lent key.instance key.job (Some t)) (gives key failed) (own_runs key now) f g p q) (sym so)
          (failed_adds key (at t s.calls) (lent key.instance key.job (Some t)) (outcome_shown o) (own_runs key now) f g p q
          (asked_adds key t s.calls (Ok (Some o)) runs now f g p q answered
          (subst (λ (x : SoFar). IsLinked key x (own_runs key runs)) so linked))));
      notes = λ s job linked noted_so. taken_notes key runs now to_begin noted taken others noted_so;
    }) was

-- ---- what is told in the place of an answer

-- where it is a fault, that it failed is told
fault_told : (key : RunKey) (rule : Option OutputRule) (fault : RunFault) → Some fault ≡ fault_of_rule rule
    → outcome_events key (Err fault) ≡ gives key failed
fault_told key None fault is = absurd (none-some _ (sym is))
fault_told key (Some rule) fault is = ap (λ (f : RunFault). outcome_events key (Err f)) (same_Some _ _ is)

memory_told : (key : RunKey) (fault : RunFault) → Some fault ≡ Some NoMemory → outcome_events key (Err fault) ≡ gives key failed
memory_told key fault is = ap (λ (f : RunFault). outcome_events key (Err f)) (same_Some _ _ is)

-- a run that is not there gives no outcome
begun_none : (lent_to : Option TaskValue) (key : RunKey) (o : Outcome) (old new : List Run)
    → IsBegunIf lent_to key (Ok (Some o)) old new → ⊥
begun_none None key o old new is = let no : Ok (Some o) ≡ Ok None = is.0 in cc
begun_none (Some t) key o old new (inl is) = let no : Ok (Some o) ≡ Ok None = is.0 in cc
begun_none (Some t) key o old new (inr is) = let no : Ok (Some o) ≡ Err NoMemory = is.0 in cc

-- what is known of the answer
abbrev IsAnswer : Option TaskValue → RunKey → Result (Option Outcome) RunFault → List Run → List Run →
    Option (List FolderCall) → Option (List FolderCall) → Option (List ProgramCall) → Option (List ProgramCall) → Type 0
IsAnswer lent_to key answer runs now f g p q =
    (HasNone key runs → IsBegunIf lent_to key answer runs now)
    × (list_any (is_run_of key) runs ≡ true → IsAnsweredFor lent_to key answer runs now f g p q)

given_carries : (key : RunKey) (l : LentTask) (o : Outcome) (fault : RunFault) (runs now : List Run) (to_begin noted : List RunKey)
    (f g : Option (List FolderCall)) (p q : Option (List ProgramCall)) (h : List RunEvent)
    → outcome_events key (Err fault) ≡ gives key failed
    → IsAnswer (Some (lent_shown l)) key (Ok (Some o)) runs now f g p q → noted ≡ without_key key to_begin
    → Carry runs to_begin f p h → Carry now noted g q (h ++ asked_events key (Some l) (Err fault))
given_carries key l o fault runs now to_begin noted f g p q h so is taken was = go (list_any (is_run_of key) runs) refl
  where
    go : (b : Bool) → list_any (is_run_of key) runs ≡ b → Carry now noted g q (h ++ asked_events key (Some l) (Err fault))
    go false none = absurd (begun_none (Some (lent_shown l)) key o runs now (is.0 none))
    go true there = subst (λ (es : List RunEvent). Carry now noted g q (h ++ lent key.instance key.job (Some (lent_shown l)) ∷ es)) (sym so)
        (failed_carries key (lent_shown l) o runs now to_begin noted f g p q h (is.1 there) taken was)

refused_carries : (key : RunKey) (task : Option LentTask) (answer : Result (Option Outcome) RunFault) (fault : RunFault)
    (runs now : List Run) (to_begin noted : List RunKey)
    (f g : Option (List FolderCall)) (p q : Option (List ProgramCall)) (h : List RunEvent)
    → IsRefusal (option_map lent_shown task) answer (Some fault)
    → IsAnswer (option_map lent_shown task) key answer runs now f g p q → noted ≡ without_key key to_begin
    → Carry runs to_begin f p h → Carry now noted g q (h ++ asked_events key task (Err fault))
refused_carries key None answer fault runs now to_begin noted f g p q h refusal is taken was = absurd (none-some _ (sym refusal))
refused_carries key (Some l) (Err e) fault runs now to_begin noted f g p q h refusal is taken was = absurd (none-some _ (sym refusal))
refused_carries key (Some l) (Ok None) fault runs now to_begin noted f g p q h refusal is taken was = absurd (none-some _ (sym refusal))
refused_carries key (Some l) (Ok (Some outcomes.Failed)) fault runs now to_begin noted f g p q h refusal is taken was =
    absurd (none-some _ (sym refusal))
refused_carries key (Some l) (Ok (Some (outcomes.Exited x))) fault runs now to_begin noted f g p q h (inl rule) is taken was =
    given_carries key l (outcomes.Exited x) fault runs now to_begin noted f g p q h
    (fault_told key (broken_by_run (lent_shown l) (exited_shown x)) fault rule) is taken was
refused_carries key (Some l) (Ok (Some (outcomes.Exited x))) fault runs now to_begin noted f g p q h (inr memory) is taken was =
    given_carries key l (outcomes.Exited x) fault runs now to_begin noted f g p q h (memory_told key fault memory) is taken was

-- whatever is told
pub judged_carries : (key : RunKey) (task : Option LentTask) (answer told_it : Result (Option Outcome) RunFault)
    (runs now : List Run) (to_begin noted : List RunKey)
    (f g : Option (List FolderCall)) (p q : Option (List ProgramCall)) (h : List RunEvent)
    → IsJudged (option_map lent_shown task) answer told_it
    → (HasNone key runs → IsBegunIf (option_map lent_shown task) key answer runs now)
    → (list_any (is_run_of key) runs ≡ true → IsAnsweredFor (option_map lent_shown task) key answer runs now f g p q)
    → noted ≡ without_key key to_begin
    → (Carry runs to_begin f p h → Carry now noted g q (h ++ asked_events key task answer))
    → Carry runs to_begin f p h → Carry now noted g q (h ++ asked_events key task told_it)
judged_carries key task answer told_it runs now to_begin noted f g p q h (inl same) begun answered taken carries was =
    subst (λ (x : Result (Option Outcome) RunFault). Carry now noted g q (h ++ asked_events key task x)) (sym same.0) (carries was)
judged_carries key task answer told_it runs now to_begin noted f g p q h (inr refused) begun answered taken carries was =
    subst (λ (x : Result (Option Outcome) RunFault). Carry now noted g q (h ++ asked_events key task x)) (sym refused.1)
    (refused_carries key task answer refused.0 runs now to_begin noted f g p q h refused.2 (begun, answered) taken was)

pub judged_asked : (lent_to : Option TaskValue) (key : RunKey) (answer told_it : Result (Option Outcome) RunFault) (old new : RunsThen)
    → IsJudged lent_to answer told_it → IsAskedAsEver lent_to key answer old new → IsAskedOrFailed lent_to key told_it old new
judged_asked lent_to key answer told_it old new (inl same) is = inl (
    subst (λ (x : Result (Option Outcome) RunFault). IsAskedAsEver lent_to key x old new × IsRefusal lent_to x None) (sym same.0)
    (is, same.1)
    )
judged_asked lent_to key answer told_it old new (inr refused) is =
    inr (inl record { answer = answer; fault = refused.0; asked = is; refusal = refused.2; told_so = refused.1 })
