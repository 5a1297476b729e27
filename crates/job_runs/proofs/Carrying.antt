-- What ran so far goes on with each call of the runs.
use Rattle.std.proofs.Common.{◌≡◌, ℕ, Bool, true, false, List, [], ◌∷◌, ◌++◌, map, refl, sym, ap, subst, ◌∙◌, append-nil, inl, inr}
use Rattle.std.specs.Prelude.{◌||◌, ◌⊎◌, ⊤, Option, Some, None, Result, Ok, Err}
use Rattle.std.proofs.lemmas.Bool.{true≢false}
use Rattle.execution.specs.Job.{TaskValue}
use Rattle.execution.specs.Orders.{start, kill}
use Rattle.run_calls.specs.declared.task.RunKey.{RunKey}
use Rattle.run_calls.specs.declared.folder.Place.{Place}
use Rattle.std.specs.declared.io.ErrorKind.{ErrorKind}
use Rattle.run_calls.specs.Calls.{FolderCall, FolderAnswer, gone, ProgramCall, RunCall, folder_call, program_call, folder_calls, program_calls, Adds, after}
use Rattle.run_calls.specs.declared.outcome.Outcome.{Outcome}
use Rattle.run_calls.specs.declared.outcome.Outcome.TheVariants as outcomes
use Rattle.runner.specs.declared.fault.RunFault.{RunFault}
use Rattle.runner.specs.declared.stage.Ending.{Ending}
use Rattle.runner.specs.declared.stage.Ending.TheVariants.{Killing, Removing}
use Rattle.runner.specs.declared.stage.Run.{Run}
use Rattle.runner.specs.declared.stage.Stage.{Stage}
use Rattle.runner.specs.declared.stage.State.{State}
use Rattle.runner.specs.declared.stage.State.TheVariants.{Live, Over}
use Rattle.runner.specs.Runs.{IsKilled, EndsBy, Becomes, IsAsked, HasNone, end_told, ending_of, left_of_removal}
use Rattle.runner.proofs.Collect.{collect_append}
use Rattle.serve.specs.RunEvents.{RunEvent, ordered, lent, outcome_events}
use Rattle.job_runs.specs.Keys.{is_key, has_key, without_key}
use Rattle.job_runs.specs.Ran.{RunStep, told, asked, told_of, events_in, calls_in, Order, not_yet, to_run, no_more, order_in, IsOfJob, AreOfJobs, SoFar, so_far, HasRun}
use Rattle.job_runs.specs.Running.{own_runs, IsIdle, IsLive, IsInState, IsLinked, AreRunning, Carry}
use Rattle.job_runs.specs.Runs.{IsBegunIf, end_answer}
use Rattle.job_runs.proofs.Ran.{key_equal, key_made, AreOf, of_append, of_asked, so_far_own, so_far_other, right_append, right_behind, events_append, calls_append, events_told, events_asked, calls_told, calls_asked, order_so, jobs_front}
use Rattle.job_runs.proofs.Linked.{none_own, same_adds, Adds1, batch, IsEnd, none_ended, killed_adds, killed_others}
use Rattle.job_runs.specs.Texts.{numbered_text}
use Rattle.job_runs.proofs.Keys.{none-left, none-without}
use Rattle.job_runs.proofs.Went.{at, asked_adds, asked_others, begun_adds, begun_others}

-- ---- a batch of steps of one key

batch_events : (first : RunEvent) (cs : List RunCall) (last : List RunEvent) → events_in (batch first cs last) ≡ first ∷ last
batch_events first cs last = ap (λ (es : List RunEvent). first ∷ es)
    (events_append (map asked cs) (map told last) ∙ ap (λ (es : List RunEvent). es ++ events_in (map told last)) (events_asked cs)
    ∙ events_told last)

batch_calls : (first : RunEvent) (cs : List RunCall) (last : List RunEvent) → calls_in (batch first cs last) ≡ cs
batch_calls first cs last = calls_append (map asked cs) (map told last)
    ∙ ap (λ (ds : List RunCall). ds ++ calls_in (map told last)) (calls_asked cs)
    ∙ ap (λ (ds : List RunCall). cs ++ ds) (calls_told last) ∙ append-nil cs

advance : (key : RunKey) (runs now : List Run) (to_begin noted : List RunKey) (fs : List FolderCall) (ps : List ProgramCall)
    (h : List RunEvent) (first : RunEvent) (last : List RunEvent)
    (f g : Option (List FolderCall)) (p q : Option (List ProgramCall))
    → (a : AreRunning runs to_begin fs ps h) → told_of first ≡ key
    → (adds : Adds1 key (so_far key a.steps) first last (own_runs key now) f g p q)
    → ((other : RunKey) → is_key other key ≡ false → own_runs other now ≡ own_runs other runs)
    → ((k : RunKey) → has_key k noted ≡ true → own_runs k now ≡ [])
    → AreRunning now noted (fs ++ folder_calls adds.calls) (ps ++ program_calls adds.calls) (h ++ first ∷ last)
advance key runs now to_begin noted fs ps h first last f g p q a of_key adds others to_note =
    let xs : List RunStep = batch first adds.calls last in
    let own : AreOf key xs = (
      of_key,
      of_append key (map asked adds.calls) (map told last)
          (of_asked key adds.calls adds.own) adds.of_last,
    ) in
    let calls : calls_in (a.steps ++ xs) ≡ calls_in a.steps ++ adds.calls =
    calls_append a.steps xs ∙ ap (λ (ds : List RunCall). calls_in a.steps ++ ds) (batch_calls first adds.calls last) in
    record {
      steps = a.steps ++ xs;
      told_so = events_append a.steps xs ∙ ap (λ (es : List RunEvent). es ++ events_in xs) a.told_so
          ∙ ap (λ (es : List RunEvent). h ++ es) (batch_events first adds.calls last);
      folders_so = ap folder_calls calls ∙ collect_append folder_call (calls_in a.steps) adds.calls
          ∙ ap (λ (cs : List FolderCall). cs ++ folder_calls adds.calls) a.folders_so;
      programs_so = ap program_calls calls ∙ collect_append program_call (calls_in a.steps) adds.calls
          ∙ ap (λ (cs : List ProgramCall). cs ++ program_calls adds.calls) a.programs_so;
      right = right_append [] a.steps xs a.right (right_behind key a.steps xs (so_far key a.steps) refl own adds.right);
      linked = λ k. linked_now k (is_key k key) refl own;
      noted = to_note;
    }
  where
    linked_now : (k : RunKey) (b : Bool) → is_key k key ≡ b → AreOf key (batch first adds.calls last) →
        IsLinked k (so_far k (a.steps ++ batch first adds.calls last)) (own_runs k now)
    linked_now k true is own =
        subst (λ (x : RunKey). IsLinked x (so_far x (a.steps ++ batch first adds.calls last)) (own_runs x now)) (key_equal k key is)
        (subst (λ (s : SoFar). IsLinked key s (own_runs key now))
        (sym (so_far_own key a.steps (batch first adds.calls last) own)) adds.linked)
    linked_now k false apart own =
        subst (λ (s : SoFar). IsLinked k s (own_runs k now)) (sym (so_far_other key k a.steps (batch first adds.calls last) apart own))
        (subst (IsLinked k (so_far k a.steps)) (sym (others k apart)) (a.linked k))

-- ---- where it is known what was asked

known_adds : {C : Type 0} (f : Option (List C)) (gs more : List C) → Adds f (Some gs) more →
    (fs : List C) × (f ≡ Some fs) × (gs ≡ fs ++ more)
known_adds None gs more (inl lost) = absurd (let no : Some gs ≡ None = lost in cc)
known_adds None gs more (inr adds) = absurd (let no : Some gs ≡ None = adds in cc)
known_adds (Some fs) gs more (inl lost) = absurd (let no : Some gs ≡ None = lost in cc)
known_adds (Some fs) gs more (inr adds) = (fs, refl, (let same : gs ≡ fs ++ more = cc in same))

-- by these facts of one call
pub record IsCall (key : RunKey) (runs now : List Run) (to_begin noted : List RunKey) (first : RunEvent) (last : List RunEvent)
    (f g : Option (List FolderCall)) (p q : Option (List ProgramCall)) : Type 0 where
  pub of_key : told_of first ≡ key
  pub others : (other : RunKey) → is_key other key ≡ false → own_runs other now ≡ own_runs other runs
  pub adds : (s : SoFar) → IsOfJob s.order first → IsLinked key s (own_runs key runs)
      → ((k : RunKey) → has_key k to_begin ≡ true → own_runs k runs ≡ []) → Adds1 key s first last (own_runs key now) f g p q
  pub notes : (s : SoFar) → IsOfJob s.order first → IsLinked key s (own_runs key runs)
      → ((k : RunKey) → has_key k to_begin ≡ true → own_runs k runs ≡ []) → (k : RunKey) → has_key k noted ≡ true → own_runs k now ≡ []

goes_on : (key : RunKey) (runs now : List Run) (to_begin noted : List RunKey) (first : RunEvent) (last : List RunEvent)
    (f g : Option (List FolderCall)) (p q : Option (List ProgramCall)) (h : List RunEvent) (fs : List FolderCall) (ps : List ProgramCall)
    (gs : List FolderCall) (qs : List ProgramCall)
    → IsCall key runs now to_begin noted first last f g p q → f ≡ Some fs → p ≡ Some ps → g ≡ Some gs → q ≡ Some qs
    → AreOfJobs (h ++ first ∷ last) → AreRunning runs to_begin fs ps h → AreRunning now noted gs qs (h ++ first ∷ last)
goes_on key runs now to_begin noted first last f g p q h fs ps gs qs it f_is p_is g_is q_is jobs a =
    let job : IsOfJob (so_far key a.steps).order first =
    subst (λ (o : Order). IsOfJob o first) (order_so key a.steps h a.told_so)
    (subst (λ (k : RunKey). IsOfJob (order_in k h) first) it.of_key (jobs_front [] h (first ∷ last) jobs).1.0) in
    let adds = it.adds (so_far key a.steps) job (a.linked key) a.noted in
    let after_all = advance key runs now to_begin noted fs ps h first last f g p q a it.of_key adds it.others
    (it.notes (so_far key a.steps) job (a.linked key) a.noted) in
    let folders = known_adds f gs (folder_calls adds.calls)
    (subst (λ (o : Option (List FolderCall)). Adds f o (folder_calls adds.calls)) g_is adds.folders) in
    let programs = known_adds p qs (program_calls adds.calls)
    (subst (λ (o : Option (List ProgramCall)). Adds p o (program_calls adds.calls)) q_is adds.programs) in
    let same_fs : folders.0 ≡ fs = some_same folders.0 fs (sym folders.1 ∙ f_is) in
    let same_ps : programs.0 ≡ ps = some_same programs.0 ps (sym programs.1 ∙ p_is) in
    subst (λ (xs : List FolderCall). AreRunning now noted xs qs (h ++ first ∷ last))
    (sym (folders.2 ∙ ap (λ (xs : List FolderCall). xs ++ folder_calls adds.calls) same_fs))
    (subst (λ (ys : List ProgramCall). AreRunning now noted (fs ++ folder_calls adds.calls) ys (h ++ first ∷ last))
    (sym (programs.2 ∙ ap (λ (ys : List ProgramCall). ys ++ program_calls adds.calls) same_ps)) after_all)
  where
    some_same : {A : Type 0} (x y : A) → Some x ≡ Some y → x ≡ y
    some_same x y is = let same : x ≡ y = cc in same

-- what is not known does not get known
lost_adds : {C : Type 0} (f g : Option (List C)) (more : List C) → Adds f g more → f ≡ None → g ≡ None
lost_adds {C} f g more (inl lost) none = lost
lost_adds {C} f g more (inr adds) none = adds ∙ ap (λ (o : Option (List C)). after o more) none

pub record StaysLost (f g : Option (List FolderCall)) (p q : Option (List ProgramCall)) : Type 0 where
  pub folders : f ≡ None → g ≡ None
  pub programs : p ≡ None → q ≡ None

-- this call carries what ran so far
pub carry : (key : RunKey) (runs now : List Run) (to_begin noted : List RunKey) (first : RunEvent) (last : List RunEvent)
    (f g : Option (List FolderCall)) (p q : Option (List ProgramCall)) (h : List RunEvent)
    → StaysLost f g p q → IsCall key runs now to_begin noted first last f g p q → Carry runs to_begin f p h →
    Carry now noted g q (h ++ first ∷ last)
carry key runs now to_begin noted first last f g p q h lost it was = go f g p q refl refl refl refl was
  where
    no_some : {C : Type 0} (f g : Option (List C)) (gs : List C) → (f ≡ None → g ≡ None) → f ≡ None → g ≡ Some gs → ⊥
    no_some f g gs still none some = let no : Some gs ≡ None = sym some ∙ still none in cc

    go : (f2 g2 : Option (List FolderCall)) (p2 q2 : Option (List ProgramCall)) → f ≡ f2 → g ≡ g2 → p ≡ p2 → q ≡ q2 →
        Carry runs to_begin f2 p2 h → Carry now noted g2 q2 (h ++ first ∷ last)
    go f2 None p2 q2 a b c d holds = tt
    go f2 (Some gs) p2 None a b c d holds = tt
    go None (Some gs) p2 (Some qs) a b c d holds = absurd (no_some f g gs lost.folders a b)
    go (Some fs) (Some gs) None (Some qs) a b c d holds = absurd (no_some p q qs lost.programs c d)
    go (Some fs) (Some gs) (Some ps) (Some qs) a b c d holds = λ jobs.
        goes_on key runs now to_begin noted first last f g p q h fs ps gs qs it a c b d jobs (holds (jobs_front [] h (first ∷ last) jobs).0)

-- ---- of what each call makes of what is known

pub same_lost : (f g : Option (List FolderCall)) (p q : Option (List ProgramCall)) → g ≡ f → q ≡ p → StaysLost f g p q
same_lost f g p q fs ps = record { folders = λ none. fs ∙ none; programs = λ none. ps ∙ none }

ends_lost : (key : RunKey) (e : Option Ending) (left : Result (Option Ending) RunFault) (f g : Option (List FolderCall))
    (p q : Option (List ProgramCall)) → EndsBy key e left f g p q → StaysLost f g p q
ends_lost key None left f g p q by = same_lost f g p q by.1 by.2
ends_lost key (Some Killing) left f g p q by = record { folders = λ none. by.2 ∙ none; programs = lost_adds p q _ by.3.2 }
ends_lost key (Some Removing) left f g p q by = record { folders = lost_adds f g _ by.2; programs = λ none. by.3 ∙ none }

pub killed_lost : (key : RunKey) (told_it : Result ⊤ RunFault) (old new : List Run) (f g : Option (List FolderCall))
    (p q : Option (List ProgramCall)) → IsKilled key told_it old new f g p q → StaysLost f g p q
killed_lost key told_it old new f g p q (inl h) = same_lost f g p q h.0.2 h.0.3
killed_lost key told_it old new f g p q (inr h) = ends_lost key (ending_of h.0) h.1.left f g p q h.1.by

becomes_lost : (text : ℕ → List ℕ) (place : Place) (stage : Stage) (r : Result (Option Outcome) RunFault) (kept : Option State)
    (f g : Option (List FolderCall)) (p q : Option (List ProgramCall)) → Becomes text place stage r kept f g p q → StaysLost f g p q
becomes_lost text place stage (Ok None) kept f g p q is =
    record { folders = lost_adds f g _ is.3.folder_asked; programs = lost_adds p q _ is.3.programs_asked }
becomes_lost text place stage (Ok (Some outcomes.Failed)) kept f g p q is = absurd is
becomes_lost text place stage (Ok (Some (outcomes.Exited e))) kept f g p q is = record {
  folders = lost_adds f g _ is.2.folder_asked;
  programs = λ none. lost_adds is.0 q _ is.3 (lost_adds p is.0 _ is.2.programs_asked none);
}
becomes_lost text place stage (Err fault) kept f g p q is =
    let fails = is.2 in
    record {
      folders = λ none. lost_adds fails.2 g _ fails.6.folder_asked (lost_adds f fails.2 _ fails.5.folder_asked none);
      programs = λ none. lost_adds fails.3 q _ fails.6.programs_asked (lost_adds p fails.3 _ fails.5.programs_asked none);
    }

pub asked_lost : (text : ℕ → List ℕ) (key : RunKey) (r : Result (Option Outcome) RunFault) (old new : List Run)
    (f g : Option (List FolderCall)) (p q : Option (List ProgramCall)) → IsAsked text key r old new f g p q → StaysLost f g p q
asked_lost text key r old new f g p q (inl h) = same_lost f g p q h.0.2 h.0.3
asked_lost text key r old new f g p q (inr (inl h)) = ends_lost key (Some h.0) h.1.left f g p q h.1.by
asked_lost text key r old new f g p q (inr (inr goes)) = becomes_lost text goes.place goes.stage r goes.kept f g p q goes.becomes

-- ---- what is noted

still_there : (k key : RunKey) (ks : List RunKey) → has_key k (without_key key ks) ≡ true → has_key k ks ≡ true
still_there k key ks there = go (has_key k ks) refl
  where
    go : (b : Bool) → has_key k ks ≡ b → has_key k ks ≡ true
    go true is = is
    go false is = absurd (true≢false (sym there ∙ none-without k key ks is))

-- a call for a key, which is noted no more
pub taken_notes : (key : RunKey) (runs now : List Run) (to_begin noted : List RunKey) → noted ≡ without_key key to_begin
    → ((other : RunKey) → is_key other key ≡ false → own_runs other now ≡ own_runs other runs)
    → ((k : RunKey) → has_key k to_begin ≡ true → own_runs k runs ≡ []) → (k : RunKey) → has_key k noted ≡ true → own_runs k now ≡ []
taken_notes key runs now to_begin noted taken others was k there = go (is_key k key) refl
  where
    has : has_key k (without_key key to_begin) ≡ true
    has = subst (λ (ks : List RunKey). has_key k ks ≡ true) taken there

    go : (b : Bool) → is_key k key ≡ b → own_runs k now ≡ []
    go false apart = others k apart ∙ was k (still_there k key to_begin has)
    go true is =
        let gone : has_key k (without_key key to_begin) ≡ false =
        subst (λ (x : RunKey). has_key x (without_key key to_begin) ≡ false) (key_equal k key is) (none-left key to_begin) in
        absurd (true≢false (sym has ∙ gone))

-- ---- a start

unordered_none : (key : RunKey) (s : SoFar) (rs : List Run) → s.order ≡ not_yet → IsLinked key s rs → rs ≡ []
unordered_none key s [] is h = refl
unordered_none key s (r ∷ q ∷ rs) is h = absurd h
unordered_none key s (r ∷ []) is h = absurd (go r.state h)
  where
    go : (state : State) → IsInState key s r.place state → ⊥
    go (Live stage) at = subst (λ (o : Order). IsLive key o s.calls r.place stage) is at
    go (Over e) at = let no : not_yet ≡ no_more = sym is ∙ at in cc

abbrev AddsNote : RunKey → List RunKey → List RunKey → Type 0
AddsNote key to_begin noted = (k : RunKey) → has_key k noted ≡ true → (k ≡ key) ⊎ (has_key k to_begin ≡ true)

start_call : (key : RunKey) (t : TaskValue) (runs : List Run) (to_begin noted : List RunKey) (f : Option (List FolderCall))
    (p : Option (List ProgramCall)) → AddsNote key to_begin noted
    → IsCall key runs runs to_begin noted (ordered key.instance (start key.job t)) [] f f p p
start_call key t runs to_begin noted f p note = record {
  of_key = key_made (record { instance = key.instance; job = key.job }) key refl refl;
  others = λ other apart. refl;
  adds = λ s job linked was.
      (let none = unordered_none key s (own_runs key runs) job linked in
      record {
        calls = [];
        folders = same_adds f f refl;
        programs = same_adds p p refl;
        own = tt;
        of_last = tt;
        right = (tt, tt);
        linked = subst (IsLinked key (record { order = to_run t; calls = s.calls })) (sym none)
            (subst (λ (o : Order). IsIdle o s.calls) job (subst (IsLinked key s) none linked));
      });
  notes = λ s job linked was k there. elim (note k there) [
    | inl same ↦ ap (λ (x : RunKey). own_runs x runs) same ∙ unordered_none key s (own_runs key runs) job linked
    | inr before ↦ was k before
  ];
}

pub start_carries : (key : RunKey) (t : TaskValue) (runs now : List Run) (to_begin noted : List RunKey) (f g : Option (List FolderCall))
    (p q : Option (List ProgramCall)) (h : List RunEvent)
    → now ≡ runs → g ≡ f → q ≡ p → AddsNote key to_begin noted → Carry runs to_begin f p h →
    Carry now noted g q (h ++ ordered key.instance (start key.job t) ∷ [])
start_carries key t runs now to_begin noted f g p q h same fs ps note was =
    rw (same, fs, ps) (carry key runs runs to_begin noted (ordered key.instance (start key.job t)) [] f f p p h
    (same_lost f f p p refl refl) (start_call key t runs to_begin noted f p note) was)

pub noted_first : (key : RunKey) (to_begin noted : List RunKey) → noted ≡ to_begin ++ key ∷ [] → AddsNote key to_begin noted
noted_first key to_begin noted is k there = go (has_key k to_begin) refl
  where
    one : has_key k (to_begin ++ key ∷ []) ≡ true
    one = subst (λ (ks : List RunKey). has_key k ks ≡ true) is there

    at_end : (ks : List RunKey) → has_key k ks ≡ false → has_key k (ks ++ key ∷ []) ≡ true → is_key k key ≡ true
    at_end [] none is_there = single (is_key k key) is_there
      where
        single : (b : Bool) → (b || false) ≡ true → b ≡ true
        single true h = refl
        single false h = h
    at_end (x ∷ ks) none is_there = rest (is_key k x) none is_there (at_end ks)
      where
        rest : (b : Bool) → (b || has_key k ks) ≡ false → (b || has_key k (ks ++ key ∷ [])) ≡ true →
            (has_key k ks ≡ false → has_key k (ks ++ key ∷ []) ≡ true → is_key k key ≡ true) → is_key k key ≡ true
        rest true none is_there later = absurd (true≢false none)
        rest false none is_there later = later none is_there

    go : (b : Bool) → has_key k to_begin ≡ b → (k ≡ key) ⊎ (has_key k to_begin ≡ true)
    go true before = inr before
    go false none = inl (sym (key_equal k key (at_end to_begin none one)))

pub noted_as_before : (key : RunKey) (to_begin noted : List RunKey) → noted ≡ to_begin → AddsNote key to_begin noted
noted_as_before key to_begin noted is k there = inr (subst (λ (ks : List RunKey). has_key k ks ≡ true) is there)

-- ---- an end

kill_ends : (key : RunKey) (s : SoFar) → IsEnd key s (ordered key.instance (kill key.job))
kill_ends key s = record { order = refl; right = tt }

lent_ends : (key : RunKey) (s : SoFar) → IsEnd key s (lent key.instance key.job None)
lent_ends key s = record { order = refl; right = tt }

pub again : (key : RunKey) → record { instance = key.instance; job = key.job } ≡ key
again key = key_made (record { instance = key.instance; job = key.job }) key refl refl

-- of one that was only noted
pub noted_kill_carries : (key : RunKey) (runs now : List Run) (to_begin noted : List RunKey) (f g : Option (List FolderCall))
    (p q : Option (List ProgramCall)) (h : List RunEvent)
    → now ≡ runs → g ≡ f → q ≡ p → has_key key to_begin ≡ true → noted ≡ without_key key to_begin
    → Carry runs to_begin f p h → Carry now noted g q (h ++ ordered key.instance (kill key.job) ∷ [])
noted_kill_carries key runs now to_begin noted f g p q h same fs ps there taken was =
    let others : (other : RunKey) → is_key other key ≡ false → own_runs other now ≡ own_runs other runs =
    (λ other apart. ap (own_runs other) same) in
    carry key runs now to_begin noted (ordered key.instance (kill key.job)) [] f g p q h (same_lost f g p q fs ps) (record {
      of_key = again key;
      others = others;
      adds = λ s job linked noted_so. none_ended key s (ordered key.instance (kill key.job)) runs now f g p q (kill_ends key s)
          (noted_so key there) same fs ps linked;
      notes = λ s job linked noted_so. taken_notes key runs now to_begin noted taken others noted_so;
    }) was

pub kill_carries : (key : RunKey) (told_it : Result ⊤ RunFault) (runs now : List Run) (to_begin noted : List RunKey)
    (f g : Option (List FolderCall)) (p q : Option (List ProgramCall)) (h : List RunEvent)
    → IsKilled key told_it runs now f g p q → noted ≡ without_key key to_begin
    → Carry runs to_begin f p h → Carry now noted g q (h ++ ordered key.instance (kill key.job) ∷ [])
kill_carries key told_it runs now to_begin noted f g p q h killed taken was =
    let others : (other : RunKey) → is_key other key ≡ false → own_runs other now ≡ own_runs other runs =
    (λ other apart. killed_others key other told_it runs now f g p q killed apart) in
    carry key runs now to_begin noted (ordered key.instance (kill key.job)) [] f g p q h (killed_lost key told_it runs now f g p q killed)
    (record {
      of_key = again key;
      others = others;
      adds = λ s job linked noted_so. killed_adds key s (ordered key.instance (kill key.job)) told_it runs now f g p q
          (kill_ends key s) killed linked;
      notes = λ s job linked noted_so. taken_notes key runs now to_begin noted taken others noted_so;
    }) was

removal_quiet : (key : RunKey) (a : Result FolderAnswer ErrorKind) → outcome_events key (end_answer (end_told tt (left_of_removal a))) ≡ []
removal_quiet key (Ok (gone false)) = refl
removal_quiet key (Ok a) = refl
removal_quiet key (Err e) = refl

end_quiet : (key : RunKey) (e : Option Ending) (left : Result (Option Ending) RunFault) (f g : Option (List FolderCall))
    (p q : Option (List ProgramCall)) → EndsBy key e left f g p q
    → outcome_events key (end_answer (end_told tt left)) ≡ []
end_quiet key None left f g p q by = ap (λ (l : Result (Option Ending) RunFault). outcome_events key (end_answer (end_told tt l))) by.0
end_quiet key (Some Killing) left f g p q by =
    ap (λ (l : Result (Option Ending) RunFault). outcome_events key (end_answer (end_told tt l))) by.1
end_quiet key (Some Removing) left f g p q by =
    ap (λ (l : Result (Option Ending) RunFault). outcome_events key (end_answer (end_told tt l))) by.1 ∙ removal_quiet key by.0

killed_quiet : (key : RunKey) (told_it : Result ⊤ RunFault) (old new : List Run) (f g : Option (List FolderCall))
    (p q : Option (List ProgramCall)) → IsKilled key told_it old new f g p q → outcome_events key (end_answer told_it) ≡ []
killed_quiet key told_it old new f g p q (inl h) = ap (λ (l : Result ⊤ RunFault). outcome_events key (end_answer l)) h.1
killed_quiet key told_it old new f g p q (inr h) =
    ap (λ (l : Result ⊤ RunFault). outcome_events key (end_answer l)) h.2 ∙ end_quiet key (ending_of h.0) h.1.left f g p q h.1.by

-- no task is lent to one that is there
pub lent_none_carries : (key : RunKey) (told_it : Result ⊤ RunFault) (r : Result (Option Outcome) RunFault) (runs now : List Run)
    (to_begin noted : List RunKey) (f g : Option (List FolderCall)) (p q : Option (List ProgramCall)) (h : List RunEvent)
    → IsKilled key told_it runs now f g p q → r ≡ end_answer told_it → noted ≡ without_key key to_begin
    → Carry runs to_begin f p h → Carry now noted g q (h ++ lent key.instance key.job None ∷ outcome_events key r)
lent_none_carries key told_it r runs now to_begin noted f g p q h killed told_so taken was =
    let others : (other : RunKey) → is_key other key ≡ false → own_runs other now ≡ own_runs other runs =
    (λ other apart. killed_others key other told_it runs now f g p q killed apart) in
    let quiet : outcome_events key r ≡ [] = ap (outcome_events key) told_so ∙ killed_quiet key told_it runs now f g p q killed in
    subst (λ (es : List RunEvent). Carry now noted g q (h ++ lent key.instance key.job None ∷ es)) (sym quiet)
    (carry key runs now to_begin noted (lent key.instance key.job None) [] f g p q h (killed_lost key told_it runs now f g p q killed)
    (record {
      of_key = again key;
      others = others;
      adds = λ s job linked noted_so. killed_adds key s (lent key.instance key.job None) told_it runs now f g p q
          (lent_ends key s) killed linked;
      notes = λ s job linked noted_so. taken_notes key runs now to_begin noted taken others noted_so;
    }) was)

-- ---- a question to one that is not there

pub begun_carries : (key : RunKey) (task : Option TaskValue) (r : Result (Option Outcome) RunFault) (runs now : List Run)
    (to_begin noted : List RunKey) (f g : Option (List FolderCall)) (p q : Option (List ProgramCall)) (h : List RunEvent)
    → HasNone key runs → IsBegunIf task key r runs now → g ≡ f → q ≡ p → noted ≡ without_key key to_begin
    → Carry runs to_begin f p h → Carry now noted g q (h ++ lent key.instance key.job task ∷ outcome_events key r)
begun_carries key None r runs now to_begin noted f g p q h none begun fs ps taken was =
    let others : (other : RunKey) → is_key other key ≡ false → own_runs other now ≡ own_runs other runs =
    (λ other apart. begun_others key other None r runs now begun apart) in
    subst (λ (x : Result (Option Outcome) RunFault). Carry now noted g q (h ++ lent key.instance key.job None ∷ outcome_events key x))
    (sym begun.0)
    (carry key runs now to_begin noted (lent key.instance key.job None) [] f g p q h (same_lost f g p q fs ps) (record {
      of_key = again key;
      others = others;
      adds = λ s job linked noted_so. none_ended key s (lent key.instance key.job None) runs now f g p q (lent_ends key s)
          (none_own key runs none) begun.1 fs ps linked;
      notes = λ s job linked noted_so. taken_notes key runs now to_begin noted taken others noted_so;
    }) was)
begun_carries key (Some t) r runs now to_begin noted f g p q h none begun fs ps taken was =
    let others : (other : RunKey) → is_key other key ≡ false → own_runs other now ≡ own_runs other runs =
    (λ other apart. begun_others key other (Some t) r runs now begun apart) in
    carry key runs now to_begin noted (lent key.instance key.job (Some t)) (outcome_events key r) f g p q h (same_lost f g p q fs ps)
    (record {
      of_key = again key;
      others = others;
      adds = λ s job linked noted_so.
          (let so : s ≡ at t s.calls = ap (λ (o : Order). record { order = o; calls = s.calls }) job in
          subst (λ (x : SoFar). Adds1 key x (lent key.instance key.job (Some t)) (outcome_events key r) (own_runs key now) f g p q) (sym so)
          (begun_adds key t s.calls r runs now f g p q (none_own key runs none) fs ps begun
          (subst (λ (x : SoFar). IsLinked key x (own_runs key runs)) so linked)));
      notes = λ s job linked noted_so. taken_notes key runs now to_begin noted taken others noted_so;
    }) was

-- .. and to one that is
pub asked_carries : (key : RunKey) (t : TaskValue) (r : Result (Option Outcome) RunFault) (runs now : List Run)
    (to_begin noted : List RunKey) (f g : Option (List FolderCall)) (p q : Option (List ProgramCall)) (h : List RunEvent)
    → IsAsked (numbered_text t.texts) key r runs now f g p q → noted ≡ without_key key to_begin
    → Carry runs to_begin f p h → Carry now noted g q (h ++ lent key.instance key.job (Some t) ∷ outcome_events key r)
asked_carries key t r runs now to_begin noted f g p q h answered taken was =
    let others : (other : RunKey) → is_key other key ≡ false → own_runs other now ≡ own_runs other runs =
    (λ other apart. asked_others (numbered_text t.texts) key other r runs now f g p q answered apart) in
    carry key runs now to_begin noted (lent key.instance key.job (Some t)) (outcome_events key r) f g p q h
    (asked_lost (numbered_text t.texts) key r runs now f g p q answered) (record {
      of_key = again key;
      others = others;
      adds = λ s job linked noted_so.
          (let so : s ≡ at t s.calls = ap (λ (o : Order). record { order = o; calls = s.calls }) job in
          subst (λ (x : SoFar). Adds1 key x (lent key.instance key.job (Some t)) (outcome_events key r) (own_runs key now) f g p q) (sym so)
          (asked_adds key t s.calls r runs now f g p q answered (subst (λ (x : SoFar). IsLinked key x (own_runs key runs)) so linked)));
      notes = λ s job linked noted_so. taken_notes key runs now to_begin noted taken others noted_so;
    }) was

-- ---- nothing happens

-- ---- at first, and in the end

pub ran_so : (runs : List Run) (to_begin : List RunKey) (f : Option (List FolderCall)) (p : Option (List ProgramCall)) (h : List RunEvent)
    (fs : List FolderCall) (ps : List ProgramCall)
    → Carry runs to_begin f p h → f ≡ Some fs → p ≡ Some ps → AreOfJobs h → HasRun h fs ps
ran_so runs to_begin f p h fs ps carried f_is p_is jobs =
    let known : Carry runs to_begin (Some fs) (Some ps) h =
    subst (λ (o : Option (List FolderCall)). Carry runs to_begin o (Some ps) h) f_is
    (subst (λ (o : Option (List ProgramCall)). Carry runs to_begin f o h) p_is carried) in
    let a = known jobs in
    record { steps = a.steps; told_so = a.told_so; folders_so = a.folders_so; programs_so = a.programs_so; right = a.right }
