-- How far a run has come, call after call.
use Rattle.std.proofs.Common.{◌≡◌, ℕ, List, [], ◌∷◌, ◌++◌, map, refl, sym, ap, subst, ◌∙◌, append-nil, append_assoc}
use Rattle.std.specs.Prelude.{Option, Some, None, string_bytes, Result, Ok, Err}
use Rattle.std.specs.Option.{option_map}
use Rattle.std.specs.Rc.{rc_str_bytes}
use Rattle.run_calls.specs.declared.folder.Place.{Place}
use Rattle.run_calls.specs.declared.task.Task.{Task}
use Rattle.run_calls.specs.declared.outcome.Exited.{Exited}
use Rattle.run_calls.specs.declared.outcome.Outcome.{Outcome}
use Rattle.run_calls.specs.declared.outcome.Outcome.TheVariants as outcomes
use Rattle.std.specs.declared.io.ErrorKind.{ErrorKind}
use Rattle.std.specs.declared.io.ErrorKind.TheVariants.{OutOfMemory, ConnectionAborted}
use Rattle.runner.specs.declared.fault.RunFault.{RunFault}
use Rattle.runner.specs.declared.fault.RunFault.TheVariants.{Folder, Start, Launcher, TooLarge, NoMemory, Left}
use Rattle.runner.specs.declared.stage.Making.{Making}
use Rattle.runner.specs.declared.stage.Making.TheVariants as makings
use Rattle.runner.specs.declared.stage.Stage.{Stage}
use Rattle.runner.specs.declared.stage.Stage.TheVariants as stages
use Rattle.runner.specs.declared.stage.Step.{Step}
use Rattle.runner.specs.declared.stage.Step.TheVariants as steps
use Rattle.runner.specs.declared.stage.Ending.{Ending}
use Rattle.runner.specs.declared.stage.Ending.TheVariants.{Removing}
use Rattle.runner.specs.declared.stage.State.{State}
use Rattle.runner.specs.declared.stage.State.TheVariants.{Live, Over}
use Rattle.run_calls.specs.Values.{PlaceValue, place_shown, command_shown}
use Rattle.run_calls.specs.Calls.{FolderCall, FolderQuestion, FolderAnswer, ProgramCall, ProgramQuestion, ProgramAnswer, program_done, forget_asked, look_asked, file_asked, list_asked, start_asked, RunCall, of_folder, of_programs, folder_call, program_call, folder_calls, program_calls, Adds}
use Rattle.runner.specs.Begun.{IsBegun, HasReached, all_made}
use Rattle.runner.specs.Faults.{folder_fault, programs_fault}
use Rattle.runner.specs.Listed.{walk_at, InnerValue, inner_asked, to_meet, stack_of, most_nodes}
use Rattle.runner.specs.Made.{MadeItem, made, made_by, root_item, directory_item, parents_item, nodes_made}
use Rattle.runner.specs.Own.{AreOwn}
use Rattle.runner.specs.Runs.{IsStageOf, Becomes}
use Rattle.runner.specs.Steps.{Goes, to_make, to_start, then_to_make, then_to_start}
use Rattle.runner.specs.Stops.{IsMadeNext, AsksFolder, AsksPrograms, AsksNext, IsOwnFault, IsFolderFault, IsProgramsFault, IsFaultOf, Stops}
use Rattle.runner.specs.Told.{starts, start_of}
use Rattle.runner.specs.Whole.{GoesBy, IsWhole}
use Rattle.runner.proofs.Collect.{collect_append, own_append, fronts, goes_nowhere}
use Rattle.runner.proofs.Calls.{adds_more, adds_same}
use Rattle.runner.proofs.Whole.{added, by_itself, joined, whole}

-- a list, and what is behind it
pub record IsFront {A : Type 0} (front all : List A) : Type 0 where
  pub rest : List A
  pub whole : all ≡ front ++ rest

pub front_nothing : {A : Type 0} (all : List A) → IsFront [] all
front_nothing all = record { rest = all; whole = refl }

-- ---- of a stop

look_makes_nothing : (place : PlaceValue) (paths : List (List ℕ)) (q : FolderQuestion) (rest : List FolderQuestion) →
    map (look_asked place) paths ≡ q ∷ rest → made_by q ≡ []
look_makes_nothing place [] q rest is = absurd (cc)
look_makes_nothing place (p ∷ ps) q rest is = let same : look_asked place p ≡ q = cc in ap made_by (sym same)

one_makes_nothing : (place : PlaceValue) (path : List ℕ) (most : ℕ) (q : FolderQuestion) (rest : List FolderQuestion) →
    list_asked place path [] most ∷ [] ≡ q ∷ rest → made_by q ≡ []
one_makes_nothing place path most q rest is = let same : list_asked place path [] most ≡ q = cc in ap made_by (sym same)

entry_makes_nothing : (place : PlaceValue) (path : List ℕ) (above files : List (List ℕ)) (stack : List InnerValue) (q : FolderQuestion)
    (rest : List FolderQuestion)
    → to_meet place path above files stack ≡ q ∷ rest → made_by q ≡ []
entry_makes_nothing place path above [] [] q rest is = absurd (cc)
entry_makes_nothing place path above [] (i ∷ stack) q rest is =
    let same : inner_asked place path above i ≡ q = cc in ap made_by (sym same)
entry_makes_nothing place path above (n ∷ files) stack q rest is =
    let same : file_asked place path (above ++ n ∷ []) ≡ q = cc in ap made_by (sym same)

next_made : (left made : List MadeItem) → IsMadeNext left made → IsFront made left
next_made left [] asks = absurd asks
next_made left (i ∷ is) asks = record { rest = asks.0; whole = asks.1 }

none_made : (q : FolderQuestion) (left : List MadeItem) → made_by q ≡ [] → IsFront (made_by q) left
none_made q left is = record { rest = left; whole = ap (λ zs. zs ++ left) (sym is) }

folder_front : (text : ℕ → List ℕ) (place : PlaceValue) (from : Stage) (q : FolderQuestion)
    → AsksFolder (walk_at place from) text place from q → IsFront (made_by q) (to_make text place from)
folder_front text place (stages.Making m) q asks = next_made (to_make text place (stages.Making m)) (made_by q) asks
folder_front text place (stages.Outputs g) q asks =
    none_made q [] (look_makes_nothing place (map string_bytes g.left.items) q asks.0 asks.1)
folder_front text place (stages.File g f) q asks = none_made q [] (ap made_by asks.2)
folder_front text place (stages.Listing g path) q asks =
    none_made q [] (one_makes_nothing place (string_bytes path) most_nodes q asks.1 asks.2)
folder_front text place (stages.Tree g t) q asks =
    none_made q [] (entry_makes_nothing place (string_bytes t.path) t.nodes.above (map string_bytes t.files.items)
    (stack_of t.todo.items) q asks.1 asks.2)
folder_front text place (stages.TreeFile g t f) q asks = none_made q [] (ap made_by asks.2)
folder_front text place (stages.Running outputs) q asks = absurd asks
folder_front text place (stages.Stopping e) q asks = absurd asks
folder_front text place (stages.Measuring e) q asks = absurd asks
folder_front text place (stages.Output e out) q asks = absurd asks
folder_front text place (stages.Error e out err) q asks = absurd asks

none_started : (q : ProgramQuestion) (left : List ProgramQuestion) → start_of q ≡ [] → IsFront (start_of q) left
none_started q left is = record { rest = left; whole = ap (λ zs. zs ++ left) (sym is) }

making_front : (place : PlaceValue) (m : Making) (q : ProgramQuestion) → AsksPrograms place (stages.Making m) q →
    IsFront (start_of q) (to_start place (stages.Making m))
making_front place (makings.Root n) q asks = absurd asks
making_front place (makings.Nodes n) q asks = absurd asks
making_front place (makings.Writing w) q asks = absurd asks
making_front place (makings.Directory p) q asks = absurd asks
making_front place (makings.Parents p) q asks = absurd asks
making_front place (makings.Starting p) q asks = record { rest = []; whole = sym (append-nil (start_of q) ∙ ap start_of asks) }

program_front : (place : PlaceValue) (from : Stage) (q : ProgramQuestion) → AsksPrograms place from q →
    IsFront (start_of q) (to_start place from)
program_front place (stages.Making m) q asks = making_front place m q asks
program_front place (stages.Running outputs) q asks = none_started q [] (ap start_of asks)
program_front place (stages.Measuring e) q asks = none_started q [] (ap start_of asks)
program_front place (stages.Output e out) q asks = none_started q [] (ap start_of asks.2)
program_front place (stages.Error e out err) q asks = none_started q [] (ap start_of asks.2)
program_front place (stages.Stopping e) q asks = absurd asks
program_front place (stages.Outputs g) q asks = absurd asks
program_front place (stages.File g f) q asks = absurd asks
program_front place (stages.Listing g path) q asks = absurd asks
program_front place (stages.Tree g t) q asks = absurd asks
program_front place (stages.TreeFile g t f) q asks = absurd asks

one_front : {A : Type 0} (front all : List A) → IsFront front all → IsFront (front ++ []) all
one_front front all is = record { rest = is.rest; whole = is.whole ∙ ap (λ zs. zs ++ is.rest) (sym (append-nil front)) }

asked_front : (text : ℕ → List ℕ) (place : PlaceValue) (from : Stage) (calls : List RunCall) →
    AsksNext (walk_at place from) text place from calls
    → IsFront (made (folder_calls calls)) (to_make text place from) × IsFront (starts (program_calls calls)) (to_start place from)
asked_front text place from [] asks = (front_nothing (to_make text place from), front_nothing (to_start place from))
asked_front text place from (of_folder c ∷ []) asks = (
  one_front (made_by c.question) (to_make text place from) (folder_front text place from c.question asks),
  front_nothing
      (to_start place from),
)
asked_front text place from (of_programs c ∷ []) asks = (
  front_nothing (to_make text place from),
  one_front (start_of c.question) (to_start place from)
      (program_front place from c.question asks),
)
asked_front text place from (c ∷ d ∷ cs) asks = absurd asks

-- its fault is not that a folder is left
abbrev pub IsNotLeft : RunFault → Type 0
IsNotLeft Left = ⊥
IsNotLeft f = Unit {0}

own_not_left : (fault : RunFault) → IsOwnFault fault → IsNotLeft fault
own_not_left Left own = own
own_not_left TooLarge own = tt
own_not_left NoMemory own = tt
own_not_left Folder own = tt
own_not_left Start own = tt
own_not_left Launcher own = tt

folder_not_left : (kind : ErrorKind) → IsNotLeft (folder_fault kind)
folder_not_left OutOfMemory = tt
folder_not_left _ = tt

programs_not_left : (kind : ErrorKind) → IsNotLeft (programs_fault kind)
programs_not_left OutOfMemory = tt
programs_not_left ConnectionAborted = tt
programs_not_left _ = tt

folder_fault_not_left : (fault : RunFault) (a : Result FolderAnswer ErrorKind) → IsFolderFault fault a → IsNotLeft fault
folder_fault_not_left fault (Ok x) is = own_not_left fault is
folder_fault_not_left fault (Err kind) is = subst IsNotLeft (sym is) (folder_not_left kind)

programs_fault_not_left : (fault : RunFault) (a : Result ProgramAnswer ErrorKind) → IsProgramsFault fault a → IsNotLeft fault
programs_fault_not_left fault (Ok x) is = own_not_left fault is
programs_fault_not_left fault (Err kind) is = subst IsNotLeft (sym is) (programs_not_left kind)

pub stop_not_left : (fault : RunFault) (calls : List RunCall) → IsFaultOf fault calls → IsNotLeft fault
stop_not_left fault [] is = own_not_left fault is
stop_not_left fault (of_folder c ∷ []) is = folder_fault_not_left fault c.answer is
stop_not_left fault (of_programs c ∷ []) is = programs_fault_not_left fault c.answer is
stop_not_left fault (c ∷ d ∷ cs) is = absurd is

-- ---- from the start on

root_made : (text : ℕ → List ℕ) (place : PlaceValue) (task : Task) (from : Stage) → IsStageOf from task →
    to_make text place from ≡ all_made text place task
root_made text place task (stages.Making (makings.Root n)) h =
    ap (λ above. root_item place.run ∷ (nodes_made text place.run (map rc_str_bytes above) n.left.items
    ++ directory_item place ∷ map (λ o. parents_item place (string_bytes o)) n.next.outputs.items)) h.0
    ∙ ap (λ left. root_item place.run ∷ (nodes_made text place.run [] left.items
    ++ directory_item place ∷ map (λ o. parents_item place (string_bytes o)) n.next.outputs.items)) h.1
    ∙ ap (λ outputs. root_item place.run ∷ (nodes_made text place.run [] task.nodes.items
    ++ directory_item place ∷ map (λ o. parents_item place (string_bytes o)) outputs.items)) h.3
root_made text place task from h = absurd h

root_started : (place : PlaceValue) (task : Task) (from : Stage) → IsStageOf from task →
    to_start place from ≡ start_asked place (command_shown task.command) ∷ []
root_started place task (stages.Making (makings.Root n)) h = ap (λ command. start_asked place (command_shown command) ∷ []) h.2
root_started place task from h = absurd h

-- what a run has come to by these calls
record HasCome (text : ℕ → List ℕ) (place : PlaceValue) (task : Task) (to : Step) (calls : List RunCall) : Type 0 where
  from : Stage
  of_task : IsStageOf from task
  by : GoesBy text place from to calls

pub has_begun : (text : ℕ → List ℕ) (place : PlaceValue) (task : Task) (stage : Stage) → IsStageOf stage task →
    HasReached text place task stage []
has_begun text place task stage of_task = record
    { from = stage; of_task = of_task; cost = 0; by = goes_nowhere text place stage 0 (Some []) (Some []) }

reached_so : (text : ℕ → List ℕ) (place : PlaceValue) (task : Task) (stage : Stage) (calls : List RunCall) →
    (r : HasReached text place task stage calls) → HasCome text place task (steps.Goes stage r.cost) calls
reached_so text place task stage calls r = record { from = r.from; of_task = r.of_task; by = r.by }

has_gone_on : (text : ℕ → List ℕ) (place : PlaceValue) (task : Task) (stage : Stage) (cost : ℕ) (to : Step) (f g : Option (List FolderCall))
    (p q : Option (List ProgramCall)) (calls : List RunCall)
    → HasCome text place task (steps.Goes stage cost) calls → (goes : Goes text place stage to f g p q) →
    HasCome text place task to (calls ++ goes.calls)
has_gone_on text place task stage cost to f g p q calls come goes = record {
  from = come.from;
  of_task = come.of_task;
  by = joined text place come.from stage cost to calls goes.calls come.by (by_itself text place stage to f g p q goes);
}

come_made : (text : ℕ → List ℕ) (place : PlaceValue) (task : Task) (to : Step) (calls : List RunCall)
    (come : HasCome text place task to calls)
    → all_made text place task ≡ made (folder_calls calls) ++ then_to_make text place to
come_made text place task to calls come =
    sym (root_made text place task come.from come.of_task) ∙ come.by.makes
    ∙ ap (λ cs. made cs ++ then_to_make text place to)
    (sym (added [] (folder_calls calls) (folder_calls come.by.calls) come.by.folder_asked))

come_started : (text : ℕ → List ℕ) (place : PlaceValue) (task : Task) (to : Step) (calls : List RunCall)
    (come : HasCome text place task to calls)
    → start_asked place (command_shown task.command) ∷ [] ≡ starts (program_calls calls) ++ then_to_start place to
come_started text place task to calls come =
    sym (root_started place task come.from come.of_task) ∙ come.by.starts_it
    ∙ ap (λ cs. starts cs ++ then_to_start place to)
    (sym (added [] (program_calls calls) (program_calls come.by.calls) come.by.programs_asked))

come_so_far : (text : ℕ → List ℕ) (place : PlaceValue) (task : Task) (to : Step) (calls : List RunCall) → HasCome text place task to calls →
    IsBegun text place task calls
come_so_far text place task to calls come = record {
  to_make = then_to_make text place to;
  to_start = then_to_start place to;
  makes = come_made text place task to calls come;
  starts_it = come_started text place task to calls come;
}

pub begun_so_far : (text : ℕ → List ℕ) (place : PlaceValue) (task : Task) (from : Stage) (to : Step) (calls : List RunCall) →
    IsStageOf from task → GoesBy text place from to calls → IsBegun text place task calls
begun_so_far text place task from to calls of_task by =
    come_so_far text place task to calls (record { from = from; of_task = of_task; by = by })

-- .. and then it stopped
come_and_stopped : (text : ℕ → List ℕ) (place : PlaceValue) (task : Task) (stage : Stage) (cost : ℕ) (fault : RunFault)
    (f g : Option (List FolderCall)) (p q : Option (List ProgramCall)) (calls : List RunCall)
    → HasCome text place task (steps.Goes stage cost) calls → (stops : Stops text place stage fault f g p q) →
    IsBegun text place task (calls ++ stops.calls)
come_and_stopped text place task stage cost fault f g p q calls come stops =
    let fronts_so = asked_front text place stage stops.calls stops.asks in
    record {
      to_make = fronts_so.0.rest;
      to_start = fronts_so.1.rest;
      makes = fronts (λ c. made_by c.question) (folder_calls calls) (folder_calls stops.calls) _ _ _
          (come_made text place task (steps.Goes stage cost) calls come) fronts_so.0.whole
          ∙ ap (λ cs. made cs ++ fronts_so.0.rest) (sym (collect_append folder_call calls stops.calls));
      starts_it = fronts (λ c. start_of c.question) (program_calls calls) (program_calls stops.calls) _ _ _
          (come_started text place task (steps.Goes stage cost) calls come) fronts_so.1.whole
          ∙ ap (λ cs. starts cs ++ fronts_so.1.rest) (sym (collect_append program_call calls stops.calls));
    }

-- a front of what a run has come by
pub begun_front : (text : ℕ → List ℕ) (place : PlaceValue) (task : Task) (xs ys : List RunCall) → IsBegun text place task (xs ++ ys) →
    IsBegun text place task xs
begun_front text place task xs ys is = record {
  to_make = made (folder_calls ys) ++ is.to_make;
  to_start = starts (program_calls ys) ++ is.to_start;
  makes = is.makes ∙ ap (λ cs. made cs ++ is.to_make) (collect_append folder_call xs ys)
      ∙ ap (λ zs. zs ++ is.to_make) (collect_append (λ c. made_by c.question) (folder_calls xs) (folder_calls ys))
      ∙ append_assoc (made (folder_calls xs)) (made (folder_calls ys)) is.to_make;
  starts_it = is.starts_it ∙ ap (λ cs. starts cs ++ is.to_start) (collect_append program_call xs ys)
      ∙ ap (λ zs. zs ++ is.to_start) (collect_append (λ c. start_of c.question) (program_calls xs) (program_calls ys))
      ∙ append_assoc (starts (program_calls xs)) (starts (program_calls ys)) is.to_start;
}

come_whole : (text : ℕ → List ℕ) (place : PlaceValue) (task : Task) (e : Exited) (calls : List RunCall) →
    HasCome text place task (steps.Exits e) calls → IsWhole text place task e calls
come_whole text place task e calls come = whole text place task come.from calls e come.of_task come.by

-- .. and more that makes nothing and starts nothing
pub begun_more : (text : ℕ → List ℕ) (place : PlaceValue) (task : Task) (xs ys : List RunCall) → made (folder_calls ys) ≡ [] →
    starts (program_calls ys) ≡ [] → IsBegun text place task xs → IsBegun text place task (xs ++ ys)
begun_more text place task xs ys no_made no_start is = record {
  to_make = is.to_make;
  to_start = is.to_start;
  makes = is.makes ∙ ap (λ zs. zs ++ is.to_make) (sym (more_made ∙ append-nil (made (folder_calls xs))));
  starts_it = is.starts_it ∙ ap (λ zs. zs ++ is.to_start) (sym (more_started ∙ append-nil (starts (program_calls xs))));
}
  where
    more_made : made (folder_calls (xs ++ ys)) ≡ made (folder_calls xs) ++ []
    more_made = ap made (collect_append folder_call xs ys) ∙ collect_append (λ c. made_by c.question) (folder_calls xs) (folder_calls ys)
        ∙ ap (λ zs. made (folder_calls xs) ++ zs) no_made

    more_started : starts (program_calls (xs ++ ys)) ≡ starts (program_calls xs) ++ []
    more_started = ap starts (collect_append program_call xs ys)
        ∙ collect_append (λ c. start_of c.question) (program_calls xs) (program_calls ys)
        ∙ ap (λ zs. starts (program_calls xs) ++ zs) no_start

-- ---- what becomes of a run that is not over

-- by its answer
abbrev pub BecameSo : (ℕ → List ℕ) → PlaceValue → Task → List RunCall → Result (Option Outcome) RunFault → Option State → Type 0
BecameSo text place task calls (Ok None) kept = (next : Stage) × (kept ≡ Some (Live next)) × HasReached text place task next calls
BecameSo text place task calls (Ok (Some outcomes.Failed)) kept = ⊥
BecameSo text place task calls (Ok (Some (outcomes.Exited e))) kept =
    (before : List RunCall) × (kept ≡ Some (Over Removing))
    × (calls ≡ before ++ of_programs record { question = forget_asked place.run; answer = Ok program_done } ∷ [])
    × IsWhole text place task e before
BecameSo text place task calls (Err fault) kept = (left : Option Ending) × (kept ≡ option_map Over left) × IsNotLeft fault

-- where it had come so far before
pub record Became (text : ℕ → List ℕ) (place : PlaceValue) (task : Task) (before : List RunCall) (r : Result (Option Outcome) RunFault)
    (kept : Option State)
    (f g : Option (List FolderCall)) (p q : Option (List ProgramCall)) : Type 0 where
  pub calls : List RunCall
  pub folders : Adds f g (folder_calls calls)
  pub programs : Adds p q (program_calls calls)
  pub own : AreOwn place.run calls
  pub begun : IsBegun text place task (before ++ calls)
  pub so : BecameSo text place task (before ++ calls) r kept

pub became : (text : ℕ → List ℕ) (place : Place) (task : Task) (before : List RunCall) (stage : Stage)
    (r : Result (Option Outcome) RunFault) (kept : Option State) (f g : Option (List FolderCall)) (p q : Option (List ProgramCall))
    → HasReached text (place_shown place) task stage before → Becomes text place stage r kept f g p q →
    Became text (place_shown place) task before r kept f g p q
became text place task before stage (Ok None) kept f g p q was becomes =
    let here : PlaceValue = place_shown place in
    let goes = becomes.3 in
    let come = has_gone_on text here task stage was.cost (steps.Goes becomes.0 becomes.1) f g p q before
    (reached_so text here task stage before was) goes in
    record {
      calls = goes.calls;
      folders = goes.folder_asked;
      programs = goes.programs_asked;
      own = goes.own;
      begun = come_so_far text here task (steps.Goes becomes.0 becomes.1) (before ++ goes.calls) come;
      so = (becomes.0, becomes.2, record { from = come.from; of_task = come.of_task; cost = becomes.1; by = come.by });
    }
became text place task before stage (Ok (Some outcomes.Failed)) kept f g p q was becomes = absurd becomes
became text place task before stage (Ok (Some (outcomes.Exited e))) kept f g p q was becomes =
    let here : PlaceValue = place_shown place in
    let goes = becomes.2 in
    let come = has_gone_on text here task stage was.cost (steps.Exits e) f g p becomes.0 before
    (reached_so text here task stage before was) goes in
    let end : List RunCall = of_programs record { question = forget_asked place.run; answer = Ok program_done } ∷ [] in
    let all : (before ++ goes.calls) ++ end ≡ before ++ (goes.calls ++ end) = append_assoc before goes.calls end in
    record {
      calls = goes.calls ++ end;
      folders = adds_same f g _ _ (sym (append-nil (folder_calls goes.calls)) ∙ sym (collect_append folder_call goes.calls end))
          goes.folder_asked;
      programs = adds_same p q _ _ (sym (collect_append program_call goes.calls end))
          (adds_more p becomes.0 q (program_calls goes.calls) (program_calls end) goes.programs_asked becomes.3);
      own = own_append place.run goes.calls end goes.own (refl, tt);
      begun = subst (IsBegun text here task) all (begun_more text here task (before ++ goes.calls) end refl refl
          (come_so_far text here task (steps.Exits e) (before ++ goes.calls) come));
      so = (before ++ goes.calls, becomes.1, sym all, come_whole text here task e (before ++ goes.calls) come);
    }
became text place task before stage (Err fault) kept f g p q was becomes =
    let here : PlaceValue = place_shown place in
    let fails = becomes.2 in
    let goes = fails.5 in
    let stops = fails.6 in
    let come = has_gone_on text here task stage was.cost (steps.Goes fails.0 fails.1) f fails.2 p fails.3 before
    (reached_so text here task stage before was) goes in
    record {
      calls = goes.calls ++ stops.calls;
      folders = adds_same f g _ _ (sym (collect_append folder_call goes.calls stops.calls))
          (adds_more f fails.2 g (folder_calls goes.calls) (folder_calls stops.calls) goes.folder_asked stops.folder_asked);
      programs = adds_same p q _ _ (sym (collect_append program_call goes.calls stops.calls))
          (adds_more p fails.3 q (program_calls goes.calls) (program_calls stops.calls) goes.programs_asked stops.programs_asked);
      own = own_append place.run goes.calls stops.calls goes.own stops.own;
      begun = subst (IsBegun text here task) (append_assoc before goes.calls stops.calls)
          (come_and_stopped text here task fails.0 fails.1 fault fails.2 g fails.3 q (before ++ goes.calls) come stops);
      so = (becomes.0, becomes.1, stop_not_left fault stops.calls stops.is_of);
    }
