-- What the calls of a run come to, from a stage to its exit.
use Rattle.std.proofs.Common.{◌≡◌, ℕ, List, [], ◌∷◌, ◌++◌, map, refl, sym, ap, subst, ◌∙◌, append-nil, inl, inr}
use Rattle.std.specs.Prelude.{Option, Some, string_bytes}
use Rattle.std.specs.Rc.{rc_str_bytes}
use Rattle.run_calls.specs.declared.folder.Place.{Place}
use Rattle.run_calls.specs.declared.outcome.Exited.{Exited}
use Rattle.run_calls.specs.declared.task.Task.{Task}
use Rattle.runner.specs.declared.stage.Making.TheVariants as makings
use Rattle.runner.specs.declared.stage.Stage.{Stage}
use Rattle.runner.specs.declared.stage.Stage.TheVariants as stages
use Rattle.runner.specs.declared.stage.Step.{Step}
use Rattle.runner.specs.declared.stage.Step.TheVariants as steps
use Rattle.run_calls.specs.Values.{PlaceValue, place_shown, command_shown}
use Rattle.run_calls.specs.Calls.{FolderCall, ProgramCall, look_asked, start_asked, RunCall, folder_call, program_call, folder_calls, program_calls, Adds}
use Rattle.runner.specs.Made.{root_item, directory_item, parents_item, nodes_made, made}
use Rattle.runner.specs.Gathered.{items_answered}
use Rattle.runner.specs.Told.{items_told, starts, forgets, failures}
use Rattle.runner.specs.Listed.{no_walk, Meets}
use Rattle.runner.specs.Steps.{Goes, looks}
use Rattle.runner.specs.Runs.{IsStageOf}
use Rattle.runner.specs.Whole.{GoesBy, ExitsBy, IsPart, IsWhole, all_calls}
use Rattle.runner.proofs.Collect.{collect_append, goes_on}

-- a call of `ask`, by itself
pub by_itself : (text : ℕ → List ℕ) (place : PlaceValue) (from : Stage) (to : Step) (f g : Option (List FolderCall))
    (p q : Option (List ProgramCall)) → (h : Goes text place from to f g p q) → GoesBy text place from to h.calls
by_itself text place from to f g p q h = record {
  calls = h.calls;
  own = h.own;
  folder_asked = inr refl;
  programs_asked = inr refl;
  makes = h.makes;
  starts_it = h.starts_it;
  looks_at = h.looks_at;
  gathers = h.gathers;
  is_told = h.is_told;
  fits = h.fits;
  meets = h.meets;
  keeps = h.keeps;
  succeeds = h.succeeds;
}

pub is_part : (text : ℕ → List ℕ) (place : PlaceValue) (from : Stage) (to : Step) (f g : Option (List FolderCall))
    (p q : Option (List ProgramCall)) → Goes text place from to f g p q → IsPart text place from to f g p q
is_part text place from to f g p q h = record {
  calls = h.calls;
  goes_by = by_itself text place from to f g p q h;
  folder_asked = h.folder_asked;
  programs_asked = h.programs_asked;
}

of_some : {A : Type 0} (x y : A) → Some x ≡ Some y → x ≡ y
of_some x y is = let same : x ≡ y = cc in same

-- the calls that were added, where all are known
pub added : {C : Type 0} (xs ys more : List C) → Adds (Some xs) (Some ys) more → ys ≡ xs ++ more
added xs ys more (inl lost) = let same : ys ≡ xs ++ more = cc in same
added xs ys more (inr adds) = of_some ys (xs ++ more) adds

-- the same calls behind others
behind : (text : ℕ → List ℕ) (place : PlaceValue) (from : Stage) (to : Step) (fs : List FolderCall) (ps : List ProgramCall)
    (calls : List RunCall) → GoesBy text place from to calls →
    Goes text place from to (Some fs) (Some (fs ++ folder_calls calls)) (Some ps) (Some (ps ++ program_calls calls))
behind text place from to fs ps calls h = record {
  calls = h.calls;
  own = h.own;
  folder_asked = inr (ap (λ cs. Some (fs ++ cs)) (added [] (folder_calls calls) (folder_calls h.calls) h.folder_asked));
  programs_asked = inr (ap (λ cs. Some (ps ++ cs)) (added [] (program_calls calls) (program_calls h.calls) h.programs_asked));
  makes = h.makes;
  starts_it = h.starts_it;
  looks_at = h.looks_at;
  gathers = h.gathers;
  is_told = h.is_told;
  fits = h.fits;
  meets = h.meets;
  keeps = h.keeps;
  succeeds = h.succeeds;
}

-- ---- all of them

pub joined : (text : ℕ → List ℕ) (place : PlaceValue) (from next : Stage) (cost : ℕ) (to : Step) (calls later : List RunCall) →
    GoesBy text place from (steps.Goes next cost) calls → GoesBy text place next to later → GoesBy text place from to (calls ++ later)
joined text place from next cost to calls later first next_by =
    subst (λ (cs : List FolderCall). Goes text place from to (Some []) (Some cs) (Some []) (Some (program_calls (calls ++ later))))
    (sym (collect_append folder_call calls later))
    (subst (λ (cs : List ProgramCall). Goes text place from to (Some []) (Some (folder_calls calls ++ folder_calls later)) (Some [])
    (Some cs)) (sym (collect_append program_call calls later))
    (goes_on text place from next cost to _ _ _ _ _ _ first
    (behind text place next to (folder_calls calls) (program_calls calls) later next_by)))

exits : (text : ℕ → List ℕ) (place : PlaceValue) (from : Stage) (parts : List (List RunCall)) (e : Exited) →
    ExitsBy text place from parts e → GoesBy text place from (steps.Exits e) (all_calls parts)
exits text place from [] e x = absurd x
exits text place from (calls ∷ []) e x = subst (λ (cs : List RunCall). GoesBy text place from (steps.Exits e) cs) (sym (append-nil calls)) x
exits text place from (calls ∷ more ∷ parts) e x =
    joined text place from x.0 x.1 (steps.Exits e) calls (all_calls (more ∷ parts)) x.2 (exits text place x.0 (more ∷ parts) e x.3)

-- ---- from the start

pub whole : (text : ℕ → List ℕ) (place : PlaceValue) (task : Task) (from : Stage) (calls : List RunCall) (e : Exited) →
    IsStageOf from task → GoesBy text place from (steps.Exits e) calls → IsWhole text place task e calls
whole text place task (stages.Making (makings.Root n)) calls e h g =
    let fs : folder_calls g.calls ≡ folder_calls calls = sym (added [] (folder_calls calls) (folder_calls g.calls) g.folder_asked) in
    let ps : program_calls g.calls ≡ program_calls calls = sym (added [] (program_calls calls) (program_calls g.calls) g.programs_asked) in
    record {
      makes = ap made (sym fs) ∙ sym (append-nil (made (folder_calls g.calls))) ∙ sym g.makes
          ∙ ap (λ above. root_item place.run ∷ (nodes_made text place.run (map rc_str_bytes above) n.left.items
          ++ directory_item place ∷ map (λ o. parents_item place (string_bytes o)) n.next.outputs.items)) h.0
          ∙ ap (λ left. root_item place.run ∷ (nodes_made text place.run [] left.items
          ++ directory_item place ∷ map (λ o. parents_item place (string_bytes o)) n.next.outputs.items)) h.1
          ∙ ap (λ outputs. root_item place.run ∷ (nodes_made text place.run [] task.nodes.items
          ++ directory_item place ∷ map (λ o. parents_item place (string_bytes o)) outputs.items)) h.3;
      starts_once = ap starts (sym ps) ∙ sym (append-nil (starts (program_calls g.calls))) ∙ sym g.starts_it
          ∙ ap (λ command. start_asked place (command_shown command) ∷ []) h.2;
      looks_at = ap looks (sym fs) ∙ sym (append-nil (looks (folder_calls g.calls))) ∙ sym g.looks_at
          ∙ ap (λ outputs. map (look_asked place) (map string_bytes outputs.items)) h.3;
      meets = subst (λ (cs : List FolderCall). Meets no_walk cs no_walk) fs g.meets;
      gathers = ap items_answered (sym fs) ∙ sym g.gathers;
      is_told = ap items_told (sym ps) ∙ sym g.is_told;
      keeps = ap forgets (sym ps) ∙ g.keeps;
      succeeds = ap failures (sym ps) ∙ g.succeeds;
    }
whole text place task from calls e h g = absurd h

pub run_whole : (text : ℕ → List ℕ) (place : Place) (task : Task) (from : Stage) (parts : List (List RunCall)) (e : Exited) →
    IsStageOf from task → ExitsBy text (place_shown place) from parts e → IsWhole text (place_shown place) task e (all_calls parts)
run_whole text place task from parts e h x = whole text (place_shown place) task from (all_calls parts) e h
    (exits text (place_shown place) from parts e x)
