-- What calls give, one after another, and the steps of a run that they make.
use Rattle.std.proofs.Common.{◌≡◌, ◌≤◌, inl, ℕ, ◌+◌, List, [], ◌∷◌, ◌++◌, refl, ap, sym, ◌∙◌, append-nil, append_assoc, subst}
use Rattle.std.specs.Prelude.{Option, Result, Ok, Err}
use Rattle.run_calls.specs.Values.{PlaceValue}
use Rattle.run_calls.specs.declared.task.RunKey.{RunKey}
use Rattle.std.specs.declared.io.ErrorKind.{ErrorKind}
use Rattle.run_calls.specs.Calls.{FolderCall, FolderQuestion, FolderAnswer, ProgramCall, ProgramQuestion, ProgramAnswer, RunCall, of_folder, of_programs, folder_call, program_call, folder_calls, program_calls, call, called, Adds, collect}
use Rattle.runner.specs.Made.{made, made_by}
use Rattle.runner.specs.Gathered.{items_answered, call_items, answer_items}
use Rattle.runner.specs.Told.{items_told, call_told, starts, start_of, forgets, forget_of, failures, failure_of}
use Rattle.runner.specs.Listed.{Walk, walk_at, walk_then, Closes, Meets}
use Rattle.runner.specs.Steps.{GoesWith, Goes, to_make, to_start, to_look, has_gathered, has_told, then_to_make, then_to_start, then_to_look, then_gathered, then_told, looks, look_of}
use Rattle.runner.specs.declared.stage.Stage.{Stage}
use Rattle.runner.specs.declared.stage.Step.{Step}
use Rattle.runner.specs.declared.stage.Step.TheVariants as steps
use Rattle.runner.specs.Own.{folder_run, program_run, AreOwn}
use Rattle.runner.specs.Sizes.{most_bytes, held, folder_told, program_told, Fits}
use Rattle.runner.proofs.Calls.{adds_more, adds_none, adds_same}
use Rattle.runner.proofs.Sizes.{fits_append, held_then}
use Rattle.runner.proofs.Walks.{Moves, meets_one, meets_append}

pub collect_append : {C A : Type 0} (f : C → List A) (xs ys : List C) → collect f (xs ++ ys) ≡ collect f xs ++ collect f ys
collect_append f [] ys = refl
collect_append f (x ∷ xs) ys = ap (λ zs. f x ++ zs) (collect_append f xs ys) ∙ sym (append_assoc (f x) (collect f xs) (collect f ys))

-- a front, and then a front of what is left
pub fronts : {C A : Type 0} (f : C → List A) (xs ys : List C) (a b c : List A) → a ≡ collect f xs ++ b → b ≡ collect f ys ++ c →
    a ≡ collect f (xs ++ ys) ++ c
fronts f xs ys a b c first next =
    first ∙ ap (λ zs. collect f xs ++ zs) next ∙ sym (append_assoc (collect f xs) (collect f ys) c)
    ∙ ap (λ zs. zs ++ c) (sym (collect_append f xs ys))

-- more behind, and then more
pub behinds : {C A : Type 0} (f : C → List A) (xs ys : List C) (a b c : List A) → b ≡ a ++ collect f xs → c ≡ b ++ collect f ys →
    c ≡ a ++ collect f (xs ++ ys)
behinds f xs ys a b c first next =
    next ∙ ap (λ zs. zs ++ collect f ys) first ∙ append_assoc a (collect f xs) (collect f ys)
    ∙ ap (λ zs. a ++ zs) (sym (collect_append f xs ys))

-- all of it is asked for one run
pub own_append : (run : RunKey) (xs ys : List RunCall) → AreOwn run xs → AreOwn run ys → AreOwn run (xs ++ ys)
own_append run [] ys first next = next
own_append run (x ∷ xs) ys first next = (first.0, own_append run xs ys first.1 next)

-- ---- steps

-- nothing was asked
pub goes_drops : (text : ℕ → List ℕ) (place : PlaceValue) (from : Stage) (to : Step) (f : Option (List FolderCall))
    (p : Option (List ProgramCall))
    → to_make text place from ≡ then_to_make text place to → to_start place from ≡ then_to_start place to →
    to_look place from ≡ then_to_look place to
    → then_gathered place to ≡ has_gathered place from → then_told place to ≡ has_told place from
    → Closes (walk_at place from) (walk_then place to)
    → Goes text place from to f f p p
goes_drops text place from to f p makes starts_it looks_at gathers told closes = record {
  calls = [];
  own = tt;
  folder_asked = adds_none f;
  programs_asked = adds_none p;
  makes = makes;
  starts_it = starts_it;
  looks_at = looks_at;
  gathers = gathers ∙ sym (append-nil (has_gathered place from));
  is_told = told ∙ sym (append-nil (has_told place from));
  fits = tt;
  meets = closes;
  keeps = refl;
  succeeds = refl;
}

pub goes_alone : (text : ℕ → List ℕ) (place : PlaceValue) (from : Stage) (to : Step) (f : Option (List FolderCall))
    (p : Option (List ProgramCall))
    → to_make text place from ≡ then_to_make text place to → to_start place from ≡ then_to_start place to →
    to_look place from ≡ then_to_look place to
    → then_gathered place to ≡ has_gathered place from → then_told place to ≡ has_told place from → walk_at place from ≡ walk_then place to
    → Goes text place from to f f p p
goes_alone text place from to f p makes starts_it looks_at gathers told same =
    goes_drops text place from to f p makes starts_it looks_at gathers told (inl (sym same))

-- one thing was asked of folders
pub goes_folder_with : (before : Walk) (text : ℕ → List ℕ) (place : PlaceValue) (from : Stage) (to : Step) (f g : Option (List FolderCall))
    (p : Option (List ProgramCall)) (q : FolderQuestion) (a : Result FolderAnswer ErrorKind)
    → folder_run q ≡ place.run → Adds f g (call q a)
    → to_make text place from ≡ made_by q ++ then_to_make text place to → to_start place from ≡ then_to_start place to →
    to_look place from ≡ look_of q ++ then_to_look place to
    → then_gathered place to ≡ has_gathered place from ++ call_items q a → then_told place to ≡ has_told place from
    → held from + folder_told q a ≤ most_bytes → Moves before q a (walk_then place to)
    → GoesWith before text place from to f g p p
goes_folder_with before text place from to f g p q a own adds makes starts_it looks_at gathers told fits moves = record {
  calls = of_folder record { question = q; answer = a } ∷ [];
  own = (own, tt);
  folder_asked = adds;
  programs_asked = adds_none p;
  makes = makes ∙ ap (λ zs. zs ++ then_to_make text place to) (sym (append-nil (made_by q)));
  starts_it = starts_it;
  looks_at = looks_at ∙ ap (λ zs. zs ++ then_to_look place to) (sym (append-nil (look_of q)));
  gathers = gathers ∙ ap (λ zs. has_gathered place from ++ zs) (sym (append-nil (call_items q a)));
  is_told = told ∙ sym (append-nil (has_told place from));
  fits = (fits, tt);
  meets = meets_one before (walk_then place to) q a moves;
  keeps = refl;
  succeeds = refl;
}

pub goes_folder : (text : ℕ → List ℕ) (place : PlaceValue) (from : Stage) (to : Step) (f g : Option (List FolderCall))
    (p : Option (List ProgramCall)) (q : FolderQuestion) (a : Result FolderAnswer ErrorKind)
    → folder_run q ≡ place.run → Adds f g (call q a)
    → to_make text place from ≡ made_by q ++ then_to_make text place to → to_start place from ≡ then_to_start place to →
    to_look place from ≡ look_of q ++ then_to_look place to
    → then_gathered place to ≡ has_gathered place from ++ call_items q a → then_told place to ≡ has_told place from
    → held from + folder_told q a ≤ most_bytes → Moves (walk_at place from) q a (walk_then place to)
    → Goes text place from to f g p p
goes_folder text place from to f g p q a own adds makes starts_it looks_at gathers told fits moves =
    goes_folder_with (walk_at place from) text place from to f g p q a own adds makes starts_it looks_at gathers told fits moves

-- one thing was asked of programs
pub goes_program : (text : ℕ → List ℕ) (place : PlaceValue) (from : Stage) (to : Step) (f : Option (List FolderCall))
    (p s : Option (List ProgramCall)) (q : ProgramQuestion) (a : Result ProgramAnswer ErrorKind)
    → program_run q ≡ place.run → Adds p s (called q a)
    → to_make text place from ≡ then_to_make text place to → to_start place from ≡ start_of q ++ then_to_start place to →
    to_look place from ≡ then_to_look place to
    → then_gathered place to ≡ has_gathered place from → then_told place to ≡ has_told place from ++ call_told q a
    → held from + program_told q a ≤ most_bytes → walk_at place from ≡ walk_then place to → forget_of q ≡ [] → failure_of q a ≡ []
    → Goes text place from to f f p s
goes_program text place from to f p s q a own adds makes starts_it looks_at gathers told fits same keeps succeeds = record {
  calls = of_programs record { question = q; answer = a } ∷ [];
  own = (own, tt);
  folder_asked = adds_none f;
  programs_asked = adds;
  makes = makes;
  starts_it = starts_it ∙ ap (λ zs. zs ++ then_to_start place to) (sym (append-nil (start_of q)));
  looks_at = looks_at;
  gathers = gathers ∙ sym (append-nil (has_gathered place from));
  is_told = told ∙ ap (λ zs. has_told place from ++ zs) (sym (append-nil (call_told q a)));
  fits = (fits, tt);
  meets = inl (sym same);
  keeps = append-nil (forget_of q) ∙ keeps;
  succeeds = append-nil (failure_of q a) ∙ succeeds;
}

-- then more was asked
pub goes_on : (text : ℕ → List ℕ) (place : PlaceValue) (from mid : Stage) (cost : ℕ) (to : Step) (f g h : Option (List FolderCall))
    (p s t : Option (List ProgramCall))
    → Goes text place from (steps.Goes mid cost) f g p s → Goes text place mid to g h s t → Goes text place from to f h p t
goes_on text place from mid cost to f g h p s t first next =
    let folders : folder_calls (first.calls ++ next.calls) ≡ folder_calls first.calls ++ folder_calls next.calls =
    collect_append folder_call first.calls next.calls in
    let programs : program_calls (first.calls ++ next.calls) ≡ program_calls first.calls ++ program_calls next.calls =
    collect_append program_call first.calls next.calls in
    record {
      calls = first.calls ++ next.calls;
      own = own_append place.run first.calls next.calls first.own next.own;
      folder_asked = adds_same f h _ _ (sym folders)
          (adds_more f g h (folder_calls first.calls) (folder_calls next.calls) first.folder_asked next.folder_asked);
      programs_asked = adds_same p t _ _ (sym programs)
          (adds_more p s t (program_calls first.calls) (program_calls next.calls) first.programs_asked next.programs_asked);
      makes = fronts (λ c. made_by c.question) (folder_calls first.calls) (folder_calls next.calls) _ _ _ first.makes next.makes
          ∙ ap (λ cs. made cs ++ then_to_make text place to) (sym folders);
      starts_it = fronts (λ c. start_of c.question) (program_calls first.calls)
          (program_calls next.calls) _ _ _ first.starts_it next.starts_it ∙ ap (λ cs. starts cs ++ then_to_start place to) (sym programs);
      looks_at = fronts (λ c. look_of c.question) (folder_calls first.calls) (folder_calls next.calls) _ _ _ first.looks_at next.looks_at
          ∙ ap (λ cs. looks cs ++ then_to_look place to) (sym folders);
      gathers = behinds (λ c. call_items c.question c.answer) (folder_calls first.calls)
          (folder_calls next.calls) _ _ _ first.gathers next.gathers
          ∙ ap (λ cs. has_gathered place from ++ items_answered cs) (sym folders);
      is_told = behinds (λ c. call_told c.question c.answer) (program_calls first.calls)
          (program_calls next.calls) _ _ _ first.is_told next.is_told ∙ ap (λ cs. has_told place from ++ items_told cs) (sym programs);
      fits = fits_append (held from) first.calls next.calls first.fits
          (subst (λ n. Fits n next.calls) (held_then place from (steps.Goes mid cost) first.calls first.gathers first.is_told) next.fits);
      meets = subst (λ cs. Meets (walk_at place from) cs (walk_then place to)) (sym folders)
          (meets_append (walk_at place from) (walk_at place mid) (walk_then place to) (folder_calls first.calls)
          (folder_calls next.calls) first.meets next.meets);
      keeps = ap forgets programs ∙ collect_append (λ c. forget_of c.question) (program_calls first.calls) (program_calls next.calls)
          ∙ ap (λ zs. zs ++ forgets (program_calls next.calls)) first.keeps ∙ next.keeps;
      succeeds = ap failures programs ∙ collect_append (λ c. failure_of c.question c.answer) (program_calls first.calls)
          (program_calls next.calls)
          ∙ ap (λ zs. zs ++ failures (program_calls next.calls)) first.succeeds ∙ next.succeeds;
    }

pub goes_nowhere : (text : ℕ → List ℕ) (place : PlaceValue) (stage : Stage) (cost : ℕ) (f : Option (List FolderCall))
    (p : Option (List ProgramCall)) → Goes text place stage (steps.Goes stage cost) f f p p
goes_nowhere text place stage cost f p = goes_alone text place stage (steps.Goes stage cost) f p refl refl refl refl refl refl

-- what gives nothing whatever is answered
pub quiet : (q : FolderQuestion) (a : Result FolderAnswer ErrorKind) → ((x : FolderAnswer) → answer_items q x ≡ []) → call_items q a ≡ []
quiet q (Err e) h = refl
quiet q (Ok x) h = h x

-- a stage of which the same is to be done, and which has gathered the same
pub goes_from : (before : Walk) (text : ℕ → List ℕ) (place : PlaceValue) (from same : Stage) (to : Step) (f g : Option (List FolderCall))
    (p s : Option (List ProgramCall))
    → to_make text place from ≡ to_make text place same → to_start place from ≡ to_start place same →
    to_look place from ≡ to_look place same
    → has_gathered place from ≡ has_gathered place same → has_told place from ≡ has_told place same → held from ≡ held same
    → GoesWith before text place same to f g p s → GoesWith before text place from to f g p s
goes_from before text place from same to f g p s makes starts_it looks_at gathers told holds goes = record {
  calls = goes.calls;
  own = goes.own;
  folder_asked = goes.folder_asked;
  programs_asked = goes.programs_asked;
  makes = makes ∙ goes.makes;
  starts_it = starts_it ∙ goes.starts_it;
  looks_at = looks_at ∙ goes.looks_at;
  gathers = goes.gathers ∙ ap (λ zs. zs ++ items_answered (folder_calls goes.calls)) (sym gathers);
  is_told = goes.is_told ∙ ap (λ zs. zs ++ items_told (program_calls goes.calls)) (sym told);
  fits = subst (λ n. Fits n goes.calls) (sym holds) goes.fits;
  meets = goes.meets;
  keeps = goes.keeps;
  succeeds = goes.succeeds;
}

-- what a step cost is of no matter
pub recost : (text : ℕ → List ℕ) (place : PlaceValue) (from s : Stage) (a b : ℕ) (f g : Option (List FolderCall))
    (p q : Option (List ProgramCall)) → Goes text place from (steps.Goes s a) f g p q → Goes text place from (steps.Goes s b) f g p q
recost text place from s a b f g p q goes = record {
  calls = goes.calls;
  own = goes.own;
  folder_asked = goes.folder_asked;
  programs_asked = goes.programs_asked;
  makes = goes.makes;
  starts_it = goes.starts_it;
  looks_at = goes.looks_at;
  gathers = goes.gathers;
  is_told = goes.is_told;
  fits = goes.fits;
  meets = goes.meets;
  keeps = goes.keeps;
  succeeds = goes.succeeds;
}

pub goes_exits : (text : ℕ → List ℕ) (place : PlaceValue) (from mid : Stage) (cost : ℕ) (step to : Step) (f g h : Option (List FolderCall))
    (p s t : Option (List ProgramCall))
    → Goes text place from (steps.Goes mid cost) f g p s → Goes text place mid step g h s t → step ≡ to → Goes text place from to f h p t
goes_exits text place from mid cost step to f g h p s t first next is =
    goes_on text place from mid cost to f g h p s t first (subst (λ (x : Step). Goes text place mid x g h s t) is next)

pub goes_next : (text : ℕ → List ℕ) (place : PlaceValue) (from mid : Stage) (cost : ℕ) (step : Step) (n : Stage) (a b : ℕ)
    (f g h : Option (List FolderCall)) (p s t : Option (List ProgramCall))
    → Goes text place from (steps.Goes mid cost) f g p s → Goes text place mid step g h s t → step ≡ steps.Goes n a →
    Goes text place from (steps.Goes n b) f h p t
goes_next text place from mid cost step n a b f g h p s t first next is =
    recost text place from n a b f h p t (goes_exits text place from mid cost step (steps.Goes n a) f g h p s t first next is)
