-- What ran, step by step, and the runs that it leaves.
use Rattle.std.proofs.Common.{◌≡◌, ℕ, Bool, true, false, cond, List, [], ◌∷◌, ◌++◌, map, refl, sym, ap, subst, ◌∙◌, append-nil, append_assoc}
use Rattle.std.specs.Prelude.{◌&&◌, ◌==◌, fold}
use Rattle.std.proofs.lemmas.Bool.{eqb-true, eq-eqb, true≢false}
use Rattle.std.proofs.lemmas.List.Sums.{fold-append}
use Rattle.execution.specs.Job.{TaskValue}
use Rattle.run_calls.specs.declared.task.RunKey.{RunKey}
use Rattle.run_calls.specs.Calls.{RunCall}
use Rattle.runner.specs.Own.{asked_for, AreOwn}
use Rattle.runner.proofs.Collect.{collect_append}
use Rattle.runner.proofs.Begun.{begun_front}
use Rattle.serve.specs.RunEvents.{RunEvent}
use Rattle.job_runs.specs.Keys.{is_key}
use Rattle.job_runs.specs.Ran.{RunStep, told, asked, told_of, run_of_step, event_of, call_of, events_in, calls_in, Order, to_run, no_more, order_by, order_on, order_in, AreOfJobsBehind, SoFar, step_by, step_on, at_first, so_far, place_of, IsRunOf, DoesNothing, IsRight, AreRight}

-- ---- keys

and_true : (a b : Bool) → (a && b) ≡ true → (a ≡ true) × (b ≡ true)
and_true true b h = (refl, h)
and_true false b h = absurd (true≢false (sym h))

and_both : (a b : Bool) → a ≡ true → b ≡ true → (a && b) ≡ true
and_both true b is other = other
and_both false b is other = absurd (true≢false (sym is))

pub key_same : (k : RunKey) → is_key k k ≡ true
key_same k = and_both (k.instance == k.instance) (k.job == k.job) (eq-eqb k.instance k.instance refl) (eq-eqb k.job k.job refl)

pub key_made : (a b : RunKey) → a.instance ≡ b.instance → a.job ≡ b.job → a ≡ b
key_made a b one other = ap (λ (k : ℕ). record { instance = k; job = a.job }) one
    ∙ ap (λ (k : ℕ). record { instance = b.instance; job = k }) other

pub key_equal : (k x : RunKey) → is_key k x ≡ true → x ≡ k
key_equal k x is =
    let both = and_true (x.instance == k.instance) (x.job == k.job) is in
    key_made x k (eqb-true x.instance k.instance both.0) (eqb-true x.job k.job both.1)

-- ---- steps of one key, and of others

pub cond_true : {A : Type 0} (b : Bool) (x y : A) → b ≡ true → cond b x y ≡ x
cond_true true x y is = refl
cond_true false x y is = absurd (true≢false (sym is))

pub cond_false : {A : Type 0} (b : Bool) (x y : A) → b ≡ false → cond b x y ≡ y
cond_false true x y is = absurd (true≢false is)
cond_false false x y is = refl

pub step_own : (key : RunKey) (s : SoFar) (x : RunStep) → run_of_step x ≡ key → step_on key s x ≡ step_by s x
step_own key s x own = cond_true (is_key key (run_of_step x)) (step_by s x) s (ap (is_key key) own ∙ key_same key)

abbrev pub AreOf : RunKey → List RunStep → Type 0
AreOf key [] = Unit {0}
AreOf key (x ∷ xs) = (run_of_step x ≡ key) × AreOf key xs

pub of_append : (key : RunKey) (xs ys : List RunStep) → AreOf key xs → AreOf key ys → AreOf key (xs ++ ys)
of_append key [] ys own also = also
of_append key (x ∷ xs) ys own also = (own.0, of_append key xs ys own.1 also)

pub of_asked : (key : RunKey) (cs : List RunCall) → AreOwn key cs → AreOf key (map asked cs)
of_asked key [] own = tt
of_asked key (c ∷ cs) own = (own.0, of_asked key cs own.1)

pub steps_own : (key : RunKey) (s : SoFar) (xs : List RunStep) → AreOf key xs → fold (step_on key) s xs ≡ fold step_by s xs
steps_own key s [] own = refl
steps_own key s (x ∷ xs) own = ap (λ (q : SoFar). fold (step_on key) q xs) (step_own key s x own.0) ∙ steps_own key (step_by s x) xs own.1

pub steps_other : (key other : RunKey) (s : SoFar) (xs : List RunStep) → is_key other key ≡ false → AreOf key xs →
    fold (step_on other) s xs ≡ s
steps_other key other s [] apart own = refl
steps_other key other s (x ∷ xs) apart own =
    ap (λ (q : SoFar). fold (step_on other) q xs)
    (cond_false (is_key other (run_of_step x)) (step_by s x) s (ap (is_key other) own.0 ∙ apart))
    ∙ steps_other key other s xs apart own.1

pub so_far_own : (key : RunKey) (before xs : List RunStep) → AreOf key xs → so_far key (before ++ xs) ≡ fold step_by (so_far key before) xs
so_far_own key before xs own = fold-append (step_on key) at_first before xs ∙ steps_own key (so_far key before) xs own

pub so_far_other : (key other : RunKey) (before xs : List RunStep) → is_key other key ≡ false → AreOf key xs →
    so_far other (before ++ xs) ≡ so_far other before
so_far_other key other before xs apart own = fold-append (step_on other) at_first before xs
    ∙ steps_other key other (so_far other before) xs apart own

-- ---- right steps

pub right_append : (before xs ys : List RunStep) → AreRight before xs → AreRight (before ++ xs) ys → AreRight before (xs ++ ys)
right_append before [] ys first next = subst (λ (b : List RunStep). AreRight b ys) (append-nil before) next
right_append before (x ∷ xs) ys first next = (
  first.0,
  right_append (before ++ x ∷ []) xs ys first.1
      (subst (λ (b : List RunStep). AreRight b ys) (sym (append_assoc before (x ∷ []) xs)) next),
)

-- of one key
abbrev pub AreRightOf : RunKey → SoFar → List RunStep → Type 0
AreRightOf key s [] = Unit {0}
AreRightOf key s (x ∷ xs) = IsRight key s x × AreRightOf key (step_by s x) xs

pub right_of_append : (key : RunKey) (s : SoFar) (xs ys : List RunStep) → AreRightOf key s xs → AreRightOf key (fold step_by s xs) ys →
    AreRightOf key s (xs ++ ys)
right_of_append key s [] ys first next = next
right_of_append key s (x ∷ xs) ys first next = (first.0, right_of_append key (step_by s x) xs ys first.1 next)

pub right_behind : (key : RunKey) (before xs : List RunStep) (s : SoFar) → so_far key before ≡ s → AreOf key xs → AreRightOf key s xs →
    AreRight before xs
right_behind key before [] s is own right = tt
right_behind key before (x ∷ xs) s is own right = (
  subst (λ (k : RunKey). IsRight k (so_far k before) x) (sym own.0) (subst (λ (q : SoFar). IsRight key q x) (sym is) right.0),
  right_behind key (before ++ x ∷ []) xs (step_by s x)
      (so_far_own key before (x ∷ []) (own.0, tt) ∙ ap (λ (q : SoFar). step_by q x) is) own.1 right.1,
)

-- ---- calls

pub after_asked : (s : SoFar) (cs : List RunCall) → fold step_by s (map asked cs) ≡ record { order = s.order; calls = s.calls ++ cs }
after_asked s [] = ap (λ (zs : List RunCall). record { order = s.order; calls = zs }) (sym (append-nil s.calls))
after_asked s (c ∷ cs) =
    after_asked (record { order = s.order; calls = s.calls ++ c ∷ [] }) cs
    ∙ ap (λ (zs : List RunCall). record { order = s.order; calls = zs }) (append_assoc s.calls (c ∷ []) cs)

pub run_front : (key : RunKey) (t : TaskValue) (xs ys : List RunCall) → IsRunOf key t (xs ++ ys) → IsRunOf key t xs
run_front key t xs ys is = record { task = is.task; of_task = is.of_task; begun = begun_front _ (place_of key t) is.task xs ys is.begun }

-- for a task that is to run
pub right_calls : (key : RunKey) (t : TaskValue) (calls cs : List RunCall) → IsRunOf key t (calls ++ cs) →
    AreRightOf key (record { order = to_run t; calls = calls }) (map asked cs)
right_calls key t calls [] is = tt
right_calls key t calls (c ∷ cs) is =
    let all : IsRunOf key t ((calls ++ c ∷ []) ++ cs) = subst (IsRunOf key t) (sym (append_assoc calls (c ∷ []) cs)) is in
    (run_front key t (calls ++ c ∷ []) cs all, right_calls key t (calls ++ c ∷ []) cs all)

abbrev pub AreIdle : List RunCall → Type 0
AreIdle [] = Unit {0}
AreIdle (c ∷ cs) = DoesNothing c × AreIdle cs

-- where none is
pub idle_calls : (key : RunKey) (calls cs : List RunCall) → AreIdle cs →
    AreRightOf key (record { order = no_more; calls = calls }) (map asked cs)
idle_calls key calls [] idle = tt
idle_calls key calls (c ∷ cs) idle = (idle.0, idle_calls key (calls ++ c ∷ []) cs idle.1)

-- ---- the histories

pub events_append : (xs ys : List RunStep) → events_in (xs ++ ys) ≡ events_in xs ++ events_in ys
events_append xs ys = collect_append event_of xs ys

pub calls_append : (xs ys : List RunStep) → calls_in (xs ++ ys) ≡ calls_in xs ++ calls_in ys
calls_append xs ys = collect_append call_of xs ys

pub events_told : (es : List RunEvent) → events_in (map told es) ≡ es
events_told [] = refl
events_told (e ∷ es) = ap (λ (zs : List RunEvent). e ∷ zs) (events_told es)

pub events_asked : (cs : List RunCall) → events_in (map asked cs) ≡ []
events_asked [] = refl
events_asked (c ∷ cs) = events_asked cs

pub calls_told : (es : List RunEvent) → calls_in (map told es) ≡ []
calls_told [] = refl
calls_told (e ∷ es) = calls_told es

pub calls_asked : (cs : List RunCall) → calls_in (map asked cs) ≡ cs
calls_asked [] = refl
calls_asked (c ∷ cs) = ap (λ (zs : List RunCall). c ∷ zs) (calls_asked cs)

-- what is to run follows from what was told alone
order_follows : (key : RunKey) (s : SoFar) (xs : List RunStep) →
    (fold (step_on key) s xs).order ≡ fold (order_on key) s.order (events_in xs)
order_follows key s [] = refl
order_follows key s (told e ∷ xs) = order_follows key (step_on key s (told e)) xs
    ∙ ap (λ (o : Order). fold (order_on key) o (events_in xs)) (go (is_key key (told_of e)))
  where
    go : (b : Bool) → (cond b (step_by s (told e)) s).order ≡ cond b (order_by s.order e) s.order
    go true = refl
    go false = refl
order_follows key s (asked c ∷ xs) = order_follows key (step_on key s (asked c)) xs
    ∙ ap (λ (o : Order). fold (order_on key) o (events_in xs)) (go (is_key key (asked_for c)))
  where
    go : (b : Bool) → (cond b (step_by s (asked c)) s).order ≡ s.order
    go true = refl
    go false = refl

pub order_so : (key : RunKey) (steps : List RunStep) (h : List RunEvent) → events_in steps ≡ h → order_in key h ≡ (so_far key steps).order
order_so key steps h is = ap (order_in key) (sym is) ∙ sym (order_follows key at_first steps)

pub jobs_front : (before xs ys : List RunEvent) → AreOfJobsBehind before (xs ++ ys) →
    AreOfJobsBehind before xs × AreOfJobsBehind (before ++ xs) ys
jobs_front before [] ys h = (tt, subst (λ (b : List RunEvent). AreOfJobsBehind b ys) (sym (append-nil before)) h)
jobs_front before (x ∷ xs) ys h =
    let later = jobs_front (before ++ x ∷ []) xs ys h.1 in
    ((h.0, later.0), subst (λ (b : List RunEvent). AreOfJobsBehind b ys) (append_assoc before (x ∷ []) xs) later.1)
