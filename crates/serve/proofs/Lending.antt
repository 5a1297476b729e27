-- What happens that is an event of no instance: the clock is read, a call on a connection failed, or
-- a task is lent.
use Rattle.std.proofs.Common.{◌≡◌, ℕ, ◌<◌, ◌≤◌, List, [], ◌∷◌, ◌++◌, map, length, refl, ap, ◌∙◌, sym, subst, arith, inl, inr, append-nil, append_assoc}
use Rattle.std.specs.Prelude.{Bool, false, Option, Some, None}
use Rattle.std.specs.List.{AllByRecursion}
use Rattle.std.specs.Option.{option_map}
use Rattle.std.proofs.lemmas.Grind.{flat_map-append}
use Rattle.std.proofs.lemmas.List.{length-map, length-set}
use Rattle.std.proofs.lemmas.List.Sums.{fold_push}
use Rattle.std.proofs.lemmas.Option.{slice_get_within}
use Rattle.execution.specs.Job.{TaskValue}
use Rattle.execution.specs.Orders.{OrderValue, start, task_of}
use Rattle.instance_core.specs.State.{InstanceState}
use Rattle.run_calls.specs.Outcomes.{OutcomeValue}
use Rattle.server_events.specs.Configs.{ConfigValue, parents_of}
use Rattle.server_events.specs.Events.{EventValue, ended}
use Rattle.served_instance.specs.Lone.{LoneInstance}
use Rattle.served_instance.specs.StandsFor.{ServedState}
use Rattle.server_core.specs.StandsFor.{instance_at}
use Rattle.serve.specs.SocketEvents.{SocketEvent, clock, port, failed, moment_after, Adds, AddsAll}
use Rattle.serve.specs.RunEvents.{RunEvent, ordered, lent, gave, AddsRuns, AddsAllRuns, WasBegun}
use Rattle.serve.specs.declared.carrying.Counting.{Counting}
use Rattle.run_calls.specs.declared.task.RunKey.{RunKey}
use Rattle.serve.specs.Happenings.{Happening, MarkedHappening, at_sockets, told, at_runs, with_times, moment_then, sockets_in, event_told, event_then}
use Rattle.serve.specs.Served.{AtWork, with_orders, IsTaken, IsTakenIf, Comes, Happens, MayServe, begun}
use Rattle.serve.specs.KeepsServing.{unmarked, moment_behind, StandsServing, AllServing, IsServing, TakesEvent}
use Rattle.serve.proofs.Happenings.{run_events, all_timed, AreOf, parts_of, parts_on, moment_more, may_serve_on}
use Rattle.serve.proofs.Keeps.{IsOneOf, Premise, counted_more, after_outcome, after_no_run, asked_adds, none_serves}

-- what happens is an event of no instance, of so many
pub record IsForNobody (count : ℕ) (x : Happening) : Type 0 where
  pub event : (m : ℕ) → event_then m x ≡ None
  pub comes : (parents : List (Option ℕ)) (m : ℕ) (w v : AtWork) → length w.instances ≡ count → Comes parents m w (unmarked x) v →
      Happens parents m w (unmarked x) v

pub clock_for : (count n : ℕ) → IsForNobody count (at_sockets (clock n))
clock_for count n = record { event = λ m. refl; comes = λ parents m w v is so. so }

lent_for : (count j job : ℕ) (task : Option TaskValue) → j < count → IsForNobody count (at_runs (lent j job task))
lent_for count j job task lt = record { event = λ m. refl; comes = λ parents m w v is so. (omega (arith, lt, is), so) }

failed_for : (count j c : ℕ) → j < count → IsForNobody count (at_sockets (failed j c))
failed_for count j c lt = record { event = λ m. refl; comes = λ parents m w v is so. (omega (arith, lt, is), so) }

-- all instances stay as they are
pub nobody_more : (configs : List ConfigValue) (h : List MarkedHappening) (vs : List ServedState) (x : Happening) →
    IsForNobody (length configs) x → moment_behind h ≤ moment_then (moment_behind h) x → Premise (sockets_in h) vs x →
    AllServing configs h vs → AllServing configs (h ++ unmarked x ∷ []) vs
nobody_more configs h vs x nobody rises premise a =
    let m : ℕ = moment_behind h in
    let parents : List (Option ℕ) = parents_of configs in
    let later : m ≤ moment_behind (h ++ unmarked x ∷ []) = subst (λ (n : ℕ). m ≤ n) (sym (moment_more h (unmarked x) [])) rises in
    let comes : Comes parents m (with_orders a.ls []) (unmarked x) (with_orders a.ls []) = (
      refl,
      (λ i l at. (premise m i l (a.each i l at).stands (a.each i l at).times).0),
      subst (λ (o : Option EventValue). IsTakenIf parents o false a.ls (with_orders a.ls [])) (sym (nobody.event m)) (refl, refl),
    ) in
    record {
      ls = a.ls;
      serves = may_serve_on parents h (unmarked x ∷ []) [] 0 (with_orders (map begun configs) []) (with_orders a.ls [])
          (with_orders a.ls []) a.serves (
            with_orders a.ls [],
            nobody.comes parents m (with_orders a.ls []) (with_orders a.ls []) a.count comes,
            (λ i l at. (premise m i l (a.each i l at).stands (a.each i l at).times).1),
            refl,
          );
      count = a.count;
      each = λ i l at.
          (let it : StandsServing m i vs l = a.each i l at in
          let late = it.times in
          record { stands = it.stands; times = omega (arith, later, late) });
    }

-- ---- a call on a connection failed

failed_known : (configs : List ConfigValue) (s : List SocketEvent) (r : List RunEvent) (server : Counting) (m j c : ℕ) →
    j < length configs → IsServing configs (Some s) (Some r) server m → IsServing configs (Some (s ++ failed j c ∷ [])) (Some r) server m
failed_known configs s r server m j c lt at =
    let x : Happening = at_sockets (failed j c) in
    let count : ℕ = length configs in
    let timed : List Happening = all_timed count s in
    let parts : AreOf (timed ++ x ∷ []) (r ++ []) (at.h ++ unmarked x ∷ []) =
    parts_on timed (x ∷ []) r [] at.h (unmarked x ∷ []) (parts_of count s r at.h at.together)
    (record { timed_so = refl; runs_so = refl }) in
    record {
      h = at.h ++ unmarked x ∷ [];
      together = record {
        at_sockets_so = parts.timed_so ∙ sym (flat_map-append (with_times count) s (failed j c ∷ []));
        at_runs_so =
            parts.runs_so ∙ append-nil r;
      };
      counted = counted_more at.h x false [] server.cut server.cut refl at.counted;
      parents = at.parents;
      all = nobody_more configs at.h server.server.instances x (failed_for count j c lt) (omega arith)
          (λ n k l stands late. (tt, tt)) at.all;
      moment = at.moment ∙ sym (fold_push moment_after 0 s (failed j c));
    }

pub after_failed : (configs : List ConfigValue) (old new : Option (List SocketEvent)) (was : Option (List RunEvent)) (server : Counting)
    (m j c : ℕ) → j < length configs → Adds old new (failed j c ∷ []) → IsServing configs old was server m →
    IsServing configs new was server m
after_failed configs old new None server m j c lt adds at = none_serves configs new server m
after_failed configs old new (Some r) server m j c lt adds at = elim adds [
  | inl lost ↦ subst (λ (o : Option (List SocketEvent)). IsServing configs o (Some r) server m) (sym lost) tt
  | inr all ↦ go old all at
]
  where
    go : (o : Option (List SocketEvent)) → AddsAll o new (failed j c ∷ []) → IsServing configs o (Some r) server m →
        IsServing configs new (Some r) server m
    go None all so = subst (λ (n : Option (List SocketEvent)). IsServing configs n (Some r) server m) (sym all) tt
    go (Some s) all so = subst (λ (n : Option (List SocketEvent)). IsServing configs n (Some r) server m) (sym all)
        (failed_known configs s r server m j c lt so)

-- ---- a task is lent

-- what is lent is the task of the job that runs
abbrev pub IsTaskAt : ℕ → ℕ → Option TaskValue → List ServedState → Type 0
IsTaskAt j job task vs = (v : ServedState) → instance_at j vs ≡ Some v → task ≡ task_of job v.state.jobs

lent_faithful : (vs : List ServedState) (j job : ℕ) (task : Option TaskValue) → IsTaskAt j job task vs → (before : List SocketEvent) →
    Premise before vs (at_runs (lent j job task))
lent_faithful vs j job task is before = λ m n l stands late. (
  (λ same.
      is stands.0 (ap (λ (k : ℕ). instance_at k vs) same ∙ stands.1) ∙ ap (λ (s : InstanceState). task_of job s.jobs) stands.2.state),
  tt,
)

abbrev with_lent : Option (List RunEvent) → RunEvent → Option (List RunEvent)
with_lent was x = option_map (λ (h : List RunEvent). h ++ x ∷ []) was

-- .. and then more happens
lent_then : (was asked : Option (List RunEvent)) (x : RunEvent) (more : List RunEvent) → AddsRuns was asked (x ∷ more) →
    AddsRuns (with_lent was x) asked more
lent_then was asked x more adds = elim adds [
  | inl lost ↦ inl lost
  | inr all ↦ inr (go was all)
]
  where
    go : (w : Option (List RunEvent)) → AddsAllRuns w asked (x ∷ more) → AddsAllRuns (with_lent w x) asked more
    go None all = all
    go (Some h) all = all ∙ ap Some (sym (append_assoc h (x ∷ []) more))

after_lent : (configs : List ConfigValue) (known : Option (List SocketEvent)) (was : Option (List RunEvent)) (server : Counting)
    (m j job : ℕ) (task : Option TaskValue) → IsOneOf known was (length configs) j → IsTaskAt j job task server.server.instances →
    IsServing configs known was server m → IsServing configs known (with_lent was (lent j job task)) server m
after_lent configs None was server m j job task lt is at = tt
after_lent configs (Some s) None server m j job task lt is at = tt
after_lent configs (Some s) (Some r) server m j job task lt is at =
    let x : Happening = at_runs (lent j job task) in
    let count : ℕ = length configs in
    let timed : List Happening = all_timed count s in
    let parts : AreOf (timed ++ []) (r ++ lent j job task ∷ []) (at.h ++ unmarked x ∷ []) =
    parts_on timed [] r (lent j job task ∷ []) at.h (unmarked x ∷ []) (parts_of count s r at.h at.together)
    (record { timed_so = refl; runs_so = refl }) in
    record {
      h = at.h ++ unmarked x ∷ [];
      together = record { at_sockets_so = parts.timed_so ∙ append-nil timed; at_runs_so = parts.runs_so };
      counted = counted_more at.h x false [] server.cut server.cut refl at.counted;
      parents = at.parents;
      all = nobody_more configs at.h server.server.instances x (lent_for count j job task lt) (omega arith)
          (lent_faithful server.server.instances j job task is (sockets_in at.h)) at.all;
      moment = at.moment;
    }

-- ---- a run was begun

none_here : (before after : List RunEvent) (y : RunEvent) → [] ≡ before ++ y ∷ after → ⊥
none_here [] after y is = cc
none_here (b ∷ before) after y is = cc

first_same : (x y : RunEvent) (xs ys : List RunEvent) → x ∷ xs ≡ y ∷ ys → x ≡ y
first_same x y xs ys is = cc

rest_same : (x y : RunEvent) (xs ys : List RunEvent) → x ∷ xs ≡ y ∷ ys → xs ≡ ys
rest_same x y xs ys is = cc

-- an order that is carried out is of one of so many instances
abbrev IsOfThese : ℕ → RunEvent → Type 0
IsOfThese count (ordered j o) = j < count
IsOfThese count (lent j job task) = Unit {0}
IsOfThese count (gave j job outcome) = Unit {0}

abbrev AreOfThese : ℕ → List RunEvent → Type 0
AreOfThese count rs = AllByRecursion (IsOfThese count) rs

orders_of_these : (count j : ℕ) (orders : List OrderValue) → j < count → AreOfThese count (map (ordered j) orders)
orders_of_these count j [] lt = tt
orders_of_these count j (o ∷ orders) lt = (lt, orders_of_these count j orders lt)

record IsWithin (count : ℕ) (w : AtWork) : Type 0 where
  instances : length w.instances ≡ count
  orders : AreOfThese count w.orders

taken_within : (count : ℕ) (parents : List (Option ℕ)) (e : EventValue) (b : Bool) (ls : List LoneInstance) (v : AtWork) →
    length ls ≡ count → IsTaken parents e b ls v → IsWithin count v
taken_within count parents e b ls v is t = subst (IsWithin count) (sym t.so) (record {
  instances = length-set ls e.instance t.now ∙ is;
  orders = orders_of_these count e.instance t.orders (subst (λ (n : ℕ). e.instance < n) is (slice_get_within ls e.instance t.was t.there));
})

comes_within : (count : ℕ) (parents : List (Option ℕ)) (o : Option EventValue) (b : Bool) (ls : List LoneInstance) (v : AtWork) →
    length ls ≡ count → IsTakenIf parents o b ls v → IsWithin count v
comes_within count parents None b ls v is t = subst (IsWithin count) (sym t.1) (record { instances = is; orders = tt })
comes_within count parents (Some e) b ls v is t = taken_within count parents e b ls v is t

began : (count : ℕ) (parents : List (Option ℕ)) (h : List MarkedHappening) (past : List SocketEvent) (m : ℕ) (w v : AtWork) (run : RunKey)
    (before after : List RunEvent) (o : OrderValue) → IsWithin count w → MayServe parents past m w h v →
    run_events h ≡ before ++ ordered run.instance o ∷ after → run.instance < count
began count parents [] past m w v run before after o all s is = absurd (none_here before after (ordered run.instance o) is)
began count parents ((at_sockets (clock n), b) ∷ h) past m w v run before after o all s is =
    began count parents h (past ++ clock n ∷ []) n s.0 v run before after o
    (comes_within count parents None b w.instances s.0 all.instances s.1.2) s.3 is
began count parents ((at_sockets (port j p), b) ∷ h) past m w v run before after o all s is =
    began count parents h (past ++ port j p ∷ []) m s.0 v run before after o
    (comes_within count parents (event_then m (at_sockets (port j p))) b w.instances s.0 all.instances s.1.2) s.3 is
began count parents ((at_sockets (failed j c), b) ∷ h) past m w v run before after o all s is =
    began count parents h (past ++ failed j c ∷ []) m s.0 v run before after o
    (comes_within count parents None b w.instances s.0 all.instances s.1.1.2) s.3 is
began count parents ((told j, b) ∷ h) past m w v run before after o all s is =
    began count parents h past m s.0 v run before after o
    (comes_within count parents (event_then m (told j)) b w.instances s.0 all.instances s.1.2) s.3 is
began count parents ((at_runs (ordered j q), b) ∷ h) past m w v run before after o all s is =
    go before is (λ front same.
    began count parents h past m s.0 v run front after o
    (record { instances = ap (λ (y : AtWork). length y.instances) (sym s.1.1) ∙ all.instances; orders = orders.1 }) s.3 same)
  where
    orders : AreOfThese count (ordered j q ∷ s.0.orders)
    orders = subst (λ (x : AtWork). AreOfThese count x.orders) s.1.1 all.orders

    go : (front : List RunEvent) → ordered j q ∷ run_events h ≡ front ++ ordered run.instance o ∷ after →
        ((rest : List RunEvent) → run_events h ≡ rest ++ ordered run.instance o ∷ after → run.instance < count) → run.instance < count
    go [] same next = subst (IsOfThese count) (first_same (ordered j q) (ordered run.instance o) (run_events h) after same) orders.0
    go (x ∷ front) same next =
        next front (rest_same (ordered j q) x (run_events h) (front ++ ordered run.instance o ∷ after) same)
began count parents ((at_runs (lent j job task), b) ∷ h) past m w v run [] after o all s is = cc
began count parents ((at_runs (lent j job task), b) ∷ h) past m w v run (x ∷ before) after o all s is =
    began count parents h past m s.0 v run before after o (comes_within count parents None b w.instances s.0 all.instances s.1.1.2) s.3
    (rest_same (lent j job task) x (run_events h) (before ++ ordered run.instance o ∷ after) is)
began count parents ((at_runs (gave j job outcome), b) ∷ h) past m w v run [] after o all s is = cc
began count parents ((at_runs (gave j job outcome), b) ∷ h) past m w v run (x ∷ before) after o all s is =
    began count parents h past m s.0 v run before after o
    (comes_within count parents (event_then m (at_runs (gave j job outcome))) b w.instances s.0 all.instances s.1.2) s.3
    (rest_same (gave j job outcome) x (run_events h) (before ++ ordered run.instance o ∷ after) is)

pub begun_one : (configs : List ConfigValue) (known : Option (List SocketEvent)) (was : Option (List RunEvent)) (server : Counting) (m : ℕ)
    (run : RunKey) → WasBegun run was → IsServing configs known was server m → IsOneOf known was (length configs) run.instance
begun_one configs None was server m run since at = tt
begun_one configs (Some s) None server m run since at = tt
begun_one configs (Some s) (Some r) server m run since at =
    began (length configs) (parents_of configs) at.h [] 0 (with_orders (map begun configs) [])
    (with_orders at.all.ls []) run since.before since.after (start run.job since.task)
    (record { instances = length-map configs begun; orders = tt }) at.all.serves (at.together.at_runs_so ∙ since.whole)

-- ---- a run is asked

-- where something came of it, which is told
pub asked_told : (configs : List ConfigValue) (known : Option (List SocketEvent)) (was asked now : Option (List RunEvent))
    (server next : Counting) (m : ℕ) (run : RunKey) (task : Option TaskValue) (outcome : OutcomeValue) (answered : List RunEvent) →
    WasBegun run was → IsTaskAt run.instance run.job task server.server.instances →
    AddsRuns was asked (lent run.instance run.job task ∷ answered) → gave run.instance run.job outcome ∷ [] ≡ answered →
    TakesEvent (event_told m run.instance (ended run.job outcome)) server next asked now → IsServing configs known was server m →
    IsServing configs known now next m
asked_told configs known was asked now server next m run task outcome answered was_begun is adds same t at =
    let x : RunEvent = lent run.instance run.job task in
    let one : IsOneOf known was (length configs) run.instance = begun_one configs known was server m run was_begun at in
    after_outcome configs known (with_lent was x) asked now server next m run.instance run.job outcome
    (still_one known was (length configs) run.instance x one)
    (asked_adds (with_lent was x) asked answered (gave run.instance run.job outcome ∷ []) (lent_then was asked x answered adds) same) t
    (after_lent configs known was server m run.instance run.job task one is at)
  where
    still_one : (k : Option (List SocketEvent)) (w : Option (List RunEvent)) (count j : ℕ) (y : RunEvent) → IsOneOf k w count j →
        IsOneOf k (with_lent w y) count j
    still_one None w count j y one = one
    still_one (Some s) None count j y one = one
    still_one (Some s) (Some r) count j y one = one

-- where it goes on
pub asked_none : (configs : List ConfigValue) (known : Option (List SocketEvent)) (was asked : Option (List RunEvent)) (server : Counting)
    (m : ℕ) (run : RunKey) (task : Option TaskValue) (answered : List RunEvent) → WasBegun run was →
    IsTaskAt run.instance run.job task server.server.instances → AddsRuns was asked (lent run.instance run.job task ∷ answered) →
    [] ≡ answered → IsServing configs known was server m → IsServing configs known asked server m
asked_none configs known was asked server m run task answered was_begun is adds same at =
    let x : RunEvent = lent run.instance run.job task in
    after_no_run configs known (with_lent was x) asked server m
    (asked_adds (with_lent was x) asked answered [] (lent_then was asked x answered adds) same)
    (after_lent configs known was server m run.instance run.job task (begun_one configs known was server m run was_begun at) is at)
