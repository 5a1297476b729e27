-- More that happens.
use Rattle.std.proofs.Common.{◌≡◌, ℕ, ◌+◌, ◌≤◌, List, [], ◌∷◌, ◌++◌, map, length, refl, ap, ◌∙◌, sym, subst, inl, inr, arith, append-nil, append_assoc, length-append}
use Rattle.std.specs.Prelude.{fold, filter, Bool, true, false, Option}
use Rattle.std.specs.List.{filter_map, flat_map, range_with_len}
use Rattle.std.proofs.lemmas.List.Elements.{filter-append, filter_map-append}
use Rattle.std.proofs.lemmas.List.Sums.{fold-append}
use Rattle.execution.specs.Orders.{OrderValue}
use Rattle.instance_core.specs.Calls.{CallEventValue, tick as time_passes}
use Rattle.instance_core.specs.State.{InstanceState}
use Rattle.instance_core.specs.Changes.{InstanceChange, Text, Goes, Ends, Wrote, Keeps, Expires, Does, Pushes, Settles, MadeInPart, state_after_change, state_after_changes}
use Rattle.instance_core.specs.Answer.{answer, state_after}
use Rattle.server_events.specs.Events.{LoneEvent, WhatValue, opened, received, took, closed, tick, ended}
use Rattle.served_instance.specs.Lone.{LoneInstance, lone_at_moment}
use Rattle.served_instance.specs.Short.{IsCutShort, IsCutEffect}
use Rattle.served_instance.proofs.Moments.{step_within}
use Rattle.instance_core.specs.Visible.{Blob}
use Rattle.serve.specs.SocketEvents.{SocketEvent, clock, port, failed, moment_after, moment_of}
use Rattle.serve.specs.RunEvents.{RunEvent, ordered}
use Rattle.serve.specs.Happenings.{Happening, MarkedHappening, at_sockets, told, at_runs, timed_event, run_event, cuts, with_times, moment_then, sockets_then, sockets_on, sockets_in}
use Rattle.serve.specs.KeepsServing.{ran, moment_on, moment_behind}
use Rattle.serve.specs.Served.{AtWork, with_orders, MayStep, MayServe, HappenedTogether}

-- ---- what happened at the runs, and what not

abbrev pub run_events : List MarkedHappening → List RunEvent
run_events h = filter_map run_event h

abbrev pub timed_events : List MarkedHappening → List Happening
timed_events h = filter_map timed_event h

-- each of so many instances is told the time, in order
abbrev pub all_told : ℕ → List Happening
all_told count = map told (range_with_len 0 count)

abbrev pub all_timed : ℕ → List SocketEvent → List Happening
all_timed count sockets = flat_map (with_times count) sockets

pub runs_moment : (more : List RunEvent) (m : ℕ) → fold moment_on m (map ran more) ≡ m
runs_moment [] m = refl
runs_moment (r ∷ more) m = runs_moment more m

pub no_times : (more : List RunEvent) → timed_events (map ran more) ≡ []
no_times [] = refl
no_times (r ∷ more) = no_times more

pub all_runs : (more : List RunEvent) → run_events (map ran more) ≡ more
all_runs [] = refl
all_runs (r ∷ more) = ap (λ (rs : List RunEvent). r ∷ rs) (all_runs more)

runs_cut : (more : List RunEvent) → cuts (map ran more) ≡ 0
runs_cut [] = refl
runs_cut (r ∷ more) = runs_cut more

-- ---- the clock

told_moment : (is : List ℕ) (m : ℕ) → fold moment_then m (map told is) ≡ m
told_moment [] m = refl
told_moment (i ∷ is) m = told_moment is m

-- the clock of all that happened is that of what happened at the sockets
timed_moment : (h : List MarkedHappening) (m : ℕ) → fold moment_on m h ≡ fold moment_then m (timed_events h)
timed_moment [] m = refl
timed_moment ((at_sockets s, b) ∷ h) m = timed_moment h (moment_then m (at_sockets s))
timed_moment ((told i, b) ∷ h) m = timed_moment h m
timed_moment ((at_runs r, b) ∷ h) m = timed_moment h m

sockets_moment : (count : ℕ) (sockets : List SocketEvent) (m : ℕ) →
    fold moment_then m (all_timed count sockets) ≡ fold moment_after m sockets
sockets_moment count [] m = refl
sockets_moment count (clock n ∷ sockets) m =
    fold-append moment_then n (all_told count) (all_timed count sockets)
    ∙ ap (λ (k : ℕ). fold moment_then k (all_timed count sockets)) (told_moment (range_with_len 0 count) n) ∙ sockets_moment count sockets n
sockets_moment count (port j p ∷ sockets) m = sockets_moment count sockets m
sockets_moment count (failed j c ∷ sockets) m = sockets_moment count sockets m

pub moment_together : (count : ℕ) (sockets : List SocketEvent) (runs : List RunEvent) (h : List MarkedHappening) →
    HappenedTogether count sockets runs h → moment_behind h ≡ moment_of sockets
moment_together count sockets runs h t = timed_moment h 0 ∙ ap (fold moment_then 0) t.at_sockets_so ∙ sockets_moment count sockets 0

-- ---- what happened at the sockets

told_sockets : (is : List ℕ) (before : List SocketEvent) → fold sockets_then before (map told is) ≡ before
told_sockets [] before = refl
told_sockets (i ∷ is) before = told_sockets is before

timed_sockets : (h : List MarkedHappening) (before : List SocketEvent) →
    fold sockets_on before h ≡ fold sockets_then before (timed_events h)
timed_sockets [] before = refl
timed_sockets ((at_sockets s, b) ∷ h) before = timed_sockets h (before ++ s ∷ [])
timed_sockets ((told i, b) ∷ h) before = timed_sockets h before
timed_sockets ((at_runs r, b) ∷ h) before = timed_sockets h before

all_sockets : (count : ℕ) (sockets before : List SocketEvent) → fold sockets_then before (all_timed count sockets) ≡ before ++ sockets
all_sockets count [] before = sym (append-nil before)
all_sockets count (clock n ∷ sockets) before =
    fold-append sockets_then (before ++ clock n ∷ []) (all_told count) (all_timed count sockets)
    ∙ ap (λ (g : List SocketEvent). fold sockets_then g (all_timed count sockets))
    (told_sockets (range_with_len 0 count) (before ++ clock n ∷ []))
    ∙ all_sockets count sockets (before ++ clock n ∷ []) ∙ append_assoc before (clock n ∷ []) sockets
all_sockets count (port j p ∷ sockets) before =
    all_sockets count sockets (before ++ port j p ∷ []) ∙ append_assoc before (port j p ∷ []) sockets
all_sockets count (failed j c ∷ sockets) before =
    all_sockets count sockets (before ++ failed j c ∷ []) ∙ append_assoc before (failed j c ∷ []) sockets

pub sockets_together : (count : ℕ) (sockets : List SocketEvent) (runs : List RunEvent) (h : List MarkedHappening) →
    HappenedTogether count sockets runs h → sockets_in h ≡ sockets
sockets_together count sockets runs h t = timed_sockets h [] ∙ ap (fold sockets_then []) t.at_sockets_so ∙ all_sockets count sockets []

-- ---- what happened, by its two parts

pub record AreOf (timed : List Happening) (runs : List RunEvent) (h : List MarkedHappening) : Type 0 where
  pub timed_so : timed_events h ≡ timed
  pub runs_so : run_events h ≡ runs

pub parts_of : (count : ℕ) (sockets : List SocketEvent) (runs : List RunEvent) (h : List MarkedHappening) →
    HappenedTogether count sockets runs h → AreOf (all_timed count sockets) runs h
parts_of count sockets runs h t = record { timed_so = t.at_sockets_so; runs_so = t.at_runs_so }

pub parts_on : (timed more_timed : List Happening) (runs more_runs : List RunEvent) (h g : List MarkedHappening) → AreOf timed runs h →
    AreOf more_timed more_runs g → AreOf (timed ++ more_timed) (runs ++ more_runs) (h ++ g)
parts_on timed more_timed runs more_runs h g t u = record {
  timed_so = filter_map-append timed_event h g ∙ ap (λ (xs : List Happening). xs ++ timed_events g) t.timed_so
      ∙ ap (λ (ys : List Happening). timed ++ ys) u.timed_so;
  runs_so = filter_map-append run_event h g ∙ ap (λ (xs : List RunEvent). xs ++ run_events g) t.runs_so
      ∙ ap (λ (ys : List RunEvent). runs ++ ys) u.runs_so;
}

-- .. behind which orders are carried out
pub parts_ordered : (j : ℕ) (timed : List Happening) (runs : List RunEvent) (orders : List OrderValue) (x : MarkedHappening) →
    AreOf timed runs (x ∷ []) → AreOf timed (runs ++ map (ordered j) orders) (x ∷ map ran (map (ordered j) orders))
parts_ordered j timed runs orders x t =
    let more : List RunEvent = map (ordered j) orders in
    subst (λ (ts : List Happening). AreOf ts (runs ++ more) (x ∷ map ran more)) (append-nil timed)
    (parts_on timed [] runs more (x ∷ []) (map ran more) t (record { timed_so = no_times more; runs_so = all_runs more }))

pub moment_more : (h : List MarkedHappening) (x : MarkedHappening) (more : List RunEvent) →
    moment_behind (h ++ x ∷ map ran more) ≡ moment_on (moment_behind h) x
moment_more h x more = fold-append moment_on 0 h (x ∷ map ran more) ∙ runs_moment more (moment_on (moment_behind h) x)

cuts_both : (h g : List MarkedHappening) → cuts (h ++ g) ≡ cuts h + cuts g
cuts_both h g =
    let is_cut : MarkedHappening → Bool = λ x. x.1 in
    ap length (filter-append is_cut h g) ∙ length-append (filter is_cut h) (filter is_cut g)

pub cut_more : (h : List MarkedHappening) (x : Happening) (more : List RunEvent) → cuts (h ++ (x, true) ∷ map ran more) ≡ cuts h + 1
cut_more h x more = cuts_both h ((x, true) ∷ map ran more) ∙ omega (arith, runs_cut more)

pub none_cut : (h : List MarkedHappening) (x : Happening) (more : List RunEvent) → cuts (h ++ (x, false) ∷ map ran more) ≡ cuts h
none_cut h x more = cuts_both h ((x, false) ∷ map ran more) ∙ omega (arith, runs_cut more)

-- ---- one part behind the other

pub may_serve_on : (parents : List (Option ℕ)) (h g : List MarkedHappening) (before : List SocketEvent) (m : ℕ) (w k v : AtWork) →
    MayServe parents before m w h k → MayServe parents (fold sockets_on before h) (fold moment_on m h) k g v →
    MayServe parents before m w (h ++ g) v
may_serve_on parents [] g before m w k v s t = subst (λ (x : AtWork). MayServe parents before m x g v) s t
may_serve_on parents (x ∷ h) g before m w k v s t =
    (s.0, s.1, s.2, may_serve_on parents h g (sockets_then before x.0) (moment_then m x.0) s.0 k v s.3 t)

-- orders are carried out, one after another
pub carried : (parents : List (Option ℕ)) (before : List SocketEvent) (m j : ℕ) (ls : List LoneInstance) (orders : List OrderValue)
    → MayServe parents before m (with_orders ls (map (ordered j) orders)) (map ran (map (ordered j) orders)) (with_orders ls [])
carried parents before m j ls [] = refl
carried parents before m j ls (o ∷ orders) = (
  with_orders ls (map (ordered j) orders),
  (refl, refl),
  (λ i l at. tt),
  carried parents before m j ls orders,
)

-- ---- moments

-- no change is one of the moment
changed_moment : (changes : List InstanceChange) (s : InstanceState) → (state_after_changes changes s).moment ≡ s.moment
changed_moment [] s = refl
changed_moment (Text c ∷ changes) s = changed_moment changes (state_after_change (Text c) s)
changed_moment (Goes id call ∷ changes) s = changed_moment changes (state_after_change (Goes id call) s)
changed_moment (Ends id ∷ changes) s = changed_moment changes (state_after_change (Ends id) s)
changed_moment (Wrote w ∷ changes) s = changed_moment changes (state_after_change (Wrote w) s)
changed_moment (Keeps results ∷ changes) s = changed_moment changes (state_after_change (Keeps results) s)
changed_moment (Expires ∷ changes) s = changed_moment changes (state_after_change Expires s)
changed_moment (Does operation ∷ changes) s = changed_moment changes (state_after_change (Does operation) s)
changed_moment (Pushes job ∷ changes) s = changed_moment changes (state_after_change (Pushes job) s)
changed_moment (Settles steps ∷ changes) s = changed_moment changes (state_after_change (Settles steps) s)

made_moment : (changes : List InstanceChange) (s t : InstanceState) → MadeInPart changes s t → t.moment ≡ s.moment
made_moment changes s t made = ap (λ (x : InstanceState). x.moment) made.so_far ∙ changed_moment made.made s

cut_moment : (events : List CallEventValue) (s t : InstanceState) → IsCutShort events s t → t.moment ≡ s.moment
cut_moment [] s t h = ap (λ (x : InstanceState). x.moment) h
cut_moment (event ∷ events) s t h = elim h [
  | inl made ↦ made_moment (answer s event).changes s t made
  | inr rest ↦ cut_moment events (state_after s event) t rest ∙ changed_moment (answer s event).changes s
]

cut_effect_moment : (what : WhatValue) (l m : LoneInstance) → IsCutEffect what l m → m.state.moment ≡ l.state.moment
cut_effect_moment (opened c) l m h = ap (λ (x : LoneInstance). x.state.moment) h
cut_effect_moment (received c bytes) l m h = ap (λ (x : LoneInstance). x.state.moment) h.gone ∙ cut_moment _ l.state h.left h.cut
cut_effect_moment (took c n) l m h = absurd h
cut_effect_moment (closed c) l m h = absurd h
cut_effect_moment tick l m h =
    ap (λ (x : LoneInstance). x.state.moment) h ∙ changed_moment (answer l.state time_passes).changes l.state
cut_effect_moment (ended job outcome) l m h =
    ap (λ (x : LoneInstance). x.state.moment) h.gone ∙ made_moment _ l.state h.left h.made

-- after an event an instance is not later than the event and than it was
pub may_within : (parent : List Blob) (e : LoneEvent) (marked : Bool) (l k : LoneInstance) (orders : List OrderValue) (m : ℕ) →
    MayStep parent e marked l k orders → e.moment ≤ m → l.state.moment ≤ m → k.state.moment ≤ m
may_within parent e false l k orders m alone le late =
    subst (λ (x : LoneInstance). x.state.moment ≤ m) (sym alone.0) (step_within parent e l m le late)
may_within parent e true l k orders m short le late =
    subst (λ (n : ℕ). n ≤ m) (sym (cut_effect_moment e.what (lone_at_moment e.moment parent l) k short.1)) le
