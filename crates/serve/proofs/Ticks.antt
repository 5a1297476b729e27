-- One instance after another is told the time.
use Rattle.std.proofs.Common.{◌≡◌, ℕ, zero, ◌+◌, ◌<◌, ◌≤◌, List, [], ◌∷◌, ◌++◌, map, length, refl, ap, ◌∙◌, sym, subst, arith, inl, inr, add-one, append-nil, append_assoc}
use Rattle.std.specs.Prelude.{suc, false, Option, Some, None, IfSome}
use Rattle.std.specs.Option.{option_map}
use Rattle.std.specs.List.{range_with_len}
use Rattle.std.proofs.lemmas.Grind.{flat_map-append}
use Rattle.std.proofs.lemmas.List.{map-append}
use Rattle.std.proofs.lemmas.List.Sums.{fold_push}
use Rattle.server_events.specs.Configs.{ConfigValue}
use Rattle.server_events.specs.Events.{EventValue, tick}
use Rattle.serve.specs.declared.carrying.Counting.{Counting}
use Rattle.serve.specs.SocketEvents.{SocketEvent, clock, moment_after, moment_of, Adds, AddsAll}
use Rattle.serve.specs.RunEvents.{RunEvent, ordered}
use Rattle.serve.specs.Happenings.{Happening, MarkedHappening, at_sockets, told, cuts, with_times, event_told}
use Rattle.serve.specs.KeepsServing.{IsCount, ran, unmarked, moment_behind, HasParents, AllServing, IsServerAt, IsServing, TakesEvent}
use Rattle.serve.proofs.Happenings.{all_told, all_timed, AreOf, parts_of, parts_on, parts_ordered, moment_more, moment_together}
use Rattle.serve.proofs.Keeps.{counted_more, still_lost, event_more, none_serves, parents_on, told_for}
use Rattle.serve.proofs.Lending.{clock_for, nobody_more}

-- so many instances were told the time
abbrev told_so_far : ℕ → List Happening
told_so_far k = map told (range_with_len 0 k)

-- the clock showed n, the instances before number k were told it, and what they ordered was carried
-- out
pub record HasTicked (configs : List ConfigValue) (sockets : List SocketEvent) (runs : List RunEvent) (n k : ℕ) (server : Counting)
    (now : Option (List RunEvent)) : Type 0 where
  pub h : List MarkedHappening
  pub more : List RunEvent
  pub parts : AreOf (all_timed (length configs) sockets ++ at_sockets (clock n) ∷ told_so_far k) (runs ++ more) h
  pub runs_now : now ≡ Some (runs ++ more)
  pub counted : IsCount (cuts h) server.cut
  pub parents : HasParents configs server.server
  pub all : AllServing configs h server.server.instances
  pub moment : moment_behind h ≡ n

abbrev pub IsTicking : List ConfigValue → Option (List SocketEvent) → Option (List RunEvent) → ℕ → ℕ → Counting → Option (List RunEvent) →
    Type 0
IsTicking configs known was n k server now = IfSome known (λ s. IfSome was (λ r. IfSome now (λ x. HasTicked configs s r n k server now)))

-- the clock shows no less than it did
abbrev pub Rises : Option (List SocketEvent) → ℕ → Type 0
Rises known n = IfSome known (λ h. moment_of h ≤ n)

-- where it was not known what happened at the runs, it is not known
abbrev pub StaysUnknown : Option (List RunEvent) → Option (List RunEvent) → Type 0
StaysUnknown was now = was ≡ None → now ≡ None

pub still_unknown : (was before after : Option (List RunEvent)) (e : EventValue) (server next : Counting) →
    TakesEvent e server next before after → StaysUnknown was before → StaysUnknown was after
still_unknown was before after e server next t unknown =
    λ is. still_lost before after (map (ordered e.instance) t.orders) (unknown is) t.carried

-- ---- the clock is read

clock_moment : (h : List MarkedHappening) (n : ℕ) → moment_behind (h ++ unmarked (at_sockets (clock n)) ∷ []) ≡ n
clock_moment h n = moment_more h (unmarked (at_sockets (clock n))) []

pub none_ticked : (configs : List ConfigValue) (known : Option (List SocketEvent)) (was : Option (List RunEvent)) (server : Counting)
    (m n : ℕ) → Rises known n → IsServing configs known was server m → IsTicking configs known was n 0 server was
none_ticked configs None was server m n rises at = tt
none_ticked configs (Some s) None server m n rises at = tt
none_ticked configs (Some s) (Some r) server m n rises at =
    let count : ℕ = length configs in
    let late : moment_behind at.h ≤ n = subst (λ (k : ℕ). k ≤ n) (sym (moment_together count s r at.h at.together)) rises in
    record {
      h = at.h ++ unmarked (at_sockets (clock n)) ∷ [];
      more = [];
      parts = parts_on (all_timed count s) (at_sockets (clock n) ∷ []) r [] at.h (unmarked (at_sockets (clock n)) ∷ [])
          (parts_of count s r at.h at.together) (record { timed_so = refl; runs_so = refl });
      counted = counted_more at.h (at_sockets (clock n)) false [] server.cut server.cut refl at.counted;
      runs_now = ap Some (sym (append-nil r));
      parents = at.parents;
      all = nobody_more configs at.h server.server.instances (at_sockets (clock n)) (clock_for count n) late
          (λ m j l stands before. (tt, tt)) at.all;
      moment = clock_moment at.h n;
    }

-- ---- one more is told

range_more : (a k : ℕ) → range_with_len a k ++ (a + k) ∷ [] ≡ range_with_len a (suc k)
range_more a zero = ap (λ (x : ℕ). x ∷ []) (omega arith)
range_more a (suc k) =
    ap (λ (x : ℕ). a ∷ (range_with_len (a + 1) k ++ x ∷ [])) (omega arith)
    ∙ ap (λ (xs : List ℕ). a ∷ xs) (range_more (a + 1) k)

told_more : (k : ℕ) → told_so_far k ++ told k ∷ [] ≡ told_so_far (k + 1)
told_more k =
    sym (map-append told (range_with_len 0 k) (k ∷ []))
    ∙ ap (λ (x : ℕ). map told (range_with_len 0 k ++ x ∷ [])) (omega arith)
    ∙ ap (map told) (range_more 0 k ∙ ap (range_with_len 0) (sym (add-one k)))

known_ticked : (configs : List ConfigValue) (s : List SocketEvent) (r b : List RunEvent) (after : Option (List RunEvent)) (n k : ℕ)
    (server next : Counting) → k < length configs → (so : HasTicked configs s r n k server (Some b)) →
    (moved : TakesEvent (event_told (moment_behind so.h) k tick) server next (Some b) after) →
    HasTicked configs s r n (k + 1) next (Some (b ++ map (ordered k) moved.orders))
known_ticked configs s r b after n k server next lt so moved =
    let count : ℕ = length configs in
    let orders : List RunEvent = map (ordered k) moved.orders in
    let y : MarkedHappening = (told k, moved.marked) in
    let timed : List Happening = all_timed count s ++ at_sockets (clock n) ∷ told_so_far k in
    let one : AreOf (told k ∷ []) [] (y ∷ []) = record { timed_so = refl; runs_so = refl } in
    let parts : AreOf (timed ++ told k ∷ []) ((r ++ so.more) ++ orders) (so.h ++ y ∷ map ran orders) =
    parts_on timed (told k ∷ []) (r ++ so.more) orders so.h (y ∷ map ran orders) so.parts
    (parts_ordered k (told k ∷ []) [] moved.orders y one) in
    let longer : timed ++ told k ∷ [] ≡ all_timed count s ++ at_sockets (clock n) ∷ told_so_far (k + 1) =
    append_assoc (all_timed count s) (at_sockets (clock n) ∷ told_so_far k) (told k ∷ [])
    ∙ ap (λ (xs : List Happening). all_timed count s ++ at_sockets (clock n) ∷ xs) (told_more k) in
    record {
      h = so.h ++ y ∷ map ran orders;
      more = so.more ++ orders;
      parts = record { timed_so = parts.timed_so ∙ longer; runs_so = parts.runs_so ∙ append_assoc r so.more orders };
      runs_now = ap (option_map (λ (x : List RunEvent). x ++ orders)) so.runs_now ∙ ap Some (append_assoc r so.more orders);
      counted = counted_more so.h (told k) moved.marked orders server.cut next.cut moved.counted so.counted;
      parents = parents_on configs server.server next.server moved.parents so.parents;
      all = event_more configs so.h server next (Some b) after k tick (told k) lt (told_for k) moved so.parents
          (λ m j l stands late. (tt, tt)) so.all;
      moment = moment_more so.h y orders ∙ so.moment;
    }

pub one_ticked : (configs : List ConfigValue) (known : Option (List SocketEvent)) (was before after : Option (List RunEvent)) (n k : ℕ)
    (server next : Counting) → k < length configs → TakesEvent (event_told n k tick) server next before after →
    IsTicking configs known was n k server before → IsTicking configs known was n (k + 1) next after
one_ticked configs None was before after n k server next lt t so = tt
one_ticked configs (Some s) None before after n k server next lt t so = tt
one_ticked configs (Some s) (Some r) None after n k server next lt t so =
    subst (λ (o : Option (List RunEvent)). IsTicking configs (Some s) (Some r) n (k + 1) next o)
    (sym (still_lost None after (map (ordered k) t.orders) refl t.carried)) tt
one_ticked configs (Some s) (Some r) (Some b) after n k server next lt t so =
    let moved : TakesEvent (event_told (moment_behind so.h) k tick) server next (Some b) after =
    subst (λ (m : ℕ). TakesEvent (event_told m k tick) server next (Some b) after) (sym so.moment) t in
    let Ticking : Option (List RunEvent) → Type 0 = λ o. IsTicking configs (Some s) (Some r) n (k + 1) next o in
    elim moved.carried [
      | inl lost ↦ subst Ticking (sym lost) tt
      | inr all ↦ subst Ticking (sym all) (known_ticked configs s r b after n k server next lt so moved)
    ]

-- ---- all were told

known_all : (configs : List ConfigValue) (known new : Option (List SocketEvent)) (was now : Option (List RunEvent)) (n k : ℕ)
    (server : Counting) → AddsAll known new (clock n ∷ []) → StaysUnknown was now → length configs ≡ k →
    IsTicking configs known was n k server now → IsServing configs new now server n
known_all configs None new was now n k server adds unknown all so =
    subst (λ (o : Option (List SocketEvent)). IsServing configs o now server n) (sym adds) tt
known_all configs (Some s) new None now n k server adds unknown all so =
    subst (λ (o : Option (List RunEvent)). IsServing configs new o server n) (sym (unknown refl)) (none_serves configs new server n)
known_all configs (Some s) new (Some r) None n k server adds unknown all so = none_serves configs new server n
known_all configs (Some s) new (Some r) (Some b) n k server adds unknown all so =
    let count : ℕ = length configs in
    let timed : all_timed count s ++ at_sockets (clock n) ∷ told_so_far k ≡ all_timed count (s ++ clock n ∷ []) =
    ap (λ (x : ℕ). all_timed count s ++ at_sockets (clock n) ∷ told_so_far x) (sym all)
    ∙ ap (λ (xs : List Happening). all_timed count s ++ at_sockets (clock n) ∷ xs) (sym (append-nil (all_told count)))
    ∙ sym (flat_map-append (with_times count) s (clock n ∷ [])) in
    let at : IsServerAt configs (s ++ clock n ∷ []) (r ++ so.more) server n = record {
      h = so.h;
      together = record { at_sockets_so = so.parts.timed_so ∙ timed; at_runs_so = so.parts.runs_so };
      counted = so.counted;
      parents = so.parents;
      all = so.all;
      moment = sym (fold_push moment_after 0 s (clock n));
    } in
    subst (λ (o : Option (List SocketEvent)). IsServing configs o (Some b) server n) (sym adds)
    (subst (λ (o : Option (List RunEvent)). IsServing configs (Some (s ++ clock n ∷ [])) o server n) (sym so.runs_now) at)

pub all_ticked : (configs : List ConfigValue) (known new : Option (List SocketEvent)) (was now : Option (List RunEvent)) (n k : ℕ)
    (server : Counting) → Adds known new (clock n ∷ []) → StaysUnknown was now → length configs ≡ k →
    IsTicking configs known was n k server now → IsServing configs new now server n
all_ticked configs known new was now n k server adds unknown all so = elim adds [
  | inl lost ↦ subst (λ (o : Option (List SocketEvent)). IsServing configs o now server n) (sym lost) tt
  | inr added ↦ known_all configs known new was now n k server added unknown all so
]
