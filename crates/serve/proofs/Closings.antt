-- For which reason a connection is closed.
use Rattle.std.proofs.Common.{◌≡◌, ◌≢◌, ℕ, ◌<◌, ◌≤◌, ◌-◌, List, [], ◌∷◌, ◌++◌, map, length, take, get_or, refl, ap, ◌∙◌, sym, subst, arith, inl, inr, append_assoc}
use Rattle.std.specs.Prelude.{◌⊎◌, ◌==◌, min, Bool, true, false, cond, nat_le, nat_lt, is_some, Option, Some, None, IfSome, IfErr, IsSomeAnd, Result, Ok, Err}
use Rattle.std.specs.IoError.{error_kind}
use Rattle.std.specs.Option.{option_map, option_map_or}
use Rattle.std.specs.declared.io.Error.{Error}
use Rattle.std.proofs.lemmas.Bool.{true≢false, eq-eqb, cases_lt, leb-true, le-ltb, lt-ltb}
use Rattle.std.proofs.lemmas.List.Sums.{fold_push}
use Rattle.std.proofs.lemmas.Option.{none-some, same_Some, slice_get_cases, slice_get-get_or}
use Rattle.instance_core.specs.Visible.{Blob}
use Rattle.server_events.specs.Configs.{ConfigValue}
use Rattle.server_events.specs.Events.{opened, closed}
use Rattle.served_instance.specs.Past.{Past}
use Rattle.served_instance.specs.Connections.{LoneConnection, open_at, open_ones}
use Rattle.served_instance.specs.Lone.{LoneInstance}
use Rattle.served_instance.specs.Refusals.{IsRefusalOutcome, refusal_of}
use Rattle.served_instance.specs.StandsFor.{AreSeen, SeenConnection, ServedState}
use Rattle.served_instance.specs.declared.instance.TheConstants.{CONNECTION_LIMIT}
use Rattle.served_instance.specs.declared.refusal.EventRefusal.{EventRefusal}
use Rattle.served_instance.specs.declared.refusal.EventRefusal.TheVariants.{ConnectionExists, NoMemory, NoSuchConnection, NoSuchInstance, NoSuchJob, TimeWentBack, TookTooMuch, TooManyConnections}
use Rattle.served_instance.proofs.Opens.{first_past, open_at_is}
use Rattle.server_core.specs.Marked.{StandsShortAt}
use Rattle.server_core.specs.StandsFor.{ServerState, StandsAt}
use Rattle.wires.specs.Wires.{is_unready}
use Rattle.serve.specs.declared.carrying.Counting.{Counting}
use Rattle.serve.specs.declared.open_socket.OpenSocket.{OpenSocket}
use Rattle.serve.specs.declared.sockets.Socket.{Socket}
use Rattle.serve.specs.SocketEvents.{SocketEvent, PortEvent, port, failed, accepted, read, written, shut, failure_events, moment_after, moment_of, Adds, AddsAll}
use Rattle.serve.specs.RunEvents.{RunEvent, ordered}
use Rattle.serve.specs.Happenings.{event_told}
use Rattle.serve.specs.Closings.{Client, HasTurnedAway, IsFull, IsSilent, MakesRoom, MayBeShut, not_there, gives_way, own_from, own_past, silence_limit}
use Rattle.serve.specs.KeepsOpen.{HasOpen, IsGoneAt, IsKept, LacksRoom, MayClose, client_at}
use Rattle.serve.specs.KeepsServing.{IsServerAt, IsServing, TakesEvent, most_counted}
use Rattle.serve.specs.Silence.{IsLongestSilent, IsSilentLongerThan, MayMakeRoom}
use Rattle.serve.proofs.Clients.{failed_here, own_more, read_here, written_here}
use Rattle.serve.proofs.Keeps.{Pends, none_by, refused_with, still_lost}
use Rattle.serve.proofs.Numbers.{at}
use Rattle.serve.proofs.Open.{kept_at}

-- ---- what was added

-- it holds of what is known now, if it holds of each list with this behind it
known_then : (P : List SocketEvent → Type 0) (old new : Option (List SocketEvent)) (more : List SocketEvent) → Adds old new more →
    ((h : List SocketEvent) → old ≡ Some h → P (h ++ more)) → IfSome new P
known_then P old new more adds f = elim adds [
  | inl lost ↦ subst (λ (o : Option (List SocketEvent)). IfSome o P) (sym lost) tt
  | inr all ↦ go old all f
]
  where
    go : (o : Option (List SocketEvent)) → AddsAll o new more → ((h : List SocketEvent) → o ≡ Some h → P (h ++ more)) → IfSome new P
    go None is g = subst (λ (n : Option (List SocketEvent)). IfSome n P) (sym is) tt
    go (Some h) is g = subst (λ (n : Option (List SocketEvent)). IfSome n P) (sym is) (g h refl)

of_known : (P : List SocketEvent → Type 0) (o : Option (List SocketEvent)) (h : List SocketEvent) → o ≡ Some h → IfSome o P → P h
of_known P o h is holds = subst (λ (x : Option (List SocketEvent)). IfSome x P) is holds

pub failed_adds : (old new : Option (List SocketEvent)) (a : Socket) (e : Error) (b : Bool) → b ≡ is_unready (error_kind e) → b ≡ false →
    Adds old new (failure_events a e) → Adds old new (failed a.instance a.connection ∷ [])
failed_adds old new a e b is so adds =
    subst (λ (es : List SocketEvent). Adds old new es)
    (ap (λ (t : Bool). cond t [] (failed a.instance a.connection ∷ [])) (sym is ∙ so)) adds

-- ---- a client that is gone

pub read_gone : (old new : Option (List SocketEvent)) (a : Socket) (n : ℕ) (room : List ℕ) → n ≡ 0 →
    Adds old new (port a.instance (read a.connection (take n room)) ∷ []) → IsGoneAt a new
read_gone old new a n room none adds =
    known_then (λ h. (client_at a h).is_gone ≡ true) old new (port a.instance (read a.connection (take n room)) ∷ []) adds
    (λ h is. ap (λ (k : Client). k.is_gone) (read_here a h (take n room))
    ∙ eq-eqb (length (take n room)) 0 (ap (λ (k : ℕ). length (take k room)) none))

pub failed_gone : (old new : Option (List SocketEvent)) (a : Socket) → Adds old new (failed a.instance a.connection ∷ []) → IsGoneAt a new
failed_gone old new a adds =
    known_then (λ h. (client_at a h).is_gone ≡ true) old new (failed a.instance a.connection ∷ []) adds
    (λ h is. ap (λ (k : Client). k.is_gone) (failed_here a h))

pub written_gone : (old new : Option (List SocketEvent)) (a : Socket) (bytes : List ℕ) →
    Adds old new (port a.instance (written a.connection bytes) ∷ []) → IsGoneAt a old → IsGoneAt a new
written_gone old new a bytes adds was =
    known_then (λ h. (client_at a h).is_gone ≡ true) old new (port a.instance (written a.connection bytes) ∷ []) adds
    (λ h is. ap (λ (k : Client). k.is_gone) (written_here a h bytes) ∙ of_known (λ g. (client_at a g).is_gone ≡ true) old h is was)

-- ---- what may be closed

-- a reason of each state that the instance may have come to
may_by : (a : Socket) (server : ServerState) (known : Option (List SocketEvent)) (runs : Option (List RunEvent)) →
    ((h : List SocketEvent) → known ≡ Some h → (l : LoneInstance) → StandsAt a.instance server.instances l →
    MayBeShut (moment_of h) a.connection (own_past a.instance h) l) → MayClose a server known runs
may_by a server None runs f = tt
may_by a server (Some h) None f = tt
may_by a server (Some h) (Some r) f = λ l stands. f h refl l stands

none_may_close : (a : Socket) (server : ServerState) (known : Option (List SocketEvent)) (runs : Option (List RunEvent)) →
    ((l : LoneInstance) → StandsAt a.instance server.instances l → open_at a.connection l.connections ≡ None) → MayClose a server known runs
none_may_close a server known runs none = may_by a server known runs (λ h is l stands. not_there (none l stands))

-- ---- what stands for one instance alone

one_none : (x y : Bool) (p q : Past) (r s : Option Past) → x ≡ y → (r ≡ None → s ≡ None) → cond x (Some p) r ≡ None →
    cond y (Some q) s ≡ None
one_none true y p q r s same rest is = absurd (none-some p (sym is))
one_none false true p q r s same rest is = absurd (true≢false (sym same))
one_none false false p q r s same rest is = rest is

-- what is kept says whether there is a connection of a number
none_seen : (c : ℕ) (vs : List SeenConnection) (ks ls : List LoneConnection) → AreSeen vs ks → AreSeen vs ls → first_past c ks ≡ None →
    first_past c ls ≡ None
none_seen c [] [] [] a b is = refl
none_seen c [] [] (l ∷ ls) a b is = absurd b
none_seen c [] (k ∷ ks) ls a b is = absurd a
none_seen c (v ∷ vs) [] ls a b is = absurd a
none_seen c (v ∷ vs) (k ∷ ks) [] a b is = absurd b
none_seen c (v ∷ vs) (k ∷ ks) (l ∷ ls) a b is =
    one_none (k.number == c) (l.number == c) k.past l.past (first_past c ks) (first_past c ls) (ap (λ (n : ℕ). n == c) (sym a.0 ∙ b.0))
    (none_seen c vs ks ls a.2 b.2) is

none_alike : (i c : ℕ) (vs : List ServedState) (k l : LoneInstance) → StandsAt i vs k → StandsAt i vs l → open_at c k.connections ≡ None →
    open_at c l.connections ≡ None
none_alike i c vs k l a b is =
    let same : b.0 ≡ a.0 = same_Some b.0 a.0 (sym b.1 ∙ a.1) in
    open_at_is c l.connections
    ∙ none_seen c a.0.connections (open_ones k.connections) (open_ones l.connections) a.2.connections
    (subst (λ (v : ServedState). AreSeen v.connections (open_ones l.connections)) same b.2.connections)
    (sym (open_at_is c k.connections) ∙ is)

-- each instance that is served stands for something
pub there_stands : (configs : List ConfigValue) (s : List SocketEvent) (r : List RunEvent) (server : Counting) (m i : ℕ) →
    i < length configs → IsServerAt configs s r server m → (l : LoneInstance) × StandsAt i server.server.instances l
there_stands configs s r server m i lt at = elim (slice_get_cases at.all.ls i).1 [
  | inl t ↦ (t.0, (at.all.each i t.0 t.2).stands)
  | inr none ↦ (let few = none.0 in let count = at.all.count in absurd (omega (arith, lt, few, count)))
]

-- ---- events that are refused

not_for_memory : (A : Type 0) (r : EventRefusal) (o : Option EventRefusal) (x : EventRefusal) → o ≡ Some x →
    IsRefusalOutcome (refused_with A r) o → r ≢ NoMemory
not_for_memory A r o x is out = λ same.
    absurd (none-some x (sym (subst (λ (y : EventRefusal). IsRefusalOutcome (refused_with A y) o) same out) ∙ is))

unchanged : {A : Type 0} (result : Result A EventRefusal) (o : Option EventRefusal) (x : EventRefusal) (server next : ServerState) →
    o ≡ Some x → IsRefusalOutcome result o → IfErr result (λ r. r ≢ NoMemory → next ≡ server) → next ≡ server
unchanged (Ok a) o x server next is out refused = absurd (none-some x (sym out ∙ is))
unchanged {A} (Err r) o x server next is out refused = refused (not_for_memory A r o x is out)

-- a connection that is not there is closed in vain
no_such : (b : Bool) (o : Option Past) → o ≡ None →
    (x : EventRefusal) × (cond b (Some TimeWentBack) (option_map_or (λ (p : Past). None) o (Some NoSuchConnection)) ≡ Some x)
no_such true o is = (TimeWentBack, refl)
no_such false o is = (NoSuchConnection, ap (λ (q : Option Past). option_map_or (λ (p : Past). None) q (Some NoSuchConnection)) is)

pub told_in_vain : {A : Type 0} (result : Result A EventRefusal) (m c : ℕ) (server next : ServerState) (l : LoneInstance) →
    open_at c l.connections ≡ None → IsRefusalOutcome result (refusal_of (record { moment = m; what = closed c }) l) →
    IfErr result (λ r. r ≢ NoMemory → next ≡ server) → next ≡ server
told_in_vain result m c server next l none out refused =
    let why = no_such (nat_lt m l.state.moment) (open_at c l.connections) none in
    unchanged result (refusal_of (record { moment = m; what = closed c }) l) why.0 server next why.1 out refused

-- a new one for which there is no room
too_many : (a b c : Bool) → cond a (Some TimeWentBack) (cond b (Some ConnectionExists) (cond c (Some TooManyConnections) None))
    ≡ Some TooManyConnections → c ≡ true
too_many true b c is = cc
too_many false true c is = cc
too_many false false true is = refl
too_many false false false is = cc

full_by : (m c : ℕ) (l : LoneInstance) → refusal_of (record { moment = m; what = opened c }) l ≡ Some TooManyConnections → IsFull l
full_by m c l is =
    let n : ℕ = length (open_ones l.connections) in
    leb-true CONNECTION_LIMIT n (too_many (nat_lt m l.state.moment) (is_some (open_at c l.connections)) (nat_le CONNECTION_LIMIT n) is)

-- ---- a client that was refused

-- what is known of it, where it was accepted and the server told
pub record WasRefused (configs : List ConfigValue) (old new : Option (List SocketEvent)) (was is : Option (List RunEvent))
    (server next : Counting) (m : ℕ) (a : Socket) (parent : List Blob) (A : Type 0) (r : EventRefusal) : Type 0 where
  pub one : a.instance < length configs
  pub serving : IsServing configs old was server m
  pub pends : Pends a.instance a.connection server.server.instances None
  pub adds : Adds old new (port a.instance (accepted a.connection) ∷ [])
  pub takes : TakesEvent (event_told m a.instance (opened a.connection)) server next was is
  pub outcome : (l : LoneInstance) → StandsAt a.instance server.server.instances l →
      IsRefusalOutcome (refused_with A r) (refusal_of (record { moment = m; what = opened a.connection }) l)
  pub refused : r ≢ NoMemory → next.server ≡ server.server
  pub short : refused_with A r ≡ Err NoMemory → (l : LoneInstance) → StandsAt a.instance server.server.instances l →
      StandsShortAt a.instance parent (record { moment = m; what = opened a.connection }) l next.server.instances

lost_runs : (a : Socket) (server : ServerState) (known : Option (List SocketEvent)) (runs : Option (List RunEvent)) → runs ≡ None →
    MayClose a server known runs
lost_runs a server None runs lost = tt
lost_runs a server (Some h) runs lost =
    subst (λ (o : Option (List RunEvent)). MayClose a server (Some h) o) (sym lost) tt

lost_sockets : (old new : Option (List SocketEvent)) (more : List SocketEvent) → old ≡ None → Adds old new more → new ≡ None
lost_sockets old new more lost adds = elim adds [
  | inl none ↦ none
  | inr all ↦ all ∙ ap (option_map (λ (h : List SocketEvent). h ++ more)) lost
]

memory_cases : (r : EventRefusal) → (r ≡ NoMemory) ⊎ (r ≢ NoMemory)
memory_cases NoMemory = inl refl
memory_cases NoSuchInstance = inr (λ is. cc)
memory_cases NoSuchConnection = inr (λ is. cc)
memory_cases ConnectionExists = inr (λ is. cc)
memory_cases TooManyConnections = inr (λ is. cc)
memory_cases NoSuchJob = inr (λ is. cc)
memory_cases TimeWentBack = inr (λ is. cc)
memory_cases TookTooMuch = inr (λ is. cc)

option_cases : {X : Type 0} (o : Option X) → (o ≡ None) ⊎ ((x : X) × (o ≡ Some x))
option_cases None = inl refl
option_cases (Some x) = inr (x, refl)

module _ (configs : List ConfigValue) (old new : Option (List SocketEvent)) (was is : Option (List RunEvent)) (server next : Counting)
    (m : ℕ) (a : Socket) (parent : List Blob) (A : Type 0) (r : EventRefusal)
    (w : WasRefused configs old new was is server next m a parent A r) where
  served : (s : List SocketEvent) (t : List RunEvent) → old ≡ Some s → was ≡ Some t → IsServerAt configs s t server m
  served s t is_s is_t =
      subst (λ (o : Option (List RunEvent)). IsServing configs (Some s) o server m) is_t
      (subst (λ (o : Option (List SocketEvent)). IsServing configs o was server m) is_s w.serving)

  -- before it was told
  none_before : (l : LoneInstance) → StandsAt a.instance server.server.instances l → open_at a.connection l.connections ≡ None
  none_before l stands = none_by (open_at a.connection l.connections) (w.pends l stands)

  -- and now
  none_now : (l0 : LoneInstance) → StandsAt a.instance server.server.instances l0 → (l : LoneInstance) →
      StandsAt a.instance next.server.instances l → open_at a.connection l.connections ≡ None
  none_now l0 stood l stands = elim (memory_cases r) [
    | inl memory ↦
        let t = w.short (ap (refused_with A) memory) l0 stood in
        none_alike a.instance a.connection next.server.instances t.left l t.stands stands
        (ap (λ (k : LoneInstance). open_at a.connection k.connections) t.short ∙ none_before l0 stood)
    | inr other ↦ none_before l (subst (λ (v : ServerState). StandsAt a.instance v.instances l) (w.refused other) stands)
  ]

  pub refused_may_close : MayClose a next.server new is
  refused_may_close = elim (option_cases old) [
    | inl lost ↦ subst (λ (o : Option (List SocketEvent)). MayClose a next.server o is)
        (sym (lost_sockets old new (port a.instance (accepted a.connection) ∷ []) lost w.adds)) tt
    | inr s ↦ elim (option_cases was) [
      | inl lost ↦ lost_runs a next.server new is (still_lost was is (map (ordered a.instance) w.takes.orders) lost w.takes.carried)
      | inr t ↦
          let there = there_stands configs s.0 t.0 server m a.instance w.one (served s.0 t.0 s.1 t.1) in
          none_may_close a next.server new is (λ l stands. none_now there.0 there.1 l stands)
    ]
  ]

-- ---- a client for which there was no room

own_one : (i m : ℕ) (p : PortEvent) → own_from i m (port i p ∷ []) ≡ (m, port i p) ∷ []
own_one i m p = ap (λ (b : Bool). cond b ((m, port i p) ∷ []) []) (eq-eqb i i refl)

-- it came last
record CameLast (i c : ℕ) (h : List SocketEvent) : Type 0 where
  earlier : List (ℕ × SocketEvent)
  last : own_past i h ≡ earlier ++ (moment_of h, port i (accepted c)) ∷ []

came_last : (i c : ℕ) (h : List SocketEvent) → CameLast i c (h ++ port i (accepted c) ∷ [])
came_last i c h =
    let x : SocketEvent = port i (accepted c) in
    record {
      earlier = own_past i h;
      last = own_more i 0 h x ∙ ap (λ (e : List (ℕ × SocketEvent)). own_past i h ++ e) (own_one i (moment_of h) (accepted c))
          ∙ ap (λ (n : ℕ). own_past i h ++ (n, x) ∷ []) (sym (fold_push moment_after 0 h x));
    }

-- .. and was closed
turned_away : (i c : ℕ) (h : List SocketEvent) → CameLast i c h → HasTurnedAway (own_past i (h ++ port i (shut c) ∷ []))
turned_away i c h came =
    let n : ℕ × SocketEvent = (moment_of h, port i (accepted c)) in
    let x : SocketEvent = port i (shut c) in
    record {
      earlier = came.earlier;
      moment = moment_of h;
      instance = i;
      connection = c;
      last = own_more i 0 h x
          ∙ ap (λ (e : List (ℕ × SocketEvent)). e ++ own_from i (moment_of h) (x ∷ [])) came.last
          ∙ ap (λ (e : List (ℕ × SocketEvent)). (came.earlier ++ n ∷ []) ++ e) (own_one i (moment_of h) (shut c))
          ∙ append_assoc came.earlier (n ∷ []) ((moment_of h, x) ∷ []);
    }

some_runs : (o : Option (List RunEvent)) (P : Type 0) → P → IfSome o (λ r. P)
some_runs None P so = tt
some_runs (Some r) P so = so

module _ (configs : List ConfigValue) (old new last : Option (List SocketEvent)) (was is at_last : Option (List RunEvent))
    (server next then : Counting) (m : ℕ) (a : Socket) (parent : List Blob) (A : Type 0) (r : EventRefusal)
    (w : WasRefused configs old new was is server next m a parent A r) where
  abbrev Room : Option (List SocketEvent) → Option (List RunEvent) → Type 0
  Room known runs = LacksRoom a.instance then.server known runs

  lost_room : (known : Option (List SocketEvent)) (runs : Option (List RunEvent)) → runs ≡ None → Room known runs
  lost_room None runs lost = tt
  lost_room (Some h) runs lost = subst (λ (o : Option (List RunEvent)). Room (Some h) o) (sym lost) tt

  known_room : (l0 : LoneInstance) → StandsAt a.instance server.server.instances l0 → r ≡ TooManyConnections →
      Adds new last (port a.instance (shut a.connection) ∷ []) →
      ((l : LoneInstance) → StandsAt a.instance next.server.instances l → open_at a.connection l.connections ≡ None →
      then.server ≡ next.server) → Room last at_last
  known_room l0 stood many adds in_vain =
      let c : ℕ = a.connection in
      let i : ℕ = a.instance in
      let came : IfSome new (λ g. CameLast i c g) =
      known_then (λ g. CameLast i c g) old new (port i (accepted c) ∷ []) w.adds (λ h is. came_last i c h) in
      let same : next.server ≡ server.server = w.refused (λ memory. let clash : TooManyConnections ≡ NoMemory = sym many ∙ memory in cc) in
      let still : then.server ≡ next.server =
      in_vain l0 (subst (λ (v : ServerState). StandsAt i v.instances l0) (sym same) stood)
      (none_by (open_at c l0.connections) (w.pends l0 stood)) in
      let full : (l : LoneInstance) → StandsAt i then.server.instances l → IsFull l = λ l stands.
      full_by m c l (subst (λ (x : EventRefusal). IsRefusalOutcome (refused_with A x)
      (refusal_of (record { moment = m; what = opened c }) l)) many
      (w.outcome l (subst (λ (v : ServerState). StandsAt i v.instances l) (still ∙ same) stands))) in
      known_then (λ h. IfSome at_last (λ r. HasTurnedAway (own_past i h)
      × ((l : LoneInstance) → StandsAt i then.server.instances l → IsFull l))) new last (port i (shut c) ∷ []) adds
      (λ h is. some_runs at_last (HasTurnedAway (own_past i (h ++ port i (shut c) ∷ []))
      × ((l : LoneInstance) → StandsAt i then.server.instances l → IsFull l))
      (turned_away i c h (of_known (λ g. CameLast i c g) new h is came), full))

  pub lacks_room : r ≡ TooManyConnections → Adds new last (port a.instance (shut a.connection) ∷ []) → (is ≡ None → at_last ≡ None) →
      ((l : LoneInstance) → StandsAt a.instance next.server.instances l → open_at a.connection l.connections ≡ None →
      then.server ≡ next.server) → Room last at_last
  lacks_room many adds unknown in_vain = elim (option_cases old) [
    | inl lost ↦ subst (λ (o : Option (List SocketEvent)). Room o at_last)
        (sym (lost_sockets new last (port a.instance (shut a.connection) ∷ [])
        (lost_sockets old new (port a.instance (accepted a.connection) ∷ []) lost w.adds) adds)) tt
    | inr s ↦ elim (option_cases was) [
      | inl lost ↦ lost_room last at_last (unknown (still_lost was is (map (ordered a.instance) w.takes.orders) lost w.takes.carried))
      | inr t ↦
          let there = there_stands configs s.0 t.0 server m a.instance w.one
          (subst (λ (o : Option (List RunEvent)). IsServing configs (Some s.0) o server m) t.1
          (subst (λ (o : Option (List SocketEvent)). IsServing configs o was server m) s.1 w.serving)) in
          known_room there.0 there.1 many adds in_vain
    ]
  ]

-- ---- who makes room

lt_capped : (r k : ℕ) → 24 ≤ k → nat_lt (min r k) 24 ≡ nat_lt r 24
lt_capped r k big = elim (cases_lt r 24) [
  | inl lt ↦ lt-ltb (min r k) 24 (omega (arith, lt)) ∙ sym (lt-ltb r 24 lt)
  | inr le ↦ le-ltb (min r k) 24 (omega (arith, le, big)) ∙ sym (le-ltb r 24 le)
]

silent_by : (m n : ℕ) (s : OpenSocket) (h : List SocketEvent) → IsKept h s → m ≡ n → silence_limit s.received ≤ m - s.heard →
    IsSilent n (client_at s.socket h)
silent_by m n s h kept same le =
    let k : Client = client_at s.socket h in
    let limit : silence_limit s.received ≡ silence_limit k.received =
    ap silence_limit kept.received ∙ ap (λ (b : Bool). cond b 10000 60000) (lt_capped k.received most_counted (omega arith)) in
    subst (λ (x : ℕ). silence_limit k.received ≤ x - k.heard) same
    (subst (λ (x : ℕ). silence_limit k.received ≤ m - x) kept.heard (subst (λ (x : ℕ). x ≤ m - s.heard) limit le))

pub room_may_close : (configs : List ConfigValue) (known : Option (List SocketEvent)) (runs : Option (List RunEvent)) (server : Counting)
    (m i count : ℕ) (cs : List OpenSocket) (next : Option ℕ) (k : ℕ) (c : OpenSocket) → i < length configs →
    IsServing configs known runs server m → LacksRoom i server.server known runs → HasOpen count cs next m known → k < length cs →
    c ≡ get_or cs k c → ((l : LoneInstance) → StandsAt i server.server.instances l → IsLongestSilent i m l cs (Some k)) →
    MayClose c.socket server.server known runs
room_may_close configs None runs server m i count cs next k c one at lacks has lt is longest = tt
room_may_close configs (Some h) None server m i count cs next k c one at lacks has lt is longest = tt
room_may_close configs (Some h) (Some r) server m i count cs next k c one at lacks has lt is longest = λ l stands.
    let may : (n : LoneInstance) → StandsAt i server.server.instances n → MayMakeRoom i m n c = λ n here.
    subst (λ (s : OpenSocket). MayMakeRoom i m n s) (sym is)
    (subst (λ (o : Option OpenSocket). IsSomeAnd o (λ s. MayMakeRoom i m n s × IsSilentLongerThan i m n cs k s))
    (slice_get-get_or cs k c lt) (longest n here)).0 in
    let there = there_stands configs h r server m i one at in
    let own : c.socket.instance ≡ i = (may there.0 there.1).0 in
    let here : StandsAt i server.server.instances l = subst (λ (x : ℕ). StandsAt x server.server.instances l) own stands in
    let room : MakesRoom (moment_of h) c.socket.connection (own_past c.socket.instance h) l = record {
      full = lacks.1 l here;
      wanted = subst (λ (x : ℕ). HasTurnedAway (own_past x h)) (sym own) lacks.0;
      silent = silent_by m (moment_of h) c h (kept_at count cs next m h k c lt is has) has.moment (may l here).1;
      idle = (may l here).2;
    } in
    gives_way room
