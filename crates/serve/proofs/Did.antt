-- A run of each instance, beside what the instances came to together.
use Rattle.std.proofs.Common.{◌≡◌, ◌≢◌, ℕ, ◌+◌, List, [], ◌∷◌, ◌++◌, map, length, refl, ap, ◌∙◌, sym, subst, arith, inl, inr, append-nil, append_assoc}
use Rattle.std.specs.Prelude.{◌==◌, Bool, true, false, cond, fold, slice_set, Option, Some, None, IfSome, IsSomeAnd}
use Rattle.std.specs.Option.{option_map, option_map_or, option_and_then}
use Rattle.std.specs.List.{AllByRecursion, cons_option, filter_map, slice_get}
use Rattle.std.specs.Io.{StartsWith}
use Rattle.std.proofs.lemmas.Bool.{cases_eq, eq-eqb, ne_eqb}
use Rattle.std.proofs.lemmas.List.{map-append, map-set}
use Rattle.std.proofs.lemmas.List.Elements.{filter_map-append}
use Rattle.std.proofs.lemmas.Option.{none-some, same_Some, slice_get-map}
use Rattle.execution.specs.Orders.{OrderValue}
use Rattle.instance_core.specs.Visible.{Blob}
use Rattle.run_calls.specs.Outcomes.{OutcomeValue}
use Rattle.server_events.specs.Configs.{ConfigValue, parent_of, parents_of}
use Rattle.server_events.specs.Faults.{AreParents}
use Rattle.server_events.specs.Events.{EventValue, LoneEvent, opened, received, took, closed, tick, ended}
use Rattle.served_instance.specs.declared.refusal.EventRefusal.{EventRefusal}
use Rattle.served_instance.specs.declared.refusal.EventRefusal.TheVariants.{NoMemory}
use Rattle.served_instance.specs.Bytes.{pending_bytes}
use Rattle.served_instance.specs.Past.{Past}
use Rattle.served_instance.specs.Connections.{LoneConnection, open_at, with_closed, all_closed}
use Rattle.served_instance.specs.Lone.{LoneInstance, after_event}
use Rattle.served_instance.specs.Refusals.{refusal_of, lone_orders, lone_step, after_event_unless}
use Rattle.served_instance.specs.Short.{Short}
use Rattle.served_instance.proofs.Growth.{connections_after, accepted_more}
use Rattle.server_core.specs.Families.{Family, FamilyEvent, own_event as of_own, parent_event as of_parent, family_in, family_event}
use Rattle.server_core.specs.LoneOutput.{lone_output}
use Rattle.server_core.specs.Marked.{MarkedEvent, event_of, IsRunStep, IsParentStep, IsFamilyStep, IsRun}
use Rattle.server_core.specs.Runs.{Run, FamilyRun, new_run, orders_at, run_step, new_family_run, texts_of_parent, family_step, output_of_run}
use Rattle.serve.specs.SocketEvents.{PortEvent, SocketEvent, clock, port, failed, accepted, read, written, shut, what_of}
use Rattle.serve.specs.RunEvents.{RunEvent, ordered, lent, gave}
use Rattle.serve.specs.Happenings.{MarkedHappening, at_sockets, told, at_runs, cuts, moment_then, sockets_then, event_told, event_then}
use Rattle.serve.specs.Served.{AtWork, with_orders, texts_beside, MayStep, IsFaithful, IsTaken, AreFaithful, Happens, MayServe, IsServed, begun}
use Rattle.serve.specs.Did.{marked_at, GoesOn, order_of, carried_by, Did, beside, AllDid, marked_from, with_written, written_on, written_by, AreFronts}
use Rattle.serve.proofs.Keeps.{set_here, set_other}
use Rattle.serve.proofs.Written.{Fits, fits_grown, fits_closed, fits_all_closed, fits_refused, fits_opened, fits_taken, fits_fronts}

abbrev Written : Type 0
Written = ℕ × List ℕ

off : {A : Type 0} (b : Bool) (x y : A) → b ≡ false → cond b x y ≡ y
off b x y is = ap (λ (t : Bool). cond t x y) is

on : {A : Type 0} (b : Bool) (x y : A) → b ≡ true → cond b x y ≡ x
on b x y is = ap (λ (t : Bool). cond t x y) is

-- ---- which event of the family it is

own_family : (i : ℕ) (p : Option ℕ) (e : EventValue) → e.instance ≡ i → family_event i p e ≡ of_own e.lone ∷ []
own_family i p e same = on (e.instance == i) (of_own e.lone ∷ [])
    (cond (option_map_or (λ n. e.instance == n) p false) (of_parent e.lone ∷ []) []) (eq-eqb e.instance i same)

parent_family : (i n : ℕ) (e : EventValue) → e.instance ≢ i → e.instance ≡ n → family_event i (Some n) e ≡ of_parent e.lone ∷ []
parent_family i n e ne same =
    off (e.instance == i) (of_own e.lone ∷ []) (cond (e.instance == n) (of_parent e.lone ∷ []) []) (ne_eqb e.instance i ne)
    ∙ on (e.instance == n) (of_parent e.lone ∷ []) [] (eq-eqb e.instance n same)

no_family : (i n : ℕ) (e : EventValue) → e.instance ≢ i → e.instance ≢ n → family_event i (Some n) e ≡ []
no_family i n e ne other =
    off (e.instance == i) (of_own e.lone ∷ []) (cond (e.instance == n) (of_parent e.lone ∷ []) []) (ne_eqb e.instance i ne)
    ∙ off (e.instance == n) (of_parent e.lone ∷ []) [] (ne_eqb e.instance n other)

lonely : (i : ℕ) (e : EventValue) → e.instance ≢ i → family_event i None e ≡ []
lonely i e ne = off (e.instance == i) (of_own e.lone ∷ []) [] (ne_eqb e.instance i ne)

abbrev run_of_both : Run → Option Run → FamilyRun
run_of_both own parent = record { own = own; parent = parent }

-- ---- one step of a run

abbrev lone_of : Run → LoneInstance
lone_of r = r.lone

abbrev plain_orders : Run → List OrderValue
plain_orders r = map (λ (o : ℕ × OrderValue). o.1) r.orders

record IsOwnStep (parent : List Blob) (e : LoneEvent) (b : Bool) (r : Run) (k : LoneInstance) (orders : List OrderValue) : Type 0 where
  run : Run
  step : IsRunStep parent r e b run
  lone : run.lone ≡ k
  orders_so : plain_orders run ≡ plain_orders r ++ orders

placed : (n : ℕ) (os : List OrderValue) → map (λ (o : ℕ × OrderValue). o.1) (orders_at n os) ≡ os
placed n [] = refl
placed n (o ∷ os) = ap (λ (xs : List OrderValue). o ∷ xs) (placed n os)

abbrev short_run : Run → LoneInstance → Run
short_run r m = record { lone = m; count = r.count + 1; orders = r.orders; refusals = r.refusals ++ (r.count + 1, NoMemory) ∷ [] }

own_step : (parent : List Blob) (e : LoneEvent) (b : Bool) (r : Run) (k : LoneInstance) (orders : List OrderValue) →
    MayStep parent e b r.lone k orders → IsOwnStep parent e b r k orders
own_step parent e false r k orders alone = record {
  run = run_step parent r e;
  step = refl;
  lone = sym alone.0;
  orders_so = map-append (λ (o : ℕ × OrderValue). o.1) r.orders (orders_at (r.count + 1) (lone_orders parent e r.lone))
      ∙ ap (λ (xs : List OrderValue). plain_orders r ++ xs) (placed (r.count + 1) (lone_orders parent e r.lone))
      ∙ ap (λ (xs : List OrderValue). plain_orders r ++ xs) (sym alone.1);
}
own_step parent e true r k orders short = record {
  run = short_run r k;
  step = record { accepted = short.0; lone = short.1; count = refl; orders = refl; refusals = refl };
  lone = refl;
  orders_so = sym (append-nil (plain_orders r)) ∙ ap (λ (xs : List OrderValue). plain_orders r ++ xs) (sym short.2);
}

-- ---- runs beside what the instances came to

-- which of these is an order of instance i
abbrev given_by : ℕ → RunEvent → Option OrderValue
given_by i r = order_of i (at_runs r, false)

abbrev given : ℕ → List RunEvent → List OrderValue
given i rs = filter_map (given_by i) rs

own_given : (j : ℕ) (os : List OrderValue) → given j (map (ordered j) os) ≡ os
own_given j [] = refl
own_given j (o ∷ os) =
    ap (λ (x : Option OrderValue). cons_option x (given j (map (ordered j) os))) (on (j == j) (Some o) None (eq-eqb j j refl))
    ∙ ap (λ (xs : List OrderValue). o ∷ xs) (own_given j os)

none_given : (i j : ℕ) (os : List OrderValue) → i ≢ j → given i (map (ordered j) os) ≡ []
none_given i j [] ne = refl
none_given i j (o ∷ os) ne =
    ap (λ (x : Option OrderValue). cons_option x (given i (map (ordered j) os)))
    (off (j == i) (Some o) None (ne_eqb j i (λ same. ne (sym same))))
    ∙ none_given i j os ne

-- each instance is where its run is, and was given these orders before those that are left
record IsAt (w : AtWork) (rs : List Run) (os : ℕ → List OrderValue) : Type 0 where
  lones : map lone_of rs ≡ w.instances
  orders_so : (i : ℕ) (r : Run) → slice_get rs i ≡ Some r → os i ++ given i w.orders ≡ plain_orders r

run_at : (rs : List Run) (ls : List LoneInstance) (i : ℕ) (l : LoneInstance) → map lone_of rs ≡ ls → slice_get ls i ≡ Some l →
    (r : Run) × (slice_get rs i ≡ Some r) × (r.lone ≡ l)
run_at rs ls i l lones at = go (slice_get rs i) refl
    (sym (slice_get-map lone_of rs i) ∙ ap (λ (xs : List LoneInstance). slice_get xs i) lones ∙ at)
  where
    go : (o : Option Run) → slice_get rs i ≡ o → option_map lone_of (slice_get rs i) ≡ Some l →
        (r : Run) × (slice_get rs i ≡ Some r) × (r.lone ≡ l)
    go None is h = absurd (none-some l (sym (ap (option_map lone_of) is) ∙ h))
    go (Some r) is h = (r, is, same_Some r.lone l (sym (ap (option_map lone_of) is) ∙ h))

lone_at : (rs : List Run) (ls : List LoneInstance) (i : ℕ) (r : Run) → map lone_of rs ≡ ls → slice_get rs i ≡ Some r →
    slice_get ls i ≡ Some r.lone
lone_at rs ls i r lones at = ap (λ (xs : List LoneInstance). slice_get xs i) (sym lones) ∙ slice_get-map lone_of rs i
    ∙ ap (option_map lone_of) at

-- one happening leads each run on
record HasLed (ps : List (Option ℕ)) (m : ℕ) (x : MarkedHappening) (v : AtWork) (rs : List Run) (os : ℕ → List OrderValue) : Type 0 where
  runs : List Run
  at : IsAt v runs (λ i. os i ++ carried_by i (x ∷ []))
  each : (i : ℕ) (p : Option ℕ) (r : Run) → slice_get ps i ≡ Some p → slice_get rs i ≡ Some r →
      (q : Run) × (slice_get runs i ≡ Some q) × IsFaithful i m r.lone x.0 × IsRun (beside rs p r) (marked_at i p m x) (beside runs p q)

-- what is an event of nobody leaves them as they are
kept : (ps : List (Option ℕ)) (m : ℕ) (x : MarkedHappening) (w v : AtWork) (rs : List Run) (os : ℕ → List OrderValue) →
    event_then m x.0 ≡ None → ((i : ℕ) → carried_by i (x ∷ []) ≡ []) → AreFaithful m w.instances x.0 → w.orders ≡ [] →
    v ≡ with_orders w.instances [] → IsAt w rs os → HasLed ps m x v rs os
kept ps m x w v rs os none no_order faithful empty same at = record {
  runs = rs;
  at = subst (λ (k : AtWork). IsAt k rs (λ i. os i ++ carried_by i (x ∷ []))) (sym same) (record {
    lones = at.lones;
    orders_so = λ i r is.
        append-nil (os i ++ carried_by i (x ∷ []))
        ∙ ap (λ (xs : List OrderValue). os i ++ xs) (no_order i)
        ∙ ap (λ (xs : List RunEvent). os i ++ given i xs) (sym empty) ∙ at.orders_so i r is;
  });
  each = λ i p r at_p at_r. (
    r,
    at_r,
    faithful i r.lone (lone_at rs w.instances i r at.lones at_r),
    subst (λ (o : Option EventValue). IsRun (beside rs p r) (map (λ (e : FamilyEvent). (e, x.1)) (option_map_or (family_event i p) o []))
        (beside rs p r)) (sym none) refl,
  );
}

-- an order is carried out
order_led : (ps : List (Option ℕ)) (m j : ℕ) (o : OrderValue) (b : Bool) (w v : AtWork) (rs : List Run) (os : ℕ → List OrderValue) →
    w ≡ with_orders v.instances (ordered j o ∷ v.orders) → IsAt w rs os → HasLed ps m (at_runs (ordered j o), b) v rs os
order_led ps m j o b w v rs os is at = record {
  runs = rs;
  at = record {
    lones = at.lones ∙ ap (λ (k : AtWork). k.instances) is;
    orders_so = λ i r there.
        append_assoc (os i) (given i (ordered j o ∷ [])) (given i v.orders)
        ∙ ap (λ (xs : List OrderValue). os i ++ xs) (sym (filter_map-append (given_by i) (ordered j o ∷ []) v.orders))
        ∙ ap (λ (k : AtWork). os i ++ given i k.orders) (sym is) ∙ at.orders_so i r there;
  };
  each = λ i p r at_p at_r. (r, at_r, tt, refl);
}

-- ---- an event

-- what the parent has is what its run has
visible_of : (o : Option Run) → option_map_or (λ (l : LoneInstance). l.state.visible) (option_map lone_of o) [] ≡ texts_of_parent o
visible_of None = refl
visible_of (Some r) = refl

texts_same : (ps : List (Option ℕ)) (j : ℕ) (p : Option ℕ) (rs : List Run) (ls : List LoneInstance) → slice_get ps j ≡ Some p →
    map lone_of rs ≡ ls → texts_beside j ps ls ≡ texts_of_parent (option_and_then (slice_get rs) p)
texts_same ps j p rs ls at lones =
    ap (λ (o : Option (Option ℕ)). option_map_or (λ (l : LoneInstance). l.state.visible)
    (option_and_then (slice_get ls) (option_and_then (λ (x : Option ℕ). x) o)) []) at ∙ go p
  where
    go : (q : Option ℕ) → option_map_or (λ (l : LoneInstance). l.state.visible) (option_and_then (slice_get ls) q) []
        ≡ texts_of_parent (option_and_then (slice_get rs) q)
    go None = refl
    go (Some n) =
        ap (λ (xs : List LoneInstance). option_map_or (λ (l : LoneInstance). l.state.visible) (slice_get xs n) []) (sym lones)
        ∙ ap (λ (o : Option LoneInstance). option_map_or (λ (l : LoneInstance). l.state.visible) o []) (slice_get-map lone_of rs n)
        ∙ visible_of (slice_get rs n)

-- a run whose parent's did not move
same_beside : (ps : List (Option ℕ)) (rs : List Run) (i j : ℕ) (p : Option ℕ) (r q : Run) → IfSome p (λ n. n ≢ j) →
    beside (slice_set rs j q) p r ≡ beside rs p r
same_beside ps rs i j None r q ne = refl
same_beside ps rs i j (Some n) r q ne = ap (λ (o : Option Run). run_of_both r o) (set_other rs j n q ne)

abbrev marked : Bool → List FamilyEvent → List MarkedEvent
marked b es = map (λ (e : FamilyEvent). (e, b)) es

-- the event of instance j, whose run was r and is q now, is taken by each run
record IsLedBy (ps : List (Option ℕ)) (rs qs : List Run) (e : EventValue) (b : Bool) (i : ℕ) (p : Option ℕ) (r : Run) : Type 0 where
  now : Run
  there : slice_get qs i ≡ Some now
  ran : IsRun (beside rs p r) (marked b (family_event i p e)) (beside qs p now)

own_led : (ps : List (Option ℕ)) (rs : List Run) (e : EventValue) (b : Bool) (ls : List LoneInstance) (p : Option ℕ) (r q : Run) →
    AreParents ps → map lone_of rs ≡ ls → slice_get ps e.instance ≡ Some p → slice_get rs e.instance ≡ Some r →
    IsRunStep (texts_beside e.instance ps ls) r e.lone b q → IsLedBy ps rs (slice_set rs e.instance q) e b e.instance p r
own_led ps rs e b ls p r q good lones at_p at_r step =
    let j : ℕ = e.instance in
    let qs : List Run = slice_set rs j q in
    record {
      now = q;
      there = set_here rs j q r at_r;
      ran = subst (λ (es : List FamilyEvent). IsRun (beside rs p r) (marked b es) (beside qs p q)) (sym (own_family j p e refl)) (
        beside qs p q,
        (
          subst (λ (ts : List Blob). IsRunStep ts r e.lone b q)
              (texts_same ps j p rs ls at_p lones) step,
          parent_same p at_p,
        ),
        refl,
      );
    }
  where
    parent_same : (o : Option ℕ) → slice_get ps e.instance ≡ Some o →
        option_and_then (slice_get (slice_set rs e.instance q)) o ≡ option_and_then (slice_get rs) o
    parent_same None at = refl
    parent_same (Some n) at = set_other rs e.instance n q (good e.instance n at).another

parent_led : (ps : List (Option ℕ)) (rs : List Run) (e : EventValue) (b : Bool) (ls : List LoneInstance) (i : ℕ) (r s q : Run) →
    AreParents ps → map lone_of rs ≡ ls → slice_get ps i ≡ Some (Some e.instance) → slice_get rs i ≡ Some s →
    slice_get rs e.instance ≡ Some r → IsRunStep (texts_beside e.instance ps ls) r e.lone b q →
    IsLedBy ps rs (slice_set rs e.instance q) e b i (Some e.instance) s
parent_led ps rs e b ls i r s q good lones at_p at_s at_r step =
    let j : ℕ = e.instance in
    let qs : List Run = slice_set rs j q in
    let root = good i j at_p in
    let apart : j ≢ i = root.another in
    let alone : IsRunStep [] r e.lone b q = subst (λ (ts : List Blob). IsRunStep ts r e.lone b q)
    (texts_same ps j None rs ls root.builds_on_none lones) step in
    let moved : IsParentStep (slice_get rs j) e.lone b (slice_get qs j) =
    subst (λ (o : Option Run). IsParentStep o e.lone b (slice_get qs j)) (sym at_r)
    (subst (λ (o : Option Run). IsParentStep (Some r) e.lone b o) (sym (set_here rs j q r at_r)) alone) in
    record {
      now = s;
      there = set_other rs j i q (λ same. apart (sym same)) ∙ at_s;
      ran = subst (λ (es : List FamilyEvent). IsRun (beside rs (Some j) s) (marked b es) (beside qs (Some j) s))
          (sym (parent_family i j e apart refl))
          (beside qs (Some j) s, (refl, moved), refl);
    }

other_led : (ps : List (Option ℕ)) (rs : List Run) (e : EventValue) (b : Bool) (i : ℕ) (p : Option ℕ) (s q : Run) → e.instance ≢ i →
    IfSome p (λ n. n ≢ e.instance) → slice_get rs i ≡ Some s → IsLedBy ps rs (slice_set rs e.instance q) e b i p s
other_led ps rs e b i p s q ne not at_s = record {
  now = s;
  there = set_other rs e.instance i q (λ same. ne (sym same)) ∙ at_s;
  ran = subst (λ (es : List FamilyEvent). IsRun (beside rs p s) (marked b es) (beside (slice_set rs e.instance q) p s))
      (sym (nothing p not)) (same_beside ps rs i e.instance p s q not);
}
  where
    nothing : (o : Option ℕ) → IfSome o (λ n. n ≢ e.instance) → family_event i o e ≡ []
    nothing None apart = lonely i e ne
    nothing (Some n) apart = no_family i n e ne (λ same. apart (sym same))

each_led : (ps : List (Option ℕ)) (rs : List Run) (e : EventValue) (b : Bool) (ls : List LoneInstance) (i : ℕ) (p : Option ℕ)
    (r s q : Run) → AreParents ps → map lone_of rs ≡ ls → slice_get ps i ≡ Some p → slice_get rs i ≡ Some s →
    slice_get rs e.instance ≡ Some r → IsRunStep (texts_beside e.instance ps ls) r e.lone b q →
    IsLedBy ps rs (slice_set rs e.instance q) e b i p s
each_led ps rs e b ls i p r s q good lones at_p at_s at_r step = elim (cases_eq e.instance i) [
  | inl same ↦
      let Case : ℕ → Type 0 = λ k. slice_get ps k ≡ Some p → slice_get rs k ≡ Some s →
      IsLedBy ps rs (slice_set rs e.instance q) e b k p s in
      subst Case same (λ here there.
      (let is : r ≡ s = same_Some r s (sym at_r ∙ there) in
      own_led ps rs e b ls p s q good lones here there
      (subst (λ (t : Run). IsRunStep (texts_beside e.instance ps ls) t e.lone b q) is step))) at_p at_s
  | inr ne ↦ by_parent p at_p ne
]
  where
    by_parent : (o : Option ℕ) → slice_get ps i ≡ Some o → e.instance ≢ i → IsLedBy ps rs (slice_set rs e.instance q) e b i o s
    by_parent None at ne = other_led ps rs e b i None s q ne tt at_s
    by_parent (Some n) at ne = elim (cases_eq e.instance n) [
      | inl same ↦
          subst (λ (k : ℕ). slice_get ps i ≡ Some (Some k) → IsLedBy ps rs (slice_set rs e.instance q) e b i (Some k) s) same
          (λ here. parent_led ps rs e b ls i r s q good lones here at_s at_r step) at
      | inr other ↦ other_led ps rs e b i (Some n) s q ne (λ same. other (sym same)) at_s
    ]

event_led : (ps : List (Option ℕ)) (m : ℕ) (e : EventValue) (x : MarkedHappening) (w v : AtWork) (rs : List Run)
    (os : ℕ → List OrderValue) → AreParents ps → event_then m x.0 ≡ Some e → ((i : ℕ) → carried_by i (x ∷ []) ≡ []) →
    AreFaithful m w.instances x.0 → w.orders ≡ [] → IsTaken ps e x.1 w.instances v → IsAt w rs os → HasLed ps m x v rs os
event_led ps m e x w v rs os good event no_order faithful empty t at =
    let j : ℕ = e.instance in
    let found = run_at rs w.instances j t.was at.lones t.there in
    let r : Run = found.0 in
    let did = own_step (texts_beside j ps w.instances) e.lone x.1 r t.now t.orders
    (subst (λ (l : LoneInstance). MayStep (texts_beside j ps w.instances) e.lone x.1 l t.now t.orders) (sym found.2) t.step) in
    let qs : List Run = slice_set rs j did.run in
    let next : AtWork = with_orders (slice_set w.instances j t.now) (map (ordered j) t.orders) in
    let before : (i : ℕ) (s : Run) → slice_get rs i ≡ Some s → os i ++ carried_by i (x ∷ []) ≡ plain_orders s =
    λ i s is. ap (λ (xs : List OrderValue). os i ++ xs) (no_order i) ∙ ap (λ (xs : List RunEvent). os i ++ given i xs) (sym empty)
    ∙ at.orders_so i s is in
    record {
      runs = qs;
      at = subst (λ (k : AtWork). IsAt k qs (λ i. os i ++ carried_by i (x ∷ []))) (sym t.so) (record {
        lones = map-set lone_of rs j did.run ∙ ap (λ (l : LoneInstance). slice_set (map lone_of rs) j l) did.lone
            ∙ ap (λ (xs : List LoneInstance). slice_set xs j t.now) at.lones;
        orders_so = λ i s is. elim (cases_eq i j) [
          | inl same ↦
              let now : did.run ≡ s = same_Some did.run s
              (sym (set_here rs j did.run r found.1) ∙ subst (λ (k : ℕ). slice_get qs k ≡ Some s) same is) in
              let here : (os j ++ carried_by j (x ∷ [])) ++ given j (map (ordered j) t.orders) ≡ plain_orders s =
              ap (λ (xs : List OrderValue). (os j ++ carried_by j (x ∷ [])) ++ xs) (own_given j t.orders)
              ∙ ap (λ (xs : List OrderValue). xs ++ t.orders) (before j r found.1) ∙ sym did.orders_so ∙ ap plain_orders now in
              subst (λ (k : ℕ). (os k ++ carried_by k (x ∷ [])) ++ given k (map (ordered j) t.orders) ≡ plain_orders s) (sym same) here
          | inr ne ↦
              ap (λ (xs : List OrderValue). (os i ++ carried_by i (x ∷ [])) ++ xs) (none_given i j t.orders ne)
              ∙ append-nil (os i ++ carried_by i (x ∷ [])) ∙ before i s (sym (set_other rs j i did.run ne) ∙ is)
        ];
      });
      each = λ i p s at_p at_s.
          (let led = each_led ps rs e x.1 w.instances i p r s did.run good at.lones at_p at_s found.1 did.step in (
            led.now,
            led.there,
            faithful i s.lone (lone_at rs w.instances i s at.lones at_s),
            subst
                (λ (o : Option EventValue). IsRun (beside rs p s) (marked x.1 (option_map_or (family_event i p) o []))
                (beside qs p led.now))
                (sym event) led.ran,
          ));
    }

one_led : (ps : List (Option ℕ)) (m : ℕ) (x : MarkedHappening) (w v : AtWork) (rs : List Run) (os : ℕ → List OrderValue) → AreParents ps →
    Happens ps m w x v → IsAt w rs os → HasLed ps m x v rs os
one_led ps m (at_sockets (clock n), b) w v rs os good h at = kept ps m (at_sockets (clock n), b) w v rs os refl (λ i. refl) h.1 h.0 h.2.1 at
one_led ps m (at_sockets (failed j c), b) w v rs os good h at =
    kept ps m (at_sockets (failed j c), b) w v rs os refl (λ i. refl) h.1.1 h.1.0 h.1.2.1 at
one_led ps m (at_sockets (port j p), b) w v rs os good h at =
    event_led ps m (event_told m j (what_of p)) (at_sockets (port j p), b) w v rs os good refl (λ i. refl) h.1 h.0 h.2 at
one_led ps m (told j, b) w v rs os good h at =
    event_led ps m (event_told m j tick) (told j, b) w v rs os good refl (λ i. refl) h.1 h.0 h.2 at
one_led ps m (at_runs (ordered j o), b) w v rs os good h at = order_led ps m j o b w v rs os h.1 at
one_led ps m (at_runs (lent j job task), b) w v rs os good h at =
    kept ps m (at_runs (lent j job task), b) w v rs os refl (λ i. refl) h.1.1 h.1.0 h.1.2.1 at
one_led ps m (at_runs (gave j job outcome), b) w v rs os good h at =
    event_led ps m (event_told m j (ended job outcome)) (at_runs (gave j job outcome), b) w v rs os good refl (λ i. refl) h.1 h.0 h.2 at

-- ---- all that happens

record AllLed (ps : List (Option ℕ)) (past : List SocketEvent) (m : ℕ) (h : List MarkedHappening) (v : AtWork) (rs : List Run)
    (os : ℕ → List OrderValue) : Type 0 where
  runs : List Run
  at : IsAt v runs (λ i. os i ++ carried_by i h)
  each : (i : ℕ) (p : Option ℕ) (r : Run) → slice_get ps i ≡ Some p → slice_get rs i ≡ Some r →
      (q : Run) × (slice_get runs i ≡ Some q) × GoesOn i p past m (beside rs p r) h (beside runs p q)

all_led : (ps : List (Option ℕ)) (h : List MarkedHappening) (past : List SocketEvent) (m : ℕ) (w v : AtWork) (rs : List Run)
    (os : ℕ → List OrderValue) → AreParents ps → MayServe ps past m w h v → IsAt w rs os → AllLed ps past m h v rs os
all_led ps [] past m w v rs os good s at = record {
  runs = rs;
  at = subst (λ (k : AtWork). IsAt k rs (λ i. os i ++ [])) (sym s) (record {
    lones = at.lones;
    orders_so = λ i r is. ap (λ (xs : List OrderValue). xs ++ given i w.orders) (append-nil (os i)) ∙ at.orders_so i r is;
  });
  each = λ i p r at_p at_r. (r, at_r, refl);
}
all_led ps (x ∷ h) past m w v rs os good s at =
    let one = one_led ps m x w s.0 rs os good s.1 at in
    let rest = all_led ps h (sockets_then past x.0) (moment_then m x.0) s.0 v one.runs
    (λ i. os i ++ carried_by i (x ∷ [])) good s.3 one.at in
    record {
      runs = rest.runs;
      at = record {
        lones = rest.at.lones;
        orders_so = λ i r is.
            ap (λ (xs : List OrderValue). xs ++ given i v.orders)
            (ap (λ (xs : List OrderValue). os i ++ xs) (filter_map-append (order_of i) (x ∷ []) h)
            ∙ sym (append_assoc (os i) (carried_by i (x ∷ [])) (carried_by i h)))
            ∙ rest.at.orders_so i r is;
      };
      each = λ i p r at_p at_r.
          (let a = one.each i p r at_p at_r in
          let b = rest.each i p a.0 at_p a.1 in
          (b.0, b.1, (a.2, s.2 i r.lone (lone_at rs w.instances i r at.lones at_r), beside one.runs p a.0, a.3, b.2)));
    }

-- ---- the whole

first_lones : (configs : List ConfigValue) → map lone_of (map new_run configs) ≡ map begun configs
first_lones [] = refl
first_lones (config ∷ configs) = ap (λ (ls : List LoneInstance). begun config ∷ ls) (first_lones configs)

first_orders : (configs : List ConfigValue) (i : ℕ) (r : Run) → slice_get (map new_run configs) i ≡ Some r → [] ≡ plain_orders r
first_orders configs i r is = go (slice_get configs i) (sym (slice_get-map new_run configs i) ∙ is)
  where
    go : (o : Option ConfigValue) → option_map new_run o ≡ Some r → [] ≡ plain_orders r
    go None at = absurd (none-some r at)
    go (Some config) at = ap plain_orders (same_Some (new_run config) r at)

first_parent : (configs : List ConfigValue) (p : Option ℕ) →
    option_and_then (slice_get (map new_run configs)) p ≡ option_map new_run (option_and_then (slice_get configs) p)
first_parent configs None = refl
first_parent configs (Some n) = slice_get-map new_run configs n

pub did : (configs : List ConfigValue) (h : List MarkedHappening) → IsServed configs h → (runs : List Run) × AllDid configs h runs
did configs h served =
    let rs : List Run = map new_run configs in
    let begins : IsAt (with_orders (map begun configs) []) rs (λ i. []) =
    record { lones = first_lones configs; orders_so = λ i r is. first_orders configs i r is } in
    let led = all_led (parents_of configs) h [] 0 (with_orders (map begun configs) []) (with_orders served.1 []) rs
    (λ i. []) served.0 served.2 begins in (
      led.runs,
      λ i config is.
          (let p : Option ℕ = parent_of configs config in
          let at_p : slice_get (parents_of configs) i ≡ Some p =
          slice_get-map (parent_of configs) configs i ∙ ap (option_map (parent_of configs)) is in
          let at_r : slice_get rs i ≡ Some (new_run config) = slice_get-map new_run configs i ∙ ap (option_map new_run) is in
          let one = led.each i p (new_run config) at_p at_r in
          let done : Did (family_in configs config) i p h (beside led.runs p one.0) = record {
            goes = subst (λ (o : Option Run). GoesOn i p [] 0 (run_of_both (new_run config) o) h (beside led.runs p one.0))
                (first_parent configs p) one.2;
            orders = sym (append-nil (carried_by i h)) ∙ led.at.orders_so i one.0 one.1;
          } in
          subst (λ (o : Option Run). IsSomeAnd o (λ own. Did (family_in configs config) i p h (beside led.runs p own))) (sym one.1) done),
    )

-- ---- the run by its marked events

run_on : (es more : List MarkedEvent) (f k g : FamilyRun) → IsRun f es k → IsRun k more g → IsRun f (es ++ more) g
run_on [] more f k g one two = subst (λ (x : FamilyRun). IsRun x more g) one two
run_on (e ∷ es) more f k g one two = (one.0, one.1, run_on es more one.0 k g one.2 two)

gone_on : (i : ℕ) (p : Option ℕ) (h : List MarkedHappening) (past : List SocketEvent) (m : ℕ) (f g : FamilyRun) → GoesOn i p past m f h g →
    IsRun f (marked_from i p m h) g
gone_on i p [] past m f g goes = goes
gone_on i p (x ∷ h) past m f g goes =
    run_on (marked_at i p m x) (marked_from i p (moment_then m x.0) h) f goes.2 g goes.3
    (gone_on i p h (sockets_then past x.0) (moment_then m x.0) goes.2 g goes.4)

pub came : (family : Family) (i : ℕ) (p : Option ℕ) (h : List MarkedHappening) (run : FamilyRun) → Did family i p h run →
    IsRun (new_family_run family) (marked_from i p 0 h) run
came family i p h run d = gone_on i p h [] 0 (new_family_run family) run d.goes

-- ---- where no event was cut short

abbrev AreUnmarked : List MarkedEvent → Type 0
AreUnmarked es = AllByRecursion (λ e. e.1 ≡ false) es

parent_plain : (r : Option Run) (e : LoneEvent) (b : Bool) (q : Option Run) → b ≡ false → IsParentStep r e b q →
    q ≡ option_map (λ (x : Run). run_step [] x e) r
parent_plain None e b q is h = h
parent_plain (Some r) e b None is h = absurd h
parent_plain (Some r) e b (Some q) is h = ap Some (subst (λ (t : Bool). IsRunStep [] r e t q) is h)

plain_step : (f k : FamilyRun) (e : MarkedEvent) → e.1 ≡ false → IsFamilyStep f e k → k ≡ family_step f e.0
plain_step f k (of_own e, b) is h =
    let own : k.own ≡ run_step (texts_of_parent f.parent) f.own e =
    subst (λ (t : Bool). IsRunStep (texts_of_parent f.parent) f.own e t k.own) is h.0 in
    ap (λ (r : Run). run_of_both r k.parent) own ∙ ap (λ (q : Option Run). run_of_both (run_step (texts_of_parent f.parent) f.own e) q) h.1
plain_step f k (of_parent e, b) is h =
    let parent : k.parent ≡ option_map (λ (x : Run). run_step [] x e) f.parent = parent_plain f.parent e b k.parent is h.1 in
    ap (λ (r : Run). run_of_both r k.parent) h.0 ∙ ap (λ (q : Option Run). run_of_both f.own q) parent

plain_run : (es : List MarkedEvent) (f g : FamilyRun) → AreUnmarked es → IsRun f es g → g ≡ fold family_step f (map event_of es)
plain_run [] f g none h = h
plain_run (e ∷ es) f g none h =
    plain_run es h.0 g none.1 h.2 ∙ ap (λ (k : FamilyRun). fold family_step k (map event_of es)) (plain_step f h.0 e none.0 h.1)

mark_all : (b : Bool) (es : List FamilyEvent) → b ≡ false → AreUnmarked (marked b es)
mark_all b [] is = tt
mark_all b (e ∷ es) is = (is, mark_all b es is)

both_unmarked : (es more : List MarkedEvent) → AreUnmarked es → AreUnmarked more → AreUnmarked (es ++ more)
both_unmarked [] more a b = b
both_unmarked (e ∷ es) more a b = (a.0, both_unmarked es more a.1 b)

none_marked : (i : ℕ) (p : Option ℕ) (m : ℕ) (h : List MarkedHappening) → cuts h ≡ 0 → AreUnmarked (marked_from i p m h)
none_marked i p m [] is = tt
none_marked i p m ((x, true) ∷ h) is = absurd (omega (arith, is))
none_marked i p m ((x, false) ∷ h) is =
    both_unmarked (marked_at i p m (x, false)) (marked_from i p (moment_then m x) h)
    (mark_all false (option_map_or (family_event i p) (event_then m x) []) refl) (none_marked i p (moment_then m x) h is)

pub alone : (family : Family) (i : ℕ) (p : Option ℕ) (h : List MarkedHappening) (run : FamilyRun) → cuts h ≡ 0 → Did family i p h run →
    output_of_run run.own ≡ lone_output family (map event_of (marked_from i p 0 h))
alone family i p h run none d =
    ap (λ (f : FamilyRun). output_of_run f.own)
    (plain_run (marked_from i p 0 h) (new_family_run family) run (none_marked i p 0 h none) (came family i p h run d))

-- ---- what was written, all in all

-- what an event makes of an instance
abbrev Makes : List Blob → LoneEvent → Bool → LoneInstance → LoneInstance → Type 0
Makes parent e false l k = k ≡ lone_step parent e l
Makes parent e true l k = Short parent e l k

makes_by : (parent : List Blob) (r : Run) (e : LoneEvent) (b : Bool) (q : Run) → IsRunStep parent r e b q → Makes parent e b r.lone q.lone
makes_by parent r e false q step = ap lone_of step
makes_by parent r e true q step = step.lone

-- what is written on the connections of an instance, by what happens at its port
abbrev written_here : PortEvent → List Written → List Written
written_here (accepted c) ws = ws ++ (c, []) ∷ []
written_here (read c bytes) ws = ws
written_here (written c bytes) ws = with_written c bytes ws
written_here (shut c) ws = ws

abbrev FitsIn : List Written → LoneInstance → Type 0
FitsIn ws l = Fits ws l.connections

stepped_fits : (parent : List Blob) (e : LoneEvent) (l : LoneInstance) (refusal : Option EventRefusal) (ws : List Written) →
    (refusal ≡ None → Fits ws (connections_after l.state.limits.window e.what l.connections)) →
    ((x : EventRefusal) → refusal ≡ Some x → FitsIn ws l) → FitsIn ws (after_event_unless parent e l refusal)
stepped_fits parent e l None ws done kept = fits_grown ws (connections_after l.state.limits.window e.what l.connections)
    (after_event parent e l).connections (accepted_more parent e l) (done refl)
stepped_fits parent e l (Some x) ws done kept = kept x refl

-- an event that is not cut short
alone_fits : (parent : List Blob) (e : LoneEvent) (l v : LoneInstance) (ws : List Written) → Makes parent e false l v →
    (refusal_of e l ≡ None → Fits ws (connections_after l.state.limits.window e.what l.connections)) →
    ((x : EventRefusal) → refusal_of e l ≡ Some x → FitsIn ws l) → FitsIn ws v
alone_fits parent e l v ws alone done kept =
    subst (FitsIn ws) (sym alone) (stepped_fits parent e l (refusal_of e l) ws done kept)

-- .. and one that is
left_fits : (ws : List Written) (m : LoneInstance) (ks : List LoneConnection) → m.connections ≡ ks → Fits ws ks → FitsIn ws m
left_fits ws m ks same f = subst (λ (xs : List LoneConnection). Fits ws xs) (sym same) f

abbrev connections_of : LoneInstance → List LoneConnection
connections_of l = l.connections

record IsOpenWith (o : Option Past) (P : Past → Type 0) : Type 0 where
  past : Past
  there : o ≡ Some past
  has : P past

open_with : (o : Option Past) (P : Past → Type 0) → IsSomeAnd o P → IsOpenWith o P
open_with None P is = absurd is
open_with (Some p) P is = record { past = p; there = refl; has = is }

port_fits : (parent : List Blob) (m j i : ℕ) (b : Bool) (p : PortEvent) (l v : LoneInstance) (ws : List Written) →
    Makes parent (event_told m j (what_of p)).lone b l v → IsFaithful i m l (at_sockets (port j p)) → j ≡ i → FitsIn ws l →
    FitsIn (written_here p ws) v
port_fits parent m j i false (accepted c) l v ws may faithful same f =
    alone_fits parent (event_told m j (opened c)).lone l v (ws ++ (c, []) ∷ []) may
    (λ is. fits_opened l.state.limits.window c ws l.connections (faithful same) f)
    (λ x is. fits_refused c ws l.connections (faithful same) f)
port_fits parent m j i true (accepted c) l v ws may faithful same f =
    left_fits (ws ++ (c, []) ∷ []) v l.connections (ap connections_of may) (fits_refused c ws l.connections (faithful same) f)
port_fits parent m j i false (read c bytes) l v ws may faithful same f =
    alone_fits parent (event_told m j (received c bytes)).lone l v ws may (λ is. f) (λ x is. f)
port_fits parent m j i true (read c bytes) l v ws may faithful same f =
    left_fits ws v (with_closed c l.connections) (ap connections_of may.gone) (fits_closed c ws l.connections f)
port_fits parent m j i false (written c bytes) l v ws may faithful same f =
    let is_right = faithful same in
    let o = open_with (open_at c l.connections) (λ q. StartsWith (pending_bytes q.history) bytes) is_right.0 in
    alone_fits parent (event_told m j (took c (length bytes))).lone l v (with_written c bytes ws) may
    (λ is. fits_taken c bytes o.past ws l.connections o.there o.has f)
    (λ x is. absurd (none-some x (sym is_right.1 ∙ is)))
port_fits parent m j i true (written c bytes) l v ws may faithful same f = absurd may
port_fits parent m j i false (shut c) l v ws may faithful same f =
    alone_fits parent (event_told m j (closed c)).lone l v ws may (λ is. fits_closed c ws l.connections f) (λ x is. f)
port_fits parent m j i true (shut c) l v ws may faithful same f = absurd may

tick_fits : (parent : List Blob) (m j : ℕ) (b : Bool) (l v : LoneInstance) (ws : List Written) →
    Makes parent (event_told m j tick).lone b l v → FitsIn ws l → FitsIn ws v
tick_fits parent m j false l v ws may f = alone_fits parent (event_told m j tick).lone l v ws may (λ is. f) (λ x is. f)
tick_fits parent m j true l v ws may f = left_fits ws v (all_closed l.connections) (ap connections_of may)
    (fits_all_closed ws l.connections f)

ended_fits : (parent : List Blob) (m j job : ℕ) (outcome : OutcomeValue) (b : Bool) (l v : LoneInstance) (ws : List Written) →
    Makes parent (event_told m j (ended job outcome)).lone b l v → FitsIn ws l → FitsIn ws v
ended_fits parent m j job outcome false l v ws may f =
    alone_fits parent (event_told m j (ended job outcome)).lone l v ws may (λ is. f) (λ x is. f)
ended_fits parent m j job outcome true l v ws may f =
    left_fits ws v (all_closed l.connections) (ap connections_of may.gone) (fits_all_closed ws l.connections f)

-- ---- and so for all that happens

-- an event of the instance
own_ran : (i : ℕ) (p : Option ℕ) (e : EventValue) (b : Bool) (f k : FamilyRun) → e.instance ≡ i →
    IsRun f (marked b (family_event i p e)) k → IsRunStep (texts_of_parent f.parent) f.own e.lone b k.own
own_ran i p e b f k same ran =
    let one = subst (λ (es : List FamilyEvent). IsRun f (marked b es) k) (own_family i p e same) ran in
    subst (λ (g : FamilyRun). IsRunStep (texts_of_parent f.parent) f.own e.lone b g.own) (sym one.2) one.1.0

-- one of another leaves it as it is
other_ran : (i : ℕ) (p : Option ℕ) (e : EventValue) (b : Bool) (f k : FamilyRun) → e.instance ≢ i →
    IsRun f (marked b (family_event i p e)) k → k.own ≡ f.own
other_ran i None e b f k ne ran =
    let none : k ≡ f = subst (λ (es : List FamilyEvent). IsRun f (marked b es) k) (lonely i e ne) ran in
    ap (λ (g : FamilyRun). g.own) none
other_ran i (Some n) e b f k ne ran = elim (cases_eq e.instance n) [
  | inl same ↦
      let one = subst (λ (es : List FamilyEvent). IsRun f (marked b es) k) (parent_family i n e ne same) ran in
      ap (λ (g : FamilyRun). g.own) one.2 ∙ one.1.0
  | inr other ↦
      let none : k ≡ f = subst (λ (es : List FamilyEvent). IsRun f (marked b es) k) (no_family i n e ne other) ran in
      ap (λ (g : FamilyRun). g.own) none
]

abbrev FitsRun : List Written → Run → Type 0
FitsRun ws r = FitsIn ws r.lone

here_written : (j i : ℕ) (q : PortEvent) (b : Bool) (ws : List Written) → (j == i) ≡ true →
    written_on i ws (at_sockets (port j q), b) ≡ written_here q ws
here_written j i (accepted c) b ws is = on (j == i) (ws ++ (c, []) ∷ []) ws is
here_written j i (read c bytes) b ws is = refl
here_written j i (written c bytes) b ws is = on (j == i) (with_written c bytes ws) ws is
here_written j i (shut c) b ws is = refl

none_written : (j i : ℕ) (q : PortEvent) (b : Bool) (ws : List Written) → (j == i) ≡ false → written_on i ws (at_sockets (port j q), b) ≡ ws
none_written j i (accepted c) b ws is = off (j == i) (ws ++ (c, []) ∷ []) ws is
none_written j i (read c bytes) b ws is = refl
none_written j i (written c bytes) b ws is = off (j == i) (with_written c bytes ws) ws is
none_written j i (shut c) b ws is = refl

step_fits : (i : ℕ) (p : Option ℕ) (m : ℕ) (x : MarkedHappening) (f k : FamilyRun) (ws : List Written) → IsFaithful i m f.own.lone x.0 →
    IsRun f (marked_at i p m x) k → FitsRun ws f.own → FitsRun (written_on i ws x) k.own
step_fits i p m (at_sockets (clock n), b) f k ws faithful ran fit = subst (λ (g : FamilyRun). FitsRun ws g.own) (sym ran) fit
step_fits i p m (at_sockets (failed j c), b) f k ws faithful ran fit = subst (λ (g : FamilyRun). FitsRun ws g.own) (sym ran) fit
step_fits i p m (at_sockets (port j q), b) f k ws faithful ran fit = elim (cases_eq j i) [
  | inl same ↦
      let made = makes_by (texts_of_parent f.parent) f.own (event_told m j (what_of q)).lone b k.own
      (own_ran i p (event_told m j (what_of q)) b f k same ran) in
      subst (λ (xs : List Written). FitsRun xs k.own) (sym (here_written j i q b ws (eq-eqb j i same)))
      (port_fits (texts_of_parent f.parent) m j i b q f.own.lone k.own.lone ws made faithful same fit)
  | inr ne ↦
      subst (λ (xs : List Written). FitsRun xs k.own) (sym (none_written j i q b ws (ne_eqb j i ne)))
      (subst (FitsRun ws) (sym (other_ran i p (event_told m j (what_of q)) b f k ne ran)) fit)
]
step_fits i p m (told j, b) f k ws faithful ran fit = elim (cases_eq j i) [
  | inl same ↦ tick_fits (texts_of_parent f.parent) m j b f.own.lone k.own.lone ws
      (makes_by (texts_of_parent f.parent) f.own (event_told m j tick).lone b k.own (own_ran i p (event_told m j tick) b f k same ran)) fit
  | inr ne ↦ subst (FitsRun ws) (sym (other_ran i p (event_told m j tick) b f k ne ran)) fit
]
step_fits i p m (at_runs (ordered j o), b) f k ws faithful ran fit = subst (λ (g : FamilyRun). FitsRun ws g.own) (sym ran) fit
step_fits i p m (at_runs (lent j job task), b) f k ws faithful ran fit = subst (λ (g : FamilyRun). FitsRun ws g.own) (sym ran) fit
step_fits i p m (at_runs (gave j job outcome), b) f k ws faithful ran fit = elim (cases_eq j i) [
  | inl same ↦ ended_fits (texts_of_parent f.parent) m j job outcome b f.own.lone k.own.lone ws
      (makes_by (texts_of_parent f.parent) f.own (event_told m j (ended job outcome)).lone b k.own
      (own_ran i p (event_told m j (ended job outcome)) b f k same ran)) fit
  | inr ne ↦ subst (FitsRun ws) (sym (other_ran i p (event_told m j (ended job outcome)) b f k ne ran)) fit
]

all_fits : (i : ℕ) (p : Option ℕ) (h : List MarkedHappening) (past : List SocketEvent) (m : ℕ) (f g : FamilyRun) (ws : List Written) →
    GoesOn i p past m f h g → FitsRun ws f.own → FitsRun (fold (written_on i) ws h) g.own
all_fits i p [] past m f g ws goes fit = subst (λ (k : FamilyRun). FitsRun ws k.own) (sym goes) fit
all_fits i p (x ∷ h) past m f g ws goes fit =
    all_fits i p h (sockets_then past x.0) (moment_then m x.0) goes.2 g (written_on i ws x) goes.4
    (step_fits i p m x f goes.2 ws goes.0 goes.3 fit)

pub sent : (family : Family) (i : ℕ) (p : Option ℕ) (h : List MarkedHappening) (run : FamilyRun) → Did family i p h run →
    AreFronts (written_by i h) (output_of_run run.own).sent
sent family i p h run d = fits_fronts (written_by i h) run.own.lone.connections
    (all_fits i p h [] 0 (new_family_run family) run [] d.goes tt)
