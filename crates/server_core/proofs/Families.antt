-- A family's run beside what its members came to in a server.
use Rattle.std.proofs.Common.{◌≡◌, ◌≢◌, ℕ, List, [], ◌∷◌, ◌++◌, refl, ap, ◌∙◌, sym, subst, append-nil, inl, inr}
use Rattle.std.specs.Prelude.{Bool, true, false, cond, ◌==◌, ◌⊎◌, if◌then◌else◌, filter, fold, map, Option, Some, None}
use Rattle.std.specs.Option.{option_map, option_map_or, option_and_then}
use Rattle.std.specs.List.{slice_get}
use Rattle.std.proofs.lemmas.Bool.{cases_eq, eq-eqb, ne_eqb}
use Rattle.std.proofs.lemmas.Grind.{flat_map-append}
use Rattle.std.proofs.lemmas.List.Sums.{fold-append}
use Rattle.std.proofs.lemmas.Option.{slice_get-map, none-some, same_Some}
use Rattle.instance_core.specs.Visible.{Blob}
use Rattle.server_events.specs.Configs.{ConfigValue, parent_of, parents_of}
use Rattle.server_events.specs.Faults.{AreParents}
use Rattle.server_events.specs.Events.{EventValue, LoneEvent, own_events}
use Rattle.served_instance.specs.StandsFor.{ServedState}
use Rattle.server_core.specs.Families.{Family, FamilyEvent, own_event, parent_event, without_parent, family_event, family_events, family_in}
use Rattle.server_core.specs.LoneOutput.{config_at, lone_output}
use Rattle.server_core.specs.Parents.{parent_at, texts_at, texts_of_one, parent_texts}
use Rattle.server_core.specs.Records.{RecordValue}
use Rattle.server_core.specs.Runs.{Run, FamilyRun, new_run, run_step, run_of, new_family_run, texts_of_parent, family_step, run_of_family, output_of_run}
use Rattle.server_core.specs.RunTo.{HasRun, HasParentRun, HasFamilyRun}
use Rattle.server_core.specs.StandsFor.{ServerState}

-- ---- events of a family

-- what an event is to the instance of number i, whose parent has this number
pub record IsOwn (i : ℕ) (parent : Option ℕ) (e : EventValue) : Type 0 where
  pub at : e.instance ≡ i
  pub is : family_event i parent e ≡ own_event e.lone ∷ []

pub record IsParents (i : ℕ) (parent : Option ℕ) (e : EventValue) : Type 0 where
  pub number : ℕ
  pub there : parent ≡ Some number
  pub at : e.instance ≡ number
  pub other : e.instance ≢ i
  pub is : family_event i parent e ≡ parent_event e.lone ∷ []

pub record IsStrange (i : ℕ) (parent : Option ℕ) (e : EventValue) : Type 0 where
  pub other : e.instance ≢ i
  pub others : (p : ℕ) → parent ≡ Some p → e.instance ≢ p
  pub is : family_event i parent e ≡ []

of_test : (b c : Bool) (e : EventValue) (x y : List FamilyEvent) → b ≡ c → cond b x y ≡ cond c x y
of_test b c e x y h = ap (λ (t : Bool). cond t x y) h

pub whose : (i : ℕ) (parent : Option ℕ) (e : EventValue) → IsOwn i parent e ⊎ (IsParents i parent e ⊎ IsStrange i parent e)
whose i parent e = elim (cases_eq e.instance i) [
  | inl same ↦ inl (record { at = same; is = of_test (e.instance == i) true e _ _ (eq-eqb e.instance i same) })
  | inr ne ↦ inr (of parent ne (of_test (e.instance == i) false e _ _ (ne_eqb e.instance i ne)))
]
  where
    of : (parent : Option ℕ) → e.instance ≢ i → family_event i parent e
        ≡ cond (option_map_or (λ p. e.instance == p) parent false) (parent_event e.lone ∷ []) [] →
        IsParents i parent e ⊎ IsStrange i parent e
    of None ne is = inr (record { other = ne; others = λ p h. absurd (none-some p h); is = is })
    of (Some p) ne is = elim (cases_eq e.instance p) [
      | inl same ↦ inl (record {
        number = p;
        there = refl;
        at = same;
        other = ne;
        is =
            is ∙ of_test (e.instance == p) true e _ _ (eq-eqb e.instance p same);
      })
      | inr apart ↦ inr (record {
        other = ne;
        others = λ q h. subst (λ (k : ℕ). e.instance ≢ k) (same_Some p q h) apart;
        is =
            is ∙ of_test (e.instance == p) false e _ _ (ne_eqb e.instance p apart);
      })
    ]

pub events_more : (i : ℕ) (parent : Option ℕ) (events : List EventValue) (e : EventValue) →
    family_events i parent (events ++ e ∷ []) ≡ family_events i parent events ++ family_event i parent e
events_more i parent events e =
    flat_map-append (family_event i parent) events (e ∷ [])
    ∙ ap (λ (es : List FamilyEvent). family_events i parent events ++ es) (append-nil (family_event i parent e))

-- an event takes a family's run as far as it goes
pub family_more : (family : Family) (i : ℕ) (parent : Option ℕ) (events : List EventValue) (e : EventValue) →
    run_of_family family (family_events i parent (events ++ e ∷ []))
    ≡ fold family_step (run_of_family family (family_events i parent events)) (family_event i parent e)
family_more family i parent events e =
    ap (run_of_family family) (events_more i parent events e)
    ∙ fold-append family_step (new_family_run family) (family_events i parent events) (family_event i parent e)

-- ---- what an instance reads of its parent

pub parent_there : (configs : List ConfigValue) (parents : List (Option ℕ)) (i : ℕ) (config : ConfigValue) → parents ≡ parents_of configs →
    config_at i configs ≡ Some config → slice_get parents i ≡ Some (parent_of configs config)
parent_there configs parents i config same is =
    ap (λ (ps : List (Option ℕ)). slice_get ps i) same
    ∙ slice_get-map (parent_of configs) configs i
    ∙ ap (option_map (parent_of configs)) is

pub parent_apart : (parents : List (Option ℕ)) (i p : ℕ) (parent : Option ℕ) → AreParents parents → slice_get parents i ≡ Some parent →
    parent ≡ Some p → p ≢ i
parent_apart parents i p parent good there is = (good i p (there ∙ ap Some is)).another

-- the parent of a parent
none_above : (parents : List (Option ℕ)) (i p : ℕ) (parent : Option ℕ) → AreParents parents → slice_get parents i ≡ Some parent →
    parent ≡ Some p → parent_at p parents ≡ None
none_above parents i p parent good there is = ap (option_and_then (λ (o : Option ℕ). o)) (good i p (there ∙ ap Some is)).builds_on_none

pub parents_read : (s : ServerState) (i p : ℕ) (parent : Option ℕ) → AreParents s.parents → slice_get s.parents i ≡ Some parent →
    parent ≡ Some p → parent_texts p s ≡ []
parents_read s i p parent good there is = ap (λ (o : Option ℕ). texts_of_one o s.instances) (none_above s.parents i p parent good there is)

texts_there : (p : ℕ) (vs : List ServedState) (records : List RecordValue) (r : Run) → HasRun p vs records r →
    texts_at p vs ≡ r.lone.state.visible
texts_there p vs records r h =
    ap (λ (o : Option ServedState). option_map_or (λ (v : ServedState). v.state.visible) o []) h.stands.1
    ∙ ap (λ t. t.visible) h.stands.2.state

beside_read : (parent : Option ℕ) (vs : List ServedState) (records : List RecordValue) (r : Option Run) → HasParentRun parent vs records r →
    texts_of_one parent vs ≡ texts_of_parent r
beside_read None vs records r h = sym (ap texts_of_parent h)
beside_read (Some p) vs records None h = absurd h
beside_read (Some p) vs records (Some r) h = texts_there p vs records r h

pub own_read : (s : ServerState) (i : ℕ) (parent : Option ℕ) (records : List RecordValue) (r : Option Run) →
    slice_get s.parents i ≡ Some parent → HasParentRun parent s.instances records r → parent_texts i s ≡ texts_of_parent r
own_read s i parent records r there h =
    ap (λ (o : Option (Option ℕ)). texts_of_one (option_and_then (λ (x : Option ℕ). x) o) s.instances) there
    ∙ beside_read parent s.instances records r h

-- ---- one event

-- what the event makes of each instance and its record
abbrev pub Stepped : List Blob → EventValue → List ServedState → List RecordValue → List ServedState → List RecordValue → Type 0
Stepped bs e vs records ws more = (j : ℕ) (r : Run) → HasRun j vs records r →
    HasRun j ws more (if e.instance == j then run_step bs r e.lone else r)

stepped_on : (bs : List Blob) (e : EventValue) (vs ws : List ServedState) (records more : List RecordValue) (j : ℕ) (r : Run) →
    Stepped bs e vs records ws more → e.instance ≡ j → HasRun j vs records r → HasRun j ws more (run_step bs r e.lone)
stepped_on bs e vs ws records more j r runs at h =
    subst (λ (b : Bool). HasRun j ws more (cond b (run_step bs r e.lone) r)) (eq-eqb e.instance j at) (runs j r h)

stepped_by : (bs : List Blob) (e : EventValue) (vs ws : List ServedState) (records more : List RecordValue) (j : ℕ) (r : Run) →
    Stepped bs e vs records ws more → e.instance ≢ j → HasRun j vs records r → HasRun j ws more r
stepped_by bs e vs ws records more j r runs ne h =
    subst (λ (b : Bool). HasRun j ws more (cond b (run_step bs r e.lone) r)) (ne_eqb e.instance j ne) (runs j r h)

-- a parent whose event it is not
beside_by : (bs : List Blob) (e : EventValue) (vs ws : List ServedState) (records more : List RecordValue) (parent : Option ℕ)
    (r : Option Run) → Stepped bs e vs records ws more → ((p : ℕ) → parent ≡ Some p → e.instance ≢ p) → HasParentRun parent vs records r →
    HasParentRun parent ws more r
beside_by bs e vs ws records more None r runs ne h = h
beside_by bs e vs ws records more (Some p) None runs ne h = h
beside_by bs e vs ws records more (Some p) (Some r) runs ne h = stepped_by bs e vs ws records more p r runs (ne p refl) h

-- one whose event it is
beside_on : (bs : List Blob) (e : EventValue) (vs ws : List ServedState) (records more : List RecordValue) (p : ℕ) (r : Option Run) →
    Stepped bs e vs records ws more → bs ≡ [] → e.instance ≡ p → HasParentRun (Some p) vs records r →
    HasParentRun (Some p) ws more (option_map (λ r. run_step [] r e.lone) r)
beside_on bs e vs ws records more p None runs none at h = h
beside_on bs e vs ws records more p (Some r) runs none at h =
    subst (λ (ts : List Blob). HasRun p ws more (run_step ts r e.lone)) none (stepped_on bs e vs ws records more p r runs at h)

pub family_on : (s : ServerState) (e : EventValue) (ws : List ServedState) (records more : List RecordValue) (i : ℕ) (parent : Option ℕ)
    (f : FamilyRun) → AreParents s.parents → slice_get s.parents i ≡ Some parent →
    Stepped (parent_texts e.instance s) e s.instances records ws more → HasFamilyRun i parent s.instances records f
    → HasFamilyRun i parent ws more (fold family_step f (family_event i parent e))
family_on s e ws records more i parent f good there runs h = elim (whose i parent e) [
  | inl own ↦
      let read : parent_texts e.instance s ≡ texts_of_parent f.parent =
      ap (λ (k : ℕ). parent_texts k s) own.at ∙ own_read s i parent records f.parent there h.beside in
      let after : HasFamilyRun i parent ws more (family_step f (own_event e.lone)) = record {
        own = subst (λ (ts : List Blob). HasRun i ws more (run_step ts f.own e.lone)) read
            (stepped_on (parent_texts e.instance s) e s.instances ws records more i f.own runs own.at h.own);
        beside = beside_by (parent_texts e.instance s) e s.instances ws records more parent f.parent runs
            (λ p is at. parent_apart s.parents i p parent good there is (sym at ∙ own.at)) h.beside;
      } in
      by (own_event e.lone ∷ []) own.is after
  | inr (inl parents) ↦
      let p = parents.number in
      let none : parent_texts e.instance s ≡ [] = ap (λ (k : ℕ). parent_texts k s) parents.at
      ∙ parents_read s i p parent good there parents.there in
      let before : HasParentRun (Some p) s.instances records f.parent =
      subst (λ (o : Option ℕ). HasParentRun o s.instances records f.parent) parents.there h.beside in
      let after : HasFamilyRun i parent ws more (family_step f (parent_event e.lone)) = record {
        own = stepped_by (parent_texts e.instance s) e s.instances ws records more i f.own runs parents.other h.own;
        beside = subst (λ (o : Option ℕ). HasParentRun o ws more (option_map (λ r. run_step [] r e.lone) f.parent)) (sym parents.there)
            (beside_on (parent_texts e.instance s) e s.instances ws records more p f.parent runs none parents.at before);
      } in
      by (parent_event e.lone ∷ []) parents.is after
  | inr (inr strange) ↦
      let after : HasFamilyRun i parent ws more f = record {
        own = stepped_by (parent_texts e.instance s) e s.instances ws records more i f.own runs strange.other h.own;
        beside = beside_by (parent_texts e.instance s) e s.instances ws records more parent f.parent runs strange.others h.beside;
      } in
      by [] strange.is after
]
  where
    by : (es : List FamilyEvent) → family_event i parent e ≡ es → HasFamilyRun i parent ws more (fold family_step f es) →
        HasFamilyRun i parent ws more (fold family_step f (family_event i parent e))
    by es is h = subst (λ (xs : List FamilyEvent). HasFamilyRun i parent ws more (fold family_step f xs)) (sym is) h

-- ---- a parent by itself

taken_in : (xs : List EventValue) (e : EventValue) (b : Bool) →
    map (λ (x : EventValue). x.lone) (cond b (e ∷ xs) xs)
    ≡ cond b (e.lone ∷ map (λ (x : EventValue). x.lone) xs) (map (λ (x : EventValue). x.lone) xs)
taken_in xs e true = refl
taken_in xs e false = refl

own_by : (i : ℕ) (events : List EventValue) (e : EventValue) (b : Bool) → (e.instance == i) ≡ b →
    own_events i (e ∷ events) ≡ cond b (e.lone ∷ own_events i events) (own_events i events)
own_by i events e b is =
    let xs : List EventValue = filter (λ event. event.instance == i) events in
    ap (λ (c : Bool). map (λ (x : EventValue). x.lone) (cond c (e ∷ xs) xs)) is ∙ taken_in xs e b

-- an instance that has none
abbrev by_itself : Run → FamilyRun
by_itself r = record { own = r; parent = None }

alone_along : (config : ConfigValue) (i : ℕ) (events : List EventValue) (r : Run) →
    fold family_step (by_itself r) (family_events i None events) ≡ by_itself (fold (run_step []) r (own_events i events))
alone_along config i [] r = refl
alone_along config i (e ∷ events) r = elim (cases_eq e.instance i) [
  | inl same ↦
      let b = eq-eqb e.instance i same in
      let own = own_by i events e true b in
      let first : family_event i None e ≡ own_event e.lone ∷ [] = of_test (e.instance == i) true e _ _ b in
      ap (λ (es : List FamilyEvent). fold family_step (by_itself r) (es ++ family_events i None events)) first
      ∙ alone_along config i events (run_step [] r e.lone)
      ∙ ap (λ (es : List LoneEvent). by_itself (fold (run_step []) r es)) (sym own)
  | inr ne ↦
      let b = ne_eqb e.instance i ne in
      let own = own_by i events e false b in
      let first : family_event i None e ≡ [] = of_test (e.instance == i) false e _ _ b in
      ap (λ (es : List FamilyEvent). fold family_step (by_itself r) (es ++ family_events i None events)) first
      ∙ alone_along config i events r
      ∙ ap (λ (es : List LoneEvent). by_itself (fold (run_step []) r es)) (sym own)
]

pub alone_is : (config : ConfigValue) (i : ℕ) (events : List EventValue) →
    lone_output (without_parent config) (family_events i None events) ≡ output_of_run (run_of config (own_events i events))
alone_is config i events = ap (λ (f : FamilyRun). output_of_run f.own) (alone_along config i events (new_run config))

-- a parent's part of a run
parent_next : (r : Option Run) (e : LoneEvent) (es : List LoneEvent) →
    option_map (λ r. fold (run_step []) r es) (option_map (λ r. run_step [] r e) r) ≡ option_map (λ r. fold (run_step []) r (e ∷ es)) r
parent_next None e es = refl
parent_next (Some r) e es = refl

parent_along : (i p : ℕ) (events : List EventValue) (f : FamilyRun) → p ≢ i →
    (fold family_step f (family_events i (Some p) events)).parent ≡ option_map (λ r. fold (run_step []) r (own_events p events)) f.parent
parent_along i p [] f apart = same f.parent where
  same : (r : Option Run) → r ≡ option_map (λ (r : Run). r) r
  same None = refl
  same (Some r) = refl
parent_along i p (e ∷ events) f apart = elim (whose i (Some p) e) [
  | inl own ↦
      let other : e.instance ≢ p = λ is. apart (sym is ∙ own.at) in
      first (own_event e.lone ∷ []) own.is
      ∙ parent_along i p events (family_step f (own_event e.lone)) apart
      ∙ ap (λ (es : List LoneEvent). option_map (λ r. fold (run_step []) r es) f.parent)
      (sym (own_by p events e false (ne_eqb e.instance p other)))
  | inr (inl parents) ↦
      let at : e.instance ≡ p = parents.at ∙ sym (same_Some p parents.number parents.there) in
      first (parent_event e.lone ∷ []) parents.is
      ∙ parent_along i p events (family_step f (parent_event e.lone)) apart
      ∙ parent_next f.parent e.lone (own_events p events)
      ∙ ap (λ (es : List LoneEvent). option_map (λ r. fold (run_step []) r es) f.parent)
      (sym (own_by p events e true (eq-eqb e.instance p at)))
  | inr (inr strange) ↦
      first [] strange.is
      ∙ parent_along i p events f apart
      ∙ ap (λ (es : List LoneEvent). option_map (λ r. fold (run_step []) r es) f.parent)
      (sym (own_by p events e false (ne_eqb e.instance p (strange.others p refl))))
]
  where
    first : (es : List FamilyEvent) → family_event i (Some p) e ≡ es →
        (fold family_step f (family_events i (Some p) (e ∷ events))).parent
        ≡ (fold family_step f (es ++ family_events i (Some p) events)).parent
    first es is = ap (λ (xs : List FamilyEvent). (fold family_step f (xs ++ family_events i (Some p) events)).parent) is

pub parent_is : (family : Family) (i p : ℕ) (events : List EventValue) → p ≢ i →
    (run_of_family family (family_events i (Some p) events)).parent
    ≡ option_map (λ config. run_of config (own_events p events)) family.parent
parent_is family i p events apart = parent_along i p events (new_family_run family) apart ∙ both family.parent where
  both : (o : Option ConfigValue) → option_map (λ r. fold (run_step []) r (own_events p events)) (option_map new_run o)
      ≡ option_map (λ config. run_of config (own_events p events)) o
  both None = refl
  both (Some config) = refl

-- ---- at the beginning

-- each instance stands for one that nothing happened to, and so does its parent
pub family_begun : (configs : List ConfigValue) (vs : List ServedState) (records : List RecordValue) (i : ℕ) (config : ConfigValue) →
    AreParents (parents_of configs) → config_at i configs ≡ Some config →
    ((j : ℕ) (c : ConfigValue) → config_at j configs ≡ Some c → HasRun j vs records (new_run c))
    → HasFamilyRun i (parent_of configs config) vs records (new_family_run (family_in configs config))
family_begun configs vs records i config good at each =
    record { own = each i config at; beside = beside (parent_of configs config) refl } where
      beside : (o : Option ℕ) → parent_of configs config ≡ o →
          HasParentRun o vs records (option_map new_run (option_and_then (slice_get configs) o))
      beside None is = refl
      beside (Some p) is = of (slice_get configs p) refl where
        of : (c : Option ConfigValue) → slice_get configs p ≡ c → HasParentRun (Some p) vs records (option_map new_run c)
        of None none =
            let up = (good i p (parent_there configs (parents_of configs) i config refl at ∙ ap Some is)).builds_on_none in
            absurd (none-some None (sym (slice_get-map (parent_of configs) configs p ∙ ap (option_map (parent_of configs)) none) ∙ up))
        of (Some c) there = each p c there
