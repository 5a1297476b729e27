-- What is kept under the name of one call, and what an event of a call makes of it.
use Rattle.std.proofs.Common.{◌≡◌, ℕ, List, [], ◌∷◌, ◌++◌, refl, ap, ◌∙◌, sym, subst, inl, inr}
use Rattle.std.specs.Prelude.{Bool, true, false, cond, not, ◌==◌, ◌&&◌, map, filter, Option, Some, None, Result, Ok, Err}
use Rattle.std.specs.List.{AllByRecursion, flat_map}
use Rattle.std.specs.Map.{lookup}
use Rattle.std.proofs.lemmas.Bool.{and_parts, cases_Bool, eqb-true}
use Rattle.conn_core.proofs.Numbers.{same_number}
use Rattle.execution.specs.Orders.{ToldValue, told}
use Rattle.execution.specs.Steps.{StepValue}
use Rattle.instance_core.specs.declared.event.CallId.{CallId}
use Rattle.instance_core.specs.Calls.{Calls, CallValue, ProgressValue, waits, has, writes, watches, call_at, same_call, with_call, without_call}
use Rattle.instance_core.specs.Replies.{ReplyValue}
use Rattle.instance_core.specs.Watching.{is_watching, is_watcher, watchers, told_reply, replies_told, replies_to_watchers, calls_told, calls_after_steps}
use Rattle.client_reading.proofs.Choices.{all_append}

-- ---- what is kept

abbrev pub kept_at : CallId → Calls → List CallValue
kept_at id [] = []
kept_at id (c ∷ cs) = cond (same_call id c.0) (c.1 ∷ kept_at id cs) (kept_at id cs)

pub same_is : (a b : CallId) → same_call a b ≡ true → a ≡ b
same_is a b h =
    let p = and_parts (a.connection == b.connection) (a.stream == b.stream) h in
    let of_connection : ℕ → CallId = λ n. record { connection = n; stream = a.stream } in
    let of_stream : ℕ → CallId = λ n. record { connection = b.connection; stream = n } in
    ap of_connection (eqb-true a.connection b.connection p.0) ∙ ap of_stream (eqb-true a.stream b.stream p.1)

pub same_self : (id : CallId) → same_call id id ≡ true
same_self id = ap (λ b. b && id.stream == id.stream) (same_number id.connection) ∙ same_number id.stream

pub none_found : (id : CallId) (cs : Calls) → kept_at id cs ≡ [] → call_at id cs ≡ None
none_found id [] is = refl
none_found id (c ∷ cs) is = go (same_call id c.0) is (λ later. none_found id cs later) where
  go : (b : Bool) → cond b (c.1 ∷ kept_at id cs) (kept_at id cs) ≡ [] → (kept_at id cs ≡ [] → lookup (same_call id) cs ≡ None) →
      cond b (Some c.1) (lookup (same_call id) cs) ≡ None
  go true is later = absurd (let z : ⊥ = cc in z)
  go false is later = later is

pub one_found : (id : CallId) (cs : Calls) (v : CallValue) → kept_at id cs ≡ v ∷ [] → call_at id cs ≡ Some v
one_found id [] v is = absurd (let z : ⊥ = cc in z)
one_found id (c ∷ cs) v is = go (same_call id c.0) is (λ later. one_found id cs v later) where
  go : (b : Bool) → cond b (c.1 ∷ kept_at id cs) (kept_at id cs) ≡ v ∷ [] → (kept_at id cs ≡ v ∷ [] → lookup (same_call id) cs ≡ Some v) →
      cond b (Some c.1) (lookup (same_call id) cs) ≡ Some v
  go true is later = let first : c.1 ≡ v = cc in ap Some first
  go false is later = later is

-- ---- one call more

tail_none : (v w : CallValue) (vs : List CallValue) → v ∷ vs ≡ w ∷ [] → vs ≡ []
tail_none v w vs is = let rest : vs ≡ [] = cc in rest

pub with_new : (id : CallId) (v : CallValue) (cs : Calls) → kept_at id cs ≡ [] → kept_at id (with_call id v cs) ≡ v ∷ []
with_new id v [] is = ap (λ b. cond b (v ∷ []) []) (same_self id)
with_new id v (c ∷ cs) is = go (same_call id c.0) refl is (λ later. with_new id v cs later) where
  go : (b : Bool) → same_call id c.0 ≡ b → cond b (c.1 ∷ kept_at id cs) (kept_at id cs) ≡ [] →
      (kept_at id cs ≡ [] → kept_at id (with_call id v cs) ≡ v ∷ [])
      → kept_at id (cond b ((c.0, v) ∷ cs) (c ∷ with_call id v cs)) ≡ v ∷ []
  go true at is later = absurd (let z : ⊥ = cc in z)
  go false at is later = ap (λ b. cond b (c.1 ∷ kept_at id (with_call id v cs)) (kept_at id (with_call id v cs))) at ∙ later is

pub with_more : (id : CallId) (v w : CallValue) (cs : Calls) → kept_at id cs ≡ w ∷ [] → kept_at id (with_call id v cs) ≡ v ∷ []
with_more id v w [] is = absurd (let z : ⊥ = cc in z)
with_more id v w (c ∷ cs) is = go (same_call id c.0) refl is (λ later. with_more id v w cs later) where
  go : (b : Bool) → same_call id c.0 ≡ b → cond b (c.1 ∷ kept_at id cs) (kept_at id cs) ≡ w ∷ [] →
      (kept_at id cs ≡ w ∷ [] → kept_at id (with_call id v cs) ≡ v ∷ [])
      → kept_at id (cond b ((c.0, v) ∷ cs) (c ∷ with_call id v cs)) ≡ v ∷ []
  go true at is later =
      let rest : kept_at id cs ≡ [] = tail_none c.1 w (kept_at id cs) is in
      ap (λ b. cond b (v ∷ kept_at id cs) (kept_at id cs)) at ∙ ap (λ vs. v ∷ vs) rest
  go false at is later = ap (λ b. cond b (c.1 ∷ kept_at id (with_call id v cs)) (kept_at id (with_call id v cs))) at ∙ later is

-- another than the call that a name names
other_than : (id x : CallId) (y : CallId) → same_call id x ≡ false → same_call x y ≡ true → same_call id y ≡ false
other_than id x y other same = subst (λ (z : CallId). same_call id z ≡ false) (same_is x y same) other

pub with_other : (id x : CallId) (v : CallValue) (cs : Calls) → same_call id x ≡ false → kept_at id (with_call x v cs) ≡ kept_at id cs
with_other id x v [] other = ap (λ b. cond b (v ∷ []) []) other
with_other id x v (c ∷ cs) other = go (same_call x c.0) refl (with_other id x v cs other) where
  go : (b : Bool) → same_call x c.0 ≡ b → kept_at id (with_call x v cs) ≡ kept_at id cs
      → kept_at id (cond b ((c.0, v) ∷ cs) (c ∷ with_call x v cs)) ≡ cond (same_call id c.0) (c.1 ∷ kept_at id cs) (kept_at id cs)
  go true at later =
      let apart : same_call id c.0 ≡ false = other_than id x c.0 other at in
      ap (λ b. cond b (v ∷ kept_at id cs) (kept_at id cs)) apart ∙ sym (ap (λ b. cond b (c.1 ∷ kept_at id cs) (kept_at id cs)) apart)
  go false at later = ap (λ vs. cond (same_call id c.0) (c.1 ∷ vs) vs) later

-- ---- one call fewer

pub without_one : (id : CallId) (v : CallValue) (cs : Calls) → kept_at id cs ≡ v ∷ [] → kept_at id (without_call id cs) ≡ []
without_one id v [] is = absurd (let z : ⊥ = cc in z)
without_one id v (c ∷ cs) is = go (same_call id c.0) refl is (λ later. without_one id v cs later) where
  go : (b : Bool) → same_call id c.0 ≡ b → cond b (c.1 ∷ kept_at id cs) (kept_at id cs) ≡ v ∷ [] →
      (kept_at id cs ≡ v ∷ [] → kept_at id (without_call id cs) ≡ [])
      → kept_at id (cond b cs (c ∷ without_call id cs)) ≡ []
  go true at is later = tail_none c.1 v (kept_at id cs) is
  go false at is later = ap (λ b. cond b (c.1 ∷ kept_at id (without_call id cs)) (kept_at id (without_call id cs))) at ∙ later is

pub without_none : (id : CallId) (cs : Calls) → kept_at id cs ≡ [] → kept_at id (without_call id cs) ≡ []
without_none id [] is = refl
without_none id (c ∷ cs) is = go (same_call id c.0) refl is (λ later. without_none id cs later) where
  go : (b : Bool) → same_call id c.0 ≡ b → cond b (c.1 ∷ kept_at id cs) (kept_at id cs) ≡ [] →
      (kept_at id cs ≡ [] → kept_at id (without_call id cs) ≡ [])
      → kept_at id (cond b cs (c ∷ without_call id cs)) ≡ []
  go true at is later = absurd (let z : ⊥ = cc in z)
  go false at is later = ap (λ b. cond b (c.1 ∷ kept_at id (without_call id cs)) (kept_at id (without_call id cs))) at ∙ later is

pub without_other : (id x : CallId) (cs : Calls) → same_call id x ≡ false → kept_at id (without_call x cs) ≡ kept_at id cs
without_other id x [] other = refl
without_other id x (c ∷ cs) other = go (same_call x c.0) refl (without_other id x cs other) where
  go : (b : Bool) → same_call x c.0 ≡ b → kept_at id (without_call x cs) ≡ kept_at id cs
      → kept_at id (cond b cs (c ∷ without_call x cs)) ≡ cond (same_call id c.0) (c.1 ∷ kept_at id cs) (kept_at id cs)
  go true at later = sym (ap (λ b. cond b (c.1 ∷ kept_at id cs) (kept_at id cs)) (other_than id x c.0 other at))
  go false at later = ap (λ vs. cond (same_call id c.0) (c.1 ∷ vs) vs) later

-- ---- those who watch jobs

-- what waits for no job
abbrev pub WatchesNone : CallValue → Type 0
WatchesNone v = (n : ℕ) → is_watching n v.progress ≡ false

abbrev pub AllWatchNone : List CallValue → Type 0
AllWatchNone vs = AllByRecursion WatchesNone vs

abbrev pub AreNotTo : CallId → List ReplyValue → Type 0
AreNotTo id rs = AllByRecursion (λ (r : ReplyValue). same_call id r.call ≡ false) rs

told_kept : (n : ℕ) (id : CallId) (cs : Calls) → AllWatchNone (kept_at id cs) →
    kept_at id (filter (λ (c : CallId × CallValue). not (is_watcher n c)) cs) ≡ kept_at id cs
told_kept n id [] h = refl
told_kept n id (c ∷ cs) h = go (same_call id c.0) refl h (told_kept n id cs) where
  others : Calls
  others = filter (λ (x : CallId × CallValue). not (is_watcher n x)) cs

  kept : (b : Bool) → same_call id c.0 ≡ false → kept_at id others ≡ kept_at id cs →
      kept_at id (cond (not b) (c ∷ others) others) ≡ kept_at id cs
  kept true off later = later
  kept false off later = ap (λ x. cond x (c.1 ∷ kept_at id others) (kept_at id others)) off ∙ later

  go : (b : Bool) → same_call id c.0 ≡ b → AllWatchNone (cond b (c.1 ∷ kept_at id cs) (kept_at id cs)) →
      (AllWatchNone (kept_at id cs) → kept_at id others ≡ kept_at id cs)
      → kept_at id (cond (not (is_watcher n c)) (c ∷ others) others) ≡ cond b (c.1 ∷ kept_at id cs) (kept_at id cs)
  go true at h later =
      ap (λ x. kept_at id (cond (not x) (c ∷ others) others)) (h.0 n) ∙ ap (λ x. cond x (c.1 ∷ kept_at id others) (kept_at id others)) at
      ∙ ap (λ vs. c.1 ∷ vs) (later h.1)
  go false at h later = kept (is_watcher n c) at (later h)

if_told : (t : ToldValue) (id : CallId) (cs : Calls) → AllWatchNone (kept_at id cs) → kept_at id (calls_told t cs) ≡ kept_at id cs
if_told t id cs h = go t.is_last where
  go : (b : Bool) → kept_at id (cond b (filter (λ (c : CallId × CallValue). not (is_watcher t.number c)) cs) cs) ≡ kept_at id cs
  go true = told_kept t.number id cs h
  go false = refl

pub steps_kept : (steps : List StepValue) (id : CallId) (cs : Calls) → AllWatchNone (kept_at id cs) →
    kept_at id (calls_after_steps steps cs) ≡ kept_at id cs
steps_kept [] id cs h = refl
steps_kept (step ∷ steps) id cs h =
    let first : kept_at id (calls_told (told step) cs) ≡ kept_at id cs = if_told (told step) id cs h in
    steps_kept steps id (calls_told (told step) cs) (subst AllWatchNone (sym first) h) ∙ first

abbrev AreOthers : CallId → List CallId → Type 0
AreOthers id xs = AllByRecursion (λ (x : CallId). same_call id x ≡ false) xs

watch_others : (n : ℕ) (id : CallId) (cs : Calls) → AllWatchNone (kept_at id cs) → AreOthers id (watchers n cs)
watch_others n id [] h = tt
watch_others n id (c ∷ cs) h = go (same_call id c.0) refl h (watch_others n id cs) where
  others : Calls
  others = filter (is_watcher n) cs

  off_kept : (b : Bool) → same_call id c.0 ≡ false → AreOthers id (map (λ (x : CallId × CallValue). x.0) others) →
      AreOthers id (map (λ (x : CallId × CallValue). x.0) (cond b (c ∷ others) others))
  off_kept true off later = (off, later)
  off_kept false off later = later

  go : (b : Bool) → same_call id c.0 ≡ b → AllWatchNone (cond b (c.1 ∷ kept_at id cs) (kept_at id cs)) →
      (AllWatchNone (kept_at id cs) → AreOthers id (map (λ (x : CallId × CallValue). x.0) others))
      → AreOthers id (map (λ (x : CallId × CallValue). x.0) (cond (is_watcher n c) (c ∷ others) others))
  go true at h later = subst (λ x. AreOthers id (map (λ (y : CallId × CallValue). y.0) (cond x (c ∷ others) others))) (sym (h.0 n))
      (later h.1)
  go false at h later = off_kept (is_watcher n c) at (later h)

told_to : (t : ToldValue) (id : CallId) (xs : List CallId) → AreOthers id xs → AreNotTo id (map (told_reply t) xs)
told_to t id [] h = tt
told_to t id (x ∷ xs) h = (h.0, told_to t id xs h.1)

pub turns_to : (steps : List StepValue) (id : CallId) (cs : Calls) → AllWatchNone (kept_at id cs) →
    AreNotTo id (replies_to_watchers cs steps)
turns_to [] id cs h = tt
turns_to (step ∷ steps) id cs h =
    all_append (λ (r : ReplyValue). same_call id r.call ≡ false) (replies_told cs (told step)) (replies_to_watchers cs steps)
    (told_to (told step) id (watchers (told step).number cs) (watch_others (told step).number id cs h)) (turns_to steps id cs h)
