-- Calls in course stand once, and what is kept of them is short, as they begin, go on and end.
use Rattle.std.proofs.Common.{◌≡◌, Bool, true, false, cond, not, filter, List, [], ◌∷◌, refl, ◌∙◌, arith}
use Rattle.std.specs.Prelude.{◌==◌}
use Rattle.std.specs.List.{AllByRecursion, IsDistinct}
use Rattle.std.specs.Map.{keys_of}
use Rattle.std.proofs.lemmas.Bool.Decides.{nat_tests}
use Rattle.std.proofs.lemmas.Map.Keys.{IsDistinct-head, IsDistinct-tail, IsDistinct-cons}
use Rattle.execution.specs.Orders.{ToldValue, told}
use Rattle.execution.specs.Steps.{StepValue}
use Rattle.instance_core.specs.declared.event.CallId.{CallId}
use Rattle.instance_core.specs.Calls.{Calls, CallValue, same_call, with_call, without_call}
use Rattle.instance_core.specs.Watching.{is_watcher, calls_told, calls_after_steps}

-- ---- calls in course

same_flips : (a b : CallId) → same_call a b ≡ same_call b a
same_flips a b =
    let first : (a.connection == b.connection) ≡ (b.connection == a.connection) = grind (arith, nat_tests) in
    let second : (a.stream == b.stream) ≡ (b.stream == a.stream) = grind (arith, nat_tests) in
    cc

-- no other of these is called so
abbrev IsNone : CallId → List CallId → Type 0
IsNone id ids = AllByRecursion (λ (other : CallId). same_call id other ≡ false) ids

none_with : (a id : CallId) (call : CallValue) (cs : Calls) → same_call a id ≡ false → IsNone a (keys_of cs) →
    IsNone a (keys_of (with_call id call cs))
none_with a id call [] ne none = (ne, tt)
none_with a id call (c ∷ cs) ne none = go (same_call id c.0) (none_with a id call cs ne none.1) where
  go : (b : Bool) → IsNone a (keys_of (with_call id call cs)) → IsNone a (keys_of (cond b ((c.0, call) ∷ cs) (c ∷ with_call id call cs)))
  go true ih = none
  go false ih = (none.0, ih)

none_without : (a id : CallId) (cs : Calls) → IsNone a (keys_of cs) → IsNone a (keys_of (without_call id cs))
none_without a id [] none = tt
none_without a id (c ∷ cs) none = go (same_call id c.0) (none_without a id cs none.1) where
  go : (b : Bool) → IsNone a (keys_of (without_call id cs)) → IsNone a (keys_of (cond b cs (c ∷ without_call id cs)))
  go true ih = none.1
  go false ih = (none.0, ih)

pub with_once : (id : CallId) (call : CallValue) (cs : Calls) → IsDistinct same_call (keys_of cs) →
    IsDistinct same_call (keys_of (with_call id call cs))
with_once id call [] once = IsDistinct-cons same_call id [] tt once
with_once id call (c ∷ cs) once =
    go (same_call id c.0) refl (with_once id call cs (IsDistinct-tail same_call c.0 (keys_of cs) once))
  where
    go : (b : Bool) → same_call id c.0 ≡ b → IsDistinct same_call (keys_of (with_call id call cs)) →
        IsDistinct same_call (keys_of (cond b ((c.0, call) ∷ cs) (c ∷ with_call id call cs)))
    go true is ih = once
    go false is ih =
        IsDistinct-cons same_call c.0 (keys_of (with_call id call cs))
        (none_with c.0 id call cs (same_flips c.0 id ∙ is) (IsDistinct-head same_call c.0 (keys_of cs) once)) ih

pub without_once : (id : CallId) (cs : Calls) → IsDistinct same_call (keys_of cs) → IsDistinct same_call (keys_of (without_call id cs))
without_once id [] once = once
without_once id (c ∷ cs) once =
    go (same_call id c.0) (without_once id cs (IsDistinct-tail same_call c.0 (keys_of cs) once))
  where
    go : (b : Bool) → IsDistinct same_call (keys_of (without_call id cs)) →
        IsDistinct same_call (keys_of (cond b cs (c ∷ without_call id cs)))
    go true ih = IsDistinct-tail same_call c.0 (keys_of cs) once
    go false ih =
        IsDistinct-cons same_call c.0 (keys_of (without_call id cs))
        (none_without c.0 id cs (IsDistinct-head same_call c.0 (keys_of cs) once)) ih

-- ---- some of the calls

none_filter : (a : CallId) (t : CallId × CallValue → Bool) (cs : Calls) → IsNone a (keys_of cs) → IsNone a (keys_of (filter t cs))
none_filter a t [] none = tt
none_filter a t (c ∷ cs) none = go (t c) (none_filter a t cs none.1) where
  go : (b : Bool) → IsNone a (keys_of (filter t cs)) → IsNone a (keys_of (cond b (c ∷ filter t cs) (filter t cs)))
  go true ih = (none.0, ih)
  go false ih = ih

pub filter_once : (t : CallId × CallValue → Bool) (cs : Calls) → IsDistinct same_call (keys_of cs) →
    IsDistinct same_call (keys_of (filter t cs))
filter_once t [] once = once
filter_once t (c ∷ cs) once = go (t c) (filter_once t cs (IsDistinct-tail same_call c.0 (keys_of cs) once)) where
  go : (b : Bool) → IsDistinct same_call (keys_of (filter t cs)) → IsDistinct same_call (keys_of (cond b (c ∷ filter t cs) (filter t cs)))
  go true ih = IsDistinct-cons same_call c.0 (keys_of (filter t cs))
      (none_filter c.0 t cs (IsDistinct-head same_call c.0 (keys_of cs) once)) ih
  go false ih = ih

pub all_filter : {A : Type 0} (P : A → Type 0) (t : A → Bool) (xs : List A) → AllByRecursion P xs → AllByRecursion P (filter t xs)
all_filter P t [] h = tt
all_filter P t (x ∷ xs) h = go (t x) (all_filter P t xs h.1) where
  go : (b : Bool) → AllByRecursion P (filter t xs) → AllByRecursion P (cond b (x ∷ filter t xs) (filter t xs))
  go true ih = (h.0, ih)
  go false ih = ih

-- ---- those that watch on after the steps of an event

-- what holds of calls holds of those that are left where some are taken out
abbrev IsLeft : (Calls → Type 0) → Type 0
IsLeft P = (t : CallId × CallValue → Bool) (cs : Calls) → P cs → P (filter t cs)

told_left : (P : Calls → Type 0) → IsLeft P → (t : ToldValue) (cs : Calls) → P cs → P (calls_told t cs)
told_left P left t cs h = go t.is_last where
  go : (b : Bool) → P (cond b (filter (λ c. not (is_watcher t.number c)) cs) cs)
  go true = left (λ c. not (is_watcher t.number c)) cs h
  go false = h

pub steps_left : (P : Calls → Type 0) → IsLeft P → (steps : List StepValue) (cs : Calls) → P cs → P (calls_after_steps steps cs)
steps_left P left [] cs h = h
steps_left P left (step ∷ steps) cs h = steps_left P left steps (calls_told (told step) cs) (told_left P left (told step) cs h)
