-- The map of calls, and the list of calls.
use Rattle.std.proofs.Common.{◌≡◌, Bool, true, false, cond, List, [], ◌∷◌, Result, Ok, Err, refl, ap}
use Rattle.std.specs.Prelude.{OnOk}
use Rattle.std.specs.List.{IsDistinct}
use Rattle.std.specs.Map.{keys_of}
use Rattle.keyed_maps.specs.IndexMap.{insert_entry}
use Rattle.instance_core.specs.declared.event.CallId.{CallId}
use Rattle.instance_core.specs.Calls.{Calls, CallValue, same_call, with_call, without_call, IsProgressOf, KeepShort, AreInCourse}

pub inserted : (id : CallId) (call : CallValue) (es : List (CallId × CallValue)) → insert_entry same_call es id call ≡ with_call id call es
inserted id call [] = refl
inserted id call (e ∷ es) = go (same_call id e.0) refl (inserted id call es) where
  go : (b : Bool) → same_call id e.0 ≡ b → insert_entry same_call es id call ≡ with_call id call es →
      insert_entry same_call (e ∷ es) id call ≡ with_call id call (e ∷ es)
  go true is ih = rw is refl
  go false is ih = rw is (ap (λ (cs : List (CallId × CallValue)). e ∷ cs) ih)

pub with_short : (id : CallId) (call : CallValue) (cs : Calls) → IsProgressOf call.method call.progress → KeepShort cs →
    KeepShort (with_call id call cs)
with_short id call [] h kept = (h, tt)
with_short id call (c ∷ cs) h kept = go (same_call id c.0) (with_short id call cs h kept.1) where
  go : (b : Bool) → KeepShort (with_call id call cs) → KeepShort (cond b ((c.0, call) ∷ cs) (c ∷ with_call id call cs))
  go true ih = (h, kept.1)
  go false ih = (kept.0, ih)

pub without_short : (id : CallId) (cs : Calls) → KeepShort cs → KeepShort (without_call id cs)
without_short id [] kept = tt
without_short id (c ∷ cs) kept = go (same_call id c.0) (without_short id cs kept.1) where
  go : (b : Bool) → KeepShort (without_call id cs) → KeepShort (cond b cs (c ∷ without_call id cs))
  go true ih = kept.1
  go false ih = (kept.0, ih)

-- a call that was put into the map
pub put_in : (id : CallId) (call : CallValue) (old new : Calls) → new ≡ insert_entry same_call old id call →
    IsDistinct same_call (keys_of new)
    → IsProgressOf call.method call.progress → AreInCourse old → AreInCourse new
put_in id call old new is once short calls = record
    { once = once; messages = rw (is, inserted id call old) (with_short id call old short calls.messages) }

-- a call that was taken out of it
pub taken_out : (id : CallId) (old new : Calls) → new ≡ without_call id old → IsDistinct same_call (keys_of new) → AreInCourse old →
    AreInCourse new
taken_out id old new is once calls = record { once = once; messages = rw is (without_short id old calls.messages) }

-- a call that took the place of another
pub replaced : (id : CallId) (call : CallValue) (old new : Calls) → new ≡ with_call id call old → IsDistinct same_call (keys_of new)
    → IsProgressOf call.method call.progress → AreInCourse old → AreInCourse new
replaced id call old new is once short calls = record { once = once; messages = rw is (with_short id call old short calls.messages) }

pub ok_is : {T E : Type 0} (r : Result T E) (x : T) {P : Type 0} → r ≡ Ok x → OnOk r P → P
ok_is (Ok y) x is p = p
ok_is (Err e) x is p = absurd (cc)
