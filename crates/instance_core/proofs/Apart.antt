-- The map of calls without some of them.
use Rattle.std.proofs.Common.{◌≡◌, Bool, true, false, cond, [], ◌∷◌}
use Rattle.std.specs.Prelude.{filter}
use Rattle.std.specs.List.{IsDistinct}
use Rattle.std.specs.Map.{keys_of}
use Rattle.instance_core.specs.declared.event.CallId.{CallId}
use Rattle.instance_core.specs.Calls.{Calls, CallValue, same_call, KeepShort, AreInCourse}

filtered_short : (test : CallId × CallValue → Bool) (cs : Calls) → KeepShort cs → KeepShort (filter test cs)
filtered_short test [] kept = tt
filtered_short test (c ∷ cs) kept = go (test c) (filtered_short test cs kept.1) where
  go : (b : Bool) → KeepShort (filter test cs) → KeepShort (cond b (c ∷ filter test cs) (filter test cs))
  go true ih = (kept.0, ih)
  go false ih = ih

-- those were kept that pass a test
pub kept_by : (test : CallId × CallValue → Bool) (old new : Calls) → new ≡ filter test old → IsDistinct same_call (keys_of new) →
    AreInCourse old → AreInCourse new
kept_by test old new is once calls = record { once = once; messages = rw is (filtered_short test old calls.messages) }
