-- What comes of naming blobs beside its meaning, where running out of memory is no meaning. For the
-- code alone: no public contract speaks of it.
use Rattle.std.specs.Prelude.{◌≡◌, Option, Some, None, Result, Ok, Err}
use Rattle.action_cache.specs.declared.naming.Unnamed.{Unnamed}
use Rattle.action_cache.specs.declared.naming.Unnamed.TheVariants.{Incomplete, NoMemory}

abbrev pub Fails : {Y : Type 0} → Unnamed → Option Y → Type 0
Fails Incomplete meaning = meaning ≡ None
Fails NoMemory meaning = Unit {0}

-- a function's answer, seen by view, is the meaning, unless memory ran out
abbrev pub Names : {X Y : Type 0} → (X → Y) → Result X Unnamed → Option Y → Type 0
Names view (Ok x) meaning = meaning ≡ Some (view x)
Names view (Err e) meaning = Fails e meaning
