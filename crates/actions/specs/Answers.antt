-- The walk's answer beside its definition, where want of memory is no meaning.
use Rattle.std.specs.Prelude.{◌≡◌, Result, Ok, Err}
use Rattle.actions.specs.declared.fault.TreeFault.{TreeFault}
use Rattle.actions.specs.declared.fault.TreeFault.TheVariants.{Missing, BadDirectory, TooMany, TooDeep, NoMemory}
use Rattle.actions.specs.Walk.{TreeFaultValue, missing, bad_directory, too_many, too_deep}

abbrev pub Fails : {Y : Type 0} → TreeFault → Result Y TreeFaultValue → Type 0
Fails (Missing digests) meaning = meaning ≡ Err (missing digests.items)
Fails BadDirectory meaning = meaning ≡ Err bad_directory
Fails TooMany meaning = meaning ≡ Err too_many
Fails TooDeep meaning = meaning ≡ Err too_deep
Fails NoMemory meaning = Unit {0}

-- a call's answer, seen by view, is the meaning
abbrev pub Answers : {X Y : Type 0} → (X → Y) → Result X TreeFault → Result Y TreeFaultValue →
    Type 0
Answers view (Ok x) meaning = meaning ≡ Ok (view x)
Answers view (Err e) meaning = Fails e meaning
