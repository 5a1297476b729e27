-- A call's answer beside its meaning, where running out of memory is no meaning.
use Rattle.std.specs.Prelude.{◌≡◌, List, Result, Ok, Err}
use Rattle.keyed_maps.specs.IndexSet.{IndexSet}
use Rattle.digest.specs.declared.Digest.{Digest}
use Rattle.input_tree.specs.declared.error.TreeRefusal.{TreeRefusal}
use Rattle.input_tree.specs.declared.error.GetTreeError.{GetTreeError}
use Rattle.input_tree.specs.declared.error.GetTreeError.TheVariants.{Refused, NoMemory}

abbrev pub Fails : {Y : Type 0} → GetTreeError → Result Y TreeRefusal → Type 0
Fails (Refused refusal) meaning = meaning ≡ Err refusal
Fails NoMemory meaning = Unit {0}

-- a set has the digests that are meant, in order
abbrev pub Lists : {S : Type 0} → Result (IndexSet Digest S) GetTreeError
    → Result (List Digest) TreeRefusal → Type 0
Lists (Ok set) meaning = meaning ≡ Ok set.keys
Lists (Err e) meaning = Fails e meaning

-- a call's answer, seen by view, is the meaning
abbrev pub Answers : {X Y : Type 0} → (X → Y) → Result X GetTreeError
    → Result Y TreeRefusal → Type 0
Answers view (Ok x) meaning = meaning ≡ Ok (view x)
Answers view (Err e) meaning = Fails e meaning
