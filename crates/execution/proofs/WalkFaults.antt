-- An action whose inputs have a fault.
use Rattle.std.proofs.Common.{◌≡◌, List, ℕ, Option, Some, None, Err, refl, ap}
use Rattle.std.specs.Prelude.{is_some, option_map}
use Rattle.actions.specs.Walk.{Nodes, TreeFaultValue, missing, bad_directory, too_many, too_deep}
use Rattle.actions.specs.Answers as Tree
use Rattle.actions.specs.declared.fault.TreeFault.{TreeFault}
use Rattle.actions.specs.declared.fault.TreeFault.TheVariants as Fault
use Rattle.actions.specs.Actions.{ActionTaken}
use Rattle.execution.specs.declared.preparing.Unprepared.{Unprepared}
use Rattle.execution.specs.declared.preparing.Unprepared.TheVariants.{Faulty, NoMemory}
use Rattle.execution.specs.Preparing.{FaultValue, PreparedValue, prepared_with, walk_fault}
use Rattle.execution.specs.Shown.{FailsWith, IsFault, IfNoMemory, Fails}

fails-with : (e : Unprepared) (f : FaultValue) → FailsWith e f → Fails {Y = PreparedValue} e (Err f)
fails-with (Faulty fault digests) f h = ap (λ (x : FaultValue). Err x) h
fails-with NoMemory f h = tt

pub walk-fails : (fault : TreeFault) (meaning : Nodes) (a : ActionTaken) (command : Option (List ℕ)) (e : Unprepared) →
    Tree.Fails fault meaning → ((value : TreeFaultValue) → IsFault fault value →
    FailsWith e (walk_fault a.command (is_some command) value)) → IfNoMemory fault (e ≡ NoMemory) →
    Fails e (prepared_with a command meaning)
walk-fails (Fault.Missing digests) meaning a command e is h memory =
    rw is (fails-with e (walk_fault a.command (is_some command) (missing digests.items)) (h (missing digests.items) refl))
walk-fails Fault.BadDirectory meaning a command e is h memory =
    rw is (fails-with e (walk_fault a.command (is_some command) bad_directory) (h bad_directory refl))
walk-fails Fault.TooMany meaning a command e is h memory =
    rw is (fails-with e (walk_fault a.command (is_some command) too_many) (h too_many refl))
walk-fails Fault.TooDeep meaning a command e is h memory =
    rw is (fails-with e (walk_fault a.command (is_some command) too_deep) (h too_deep refl))
walk-fails Fault.NoMemory meaning a command e is h memory = rw memory tt

pub is_some-map : {A B : Type 0} (f : A → B) (o : Option A) → is_some o ≡ is_some (option_map f o)
is_some-map f None = refl
is_some-map f (Some x) = refl
