-- Which programs are known, as what, and how they ended.
use Rattle.std.specs.Int.{saturate_signed, w32}
use Rattle.std.specs.Prelude.{◌≡◌, ◌⊎◌, ℕ, ℤ, pos, ◌+ℤ◌, not, ◌||◌, Bool, List, [], ◌∷◌, ◌++◌, filter, Option, None, Some, IsSomeAnd, slice_get, unwrap_or}
use Rattle.std.specs.List.{list_any}
use Rattle.run_calls.specs.declared.task.RunKey.{RunKey}
use Rattle.system.specs.declared.programs.Ending.{Ending}
use Rattle.run_programs.specs.declared.started.Started.{Started}
use Rattle.run_programs.specs.declared.started.StartedAs.{StartedAs}
use Rattle.run_programs.specs.declared.started.StartedAs.TheVariants.{Itself, Launcher}
use Rattle.run_programs.specs.declared.way.Way.{Way}
use Rattle.run_programs.specs.declared.way.Way.TheVariants.{By, AsTheyAre}
use Rattle.run_programs.specs.Ways.{is_of, is_run, sought_of}

-- what starts programs is known as a launcher, and no program is
abbrev pub started_as : Way → StartedAs
started_as (By launcher) = Launcher
started_as (AsTheyAre sought) = Itself

-- those that are known are the same, and one more at most: of this run, and known as this
abbrev pub KnowsOneMore : {C F : Type 0} → RunKey → StartedAs → List (Started C F)
    → List (Started C F) → Type 0
KnowsOneMore {C} {F} run so old new = (new ≡ old) ⊎ ((program : Started C F)
    × (new ≡ old ++ program ∷ []) × (program.run ≡ run) × (program.started_as ≡ so))

-- whether the program of a run is known
abbrev pub is_known : {C F : Type 0} → RunKey → List (Started C F) → Bool
is_known run programs = list_any (λ program. is_run run program.run) programs

-- .. or is looked for
abbrev pub is_known_or_sought : {C F : Type 0} → RunKey → List (Started C F) → Way → Bool
is_known_or_sought run programs way = is_known run programs || list_any (is_of run) (sought_of way)

-- the one at this place is of a run
abbrev pub IsOfAt : {C F : Type 0} → RunKey → List (Started C F) → ℕ → Type 0
IsOfAt run programs at = IsSomeAnd (slice_get programs at) (λ program. program.run ≡ run)

-- the programs of other runs than this, in order
abbrev pub of_others : {C F : Type 0} → RunKey → List (Started C F) → List (Started C F)
of_others run programs = filter (λ program. not (is_run run program.run)) programs

-- those are known as before
abbrev pub OthersStay : {C F : Type 0} → RunKey → List (Started C F) → List (Started C F)
    → Type 0
OthersStay run old new = of_others run new ≡ of_others run old

-- the code of a program that a signal ended: 128 and the signal's number, as shells have it
abbrev pub signal_code : Option ℤ → ℤ
signal_code signal = saturate_signed w32 (unwrap_or signal (pos 0) +ℤ pos 128)

-- what an end comes to: the program's own code, where it gave one, or else the signal's
abbrev pub told_code : Ending → ℤ
told_code ending = unwrap_or ending.code (signal_code ending.signal)

-- the code of a program that has ended, as a look told
abbrev pub IsCodeOf : Option Ending → ℤ → Type 0
IsCodeOf None code = ⊥
IsCodeOf (Some ending) code = code ≡ told_code ending

-- the program of a run, among those that are known, ended with this code
abbrev pub HasEndedWith : {C F : Type 0} → (C → Option Ending) → RunKey → List (Started C F)
    → ℤ → Type 0
HasEndedWith ended run programs code = (at : ℕ) × IsSomeAnd (slice_get programs at)
    (λ program. (program.run ≡ run) × IsCodeOf (ended program.child) code)
