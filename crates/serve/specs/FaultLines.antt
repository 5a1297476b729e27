-- The lines that say which runs failed, to an output that is not waited for. To be read from
-- `WritesLines` up.
use Rattle.std.specs.Prelude.{◌≡◌, ◌<◌, ◌≤◌, ◌≢◌, ◌⊎◌, slice_get, ◌+◌, ◌-◌, ◌^◌, ◌==◌, ◌/◌, if◌then◌else◌, ℕ, min, Bool, true, false, List, [], ◌∷◌, ◌++◌, Contains, length, map, flat_map, codes, Option, Some, None, IsSomeAnd, Result, Ok, Err}
use Rattle.std.specs.Option.{option_map_or}
use Rattle.std.specs.List.{AllByRecursion, concat}
use Rattle.std.specs.Fmt.{decimal}
use Rattle.std.specs.Io.KnownBytes.{Appends}
use Rattle.std.specs.Char.Escape.{escape_ascii}
use Rattle.runner.specs.declared.fault.RunFault.{RunFault}
use Rattle.runner.specs.declared.fault.RunFault.TheVariants.{Folder, Start, Launcher, TooLarge, NoMemory, Left}
use Rattle.run_calls.specs.Calls.{Adds}
use Rattle.run_calls.specs.declared.task.RunKey.{RunKey}
use Rattle.server_events.specs.Configs.{ConfigValue}
use Rattle.serve.specs.declared.error_lines.Backlog.{Backlog}
use Rattle.serve.specs.declared.error_lines.LineCount.{LineCount}
use Rattle.serve.specs.RunEvents.{FaultValue}

-- ---- lines

-- the line that says how many were dropped, if any were
abbrev pub dropped_line : ℕ → List ℕ
dropped_line n =
    if n == 0 then [] else codes "remoted: " ++ decimal n ++ codes " lines were dropped\n"

-- the word for a fault of a run
abbrev pub word_of : RunFault → List ℕ
word_of Folder = codes "folder"
word_of Start = codes "start"
word_of Launcher = codes "launcher"
word_of TooLarge = codes "too large"
word_of NoMemory = codes "memory"
word_of Left = codes "left"

-- bytes on one line: those that do not print stand as `\n`, `\x00` and the like
abbrev pub escaped : List ℕ → List ℕ
escaped bytes = flat_map escape_ascii bytes

-- a reason has 400 bytes at most
abbrev pub IsReason : List ℕ → Type 0
IsReason reason = length reason ≤ 400

-- the line that says why the run of a job failed; none where nothing is known
abbrev pub reason_line : List ℕ → ℕ → List ℕ → List ℕ
reason_line name job reason =
    if length reason == 0 then [] else codes "remoted: run " ++ name ++ codes " " ++ decimal job
    ++ codes ": " ++ escaped reason ++ codes "\n"

-- the line that says that it failed, and how: it stands alone, and the other behind it
abbrev pub run_lines : List ℕ → ℕ → RunFault → List ℕ → List ℕ
run_lines name job fault reason =
    codes "remoted: run " ++ name ++ codes " " ++ decimal job ++ codes " failed: "
    ++ word_of fault ++ codes "\n" ++ reason_line name job reason

-- the name of the instance of a number
abbrev pub name_at : ℕ → List ConfigValue → List ℕ
name_at i configs = option_map_or (λ config. config.name) (slice_get configs i) []

-- ---- what is written

-- of these bytes the first were written, and the others are left
abbrev pub WritesFront : Option (List ℕ) → List ℕ → Option (List ℕ) → List ℕ → Type 0
WritesFront before bytes after left =
    (written : List ℕ) × Appends before after written × (bytes ≡ written ++ left)

abbrev pub one_more : ℕ → ℕ
one_more n = min (n + 1) (2 ^ 64 - 1)

abbrev pub with_dropped_line : Backlog → Backlog
with_dropped_line b = record b { dropped = one_more b.dropped }

-- a line is put behind what is left of another, and behind the one that says how many were dropped;
-- or it is dropped too
abbrev pub PutsLine : Bool → List ℕ → Option (List ℕ) → Backlog → Option (List ℕ) → Backlog →
    Type 0
PutsLine true line before old after new =
    WritesFront before (old.rest.items ++ (dropped_line old.dropped ++ line)) after new.rest.items
    × (new.dropped ≡ 0)
PutsLine false line before old after new =
    WritesFront before old.rest.items after new.rest.items × (new.dropped ≡ one_more old.dropped)

-- a line of no instance
abbrev pub TellsLine : List ℕ → Option (List ℕ) → Backlog → Option (List ℕ) → Backlog → Type 0
TellsLine line before old after new =
    (told : Bool) × PutsLine told line before old after new × (new.counts ≡ old.counts)

-- ---- how many lines an instance has in a second

abbrev pub lines_in : ℕ → LineCount → ℕ
lines_in second count = if count.second == second then count.lines else 0

-- where it had fewer than ten, it has one more
abbrev pub Counts : Bool → ℕ → LineCount → LineCount → Type 0
Counts true second old new =
    (lines_in second old < 10) × (lines_in second new ≡ lines_in second old + 1)
Counts false second old new = (10 ≤ lines_in second old) × (new ≡ old)

-- whether the instance of a number may have one more, which is counted; no other has
pub record MayTell (may : Bool) (second instance : ℕ) (old new : List LineCount) : Type 0 where
  pub counted : (c : LineCount) → slice_get old instance ≡ Some c
      → IsSomeAnd (slice_get new instance) (Counts may second c)
  pub none : slice_get old instance ≡ None → may ≡ false
  pub others : (j : ℕ) → j ≢ instance → slice_get new j ≡ slice_get old j

-- a line of an instance at a moment, in milliseconds: it is dropped where the instance may have
-- none
pub record TellsRun (moment instance : ℕ) (line : List ℕ) (before : Option (List ℕ)) (old : Backlog)
    (after : Option (List ℕ)) (new : Backlog) : Type 0 where
  pub may : Bool
  pub limited : MayTell may (moment / 1000) instance old.counts.items new.counts.items
  pub told : Bool
  pub put : PutsLine told line before old after new
  pub within : told ≡ true → may ≡ true

-- a fault of a run is a line, and perhaps its reason one more: both are put, or dropped
abbrev pub TellsFault : List ConfigValue → ℕ → RunKey → RunFault → Option (List ℕ) → Backlog →
    Option (List ℕ) → Backlog → Type 0
TellsFault configs moment run fault before old after new =
    (reason : List ℕ) × IsReason reason
    × TellsRun moment run.instance (run_lines (name_at run.instance configs) run.job fault reason)
    before old after new

-- where a run answers a fault, that is a line
abbrev pub TellsAnswer : {A : Type 0} → List ConfigValue → ℕ → RunKey → Result A RunFault →
    Option (List ℕ) → Backlog → Option (List ℕ) → Backlog → Type 0
TellsAnswer configs moment run (Ok answer) before old after new = (after ≡ before) × (new ≡ old)
TellsAnswer configs moment run (Err fault) before old after new =
    TellsFault configs moment run fault before old after new

-- ---- all lines

-- a fault of a run that is told, and the moment at which it is
pub record ToldFault : Type 0 where
  pub moment : ℕ
  pub run : RunKey
  pub fault : RunFault

abbrev pub fault_told : ToldFault → FaultValue
fault_told t = (t.run, t.fault)

-- each of these faults is a line, which is put or dropped, one after another; nothing else is
-- written
abbrev pub TellsFaults : List ConfigValue → List ToldFault → Option (List ℕ) → Backlog →
    Option (List ℕ) → Backlog → Type 0
TellsFaults configs [] before old after new = (after ≡ before) × (new ≡ old)
TellsFaults configs (t ∷ ts) before old after new =
    (mid : Option (List ℕ)) × (between : Backlog)
    × TellsFault configs t.moment t.run t.fault before old mid between
    × TellsFaults configs ts mid between after new

-- the faults that runs answered, which were these before and are these now, are told, in order
abbrev pub WritesLines : List ConfigValue → Option (List FaultValue) → Option (List FaultValue) →
    Option (List ℕ) → Backlog → Option (List ℕ) → Backlog → Type 0
WritesLines configs were are before old after new =
    (told : List ToldFault) × Adds were are (map fault_told told)
    × TellsFaults configs told before old after new

-- .. at this moment
abbrev pub WritesLinesAt : ℕ → List ConfigValue → Option (List FaultValue) →
    Option (List FaultValue) → Option (List ℕ) → Backlog → Option (List ℕ) → Backlog → Type 0
WritesLinesAt moment configs were are before old after new =
    (told : List ToldFault) × AllByRecursion (λ t. t.moment ≡ moment) told
    × Adds were are (map fault_told told) × TellsFaults configs told before old after new

-- ---- what follows of all that is written

-- it says that the run of one of these faults failed, and why, or how many lines were dropped
abbrev pub IsFaultLine : List ConfigValue → List ToldFault → List ℕ → Type 0
IsFaultLine configs told line =
    ((t : ToldFault) × (reason : List ℕ) × Contains told t × IsReason reason
    × (line ≡ run_lines (name_at t.run.instance configs) t.run.job t.fault reason))
    ⊎ ((n : ℕ) × (line ≡ dropped_line n))

-- such lines are put, each whole, one behind another and behind what is left of one; the end of the
-- last may be left
abbrev pub WritesWholeLines : List ConfigValue → List ToldFault → Option (List ℕ) → Backlog →
    Option (List ℕ) → Backlog → Type 0
WritesWholeLines configs told before old after new =
    (lines : List (List ℕ)) × AllByRecursion (IsFaultLine configs told) lines
    × WritesFront before (old.rest.items ++ concat lines) after new.rest.items
