-- A script: the instances that it configures, and then what happens to them.
use Rattle.std.specs.Prelude.{ℕ, Bool, true, false, not, ◌&&◌, nat_lt, ◌==◌, if◌then◌else◌, List, [], ◌∷◌, ◌++◌, length, codes, Option, Some, None, is_none, option_and_then, option_map, Result}
use Rattle.std.specs.List.{find}
use Rattle.std.specs.Option.{option_map_or, option_to_list}
use Rattle.std.specs.Str.{bytes_eq}
use Rattle.script.specs.FirstBadLine.{after_lines}
use Rattle.numerals.specs.Number.{decimal_of}
use Rattle.script.specs.Parts.{lines_of, words_of}
use Rattle.server_events.specs.Configs.{ConfigValue, instance_limit, own_fault}
use Rattle.server_events.specs.Events.{EventValue}
use Rattle.server_events.specs.Limits.{LimitsValue}
use Rattle.script.specs.Arguments.{ascii_of, number_of}
use Rattle.script.specs.ReplayEvents.{event_of}

pub record ReplayScriptValue : Type 0 where
  pub configs : List ConfigValue
  pub events : List EventValue

-- ---- instances

abbrev pub config : LimitsValue → List ℕ → ℕ → ℕ → Option (List ℕ) → ConfigValue
config limits name quota slots parent =
    record { name = name; quota = quota; slots = slots; limits = limits; parent = parent }

-- NAME QUOTA SLOTS, and behind it PARENT, in ASCII, where the instance builds on one; these limits
-- were chosen for all
abbrev pub config_of : LimitsValue → List (List ℕ) → Option ConfigValue
config_of limits (name ∷ quota ∷ slots ∷ []) =
    option_and_then (λ bytes. option_map (λ count. config limits name bytes count None)
    (number_of slots)) (decimal_of quota)
config_of limits (name ∷ quota ∷ slots ∷ parent ∷ []) =
    option_and_then (λ bytes. option_and_then (λ count.
    option_map (λ text. config limits name bytes count (Some text)) (ascii_of parent))
    (number_of slots)) (decimal_of quota)
config_of limits _ = None

-- an instance may follow these others: they leave room for it, and it has no fault
abbrev pub may_follow : List ConfigValue → ConfigValue → Bool
may_follow before config =
    nat_lt (length before) instance_limit && is_none (own_fault before config)

-- the first of these instances of that name builds on none
abbrev pub first_is_root : List ConfigValue → List ℕ → Bool
first_is_root all name =
    option_map_or (λ config. is_none config.parent)
    (find (λ config. bytes_eq config.name name) all) false

-- an instance builds on none, or on another one: the first of these of that name, which builds on
-- none itself
abbrev pub may_build : List ConfigValue → ConfigValue → Bool
may_build all config =
    option_map_or (λ name. not (bytes_eq name config.name) && first_is_root all name)
    config.parent true

abbrev pub config_if_good : List ConfigValue → List ConfigValue → ConfigValue → Option ConfigValue
config_if_good all before config =
    if may_follow before config && may_build all config then Some config else None

-- ---- the instances on which others may build

-- the instance that a line of these words configures
abbrev pub config_of_words : LimitsValue → List (List ℕ) → Option ConfigValue
config_of_words limits [] = None
config_of_words limits (kind ∷ arguments) =
    if bytes_eq kind (codes "instance") then config_of limits arguments else None

-- those of all lines, wherever they stand
abbrev pub configs_of_lines : LimitsValue → List (List ℕ) → List ConfigValue
configs_of_lines limits [] = []
configs_of_lines limits (line ∷ lines) =
    option_to_list (config_of_words limits (words_of line)) ++ configs_of_lines limits lines

-- ---- one line after others

abbrev pub with_config : ReplayScriptValue → ConfigValue → ReplayScriptValue
with_config script config = record script { configs = script.configs ++ config ∷ [] }

abbrev pub with_event : ReplayScriptValue → EventValue → ReplayScriptValue
with_event script event = record script { events = script.events ++ event ∷ [] }

-- the script with one more line of these words; none where they have no form, or where they
-- configure an instance after an event, one that may not follow those before it, or one that may
-- not build on its parent among all of these
abbrev pub after_replay_words : LimitsValue → List ConfigValue → ReplayScriptValue →
    List (List ℕ) → Option ReplayScriptValue
after_replay_words limits all script [] = None
after_replay_words limits all script (kind ∷ arguments) =
    if bytes_eq kind (codes "instance")
    then (if length script.events == 0
    then option_map (with_config script)
    (option_and_then (config_if_good all script.configs) (config_of limits arguments)) else None)
    else option_map (with_event script) (event_of kind arguments)

-- the script with one more line; an empty line adds nothing
abbrev pub after_replay_line : LimitsValue → List ConfigValue → ReplayScriptValue → List ℕ →
    Option ReplayScriptValue
after_replay_line limits all script [] = Some script
after_replay_line limits all script (byte ∷ line) =
    after_replay_words limits all script (words_of (byte ∷ line))

-- ---- whole texts

abbrev pub empty_replay_script : ReplayScriptValue
empty_replay_script = record { configs = []; events = [] }

-- the script that these lines write, where an instance may build on one of any line, and these
-- limits were chosen for all
abbrev pub replay_script_of_lines : LimitsValue → List (List ℕ) → Result ReplayScriptValue ℕ
replay_script_of_lines limits lines =
    after_lines (after_replay_line limits (configs_of_lines limits lines)) 1 empty_replay_script
    lines

-- the script that a text writes, or the number of its first bad line, counted from 1
abbrev pub replay_script_of : LimitsValue → List ℕ → Result ReplayScriptValue ℕ
replay_script_of limits text = replay_script_of_lines limits (lines_of text)
