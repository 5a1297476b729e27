-- Which lines are good, and which is the first bad one, in words of their own.
use Rattle.std.specs.Prelude.{◌≡◌, ◌≢◌, ℕ, ℤ, pos, neg_ℤ, ◌+◌, ◌<◌, ◌≤◌, ◌⊎◌, List, [], ◌∷◌, ◌++◌, length, codes, Some, None, IfSome}
use Rattle.std.specs.Char.{is_ascii}
use Rattle.std.specs.List.{All, AllPass}
use Rattle.std.specs.Option.{option_to_list}
use Rattle.script.specs.Hexadecimal.{IsBytes, hex_word}
use Rattle.numerals.specs.Number.{decimal_of}
use Rattle.script.specs.Arguments.{number_limit, exit_code_limit}
use Rattle.script.specs.Parts.{spaced_line}
use Rattle.server_events.specs.Configs.{ConfigValue, instance_limit}
use Rattle.run_calls.specs.Outcomes.{ExitedValue, OutputValue, exited, failed}
use Rattle.server_events.specs.Events.{WhatValue, opened, received, took, closed, tick, ended}
use Rattle.server_events.specs.Faults.{IsConfig}
use Rattle.server_events.specs.Limits.{LimitsValue}
use Rattle.script.specs.ReplayEvents.{content_limit, event_at, plain_file}
use Rattle.script.specs.ReplayScript.{ReplayScriptValue, with_config, with_event}

-- ---- the words of a line

-- a line is these words, with one space (byte 32) between each two and none in a word
pub record IsSpelled (line : List ℕ) (words : List (List ℕ)) : Type 0 where
  pub form : line ≡ spaced_line words
  pub apart : All (λ word. All (λ byte. byte ≢ 32) word) words

-- a word is a decimal number below a limit
pub record IsNumber (limit : ℕ) (word : List ℕ) (number : ℕ) : Type 0 where
  pub decimal : decimal_of word ≡ Some number
  pub small : number < limit

-- a word is a 32-bit number, perhaps with a minus (byte 45) before its digits
abbrev pub IsExitCode : List ℕ → ℤ → Type 0
IsExitCode word code =
    ((number : ℕ) × IsNumber exit_code_limit word number × (code ≡ pos number))
    ⊎ ((digits : List ℕ) × (number : ℕ) × (word ≡ 45 ∷ digits)
    × IsNumber (exit_code_limit + 1) digits number × (code ≡ neg_ℤ (pos number)))

-- a text that a program left
pub record IsContent (text : List ℕ) : Type 0 where
  pub bytes : IsBytes text
  pub short : length text ≤ content_limit

-- a word of ASCII, PATH=HEX, is a file that may not be executed; its path may have `=` (byte 61) in
-- it
pub record IsFile (word : List ℕ) (output : OutputValue) : Type 0 where
  pub path : List ℕ
  pub content : List ℕ
  pub form : word ≡ path ++ 61 ∷ hex_word content
  pub ascii : AllPass is_ascii word
  pub text : IsContent content
  pub file : output ≡ plain_file path content

abbrev pub AreFiles : List (List ℕ) → List OutputValue → Type 0
AreFiles [] [] = Unit {0}
AreFiles (word ∷ words) (output ∷ outputs) = IsFile word output × AreFiles words outputs
AreFiles _ _ = ⊥

-- ---- what happens

-- the words of an exit: the job, the code, standard output and error, and files
pub record IsExit (arguments : List (List ℕ)) (job : ℕ) (run : ExitedValue) : Type 0 where
  pub number : List ℕ
  pub status : List ℕ
  pub files : List (List ℕ)
  pub form : arguments ≡ number ∷ status ∷ hex_word run.stdout ∷ hex_word run.stderr ∷ files
  pub job_number : decimal_of number ≡ Some job
  pub exit_code : IsExitCode status run.code
  pub out_text : IsContent run.stdout
  pub error_text : IsContent run.stderr
  pub outputs_files : AreFiles files run.outputs

-- the first word of a line, and those after its moment and its instance, by what happens
abbrev pub Tells : List ℕ → List (List ℕ) → WhatValue → Type 0
Tells kind arguments (opened connection) =
    (kind ≡ codes "open")
    × ((word : List ℕ) × (arguments ≡ word ∷ []) × IsNumber number_limit word connection)
Tells kind arguments (received connection bytes) =
    (kind ≡ codes "bytes")
    × ((word : List ℕ) × (arguments ≡ word ∷ hex_word bytes ∷ [])
    × IsNumber number_limit word connection × IsBytes bytes)
Tells kind arguments (took connection count) =
    (kind ≡ codes "took")
    × ((word : List ℕ) × (digits : List ℕ) × (arguments ≡ word ∷ digits ∷ [])
    × IsNumber number_limit word connection × IsNumber number_limit digits count)
Tells kind arguments (closed connection) =
    (kind ≡ codes "closed")
    × ((word : List ℕ) × (arguments ≡ word ∷ []) × IsNumber number_limit word connection)
Tells kind arguments tick = (kind ≡ codes "tick") × (arguments ≡ [])
Tells kind arguments (ended job failed) =
    (kind ≡ codes "fail")
    × ((word : List ℕ) × (arguments ≡ word ∷ []) × (decimal_of word ≡ Some job))
Tells kind arguments (ended job (exited run)) =
    (kind ≡ codes "exit") × IsExit arguments job run

-- ---- good lines

-- the words of an instance line behind its first: NAME QUOTA SLOTS, and perhaps PARENT, in ASCII
pub record AreConfigWords (arguments : List (List ℕ)) (made : ConfigValue) : Type 0 where
  pub quota : List ℕ
  pub slots : List ℕ
  pub form : arguments ≡ made.name ∷ quota ∷ slots ∷ option_to_list made.parent
  pub bytes_number : decimal_of quota ≡ Some made.quota
  pub count_number : IsNumber number_limit slots made.slots
  pub ascii : IfSome made.parent (AllPass is_ascii)

-- an instance may build on the one of this name: that is another one, and the first of all these
-- that has the name builds on none
pub record MayBuildOn (all : List ConfigValue) (made : ConfigValue) (name : List ℕ) : Type 0 where
  pub front : List ConfigValue
  pub root : ConfigValue
  pub back : List ConfigValue
  pub whole : all ≡ front ++ root ∷ back
  pub other_names : All (λ other. other.name ≢ name) front
  pub named : root.name ≡ name
  pub alone : root.parent ≡ None
  pub another : name ≢ made.name

-- `instance NAME QUOTA SLOTS [PARENT]`, before any event: one more instance, which may follow those
-- before it, and builds on none or may build on its parent among all of these
pub record IsReplayInstanceLine (limits : LimitsValue) (all : List ConfigValue)
    (before : ReplayScriptValue) (words : List (List ℕ)) (after : ReplayScriptValue) : Type 0 where
  pub arguments : List (List ℕ)
  pub made : ConfigValue
  pub form : words ≡ codes "instance" ∷ arguments
  pub config_words : AreConfigWords arguments made
  pub chosen : made.limits ≡ limits
  pub first : before.events ≡ []
  pub room : length before.configs < instance_limit
  pub good : IsConfig made
  pub new_name : All (λ other. made.name ≢ other.name) before.configs
  pub parent : IfSome made.parent (MayBuildOn all made)
  pub adds : after ≡ with_config before made

-- a kind, a moment, an instance, and what happens
pub record IsEventLine (before : ReplayScriptValue) (words : List (List ℕ))
    (after : ReplayScriptValue) : Type 0 where
  pub kind : List ℕ
  pub moment : List ℕ
  pub instance : List ℕ
  pub arguments : List (List ℕ)
  pub at : ℕ
  pub number : ℕ
  pub what : WhatValue
  pub form : words ≡ kind ∷ moment ∷ instance ∷ arguments
  pub moment_number : decimal_of moment ≡ Some at
  pub instance_number : IsNumber number_limit instance number
  pub tells : Tells kind arguments what
  pub adds : after ≡ with_event before (event_at at number what)

-- a line that leads from one script to the next: an empty one, which adds nothing, or one of these
abbrev pub IsGoodReplayLine : LimitsValue → List ConfigValue → ReplayScriptValue → List ℕ →
    ReplayScriptValue → Type 0
IsGoodReplayLine limits all before line after =
    ((line ≡ []) × (after ≡ before))
    ⊎ ((words : List (List ℕ)) × IsSpelled line words
    × (IsReplayInstanceLine limits all before words after ⊎ IsEventLine before words after))
