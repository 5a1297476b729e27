-- The lines of events, after their first word.
use Rattle.std.specs.Prelude.{ℕ, ◌^◌, ◌==◌, nat_le, ℤ, false, if◌then◌else◌, List, [], ◌∷◌, codes, length, Option, Some, None, option_map, option_and_then}
use Rattle.std.specs.Char.{is_ascii}
use Rattle.std.specs.List.{list_all}
use Rattle.std.specs.Option.{option_or}
use Rattle.std.specs.Str.{bytes_eq}
use Rattle.script.specs.Hexadecimal.{bytes_of_hex}
use Rattle.numerals.specs.Number.{decimal_of}
use Rattle.run_calls.specs.Outcomes.{OutcomeValue, OutputValue, exited, failed, output_file}
use Rattle.server_events.specs.Events.{WhatValue, opened, received, took, closed, tick, ended, EventValue}
use Rattle.script.specs.Arguments.{number_of, exit_code_of, only_number_of}

-- ---- what happens

-- C HEX: these bytes came on the connection
abbrev pub received_of : List (List ℕ) → Option WhatValue
received_of (connection ∷ bytes ∷ []) =
    option_and_then (λ number. option_map (received number) (bytes_of_hex bytes))
    (number_of connection)
received_of _ = None

-- C N: so many bytes of the connection were taken
abbrev pub took_of : List (List ℕ) → Option WhatValue
took_of (connection ∷ count ∷ []) =
    option_and_then (λ number. option_map (took number) (number_of count)) (number_of connection)
took_of _ = None

-- nothing more: time went on
abbrev pub tick_of : List (List ℕ) → Option WhatValue
tick_of [] = Some tick
tick_of _ = None

-- JOB: the job's program could not be run to its end
abbrev pub fail_of : List (List ℕ) → Option WhatValue
fail_of (job ∷ []) = option_map (λ number. ended number failed) (decimal_of job)
fail_of _ = None

-- the most bytes of a text that a program left
abbrev pub content_limit : ℕ
content_limit = 2 ^ 48

abbrev pub content_if_short : List ℕ → Option (List ℕ)
content_if_short text = if nat_le (length text) content_limit then Some text else None

-- HEX: the text of a file or of a stream
abbrev pub content_of : List ℕ → Option (List ℕ)
content_of word = option_and_then content_if_short (bytes_of_hex word)

-- a file that may not be executed
abbrev pub plain_file : List ℕ → List ℕ → OutputValue
plain_file path content = output_file path content false

-- what stands before and after the last such byte
abbrev pub at_last : ℕ → List ℕ → Option (List ℕ × List ℕ)
at_last separator [] = None
at_last separator (byte ∷ text) =
    option_or (option_map (λ split. (byte ∷ split.0, split.1)) (at_last separator text))
    (if byte == separator then Some ([], text) else None)

-- what stands before and after the last `=` (byte 61) of a word of ASCII
abbrev pub path_and_content_of : List ℕ → Option (List ℕ × List ℕ)
path_and_content_of word = if list_all is_ascii word then at_last 61 word else None

-- PATH=HEX
abbrev pub output_of : List ℕ → Option OutputValue
output_of word =
    option_and_then (λ split. option_map (plain_file split.0) (content_of split.1))
    (path_and_content_of word)

abbrev pub outputs_of : List (List ℕ) → Option (List OutputValue)
outputs_of [] = Some []
outputs_of (word ∷ words) =
    option_and_then (λ output. option_map (λ outputs. output ∷ outputs) (outputs_of words))
    (output_of word)

abbrev pub exit : ℤ → List ℕ → List ℕ → List OutputValue → OutcomeValue
exit code stdout stderr outputs =
    exited (record { code = code; stdout = stdout; stderr = stderr; outputs = outputs })

-- JOB CODE HEX HEX PATH=HEX ..: the job's program exited with a code, standard output, standard
-- error and files
abbrev pub exit_of : List (List ℕ) → Option WhatValue
exit_of (job ∷ code ∷ stdout ∷ stderr ∷ files) =
    option_and_then (λ number. option_and_then (λ status. option_and_then (λ out.
    option_and_then (λ err.
    option_map (λ outputs. ended number (exit status out err outputs)) (outputs_of files))
    (content_of stderr)) (content_of stdout)) (exit_code_of code)) (decimal_of job)
exit_of _ = None

abbrev pub what_of : List ℕ → List (List ℕ) → Option WhatValue
what_of kind arguments =
    if bytes_eq kind (codes "open") then option_map opened (only_number_of arguments)
    else if bytes_eq kind (codes "closed") then option_map closed (only_number_of arguments)
    else if bytes_eq kind (codes "bytes") then received_of arguments
    else if bytes_eq kind (codes "took") then took_of arguments
    else if bytes_eq kind (codes "tick") then tick_of arguments
    else if bytes_eq kind (codes "exit") then exit_of arguments
    else if bytes_eq kind (codes "fail") then fail_of arguments
    else None

-- ---- when, and to which instance

abbrev pub event_at : ℕ → ℕ → WhatValue → EventValue
event_at moment instance what =
    record { instance = instance; lone = record { moment = moment; what = what } }

-- M I and what happens
abbrev pub event_of : List ℕ → List (List ℕ) → Option EventValue
event_of kind (moment ∷ instance ∷ arguments) =
    option_and_then (λ at. option_and_then (λ number.
    option_map (event_at at number) (what_of kind arguments))
    (number_of instance)) (decimal_of moment)
event_of kind _ = None
