-- What a script of events prints: the outputs of its instances, each alone or with its parent, and
-- then the events of no instance.
use Rattle.std.specs.Prelude.{ℕ, ◌+◌, List, [], ◌∷◌, ◌++◌, Result, Ok, Err}
use Rattle.server_core.specs.EventRefusal.{EventRefusal}
use Rattle.server_core.specs.Codes.{code_of}
use Rattle.server_core.specs.Outputs.{InstanceOutputValue}
use Rattle.server_core.specs.Families.{family_in, family_events}
use Rattle.server_core.specs.LoneOutput.{lone_output, strays}
use Rattle.server_events.specs.Configs.{ConfigValue, parent_of}
use Rattle.server_events.specs.Events.{EventValue}
use Rattle.server_events.specs.Limits.{LimitsValue}
use Rattle.execution.specs.Orders.{OrderValue, start, kill}
use Rattle.script.specs.ResultLines.{sent_line, start_line, kill_line, refusal_line, stray_line}
use Rattle.script.specs.ReplayScript.{ReplayScriptValue, replay_script_of}

-- what an instance put on its connections, in order of opening
abbrev pub sent_lines : ℕ → List (ℕ × List ℕ) → List ℕ
sent_lines instance [] = []
sent_lines instance (sent ∷ rest) = sent_line instance sent.0 sent.1 ++ sent_lines instance rest

-- what an instance ordered of whoever runs jobs, in order: a task is not printed
abbrev pub order_line_of : ℕ → ℕ → OrderValue → List ℕ
order_line_of instance place (start job task) = start_line instance place job
order_line_of instance place (kill job) = kill_line instance place job

abbrev pub order_line : ℕ → (ℕ × OrderValue) → List ℕ
order_line instance ordered = order_line_of instance ordered.0 ordered.1

abbrev pub order_lines : ℕ → List (ℕ × OrderValue) → List ℕ
order_lines instance [] = []
order_lines instance (ordered ∷ rest) = order_line instance ordered ++ order_lines instance rest

-- the events that an instance refused, in order
abbrev pub refusal_lines : ℕ → List (ℕ × EventRefusal) → List ℕ
refusal_lines instance [] = []
refusal_lines instance (refused ∷ rest) =
    refusal_line instance refused.0 (code_of refused.1) ++ refusal_lines instance rest

-- what came of an instance's events
abbrev pub output_lines : ℕ → InstanceOutputValue → List ℕ
output_lines instance output =
    sent_lines instance output.sent ++ order_lines instance output.orders
    ++ refusal_lines instance output.refusals

-- the events of no instance, in order
abbrev pub stray_lines : List ℕ → List ℕ
stray_lines [] = []
stray_lines (place ∷ rest) = stray_line place ++ stray_lines rest

-- what came of these instances of all, of which the first has this number: each gives what it gives
-- by itself, with its parent if it has one
abbrev pub lone_lines : List ConfigValue → ℕ → List ConfigValue → List EventValue → List ℕ
lone_lines all instance [] events = []
lone_lines all instance (config ∷ configs) events =
    output_lines instance
    (lone_output (family_in all config) (family_events instance (parent_of all config) events))
    ++ lone_lines all (instance + 1) configs events

-- what a script prints
abbrev pub printed_text : ReplayScriptValue → List ℕ
printed_text script =
    lone_lines script.configs 0 script.configs script.events
    ++ stray_lines (strays script.configs script.events)

abbrev pub printed_text_of : Result ReplayScriptValue ℕ → Result (List ℕ) ℕ
printed_text_of (Ok script) = Ok (printed_text script)
printed_text_of (Err number) = Err number

-- what the script of a text prints, where these limits were chosen for its instances, or the number
-- of its first bad line
abbrev pub text_printed_by : LimitsValue → List ℕ → Result (List ℕ) ℕ
text_printed_by limits text = printed_text_of (replay_script_of limits text)
