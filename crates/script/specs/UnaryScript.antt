-- A script: the instances that it configures, and then what is done with them.
use Rattle.std.specs.Prelude.{ℕ, ◌&&◌, nat_le, ◌==◌, if◌then◌else◌, List, [], ◌∷◌, ◌++◌, length, codes, Option, Some, None, is_none, option_and_then, option_map, Result}
use Rattle.std.specs.List.{position}
use Rattle.std.specs.Str.{bytes_eq}
use Rattle.script.specs.Hexadecimal.{bytes_of_hex}
use Rattle.script.specs.FirstBadLine.{after_lines}
use Rattle.numerals.specs.Number.{decimal_of}
use Rattle.script.specs.Parts.{lines_of, words_of}
use Rattle.server_events.specs.Instance.{is_instance_name, quota_limit}
use Rattle.script.specs.declared.unary.method.Method.{Method}
use Rattle.script.specs.Method.{method_named}

-- an instance: its name, and the bytes that it is given
pub record InstanceValue : Type 0 where
  pub name : List ℕ
  pub quota : ℕ

-- what is done with the instance at a place in the list of instances: a blob is put there, or a
-- method is called with the bytes of a message
pub data CommandValue : Type 0 where
  put : ℕ → List ℕ → CommandValue
  call : ℕ → Method → List ℕ → CommandValue

pub record UnaryScriptValue : Type 0 where
  pub instances : List InstanceValue
  pub commands : List CommandValue

-- ---- the forms of a line, after its first word

-- the place of the instance of that name
abbrev pub instance_index : List InstanceValue → List ℕ → Option ℕ
instance_index known name = position (λ instance. bytes_eq instance.name name) known

-- NAME QUOTA: an instance of a good name that none before it has, and of at most the greatest quota
abbrev pub instance_if_good : List InstanceValue → List ℕ → ℕ → Option InstanceValue
instance_if_good known name quota =
    if is_instance_name name && nat_le quota quota_limit && is_none (instance_index known name)
    then Some (record { name = name; quota = quota }) else None

abbrev pub instance_of : List InstanceValue → List (List ℕ) → Option InstanceValue
instance_of known (name ∷ quota ∷ []) =
    option_and_then (instance_if_good known name) (decimal_of quota)
instance_of known _ = None

-- NAME HEX: these bytes are put into that instance
abbrev pub put_of : List InstanceValue → List (List ℕ) → Option CommandValue
put_of known (name ∷ content ∷ []) =
    option_and_then (λ place. option_map (put place) (bytes_of_hex content))
    (instance_index known name)
put_of known _ = None

-- NAME METHOD HEX: that method of that instance is called with these bytes
abbrev pub call_of : List InstanceValue → List (List ℕ) → Option CommandValue
call_of known (name ∷ method ∷ message ∷ []) =
    option_and_then (λ place. option_and_then (λ called.
    option_map (call place called) (bytes_of_hex message))
    (method_named method)) (instance_index known name)
call_of known _ = None

-- ---- one line after others

abbrev pub with_instance : UnaryScriptValue → InstanceValue → UnaryScriptValue
with_instance script instance = record script { instances = script.instances ++ instance ∷ [] }

abbrev pub with_command : UnaryScriptValue → CommandValue → UnaryScriptValue
with_command script command = record script { commands = script.commands ++ command ∷ [] }

-- the script with one more line of these words; none where they have no form, where they configure
-- an instance after a command, or where they name what is not known
abbrev pub after_unary_words : UnaryScriptValue → List (List ℕ) → Option UnaryScriptValue
after_unary_words script [] = None
after_unary_words script (kind ∷ arguments) =
    if bytes_eq kind (codes "instance")
    then (if length script.commands == 0
    then option_map (with_instance script) (instance_of script.instances arguments) else None)
    else if bytes_eq kind (codes "put")
    then option_map (with_command script) (put_of script.instances arguments)
    else if bytes_eq kind (codes "call")
    then option_map (with_command script) (call_of script.instances arguments)
    else None

-- the script with one more line; an empty line adds nothing
abbrev pub after_unary_line : UnaryScriptValue → List ℕ → Option UnaryScriptValue
after_unary_line script [] = Some script
after_unary_line script (byte ∷ line) = after_unary_words script (words_of (byte ∷ line))

-- ---- whole texts

abbrev pub empty_unary_script : UnaryScriptValue
empty_unary_script = record { instances = []; commands = [] }

-- the script that a text writes, or the number of its first bad line, counted from 1
abbrev pub unary_script_of : List ℕ → Result UnaryScriptValue ℕ
unary_script_of text = after_lines after_unary_line 1 empty_unary_script (lines_of text)
