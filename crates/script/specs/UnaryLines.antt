-- Which lines are good, which is the first bad one, and what a script has, in words of their own.
use Rattle.std.specs.Prelude.{◌≡◌, ◌≢◌, ℕ, ◌<◌, ◌≤◌, ◌⊎◌, List, [], ◌∷◌, length, codes, Some}
use Rattle.std.specs.List.{All, AllPairs}
use Rattle.script.specs.Hexadecimal.{IsBytes, hex_word}
use Rattle.numerals.specs.Number.{decimal_of}
use Rattle.script.specs.Parts.{spaced_line}
use Rattle.server_events.specs.Instance.{IsInstanceName, quota_limit}
use Rattle.script.specs.declared.unary.method.Method.{Method}
use Rattle.script.specs.Method.{method_name}
use Rattle.script.specs.UnaryScript.{InstanceValue, CommandValue, UnaryScriptValue, put, call, instance_index, with_command, with_instance}

-- ---- good lines

-- `instance NAME QUOTA`, before any command: one more instance, of a good name that no other has
pub record IsUnaryInstanceLine (before : UnaryScriptValue) (line : List ℕ)
    (after : UnaryScriptValue) : Type 0 where
  pub name : List ℕ
  pub digits : List ℕ
  pub quota : ℕ
  pub form : line ≡ spaced_line (codes "instance" ∷ name ∷ digits ∷ [])
  pub number : decimal_of digits ≡ Some quota
  pub first : before.commands ≡ []
  pub good_name : IsInstanceName name
  pub good_quota : quota ≤ quota_limit
  pub new_name : All (λ other. name ≢ other.name) before.instances
  pub adds : after ≡ with_instance before (record { name = name; quota = quota })

-- `put NAME HEX`: bytes are put into the instance of that name
pub record IsPutLine (before : UnaryScriptValue) (line : List ℕ)
    (after : UnaryScriptValue) : Type 0 where
  pub name : List ℕ
  pub place : ℕ
  pub content : List ℕ
  pub form : line ≡ spaced_line (codes "put" ∷ name ∷ hex_word content ∷ [])
  pub bytes : IsBytes content
  pub known : instance_index before.instances name ≡ Some place
  pub adds : after ≡ with_command before (put place content)

-- `call NAME METHOD HEX`: a method of the instance of that name is called with the bytes of a
-- message
pub record IsCallLine (before : UnaryScriptValue) (line : List ℕ)
    (after : UnaryScriptValue) : Type 0 where
  pub name : List ℕ
  pub place : ℕ
  pub method : Method
  pub message : List ℕ
  pub form : line ≡ spaced_line (codes "call" ∷ name ∷ method_name method ∷ hex_word message ∷ [])
  pub bytes : IsBytes message
  pub known : instance_index before.instances name ≡ Some place
  pub adds : after ≡ with_command before (call place method message)

-- a line that leads from one script to the next: an empty one, which adds nothing, or one of these
abbrev pub IsGoodUnaryLine : UnaryScriptValue → List ℕ → UnaryScriptValue → Type 0
IsGoodUnaryLine before line after =
    ((line ≡ []) × (after ≡ before))
    ⊎ (IsUnaryInstanceLine before line after
    ⊎ (IsPutLine before line after ⊎ IsCallLine before line after))

-- ---- what a script has

-- the place of the instance that a command is for
abbrev pub instance_place : CommandValue → ℕ
instance_place (put place content) = place
instance_place (call place method message) = place

-- every command is for an instance of the script
abbrev pub KnowsInstances : UnaryScriptValue → Type 0
KnowsInstances script =
    All (λ command. instance_place command < length script.instances) script.commands

-- each instance has a good name, at most the greatest quota, and no name that an earlier one has
pub record HasGoodInstances (instances : List InstanceValue) : Type 0 where
  pub names : All (λ instance. IsInstanceName instance.name) instances
  pub quotas : All (λ instance. instance.quota ≤ quota_limit) instances
  pub distinct : AllPairs (λ earlier later. later.name ≢ earlier.name) instances
